use Rattle.std.proofs.Common.{◌≡◌, arith, subst}
use Rattle.std.proofs.lemmas.Result.{err_from_is_err_and}
use Rattle.sasi_host.proofs.CauseLaws.{damage_reads, fault_reads}
use Rattle.sasi_host.specs.declared.name.FileName.{FileName}
use Rattle.sasi_tokentree.specs.Damages.{TellsDisorder}
use Rattle.sasi_tokentree.proofs.Rising.{disorder_shown, last_next, last_still, no_false_disorder, pairs_shown}
use Rattle.sasi_tokentree.proofs.next_pair.next_from.Goals as goal

pub returns-in_err-next-clause-damaged : goal.returns-in_err-next-clause-damaged
returns-in_err-next-clause-damaged g c =
    let p = err_from_is_err_and c.from_residual.result c.from_residual.ensures.1 in
    rw (p.1, p.2) (pairs_shown (λ index. index ≡ c.args.passed) (g.H.Host.view c.args.host.now) c.args.buffered.now.file c.args.tree c.in_err-next.field-0.0 c.in_err-next.ensures.damaged)

pub returns-in_err-next-clause-err : goal.returns-in_err-next-clause-err
returns-in_err-next-clause-err g c =
    let p = err_from_is_err_and c.from_residual.result c.from_residual.ensures.1 in
    rw p.1 (last_still _ _ c.args.buffered.now.file _ c.args.tree c.args.passed c.args.last c.pair_from.ensures.read.changes c.pair_from.ensures.read.file c.requires.last)

pub returns-in_err-next-clause-causes : goal.returns-in_err-next-clause-causes
returns-in_err-next-clause-causes g c =
    let p = err_from_is_err_and c.from_residual.result c.from_residual.ensures.1 in
    rw (p.1, p.2) (fault_reads _ _ _ _ c.in_err-next.field-0.0 (omega arith) c.in_err-next.ensures.causes)

pub returns-in-Ok-clause-last : goal.returns-in-Ok-clause-last
returns-in-Ok-clause-last g c =
    last_next _ _ c.args.buffered.now.file _ c.args.tree _ _ c.args.passed c.in_ok-next.next.passed c.args.last c.in_ok-next.next.pair c.pair_from.ensures.read.changes c.pair_from.ensures.read.file
    c.requires.last c.in_ok-next.ensures.stands c.in_ok-next.ensures.ends

pub returns-in-Err-clause-damaged : goal.returns-in-Err-clause-damaged
returns-in-Err-clause-damaged g c =
    disorder_shown (g.H.Host.view c.args.host.now) c.args.buffered.now.file c.args.tree _ _ c.args.passed c.in_ok-next.next.passed c.args.last c.in_ok-next.next.pair c.in-Err.damage c.requires.last
    c.in_ok-next.ensures.stands c.in_ok-next.ensures.ends
    (subst (λ (n : FileName). TellsDisorder n c.args.tree c.in_ok-next.next.passed c.args.last c.in_ok-next.next.pair c.in-Err.damage) c.file-file.ensures c.in-Err.ensures.damaged)

pub returns-in-Err-clause-undamaged : goal.returns-in-Err-clause-undamaged
returns-in-Err-clause-undamaged g c =
    no_false_disorder (g.H.Host.view c.args.host.now) c.args.buffered.now.file c.args.tree _ _ c.args.passed c.in_ok-next.next.passed c.args.last c.in_ok-next.next.pair c.in-Err.damage
    (λ bytes is. (g.met.H.Host.sound c.args.host.now).fits c.args.buffered.now.file bytes is) c.requires.last c.in_ok-next.ensures.stands c.in_ok-next.ensures.ends
    (subst (λ (n : FileName). TellsDisorder n c.args.tree c.in_ok-next.next.passed c.args.last c.in_ok-next.next.pair c.in-Err.damage) c.file-file.ensures c.in-Err.ensures.damaged)

pub returns-in-Err-clause-err : goal.returns-in-Err-clause-err
returns-in-Err-clause-err g c = last_still _ _ c.args.buffered.now.file _ c.args.tree c.args.passed c.args.last c.pair_from.ensures.read.changes c.pair_from.ensures.read.file c.requires.last

pub returns-in-Err-clause-causes : goal.returns-in-Err-clause-causes
returns-in-Err-clause-causes g c = damage_reads (g.H.Host.view c.args.host.now) (g.H.Host.view c.pair_from.new.host) _ _ c.in_ok-next.next c.in-Err.damage (omega arith) c.in_ok-next.ensures.causes

pub check_rising-requires : goal.check_rising-requires
check_rising-requires g c = c.in_ok-next.ensures.passed

pub returns-in_err-next-clause-undamaged : goal.returns-in_err-next-clause-undamaged
returns-in_err-next-clause-undamaged g c =
    let p = err_from_is_err_and c.from_residual.result c.from_residual.ensures.1 in
    rw (p.1, p.2) c.in_err-next.ensures.undamaged
