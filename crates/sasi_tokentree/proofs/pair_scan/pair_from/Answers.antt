use Rattle.std.proofs.Common.{◌≡◌, refl, ◌<◌, length, subst, arith}
use Rattle.std.proofs.lemmas.Result.{err_from_is_err_and}
use Rattle.sasi_host.proofs.PageReadingLaws.{reads_nothing}
use Rattle.sasi_host.specs.declared.name.FileName.{FileName}
use Rattle.sasi_host.specs.Damages.{DamageShown, TellsSize}
use Rattle.sasi_host.proofs.CauseLaws.{fault_reads, ok_reads}
use Rattle.sasi_tokentree.proofs.LeafPairs.{no_false_long, long_shown, no_false_level, pair_shown, pair_is, gives_entry, gives_header, near_entry, tree_stands_at, count_is, takes_pair, takes_none}
use Rattle.sasi_tokentree.proofs.pair_scan.pair_from.Goals as goal

pub returns-then-passed-tree-clause-ok : goal.returns-then-passed-tree-clause-ok
returns-then-passed-tree-clause-ok g c bytes pairs is has = takes_none bytes c.args.tree pairs c.args.passed has (omega arith)

pub returns-then-is_too_long-clause-undamaged : goal.returns-then-is_too_long-clause-undamaged
returns-then-is_too_long-clause-undamaged g c =
    no_false_long (g.H.Host.view c.args.host.now) c.args.buffered.now.file c.args.tree c.unexpected_end.result
    (λ bytes is. (g.met.H.Host.sound c.args.host.now).fits c.args.buffered.now.file bytes is) (omega arith)
    (c.is_too_long.ensures.long c.if-is_too_long.true)

pub returns-in_err-pair-clause-undamaged : goal.returns-in_err-pair-clause-undamaged
returns-in_err-pair-clause-undamaged g c =
    let p = err_from_is_err_and c.from_residual.result c.from_residual.ensures.1 in
    rw (p.1, p.2) (no_false_level (g.H.Host.view c.args.host.now) c.args.buffered.now.file c.args.tree c.start_of-start.result
    c.in_err-pair.field-0.0 (λ bytes is. (g.met.H.Host.sound c.args.host.now).fits c.args.buffered.now.file bytes is) (omega arith)
    c.start_of-start.ensures.is c.in_err-pair.ensures.undamaged)

pub returns-then-is_too_long-clause-damaged : goal.returns-then-is_too_long-clause-damaged
returns-then-is_too_long-clause-damaged g c =
    long_shown (λ index. index ≡ c.args.passed) (g.H.Host.view c.args.host.now) c.args.buffered.now.file c.args.tree c.unexpected_end.result
    (λ bytes is. (g.met.H.Host.sound c.args.host.now).fits c.args.buffered.now.file bytes is) (omega arith)
    (c.is_too_long.ensures.long c.if-is_too_long.true) (subst (λ (n : FileName). DamageShown (g.H.Host.view c.args.host.now) n (TellsSize n)
    c.unexpected_end.result) c.file.ensures c.unexpected_end.ensures.damaged)

pub returns-in_err-pair-clause-damaged : goal.returns-in_err-pair-clause-damaged
returns-in_err-pair-clause-damaged g c =
    let p = err_from_is_err_and c.from_residual.result c.from_residual.ensures.1 in
    rw (p.1, p.2) (pair_shown (λ index. index ≡ c.args.passed) (g.H.Host.view c.args.host.now) c.args.buffered.now.file c.args.tree c.start_of-start.result c.args.passed c.in_err-pair.field-0.0
    refl (omega arith) c.start_of-start.ensures.is c.in_err-pair.ensures.damaged)

pub returns-clause-stands : goal.returns-clause-stands
returns-clause-stands g c = gives_entry (g.H.Host.view c.args.host.now) c.args.buffered.now.file c.args.tree c.start_of-start.result c.args.passed
    c.in_ok-pair.pair c.start_of-start.ensures.is (omega arith) (omega arith) (omega arith) c.in_ok-pair.ensures.stands

pub returns-clause-header : goal.returns-clause-header
returns-clause-header g c = gives_header (g.H.Host.view c.args.host.now) c.args.buffered.now.file c.args.tree c.start_of-start.result c.args.passed
    c.in_ok-pair.pair c.start_of-start.ensures.is c.in_ok-pair.ensures.header

pub returns-clause-ok : goal.returns-clause-ok
returns-clause-ok g c bytes pairs is has =
    let short = (g.met.H.Host.sound c.args.host.now).fits c.args.buffered.now.file bytes is in
    let stands = tree_stands_at bytes c.args.tree pairs c.start_of-start.result has (omega arith) short c.start_of-start.ensures.is in
    let within : c.args.passed < length pairs = omega (arith, count_is bytes c.args.tree pairs has) in
    takes_pair pairs c.args.passed c.in_ok-pair.pair within (pair_is bytes c.start_of-start.result c.args.passed pairs c.in_ok-pair.pair stands within (omega arith) (omega arith) (c.in_ok-pair.ensures.stands bytes is))

pub returns-clause-entry_buffered : goal.returns-clause-entry_buffered
returns-clause-entry_buffered g c = near_entry c.read_pair.new.buffered.page c.args.tree c.start_of-start.result c.args.passed c.start_of-start.ensures.is c.in_ok-pair.ensures.page

pub returns-in_err-pair-clause-causes : goal.returns-in_err-pair-clause-causes
returns-in_err-pair-clause-causes g c =
    let p = err_from_is_err_and c.from_residual.result c.from_residual.ensures.1 in
    rw (p.1, p.2) (fault_reads _ _ _ _ c.in_err-pair.field-0.0 (omega arith) (rw c.start_of-start.ensures.is at c.in_err-pair.ensures.causes))

pub returns-clause-causes : goal.returns-clause-causes
returns-clause-causes g c = ok_reads _ _ _ c.in_ok-pair.pair _ (rw c.start_of-start.ensures.is at c.in_ok-pair.ensures.causes)

pub returns-then-passed-tree-clause-read : goal.returns-then-passed-tree-clause-read
returns-then-passed-tree-clause-read g c = reads_nothing _ _ _ _ c.requires.read.agrees c.requires.read.buffered

pub returns-then-passed-tree-clause-ends : goal.returns-then-passed-tree-clause-ends
returns-then-passed-tree-clause-ends g c = (omega arith, refl)

pub returns-clause-ends : goal.returns-clause-ends
returns-clause-ends g c = (omega arith, refl)
