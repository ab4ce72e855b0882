use Rattle.std.proofs.Common.{arith}
use Rattle.std.proofs.lemmas.Result.{err_from_is_err_and}
use Rattle.sasi_host.proofs.CauseLaws.{fault_reads, ok_reads}
use Rattle.sasi_recover.proofs.EndLaws.{index_damage, index_end, index_no_false, index_reads, index_time}
use Rattle.sasi_recover.proofs.file_ends.check_index_end.Goals as goal

pub returns-in_err-open-clause-damaged : goal.returns-in_err-open-clause-damaged
returns-in_err-open-clause-damaged g c =
    let p = err_from_is_err_and c.from_residual.result c.from_residual.ensures.1 in
    rw (p.1, p.2) (index_damage (g.H.Host.view c.args.host.now) c.args.file c.in_err-open.field-0.0 c.requires.index c.in_err-open.ensures.damaged)

pub returns-in_err-open-clause-undamaged : goal.returns-in_err-open-clause-undamaged
returns-in_err-open-clause-undamaged g c =
    let p = err_from_is_err_and c.from_residual.result c.from_residual.ensures.1 in
    rw (p.1, p.2) (index_no_false (g.H.Host.view c.args.host.now) c.args.file c.in_err-open.field-0.0 c.requires.index c.in_err-open.ensures.undamaged)

pub returns-in_err-open-clause-causes : goal.returns-in_err-open-clause-causes
returns-in_err-open-clause-causes g c =
    let p = err_from_is_err_and c.from_residual.result c.from_residual.ensures.1 in
    let a = g.H.Host.view c.args.host.now in
    let b = g.H.Host.view c.open.new.host in
    rw (p.1, p.2) (index_reads c.args.file a b _ c.requires.index (fault_reads a b 3 3 c.in_err-open.field-0.0 (omega arith) c.in_err-open.ensures.causes))

pub returns-clause-ends : goal.returns-clause-ends
returns-clause-ends g c = index_end (g.H.Host.view c.args.host.now) c.args.file c.in_ok-open.field-0 c.requires.index c.in_ok-open.ensures.header_and_footer

pub returns-clause-time : goal.returns-clause-time
returns-clause-time g c = index_time (g.H.Host.view c.args.host.now) c.args.file c.requires.index

pub returns-clause-causes : goal.returns-clause-causes
returns-clause-causes g c =
    let a = g.H.Host.view c.args.host.now in
    let b = g.H.Host.view c.open.new.host in
    index_reads c.args.file a b _ c.requires.index (ok_reads a b 3 c.in_ok-open.field-0 0 c.in_ok-open.ensures.causes)
