use Rattle.std.proofs.Common.{arith}
use Rattle.std.proofs.lemmas.Result.{err_from_is_err_and}
use Rattle.sasi_host.proofs.CauseLaws.{fault_reads, ok_reads}
use Rattle.sasi_recover.proofs.EndLaws.{data_damage, data_end, data_no_false, data_reads, data_time}
use Rattle.sasi_recover.proofs.file_ends.read_data_end.Goals as goal

pub returns-in_err-time-clause-damaged : goal.returns-in_err-time-clause-damaged
returns-in_err-time-clause-damaged g c =
    let p = err_from_is_err_and c.from_residual.result c.from_residual.ensures.1 in
    rw (p.1, p.2) (data_damage (g.H.Host.view c.args.host.now) c.args.file c.in_err-time.field-0.0 c.requires.of_data c.in_err-time.ensures.damaged)

pub returns-in_err-time-clause-undamaged : goal.returns-in_err-time-clause-undamaged
returns-in_err-time-clause-undamaged g c =
    let p = err_from_is_err_and c.from_residual.result c.from_residual.ensures.1 in
    rw (p.1, p.2) (data_no_false (g.H.Host.view c.args.host.now) c.args.file c.in_err-time.field-0.0 c.requires.of_data c.in_err-time.ensures.undamaged)

pub returns-in_err-time-clause-causes : goal.returns-in_err-time-clause-causes
returns-in_err-time-clause-causes g c =
    let p = err_from_is_err_and c.from_residual.result c.from_residual.ensures.1 in
    let a = g.H.Host.view c.args.host.now in
    let b = g.H.Host.view c.read_max_timestamp.new.host in
    rw (p.1, p.2) (data_reads c.args.file a b _ c.requires.of_data (fault_reads a b 2 2 c.in_err-time.field-0.0 (omega arith) c.in_err-time.ensures.causes))

pub returns-clause-ends : goal.returns-clause-ends
returns-clause-ends g c = data_end (g.H.Host.view c.args.host.now) c.args.file c.requires.of_data c.in_ok-time.ensures.ends

pub returns-clause-time : goal.returns-clause-time
returns-clause-time g c = data_time (g.H.Host.view c.args.host.now) c.args.file c.in_ok-time.time c.min.result c.requires.of_data c.in_ok-time.ensures.time c.min.ensures

pub returns-clause-causes : goal.returns-clause-causes
returns-clause-causes g c =
    let a = g.H.Host.view c.args.host.now in
    let b = g.H.Host.view c.read_max_timestamp.new.host in
    data_reads c.args.file a b _ c.requires.of_data (ok_reads a b 2 c.in_ok-time.time _ c.in_ok-time.ensures.causes)
