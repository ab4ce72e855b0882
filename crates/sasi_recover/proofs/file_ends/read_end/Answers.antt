use Rattle.std.proofs.lemmas.Result.{err_from_is_err_and}
use Rattle.sasi_host.specs.Disk.{Same}
use Rattle.sasi_host.proofs.ChangeLaws.{then_same}
use Rattle.sasi_host.proofs.DamageLaws.{shown_before}
use Rattle.sasi_folder.specs.Damages.{ShowsEnds}
use Rattle.sasi_recover.proofs.EndLaws.{end_before, no_false_before, time_before}
use Rattle.sasi_recover.proofs.SyncedFolder.{synced_same, there_same}
use Rattle.sasi_recover.proofs.file_ends.read_end.Goals as goal

pub check_end-requires-clause-there : goal.check_end-requires-clause-there
check_end-requires-clause-there g c = there_same (g.H.Host.view c.args.host.now) (g.H.Host.view c.sync.new.self) c.sync.ensures.changes c.args.file c.requires.there

pub returns-in_err-time-clause-damaged : goal.returns-in_err-time-clause-damaged
returns-in_err-time-clause-damaged g c =
    let p = err_from_is_err_and c.from_residual-in_err-time.result c.from_residual-in_err-time.ensures.1 in
    rw (p.1, p.2) (shown_before (ShowsEnds c.args.file) (g.H.Host.view c.args.host.now) (g.H.Host.view c.sync.new.self) c.args.file c.in_err-time.field-0.0 c.sync.ensures.changes c.in_err-time.ensures.damaged)

pub returns-in_err-time-clause-undamaged : goal.returns-in_err-time-clause-undamaged
returns-in_err-time-clause-undamaged g c =
    let p = err_from_is_err_and c.from_residual-in_err-time.result c.from_residual-in_err-time.ensures.1 in
    rw (p.1, p.2) (no_false_before (g.H.Host.view c.args.host.now) (g.H.Host.view c.sync.new.self) c.sync.ensures.changes c.args.file c.in_err-time.field-0.0 c.in_err-time.ensures.undamaged)

pub returns-in_err-time-clause-changes : goal.returns-in_err-time-clause-changes
returns-in_err-time-clause-changes g c = then_same (g.H.Host.view c.args.host.now) (g.H.Host.view c.sync.new.self) (g.H.Host.view c.check_end.new.host) Same c.sync.ensures.changes c.check_end.ensures.changes

pub returns-clause-ends : goal.returns-clause-ends
returns-clause-ends g c = end_before (g.H.Host.view c.args.host.now) (g.H.Host.view c.sync.new.self) c.sync.ensures.changes c.args.file c.in_ok-time.ensures.ends

pub returns-clause-synced : goal.returns-clause-synced
returns-clause-synced g c = synced_same (g.H.Host.view c.sync.new.self) (g.H.Host.view c.check_end.new.host) c.check_end.ensures.changes c.args.file c.in_ok-sync.ensures.ok

pub returns-clause-time : goal.returns-clause-time
returns-clause-time g c = time_before (g.H.Host.view c.args.host.now) (g.H.Host.view c.sync.new.self) c.sync.ensures.changes c.args.file c.in_ok-time.time c.in_ok-time.ensures.time

pub returns-clause-changes : goal.returns-clause-changes
returns-clause-changes g c = then_same (g.H.Host.view c.args.host.now) (g.H.Host.view c.sync.new.self) (g.H.Host.view c.check_end.new.host) Same c.sync.ensures.changes c.check_end.ensures.changes
