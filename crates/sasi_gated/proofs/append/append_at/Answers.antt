use Rattle.std.proofs.Common.{◌+◌, length, ap}
use Rattle.sasi_host.specs.Disk.{InPlace, Torn}
use Rattle.sasi_host.proofs.ChangeLaws.{touches}
use Rattle.sasi_gated.proofs.Appends.{framed_length, staging, opening, appended, touched, reaches_end}
use Rattle.sasi_gated.proofs.append.append_at.Goals as goal

pub returns-in_err-write_record-clause-changes : goal.returns-in_err-write_record-clause-changes
returns-in_err-write_record-clause-changes g c =
    touches _ _ c.args.file (InPlace (Torn (c.args.at + 1) (length c.bytes-bytes.result.now))) c.write_record.ensures.changes

pub returns-in_err-open_gate-clause-changes : goal.returns-in_err-open_gate-clause-changes
returns-in_err-open_gate-clause-changes g c =
    touched _ _ _ c.args.file c.args.at (length c.bytes-bytes.result.now) 1 c.write_record.ensures.changes c.open_gate.ensures.changes

pub returns-clause-changes : goal.returns-clause-changes
returns-clause-changes g c =
    touched _ _ _ c.args.file c.args.at (length c.bytes-bytes.result.now) 1 c.write_record.ensures.changes c.open_gate.ensures.changes

pub returns-in_err-write_record-clause-any_moment : goal.returns-in_err-write_record-clause-any_moment
returns-in_err-write_record-clause-any_moment g c records end =
    staging _ _ c.args.file c.args.at records c.args.item.now c.bytes-bytes.result.now
    (g.met.H.Host.sound c.args.host.now) end c.bytes-bytes.ensures.payload c.bytes-bytes.ensures.whole c.write_record.ensures.changes

pub returns-in_err-open_gate-clause-any_moment : goal.returns-in_err-open_gate-clause-any_moment
returns-in_err-open_gate-clause-any_moment g c records end =
    opening _ _ c.args.file c.args.at records c.args.item.now c.bytes-bytes.result.now
    (g.met.H.Host.sound c.args.host.now) end c.bytes-bytes.ensures.payload c.bytes-bytes.ensures.whole c.write_record.ensures.changes
    c.in_ok-write_record.ensures.ok _ (g.met.H.Host.sound c.write_record.new.host) c.open_gate.ensures.changes

pub returns-clause-any_moment : goal.returns-clause-any_moment
returns-clause-any_moment g c records end =
    opening _ _ c.args.file c.args.at records c.args.item.now c.bytes-bytes.result.now
    (g.met.H.Host.sound c.args.host.now) end c.bytes-bytes.ensures.payload c.bytes-bytes.ensures.whole c.write_record.ensures.changes
    c.in_ok-write_record.ensures.ok _ (g.met.H.Host.sound c.write_record.new.host) c.open_gate.ensures.changes

pub returns-clause-ok : goal.returns-clause-ok
returns-clause-ok g c records end =
    appended _ _ c.args.file c.args.at records c.args.item.now c.bytes-bytes.result.now
    (g.met.H.Host.sound c.args.host.now) end c.bytes-bytes.ensures.payload c.bytes-bytes.ensures.whole c.write_record.ensures.changes
    c.in_ok-write_record.ensures.ok _ (g.met.H.Host.sound c.write_record.new.host) c.open_gate.ensures.changes c.in_ok-open_gate.ensures.ok

pub returns-clause-room : goal.returns-clause-room
returns-clause-room g c = reaches_end _ _ _ c.args.file c.args.at c.bytes-bytes.result.now c.write_record.ensures.changes c.in_ok-write_record.ensures.reads c.open_gate.ensures.changes c.requires.room

pub returns-clause-offset : goal.returns-clause-offset
returns-clause-offset g c = ap (λ n. c.args.at + n) (framed_length c.args.item.now c.bytes-bytes.result.now c.bytes-bytes.ensures.whole)
