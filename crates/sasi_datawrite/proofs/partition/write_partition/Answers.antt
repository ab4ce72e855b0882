use Rattle.std.proofs.Common.{length}
use Rattle.sasi_host.specs.Disk.{InPlace, Torn}
use Rattle.sasi_host.proofs.ChangeLaws.{touches, untouched}
use Rattle.sasi_datawrite.proofs.Appends.{there_reached, there_written}
use Rattle.sasi_datawrite.proofs.partition.write_partition.Goals as goal

pub returns-in_err-put_partition-clause-changes : goal.returns-in_err-put_partition-clause-changes
returns-in_err-put_partition-clause-changes g c = untouched (g.H.Host.view c.args.host.now) c.args.file

pub returns-in_err-write-clause-changes : goal.returns-in_err-write-clause-changes
returns-in_err-write-clause-changes g c = touches _ _ c.args.file (InPlace (Torn c.args.at (length c.deref.result.now))) c.write.ensures.changes

pub returns-clause-changes : goal.returns-clause-changes
returns-clause-changes g c = touches _ _ c.args.file (InPlace (Torn c.args.at (length c.deref.result.now))) c.write.ensures.changes

pub returns-in_err-put_partition-clause-there : goal.returns-in_err-put_partition-clause-there
returns-in_err-put_partition-clause-there g c = there_reached (g.H.Host.view c.args.host.now) c.args.file c.args.at c.requires.room

pub returns-in_err-write-clause-there : goal.returns-in_err-write-clause-there
returns-in_err-write-clause-there g c = there_written (g.H.Host.view c.args.host.now) (g.H.Host.view c.write.new.self) c.args.file c.args.at (length c.deref.result.now) c.write.ensures.changes c.requires.room

pub returns-clause-there : goal.returns-clause-there
returns-clause-there g c = there_written (g.H.Host.view c.args.host.now) (g.H.Host.view c.write.new.self) c.args.file c.args.at (length c.deref.result.now) c.write.ensures.changes c.requires.room
