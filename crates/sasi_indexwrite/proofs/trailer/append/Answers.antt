use Rattle.std.proofs.Common.{length}
use Rattle.sasi_host.specs.Disk.{InPlace, Torn}
use Rattle.sasi_host.proofs.ChangeLaws.{touches}
use Rattle.sasi_indexwrite.proofs.trailer.append.Goals as goal

pub returns-clause-changes : goal.returns-clause-changes
returns-clause-changes g c = touches _ _ c.args.file (InPlace (Torn c.args.at (length c.args.more.now))) c.write_durably.ensures.changes
