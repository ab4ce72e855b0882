use Rattle.std.proofs.Common.{length}
use Rattle.sasi_host.specs.Disk.{InPlace, Torn, MaybeCreated}
use Rattle.sasi_host.proofs.ChangeLaws.{touches, touches_on}
use Rattle.sasi_datawrite.proofs.writer.create_with.Goals as goal

pub returns-in_err-create-clause-changes : goal.returns-in_err-create-clause-changes
returns-in_err-create-clause-changes g c = touches _ _ c.args.file MaybeCreated c.create.ensures.changes

pub returns-clause-changes : goal.returns-clause-changes
returns-clause-changes g c = touches_on _ _ _ c.args.file (touches _ _ c.args.file MaybeCreated c.create.ensures.changes)
    (touches _ _ c.args.file (InPlace (Torn 0 (length c.args.bytes.now))) c.write.ensures.changes)
