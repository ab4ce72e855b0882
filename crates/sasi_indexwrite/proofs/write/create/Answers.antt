use Rattle.sasi_host.specs.Disk.{MaybeCreated}
use Rattle.sasi_host.proofs.ChangeLaws.{touches, touches_on, untouched}
use Rattle.sasi_indexwrite.proofs.write.create.Goals as goal

pub returns-in_err-put_header-clause-changes : goal.returns-in_err-put_header-clause-changes
returns-in_err-put_header-clause-changes g c = untouched (g.H.Host.view c.args.host.now) c.args.file

pub returns-in_err-create-clause-changes : goal.returns-in_err-create-clause-changes
returns-in_err-create-clause-changes g c = touches _ _ c.args.file MaybeCreated c.create.ensures.changes

pub returns-in_err-write-clause-changes : goal.returns-in_err-write-clause-changes
returns-in_err-write-clause-changes g c =
    touches_on _ _ _ c.args.file (touches _ _ c.args.file MaybeCreated c.create.ensures.changes) (touches _ _ c.args.file _ c.write.ensures.changes)

pub returns-clause-changes : goal.returns-clause-changes
returns-clause-changes g c = touches_on _ _ _ c.args.file (touches _ _ c.args.file MaybeCreated c.create.ensures.changes) (touches _ _ c.args.file _ c.write.ensures.changes)
