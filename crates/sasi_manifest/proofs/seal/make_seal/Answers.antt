use Rattle.std.proofs.Common.{sym}
use Rattle.sasi_host.specs.Disk.{FileChange, MaybeCreated}
use Rattle.sasi_host.proofs.ChangeLaws.{then_same}
use Rattle.sasi_manifest.proofs.seal.make_seal.Goals as goal

pub returns-clause-changes : goal.returns-clause-changes
returns-clause-changes g c = rw (sym c.seal.ensures) (then_same _ _ _ (FileChange c.seal.result MaybeCreated) c.create.ensures.changes c.sync_folder.ensures.changes)
