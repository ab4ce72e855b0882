use Rattle.sasi_manifest.proofs.Applying.{first_is_start}
use Rattle.sasi_manifest.proofs.apply.first.Goals as goal

pub unreachable-requires : goal.unreachable-requires
unreachable-requires c = first_is_start c.args.edit.now c.requires c.in_default.not-Start
