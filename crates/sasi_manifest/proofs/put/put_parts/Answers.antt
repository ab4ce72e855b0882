use Rattle.sasi_manifest.proofs.EditBytes.{parts_put}
use Rattle.sasi_manifest.proofs.put.put_parts.Goals as goal

pub returns : goal.returns
returns c = parts_put c.args.parts.now c.loop-part.part-index c.args.out.now.items c.loop-part.out.items c.loop-part-test.false c.loop-part.invariant
