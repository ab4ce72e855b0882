use Rattle.sasi_manifest.proofs.EditBytes.{numbers_put}
use Rattle.sasi_manifest.proofs.put.put_numbers.Goals as goal

pub returns : goal.returns
returns c = numbers_put c.args.numbers.now c.loop-number.number-index c.args.out.now.items c.loop-number.out.items c.loop-number-test.false c.loop-number.invariant
