use Rattle.sasi_machine.proofs.Picked.{picked_more}
use Rattle.sasi_machine.proofs.picking.all.Goals as goal

pub loop-number-preserved : goal.loop-number-preserved
loop-number-preserved c = picked_more c.loop-number.list c.push.new.self c.loop-number.number c.pick.result c.loop-number.invariant c.pick.ensures c.in_ok-push.ensures.ok
