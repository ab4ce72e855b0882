use Rattle.std.proofs.Common.{◌-◌, ◌∙◌, arith, refl, sym}
use Rattle.sasi_termblocks.proofs.Faults.{order_fault}
use Rattle.sasi_termblocks.proofs.block.check_order.Goals as goal

pub returns-then-not-is_below-clause-seen : goal.returns-then-not-is_below-clause-seen
returns-then-not-is_below-clause-seen c =
    order_fault c.args.block.now c.args.index (c.args.index - 1) c.in_ok-before.before.now c.in_ok-after.after.now _ _ c.out_of_order.result (omega arith)
    c.in_ok-before.ensures.ok c.in_ok-after.ensures.ok (sym c.is_below.ensures ∙ c.if-not-is_below.true) refl refl c.out_of_order.ensures.is c.out_of_order.ensures.near
