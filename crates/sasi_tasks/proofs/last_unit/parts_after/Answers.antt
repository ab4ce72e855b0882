use Rattle.std.proofs.Common.{arith}
use Rattle.sasi_tasks.proofs.DrawnNumbers.{all_drawn, drawn_spent}
use Rattle.sasi_tasks.proofs.last_unit.parts_after.Goals as goal

pub returns-in_default-clause-stops : goal.returns-in_default-clause-stops
returns-in_default-clause-stops c =
    let at = c.loop-index.invariant.0 in
    drawn_spent c.args.used c.args.indexes.now (omega (arith, c.next_part.ensures.small, at)) (omega (arith, c.in_default.ensures.none, at, c.loop-index-test.true))

pub returns-clause-drawn : goal.returns-clause-drawn
returns-clause-drawn c =
    let on = c.loop-index.invariant in
    (all_drawn c.args.used c.loop-index.last c.loop-index.index-index c.args.indexes.now c.loop-index.parts (omega (arith, c.loop-index-test.false)) on.2, omega (arith, on.1, c.loop-index-test.false))
