use Rattle.std.proofs.lemmas.Result.{err_from_is_err_and}
use Rattle.sasi_termblocks.specs.Entries.{term}
use Rattle.sasi_termblocks.specs.BlockFaults.{BreaksSome}
use Rattle.sasi_termblocks.specs.Damages.{BreaksPointers}
use Rattle.sasi_termblocks.proofs.Shown.{fault_as, pointers_broken}
use Rattle.sasi_termblocks.proofs.seek.pointer_for.Goals as goal

pub returns-in_err-below-clause-seen : goal.returns-in_err-below-clause-seen
returns-in_err-below-clause-seen c =
    let p = err_from_is_err_and c.from_residual-in_err-below.result c.from_residual-in_err-below.ensures.1 in
    rw (p.1, p.2) (fault_as (BreaksSome term c.args.block.now c.in_ok-count.count) (BreaksPointers c.args.low c.args.high c.args.block.now) c.in_err-below.field-0.0
    (λ r at seen some. pointers_broken c.args.low c.args.high c.args.block.now c.in_ok-count.count r at seen c.in_ok-count.ensures.ok some) c.in_err-below.ensures.seen)
