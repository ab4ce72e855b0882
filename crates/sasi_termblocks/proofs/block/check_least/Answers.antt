use Rattle.std.proofs.Common.{◌∙◌, inl, inr, sym, true}
use Rattle.std.proofs.lemmas.Result.{err_from_is_err_and}
use Rattle.sasi_termblocks.specs.BlockFaults.{BreaksLeast, IsMisplaced}
use Rattle.sasi_termblocks.specs.Entries.{term}
use Rattle.sasi_termblocks.specs.Windows.{BreaksEntry}
use Rattle.sasi_termblocks.proofs.Faults.{misplaced_fault}
use Rattle.sasi_termblocks.proofs.Shown.{fault_as}
use Rattle.sasi_termblocks.proofs.block.check_least.Goals as goal

pub returns-in_err-below-clause-seen : goal.returns-in_err-below-clause-seen
returns-in_err-below-clause-seen c =
    let p = err_from_is_err_and c.from_residual.result c.from_residual.ensures.1 in
    rw (p.1, p.2) (fault_as (BreaksEntry term c.args.block.now c.args.index) (BreaksLeast c.args.index c.args.least.now c.args.block.now) c.in_err-below.field-0.0 (λ r at seen broken. inl broken) c.in_err-below.ensures.seen)

pub returns-then-below-clause-seen : goal.returns-then-below-clause-seen
returns-then-below-clause-seen c =
    let found = c.in_ok-below.ensures.ok in
    fault_as (IsMisplaced true c.args.index c.args.least.now c.args.block.now) (BreaksLeast c.args.index c.args.least.now c.args.block.now) c.out_of_order.result (λ r at seen misplaced. inr misplaced)
    (misplaced_fault true c.args.index c.args.least.now c.args.block.now found.0 c.out_of_order.result found.1 (sym found.2 ∙ c.if-below.true) c.out_of_order.ensures.is c.out_of_order.ensures.near)

pub returns-clause-ok : goal.returns-clause-ok
returns-clause-ok c = let found = c.in_ok-below.ensures.ok in (found.0, found.1, sym found.2 ∙ c.if-below.false)
