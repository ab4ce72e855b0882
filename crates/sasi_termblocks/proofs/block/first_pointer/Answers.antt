use Rattle.std.proofs.Common.{◌+◌, inr}
use Rattle.std.proofs.lemmas.Result.{err_from_is_err_and}
use Rattle.sasi_termblocks.specs.BlockFaults.{BreaksFirstPointer}
use Rattle.sasi_termblocks.specs.Descents.{pointer_to}
use Rattle.sasi_termblocks.specs.Windows.{BreaksEntry}
use Rattle.sasi_termblocks.proofs.Shown.{fault_as}
use Rattle.sasi_termblocks.proofs.block.first_pointer.Goals as goal

pub returns-in_err-place-clause-seen : goal.returns-in_err-place-clause-seen
returns-in_err-place-clause-seen c =
    let p = err_from_is_err_and c.from_residual-in_err-place.result c.from_residual-in_err-place.ensures.1 in
    let page = c.args.page in
    rw (p.1, p.2) (fault_as (BreaksEntry (pointer_to page (page + 1)) c.args.block.now 0) (BreaksFirstPointer page c.args.block.now) c.in_err-place.field-0.0 (λ r at seen broken. inr broken) c.in_err-place.ensures.seen)
