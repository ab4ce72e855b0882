use Rattle.std.proofs.lemmas.Result.{err_from_is_err_and}
use Rattle.sasi_termblocks.specs.Windows.{BreaksCount, BreaksFront, BreaksStart}
use Rattle.sasi_termblocks.specs.Windows.BreaksFront.{in_count, in_start}
use Rattle.sasi_termblocks.proofs.Shown.{fault_as}
use Rattle.sasi_termblocks.proofs.block.count_of.Goals as goal

pub returns-in_err-count-clause-seen : goal.returns-in_err-count-clause-seen
returns-in_err-count-clause-seen c =
    let p = err_from_is_err_and c.from_residual.result c.from_residual.ensures.1 in
    rw (p.1, p.2) (fault_as (BreaksCount c.args.block.now) (BreaksFront c.args.block.now) c.in_err-count.field-0.0 (λ r at seen broken. in_count broken) c.in_err-count.ensures.seen)

pub returns-in_err-check_start-clause-seen : goal.returns-in_err-check_start-clause-seen
returns-in_err-check_start-clause-seen c =
    let p = err_from_is_err_and c.from_residual-in_err-check_start.result c.from_residual-in_err-check_start.ensures.1 in
    rw (p.1, p.2) (fault_as (BreaksStart c.args.block.now) (BreaksFront c.args.block.now) c.in_err-check_start.field-0.0 (λ r at seen broken. in_start broken) c.in_err-check_start.ensures.seen)
