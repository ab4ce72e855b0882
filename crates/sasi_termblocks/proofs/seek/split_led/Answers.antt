use Rattle.std.proofs.Common.{◌≡◌, ◌<◌, ℕ, arith, false, inl, inr, subst}
use Rattle.std.proofs.lemmas.Result.{err_from_is_err_and}
use Rattle.sasi_termblocks.specs.BlockFaults.{IsMisplaced}
use Rattle.sasi_termblocks.specs.Damages.{BreaksSplit, BreaksTerms}
use Rattle.sasi_termblocks.specs.Entries.{term}
use Rattle.sasi_termblocks.specs.Windows.{HasEntry}
use Rattle.sasi_termblocks.proofs.Faults.{misplaced_fault}
use Rattle.sasi_termblocks.proofs.Shown.{fault_as}
use Rattle.sasi_termblocks.proofs.seek.split_led.Goals as goal

pub returns-in_err-split-clause-seen : goal.returns-in_err-split-clause-seen
returns-in_err-split-clause-seen c =
    let p = err_from_is_err_and c.from_residual.result c.from_residual.ensures.1 in
    rw (p.1, p.2) (fault_as (BreaksTerms c.args.block.now) (BreaksSplit c.args.first c.args.page c.args.sought.now c.args.block.now) c.in_err-split.field-0.0 (λ r at seen broken. inl broken) c.in_err-split.ensures.seen)

pub returns-then-first-page-clause-seen : goal.returns-then-first-page-clause-seen
returns-then-first-page-clause-seen c =
    let block = c.args.block.now in
    let sought = c.args.sought.now in
    let next = c.in_ok-split.ensures.ok.next (omega (arith, c.in_ok-split.ensures.some)) in
    let none : c.in_ok-split.split.below ≡ 0 = omega arith in
    let has = subst (λ (n : ℕ). HasEntry term block n next.0) none next.1 in
    let past : c.args.first < c.args.page = omega arith in
    fault_as (IsMisplaced false 0 sought block) (BreaksSplit c.args.first c.args.page sought block) c.out_of_order.result (λ r at seen misplaced. inr (past, misplaced))
    (misplaced_fault false 0 sought block next.0 c.out_of_order.result has next.2 c.out_of_order.ensures.is c.out_of_order.ensures.near)
