use Rattle.std.proofs.Common.{◌≡◌, ◌+◌, ◌-◌, ◌<◌, ℕ, arith, subst}
use Rattle.std.proofs.lemmas.Result.{err_from_is_err_and}
use Rattle.sasi_termblocks.specs.BlockFaults.{BreaksEnd, BreaksUpTo, IsAboveLast}
use Rattle.sasi_termblocks.specs.Damages.{BreaksTerms}
use Rattle.sasi_termblocks.proofs.Shown.{end_broken, fault_as, order_broken}
use Rattle.sasi_termblocks.proofs.seek.split_whole.Goals as goal

pub returns-in_err-check_entry-clause-seen : goal.returns-in_err-check_entry-clause-seen
returns-in_err-check_entry-clause-seen c =
    let p = err_from_is_err_and c.from_residual-in_err-check_entry.result c.from_residual-in_err-check_entry.ensures.1 in
    let lt : c.saturating_sub-last.result < c.in_ok-split.split.count = omega (arith, c.saturating_sub-last.ensures, c.in_ok-split.ensures.ok.within, c.in_ok-split.ensures.some) in
    rw (p.1, p.2) (fault_as (BreaksEnd c.args.block.now c.saturating_sub-last.result) (BreaksTerms c.args.block.now) c.in_err-check_entry.field-0.0
    (λ r at seen broken. end_broken c.args.block.now c.saturating_sub-last.result r at seen (omega (arith, lt, c.in_ok-split.ensures.count)) broken) c.in_err-check_entry.ensures.seen)

pub returns-in_err-check_entry-2-clause-seen : goal.returns-in_err-check_entry-2-clause-seen
returns-in_err-check_entry-2-clause-seen c =
    let p = err_from_is_err_and c.from_residual-in_err-check_entry-2.result c.from_residual-in_err-check_entry-2.ensures.1 in
    let lt : c.saturating_sub.result < c.in_ok-split.split.count = omega (arith, c.saturating_sub.ensures, c.saturating_sub-last.ensures, c.in_ok-split.ensures.ok.within, c.in_ok-split.ensures.some) in
    rw (p.1, p.2) (fault_as (BreaksEnd c.args.block.now c.saturating_sub.result) (BreaksTerms c.args.block.now) c.in_err-check_entry-2.field-0.0
    (λ r at seen broken. end_broken c.args.block.now c.saturating_sub.result r at seen (omega (arith, lt, c.in_ok-split.ensures.count)) broken) c.in_err-check_entry-2.ensures.seen)

pub returns-in_err-check_order-clause-seen : goal.returns-in_err-check_order-clause-seen
returns-in_err-check_order-clause-seen c =
    let p = err_from_is_err_and c.from_residual-in_err-check_order.result c.from_residual-in_err-check_order.ensures.1 in
    let lt : c.saturating_sub-last.result < c.in_ok-split.split.count = omega (arith, c.saturating_sub-last.ensures, c.in_ok-split.ensures.ok.within, c.in_ok-split.ensures.some) in
    rw (p.1, p.2) (fault_as (BreaksUpTo c.args.block.now c.saturating_sub-last.result) (BreaksTerms c.args.block.now) c.in_err-check_order.field-0.0
    (λ r at seen broken. order_broken c.args.block.now c.saturating_sub-last.result r at seen (omega (arith, lt, c.in_ok-split.ensures.count)) broken) c.in_err-check_order.ensures.seen)

pub returns-in_err-check_order-2-clause-seen : goal.returns-in_err-check_order-2-clause-seen
returns-in_err-check_order-2-clause-seen c =
    let p = err_from_is_err_and c.from_residual-in_err-check_order-2.result c.from_residual-in_err-check_order-2.ensures.1 in
    let lt : c.min.result < c.in_ok-split.split.count = omega (arith, c.min.ensures, c.in_ok-split.ensures.some) in
    rw (p.1, p.2) (fault_as (BreaksUpTo c.args.block.now c.min.result) (BreaksTerms c.args.block.now) c.in_err-check_order-2.field-0.0
    (λ r at seen broken. order_broken c.args.block.now c.min.result r at seen (omega (arith, lt, c.in_ok-split.ensures.count)) broken) c.in_err-check_order-2.ensures.seen)

pub returns-clause-order : goal.returns-clause-order
returns-clause-order c =
    let same : c.saturating_sub-last.result ≡ c.in_ok-split.split.below - 1 = omega (arith, c.saturating_sub-last.ensures) in
    subst (λ (n : ℕ). IsAboveLast c.args.block.now n) same c.in_ok-check_order.ensures.ok

pub returns-clause-next : goal.returns-clause-next
returns-clause-next c more =
    let same : c.min.result ≡ c.in_ok-split.split.below + 1 = omega (arith, c.min.ensures, more) in
    subst (λ (n : ℕ). IsAboveLast c.args.block.now n) same c.in_ok-check_order-2.ensures.ok
