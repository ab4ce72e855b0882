use Rattle.std.proofs.Common.{◌≡◌, ◌∙◌, List, ℕ, ap, arith, inl, inr}
use Rattle.std.proofs.lemmas.Result.{err_from_is_err_and}
use Rattle.sasi_termblocks.specs.BlockFaults.{BreaksEnd, BreaksLeast, BreaksUpTo}
use Rattle.sasi_termblocks.specs.Damages.{BreaksGiven}
use Rattle.sasi_termblocks.specs.Entries.{is_below, term, term_entry}
use Rattle.sasi_termblocks.specs.Windows.{BreaksEntry, BreaksForm, BreaksFront, BreaksTree}
use Rattle.sasi_termblocks.proofs.BlockLaws.{one_entry}
use Rattle.sasi_termblocks.proofs.Found.{entry_begins}
use Rattle.sasi_termblocks.proofs.Shown.{end_broken, fault_as, least_broken, order_broken}
use Rattle.sasi_termblocks.proofs.scan.entry_in.Goals as goal

pub returns-in_err-count-clause-seen : goal.returns-in_err-count-clause-seen
returns-in_err-count-clause-seen c =
    let p = err_from_is_err_and c.from_residual.result c.from_residual.ensures.1 in
    rw (p.1, p.2) (fault_as (BreaksFront c.args.block.now) (BreaksGiven c.args.first c.args.form c.args.position.index c.args.least.now c.args.block.now) c.in_err-count.field-0.0 (λ r at seen broken. inl (inl broken)) c.in_err-count.ensures.seen)

pub returns-in_err-check_order-clause-seen : goal.returns-in_err-check_order-clause-seen
returns-in_err-check_order-clause-seen c =
    let p = err_from_is_err_and c.from_residual-in_err-check_order.result c.from_residual-in_err-check_order.ensures.1 in
    rw (p.1, p.2) (fault_as (BreaksUpTo c.args.block.now c.args.position.index) (BreaksGiven c.args.first c.args.form c.args.position.index c.args.least.now c.args.block.now) c.in_err-check_order.field-0.0
    (λ r at seen some. inl (order_broken c.args.block.now c.args.position.index r at seen (omega (arith, c.in_ok-count.ensures.ok)) some)) c.in_err-check_order.ensures.seen)

pub returns-in_err-check_least-clause-seen : goal.returns-in_err-check_least-clause-seen
returns-in_err-check_least-clause-seen c =
    let p = err_from_is_err_and c.from_residual-in_err-check_least.result c.from_residual-in_err-check_least.ensures.1 in
    rw (p.1, p.2) (fault_as (BreaksLeast c.args.position.index c.args.least.now c.args.block.now) (BreaksGiven c.args.first c.args.form c.args.position.index c.args.least.now c.args.block.now) c.in_err-check_least.field-0.0
    (λ r at seen some. least_broken c.args.first c.args.form c.args.position.index c.args.least.now c.args.block.now r at seen (omega (arith, c.in_ok-count.ensures.ok)) some) c.in_err-check_least.ensures.seen)

pub returns-in_err-check_entry-clause-seen : goal.returns-in_err-check_entry-clause-seen
returns-in_err-check_entry-clause-seen c =
    let p = err_from_is_err_and c.from_residual-in_err-check_entry.result c.from_residual-in_err-check_entry.ensures.1 in
    rw (p.1, p.2) (fault_as (BreaksEnd c.args.block.now c.args.position.index) (BreaksGiven c.args.first c.args.form c.args.position.index c.args.least.now c.args.block.now) c.in_err-check_entry.field-0.0
    (λ r at seen broken. inl (end_broken c.args.block.now c.args.position.index r at seen (omega (arith, c.in_ok-count.ensures.ok)) broken)) c.in_err-check_entry.ensures.seen)

pub returns-in_err-entry-clause-seen : goal.returns-in_err-entry-clause-seen
returns-in_err-entry-clause-seen c =
    let p = err_from_is_err_and c.from_residual-in_err-entry.result c.from_residual-in_err-entry.ensures.1 in
    rw (p.1, p.2) (fault_as (BreaksEntry term_entry c.args.block.now c.args.position.index) (BreaksGiven c.args.first c.args.form c.args.position.index c.args.least.now c.args.block.now) c.in_err-entry.field-0.0
    (λ r at seen broken. inl (inr (inl (c.args.position.index, omega (arith, c.in_ok-count.ensures.ok), broken)))) c.in_err-entry.ensures.seen)

pub returns-in_err-check_tree-clause-seen : goal.returns-in_err-check_tree-clause-seen
returns-in_err-check_tree-clause-seen c =
    let p = err_from_is_err_and c.from_residual-in_err-check_tree.result c.from_residual-in_err-check_tree.ensures.1 in
    rw (p.1, p.2) (fault_as (BreaksTree c.args.first c.args.position.index c.args.block.now) (BreaksGiven c.args.first c.args.form c.args.position.index c.args.least.now c.args.block.now) c.in_err-check_tree.field-0.0
    (λ r at seen broken. inr (inr (inl broken))) c.in_err-check_tree.ensures.seen)

pub returns-in_err-check_form-clause-seen : goal.returns-in_err-check_form-clause-seen
returns-in_err-check_form-clause-seen c =
    let p = err_from_is_err_and c.from_residual-in_err-check_form.result c.from_residual-in_err-check_form.ensures.1 in
    rw (p.1, p.2) (fault_as (BreaksForm c.args.form c.args.position.index c.args.block.now) (BreaksGiven c.args.first c.args.form c.args.position.index c.args.least.now c.args.block.now) c.in_err-check_form.field-0.0
    (λ r at seen broken. inr (inr (inr broken))) c.in_err-check_form.ensures.seen)

pub returns-clause-least : goal.returns-clause-least
returns-clause-least c =
    let block = c.args.block.now in
    let index = c.args.position.index in
    let entry = c.in_ok-entry.entry in
    let kept = c.in_ok-check_least.ensures.ok in
    let same : entry.term ≡ kept.0 = one_entry term block index entry.term kept.0 (entry_begins block index entry c.in_ok-entry.ensures.ok) kept.1 in
    ap (λ (t : List ℕ). is_below t c.args.least.now) same ∙ kept.2
