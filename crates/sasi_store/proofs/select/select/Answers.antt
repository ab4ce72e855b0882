use Rattle.std.proofs.Common.{◌++◌, ℕ, List, append_assoc, ap, ◌∙◌}
use Rattle.std.proofs.lemmas.Result.{err_from_is_err_and}
use Rattle.sasi_layout.specs.Layout.{state_of}
use Rattle.sasi_machine.specs.Prepares.{answer_rows}
use Rattle.sasi_store.specs.Worlds.{rows_tail, selection_checks}
use Rattle.sasi_store.proofs.select.select.Goals as goal

pub returns-in_err-candidates-clause-undamaged : goal.returns-in_err-candidates-clause-undamaged
returns-in_err-candidates-clause-undamaged g c l serves =
    let p = err_from_is_err_and c.from_residual.result c.from_residual.ensures.1 in
    rw (p.1, p.2) (c.in_err-candidates.ensures.undamaged l serves)

pub returns-clause-ok : goal.returns-clause-ok
returns-clause-ok g c l serves =
    let trace = c.args.session.now.trace in
    c.in_ok-print_checked.ensures
    ∙ ap (λ (n : ℕ). c.answer.new.reply ++ rows_tail trace n) (c.in_ok-candidates.ensures.counted l serves)
    ∙ ap (λ (front : List ℕ). front ++ rows_tail trace (selection_checks l c.args.rows.now)) (c.in_ok-candidates.ensures.ok l serves)
    ∙ append_assoc c.args.reply.now (answer_rows (state_of l) c.args.rows.now) (rows_tail trace (selection_checks l c.args.rows.now))
