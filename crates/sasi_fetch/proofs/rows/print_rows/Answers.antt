use Rattle.std.proofs.Common.{◌++◌, List, ℕ, ap, subst, ◌∙◌, arith}
use Rattle.std.proofs.lemmas.Result.{err_from_is_err_and}
use Rattle.sasi_model.specs.Cells.{Partition}
use Rattle.sasi_scan.proofs.Costs.{causes_memory, causes_of_fault, causes_ok}
use Rattle.sasi_plan.specs.Answers.{RowsLeft}
use Rattle.sasi_plan.specs.contracts.plan_candidates.PlanCandidatesCandidates.TheImpl as source
use Rattle.sasi_fetch.specs.Printing.{KnowsAfter, picked_lines}
use Rattle.sasi_fetch.proofs.rows.print_rows.Goals as goal

-- ---- it failed

pub returns-in_err-print_first-clause-reads : goal.returns-in_err-print_first-clause-reads
returns-in_err-print_first-clause-reads g c most left = c.in_err-print_first.ensures.reads most left

pub returns-in_err-print_first-clause-damaged : goal.returns-in_err-print_first-clause-damaged
returns-in_err-print_first-clause-damaged g c =
    let q = err_from_is_err_and c.from_residual.result c.from_residual.ensures.1 in
    rw (q.1, q.2) c.in_err-print_first.ensures.damaged

pub returns-in_err-print_first-clause-undamaged : goal.returns-in_err-print_first-clause-undamaged
returns-in_err-print_first-clause-undamaged g c =
    let q = err_from_is_err_and c.from_residual.result c.from_residual.ensures.1 in
    rw (q.1, q.2) c.in_err-print_first.ensures.undamaged

pub returns-in_err-print_first-clause-changes : goal.returns-in_err-print_first-clause-changes
returns-in_err-print_first-clause-changes g c = c.print_first.ensures.read.changes

pub returns-in_err-print_first-clause-causes : goal.returns-in_err-print_first-clause-causes
returns-in_err-print_first-clause-causes g c =
    let q = err_from_is_err_and c.from_residual.result c.from_residual.ensures.1 in
    rw (q.1, q.2) (causes_of_fault _ _ c.in_err-print_first.field-0.0 c.in_err-print_first.ensures.causes)

-- ---- all rows

pub returns-in-Nothing-clause-ok : goal.returns-in-Nothing-clause-ok
returns-in-Nothing-clause-ok g c rows left =
    let all = subst (KnowsAfter 18446744073709551615 (RowsLeft source.leaves-value.it c.args.reader.now.rows (g.H.Host.view c.args.host.now).files c.args.maps.now)) c.in-Nothing.is c.in_ok-print_first.ensures.after in
    (c.in_ok-print_first.ensures.rows rows left).0
    ∙ ap (λ (l : List (List ℕ × Partition)). c.args.reply.now ++ picked_lines c.args.reader.now.picked l) (all rows left)

pub returns-in-Nothing-clause-counted : goal.returns-in-Nothing-clause-counted
returns-in-Nothing-clause-counted g c count counts = c.checked.ensures ∙ c.in_ok-print_first.ensures.counted c.in-Nothing.is count counts

pub returns-in-Nothing-clause-reads : goal.returns-in-Nothing-clause-reads
returns-in-Nothing-clause-reads g c most left = let one = c.in_ok-print_first.ensures.reads most left in omega (arith, one.2)

pub returns-in-Nothing-clause-changes : goal.returns-in-Nothing-clause-changes
returns-in-Nothing-clause-changes g c = c.print_first.ensures.read.changes

pub returns-in-Nothing-clause-causes : goal.returns-in-Nothing-clause-causes
returns-in-Nothing-clause-causes g c = let one = c.in_ok-print_first.ensures.causes in causes_ok _ _ _ one.ok one.out

-- ---- no room for so many

pub returns-in-Perhaps-clause-reads : goal.returns-in-Perhaps-clause-reads
returns-in-Perhaps-clause-reads g c most left = let one = c.in_ok-print_first.ensures.reads most left in omega (arith, one.2)

pub returns-in-Perhaps-clause-changes : goal.returns-in-Perhaps-clause-changes
returns-in-Perhaps-clause-changes g c = c.print_first.ensures.read.changes

pub returns-in-Perhaps-clause-causes : goal.returns-in-Perhaps-clause-causes
returns-in-Perhaps-clause-causes g c = let one = c.in_ok-print_first.ensures.causes in causes_memory _ _ one.ok one.out
