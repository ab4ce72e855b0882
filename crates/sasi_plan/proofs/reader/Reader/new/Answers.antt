use Rattle.std.proofs.Common.{None, Some, map, sym, subst}
use Rattle.sasi_cells.specs.Maps.{merged}
use Rattle.sasi_candidates.specs.Checks.{checked, rows}
use Rattle.sasi_model.specs.Filters.{where_of}
use Rattle.sasi_candidates.specs.Parts.{maps_of}
use Rattle.sasi_recheck.specs.Rows.{RecheckView, counted_on}
use Rattle.sasi_plan.specs.contracts.plan_candidates.PlanCandidatesCandidates.TheImpl as source
use Rattle.sasi_plan.specs.declared.plan_candidates.PlanCandidates.{PlanCandidates}
use Rattle.sasi_plan.specs.Answers.{CountsTo, ReadsLeft, ReadsUpTo, RowsLeft, lesser, row_of}
use Rattle.sasi_plan.specs.Plans.{PlanView}
use Rattle.sasi_plan.specs.Reading.{plan_reads}
use Rattle.sasi_plan.proofs.ReaderLaws.{new_counts, new_reads, new_rows}
use Rattle.sasi_plan.proofs.reader.Reader.new.Goals as goal

pub returns-clause-rows : goal.returns-clause-rows
returns-clause-rows c w book is =
    let plan = c.args.plan in
    let all = map row_of (rows plan.limit (where_of plan.conditions) (merged (maps_of w.parts))) in
    subst (λ (r : RecheckView PlanCandidates). RowsLeft source.ghosts.leaves r (Some w.folder) book all) (sym c.new.ensures)
    (subst
    (λ (s : PlanCandidates). RowsLeft source.ghosts.leaves (record { candidates = s; filter = c.plan.inside.filter; rows_left = c.plan.inside.limit; checked = 0 }) (Some w.folder) book all)
    (sym c.new-candidates.ensures)
    (subst
    (λ (p : PlanView). RowsLeft source.ghosts.leaves
    (record { candidates = record { alloc = c.plan.inside.alloc; view = c.args.view; pending = Some (record { types = p.types; source = p.source }); source = None }; filter = p.conditions; rows_left = p.limit; checked = 0 }) (Some w.folder) book all)
    (sym c.plan.view_is) (new_rows w plan c.args.view book is)))

pub returns-clause-counts : goal.returns-clause-counts
returns-clause-counts c w book is =
    let plan = c.args.plan in
    let count = counted_on 0 (checked plan.limit (where_of plan.conditions) w.parts) in
    subst (λ (r : RecheckView PlanCandidates). CountsTo source.ghosts.leaves r (Some w.folder) book count) (sym c.new.ensures)
    (subst
    (λ (s : PlanCandidates). CountsTo source.ghosts.leaves (record { candidates = s; filter = c.plan.inside.filter; rows_left = c.plan.inside.limit; checked = 0 }) (Some w.folder) book count)
    (sym c.new-candidates.ensures)
    (subst
    (λ (p : PlanView). CountsTo source.ghosts.leaves
    (record { candidates = record { alloc = c.plan.inside.alloc; view = c.args.view; pending = Some (record { types = p.types; source = p.source }); source = None }; filter = p.conditions; rows_left = p.limit; checked = 0 }) (Some w.folder) book count)
    (sym c.plan.view_is) (new_counts w plan c.args.view book is)))

pub returns-clause-reads : goal.returns-clause-reads
returns-clause-reads c w book is bounded =
    let plan = c.args.plan in
    let most = plan_reads w plan.source plan.limit in
    subst (λ (r : RecheckView PlanCandidates). ReadsLeft source.ghosts.leaves source.ghosts.pays r (Some w.folder) book most) (sym c.new.ensures)
    (subst
    (λ (s : PlanCandidates). ReadsLeft source.ghosts.leaves source.ghosts.pays (record { candidates = s; filter = c.plan.inside.filter; rows_left = c.plan.inside.limit; checked = 0 }) (Some w.folder) book most)
    (sym c.new-candidates.ensures)
    (subst
    (λ (p : PlanView). ReadsLeft source.ghosts.leaves source.ghosts.pays
    (record { candidates = record { alloc = c.plan.inside.alloc; view = c.args.view; pending = Some (record { types = p.types; source = p.source }); source = None }; filter = p.conditions; rows_left = p.limit; checked = 0 }) (Some w.folder) book most)
    (sym c.plan.view_is) (new_reads w plan c.args.view book is None bounded)))

pub returns-clause-reads_up_to : goal.returns-clause-reads_up_to
returns-clause-reads_up_to c w book is bounded n =
    let plan = c.args.plan in
    let most = plan_reads w plan.source (lesser (Some n) plan.limit) in
    subst (λ (r : RecheckView PlanCandidates). ReadsUpTo source.ghosts.leaves source.ghosts.pays r (Some w.folder) book (Some n) most) (sym c.new.ensures)
    (subst
    (λ (s : PlanCandidates). ReadsUpTo source.ghosts.leaves source.ghosts.pays (record { candidates = s; filter = c.plan.inside.filter; rows_left = c.plan.inside.limit; checked = 0 }) (Some w.folder) book (Some n) most)
    (sym c.new-candidates.ensures)
    (subst
    (λ (p : PlanView). ReadsUpTo source.ghosts.leaves source.ghosts.pays
    (record { candidates = record { alloc = c.plan.inside.alloc; view = c.args.view; pending = Some (record { types = p.types; source = p.source }); source = None }; filter = p.conditions; rows_left = p.limit; checked = 0 }) (Some w.folder) book (Some n) most)
    (sym c.plan.view_is) (new_reads w plan c.args.view book is (Some n) bounded)))
