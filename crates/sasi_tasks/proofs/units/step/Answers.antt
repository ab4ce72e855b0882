use Rattle.std.proofs.Common.{◌≡◌, ◌∙◌, ℕ, Ok, Some, ap, length, refl, subst, sym, arith}
use Rattle.std.specs.List.{position, slice_set}
use Rattle.std.proofs.lemmas.Option.{slice_get_read}
use Rattle.std.proofs.lemmas.Result.{err_from_is_err_and}
use Rattle.sasi_compact.specs.Tasks.{HasPassed, IsCompacting, IsReadyAt, MayReadMore}
use Rattle.sasi_compact.specs.declared.progress.Progress.{Progress}
use Rattle.sasi_compact.specs.declared.progress.Progress.TheVariants.{Ready, Running}
use Rattle.sasi_merge.specs.Streams.{Entries}
use Rattle.sasi_tables.proofs.TablesInMemory.{all_at}
use Rattle.sasi_tasks.proofs.StepAll.{at_inside, at_table, no_step, set_there, step_ends, step_goes_on}
use Rattle.sasi_tasks.proofs.StepMakes.{step_stopped}
use Rattle.sasi_tasks.proofs.StepReady.{goes_on_stepped}
use Rattle.sasi_tasks.proofs.SteppedTasks.{stepped}
use Rattle.sasi_tasks.proofs.TaskPositions.{is_in}
use Rattle.sasi_tasks.specs.MakesTaskMoves.{MakesTaskMoves}
use Rattle.sasi_tasks.specs.Tasks.{advanced, step_moves}
use Rattle.sasi_tasks.specs.declared.running.RunningTask.{RunningTask}
use Rattle.sasi_tasks.proofs.units.step.Goals as goal

pub returns-in_default-clause-makes : goal.returns-in_default-clause-makes
returns-in_default-clause-makes g c = no_step c.args.views.now (g.H.Host.view c.args.host.now) (g.met.H.Host.sound c.args.host.now) c.args.parts.now c.args.tasks.now.items c.requires.ready c.args.table
    (sym (c.position_of.ensures ∙ ap (position (is_in c.args.table)) c.deref.ensures.value) ∙ c.in_default.is) c.args.units

-- ---- a step that fails

pub returns-in_err-left-clause-makes : goal.returns-in_err-left-clause-makes
returns-in_err-left-clause-makes g c =
    let items = c.args.tasks.now.items in
    let inside = at_inside c.args.table items c.in-Some.at (sym (c.position_of.ensures ∙ ap (position (is_in c.args.table)) c.deref.ensures.value) ∙ c.in-Some.is) in
    let r = c.index_mut.result.now in
    let there = slice_get_read items (length items) c.in-Some.at r refl inside c.index_mut.ensures.value in
    let q = err_from_is_err_and c.from_residual.result c.from_residual.ensures.1 in
    rw (q.1, q.2)
    (step_stopped (g.H.Host.view c.args.host.now) (g.met.H.Host.sound c.args.host.now) c.args.views.now c.args.parts.now items c.requires.ready c.in-Some.at r there (g.H.Host.view c.step.new.host) c.step.ensures.changes
    c.in_err-left.field-0.0 c.in_err-left.ensures.damaged (step_moves c.args.table c.args.units) (λ l ks. advanced c.args.table c.args.units l ks) _ _ c.in_err-left.ensures.undamaged c.in_err-left.ensures.causes c.requires.classes)

pub returns-in_err-left-clause-reads : goal.returns-in_err-left-clause-reads
returns-in_err-left-clause-reads g c most may =
    let items = c.args.tasks.now.items in
    let is : position (is_in c.args.table) items ≡ Some c.in-Some.at = sym (c.position_of.ensures ∙ ap (position (is_in c.args.table)) c.deref.ensures.value) ∙ c.in-Some.is in
    let r = c.index_mut.result.now in
    let there = slice_get_read items (length items) c.in-Some.at r refl (at_inside c.args.table items c.in-Some.at is) c.index_mut.ensures.value in
    c.in_err-left.ensures.reads most (all_at (λ (o : RunningTask). o.table ≡ c.args.table → MayReadMore (g.H.Host.view c.args.host.now).files o.task most) c.in-Some.at items r may there (at_table c.args.table items c.in-Some.at r is there))

-- ---- all keys are passed, and a unit is left

pub end-requires-clause-ready : goal.end-requires-clause-ready
end-requires-clause-ready g c =
    let items = c.args.tasks.now.items in
    let inside = at_inside c.args.table items c.in-Some.at (sym (c.position_of.ensures ∙ ap (position (is_in c.args.table)) c.deref.ensures.value) ∙ c.in-Some.is) in
    let r = c.index_mut.result.now in
    let there = slice_get_read items (length items) c.in-Some.at r refl inside c.index_mut.ensures.value in
    goes_on_stepped (g.H.Host.view c.args.host.now) c.args.views.now c.args.parts.now items c.requires.ready c.in-Some.at r there (g.H.Host.view c.step.new.host) c.step.ensures.changes c.step.new.self c.step.ensures.same c.in_ok-left.ensures.can

pub end-requires-clause-passed : goal.end-requires-clause-passed
end-requires-clause-passed g c =
    let inside = at_inside c.args.table c.args.tasks.now.items c.in-Some.at (sym (c.position_of.ensures ∙ ap (position (is_in c.args.table)) c.deref.ensures.value) ∙ c.in-Some.is) in
    let now = stepped c.index_mut.result.now c.step.new.self in
    (now, set_there c.args.tasks.now.items c.in-Some.at now inside, subst (IsReadyAt c.step.new.self.output) c.in-Ready.is c.in_ok-left.ensures.ready)

pub returns-in-Ready-clause-makes : goal.returns-in-Ready-clause-makes
returns-in-Ready-clause-makes g c =
    let a = g.H.Host.view c.args.host.now in
    let b = g.H.Host.view c.step.new.host in
    let items = c.args.tasks.now.items in
    let is : position (is_in c.args.table) items ≡ Some c.in-Some.at = sym (c.position_of.ensures ∙ ap (position (is_in c.args.table)) c.deref.ensures.value) ∙ c.in-Some.is in
    let inside = at_inside c.args.table items c.in-Some.at is in
    let r = c.index_mut.result.now in
    let there = slice_get_read items (length items) c.in-Some.at r refl inside c.index_mut.ensures.value in
    let task = c.step.new.self in
    let now = stepped r task in
    let has : (passed left : Entries) → IsCompacting a r.task passed left → HasPassed b task.compaction task.output c.args.units passed left (Ready c.in-Ready.left)
    = subst (λ (x : Progress). (passed left : Entries) → IsCompacting a r.task passed left → HasPassed b task.compaction task.output c.args.units passed left x) c.in-Ready.is c.in_ok-left.ensures.passed in
    subst (λ (t : ℕ). MakesTaskMoves (step_moves t c.args.units) (λ l ks. advanced t c.args.units l ks) c.args.views.now a (g.H.Host.view c.end.new.host) c.args.parts.now c.end.new.parts items c.end.new.tasks.items c.end.result) (at_table c.args.table items c.in-Some.at r is there)
    (step_ends a (g.met.H.Host.sound c.args.host.now) c.args.views.now c.args.parts.now items c.requires.ready c.in-Some.at r there b c.step.ensures.changes task c.step.ensures.same c.in_ok-left.ensures.can c.in_ok-left.ensures.causes.ok c.step.ensures.causes.out
    c.args.units c.requires.some c.in-Ready.left has (omega (arith, c.if-left-gt0.true)) (g.H.Host.view c.end.new.host) c.end.new.parts c.end.new.tasks.items c.end.result (c.end.ensures.makes now (set_there items c.in-Some.at now inside)))

pub returns-in-Ready-clause-reads : goal.returns-in-Ready-clause-reads
returns-in-Ready-clause-reads g c most may =
    let items = c.args.tasks.now.items in
    let is : position (is_in c.args.table) items ≡ Some c.in-Some.at = sym (c.position_of.ensures ∙ ap (position (is_in c.args.table)) c.deref.ensures.value) ∙ c.in-Some.is in
    let r = c.index_mut.result.now in
    let there = slice_get_read items (length items) c.in-Some.at r refl (at_inside c.args.table items c.in-Some.at is) c.index_mut.ensures.value in
    let left = c.in_ok-left.ensures.reads most (all_at (λ (o : RunningTask). o.table ≡ c.args.table → MayReadMore (g.H.Host.view c.args.host.now).files o.task most) c.in-Some.at items r may there (at_table c.args.table items c.in-Some.at r is there)) in
    omega (arith, c.end.ensures.reads, left.reads)

-- ---- no unit is left, or keys are

pub returns-in_default-2-clause-makes : goal.returns-in_default-2-clause-makes
returns-in_default-2-clause-makes g c =
    let a = g.H.Host.view c.args.host.now in
    let b = g.H.Host.view c.step.new.host in
    let items = c.args.tasks.now.items in
    let is : position (is_in c.args.table) items ≡ Some c.in-Some.at = sym (c.position_of.ensures ∙ ap (position (is_in c.args.table)) c.deref.ensures.value) ∙ c.in-Some.is in
    let inside = at_inside c.args.table items c.in-Some.at is in
    let r = c.index_mut.result.now in
    let there = slice_get_read items (length items) c.in-Some.at r refl inside c.index_mut.ensures.value in
    let task = c.step.new.self in
    let has : (passed left : Entries) → IsCompacting a r.task passed left → HasPassed b task.compaction task.output c.args.units passed left (Ready c.in-Ready.left)
    = subst (λ (x : Progress). (passed left : Entries) → IsCompacting a r.task passed left → HasPassed b task.compaction task.output c.args.units passed left x) c.in-Ready.is c.in_ok-left.ensures.passed in
    subst (λ (t : ℕ). MakesTaskMoves (step_moves t c.args.units) (λ l ks. advanced t c.args.units l ks) c.args.views.now a b c.args.parts.now c.args.parts.now items (slice_set items c.in-Some.at (stepped r task)) (Ok tt)) (at_table c.args.table items c.in-Some.at r is there)
    (step_goes_on a (g.met.H.Host.sound c.args.host.now) c.args.views.now c.args.parts.now items c.requires.ready c.in-Some.at r there b c.step.ensures.changes task c.step.ensures.same c.in_ok-left.ensures.can c.in_ok-left.ensures.causes.ok c.step.ensures.causes.out
    c.args.units c.requires.some (Ready c.in-Ready.left) has (λ left counts. omega (arith, counts, c.if-left-gt0.false)))

pub returns-in_default-2-clause-reads : goal.returns-in_default-2-clause-reads
returns-in_default-2-clause-reads g c most may =
    let items = c.args.tasks.now.items in
    let is : position (is_in c.args.table) items ≡ Some c.in-Some.at = sym (c.position_of.ensures ∙ ap (position (is_in c.args.table)) c.deref.ensures.value) ∙ c.in-Some.is in
    let r = c.index_mut.result.now in
    let there = slice_get_read items (length items) c.in-Some.at r refl (at_inside c.args.table items c.in-Some.at is) c.index_mut.ensures.value in
    let left = c.in_ok-left.ensures.reads most (all_at (λ (o : RunningTask). o.table ≡ c.args.table → MayReadMore (g.H.Host.view c.args.host.now).files o.task most) c.in-Some.at items r may there (at_table c.args.table items c.in-Some.at r is there)) in
    omega (arith, left.reads)

pub returns-in_default-2-2-clause-makes : goal.returns-in_default-2-2-clause-makes
returns-in_default-2-2-clause-makes g c =
    let a = g.H.Host.view c.args.host.now in
    let b = g.H.Host.view c.step.new.host in
    let items = c.args.tasks.now.items in
    let is : position (is_in c.args.table) items ≡ Some c.in-Some.at = sym (c.position_of.ensures ∙ ap (position (is_in c.args.table)) c.deref.ensures.value) ∙ c.in-Some.is in
    let inside = at_inside c.args.table items c.in-Some.at is in
    let r = c.index_mut.result.now in
    let there = slice_get_read items (length items) c.in-Some.at r refl inside c.index_mut.ensures.value in
    let task = c.step.new.self in
    let has : (passed left : Entries) → IsCompacting a r.task passed left → HasPassed b task.compaction task.output c.args.units passed left Running
    = subst (λ (x : Progress). (passed left : Entries) → IsCompacting a r.task passed left → HasPassed b task.compaction task.output c.args.units passed left x) c.in_default-2.is c.in_ok-left.ensures.passed in
    subst (λ (t : ℕ). MakesTaskMoves (step_moves t c.args.units) (λ l ks. advanced t c.args.units l ks) c.args.views.now a b c.args.parts.now c.args.parts.now items (slice_set items c.in-Some.at (stepped r task)) (Ok tt)) (at_table c.args.table items c.in-Some.at r is there)
    (step_goes_on a (g.met.H.Host.sound c.args.host.now) c.args.views.now c.args.parts.now items c.requires.ready c.in-Some.at r there b c.step.ensures.changes task c.step.ensures.same c.in_ok-left.ensures.can c.in_ok-left.ensures.causes.ok c.step.ensures.causes.out
    c.args.units c.requires.some Running has (λ left counts. omega (arith, counts)))

pub returns-in_default-2-2-clause-reads : goal.returns-in_default-2-2-clause-reads
returns-in_default-2-2-clause-reads g c most may =
    let items = c.args.tasks.now.items in
    let is : position (is_in c.args.table) items ≡ Some c.in-Some.at = sym (c.position_of.ensures ∙ ap (position (is_in c.args.table)) c.deref.ensures.value) ∙ c.in-Some.is in
    let r = c.index_mut.result.now in
    let there = slice_get_read items (length items) c.in-Some.at r refl (at_inside c.args.table items c.in-Some.at is) c.index_mut.ensures.value in
    let left = c.in_ok-left.ensures.reads most (all_at (λ (o : RunningTask). o.table ≡ c.args.table → MayReadMore (g.H.Host.view c.args.host.now).files o.task most) c.in-Some.at items r may there (at_table c.args.table items c.in-Some.at r is there)) in
    omega (arith, left.reads)
