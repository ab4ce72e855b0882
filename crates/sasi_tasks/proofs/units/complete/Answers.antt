use Rattle.std.proofs.Common.{◌≡◌, ◌∙◌, ℕ, Some, ap, length, refl, subst, sym, arith}
use Rattle.std.specs.List.{position}
use Rattle.std.proofs.lemmas.Option.{slice_get_read}
use Rattle.std.proofs.lemmas.Result.{err_from_is_err_and}
use Rattle.sasi_tables.proofs.TablesInMemory.{all_at}
use Rattle.sasi_tasks.proofs.StepAll.{all_ended, at_inside, at_table, no_end, set_there}
use Rattle.sasi_tasks.proofs.StepMakes.{step_stopped}
use Rattle.sasi_tasks.proofs.StepReady.{goes_on_stepped}
use Rattle.sasi_tasks.proofs.SteppedTasks.{stepped}
use Rattle.sasi_tasks.proofs.TaskPositions.{is_in}
use Rattle.sasi_tasks.specs.MakesTaskMoves.{MakesTaskMoves}
use Rattle.sasi_tasks.specs.Running.{IsTaskReady}
use Rattle.sasi_tasks.specs.Tasks.{end_moves, without}
use Rattle.sasi_tasks.proofs.units.complete.Goals as goal

pub returns-in_default-clause-makes : goal.returns-in_default-clause-makes
returns-in_default-clause-makes g c = no_end c.args.views.now (g.H.Host.view c.args.host.now) (g.met.H.Host.sound c.args.host.now) c.args.parts.now c.args.tasks.now.items c.requires.ready c.args.table
    (sym (c.position_of.ensures ∙ ap (position (is_in c.args.table)) c.deref.ensures.value) ∙ c.in_default.is)

pub index_mut-requires : goal.index_mut-requires
index_mut-requires g c =
    let inside = at_inside c.args.table c.args.tasks.now.items c.in-Some.at (sym (c.position_of.ensures ∙ ap (position (is_in c.args.table)) c.deref.ensures.value) ∙ c.in-Some.is) in
    omega (arith, inside, c.args.tasks.now.ok.0)

pub pass_all-requires : goal.pass_all-requires
pass_all-requires g c =
    let items = c.args.tasks.now.items in
    let inside = at_inside c.args.table items c.in-Some.at (sym (c.position_of.ensures ∙ ap (position (is_in c.args.table)) c.deref.ensures.value) ∙ c.in-Some.is) in
    let r = c.index_mut.result.now in
    let there = slice_get_read items (length items) c.in-Some.at r refl inside c.index_mut.ensures.value in
    record { can = (all_at (IsTaskReady (g.H.Host.view c.args.host.now) c.args.parts.now) c.in-Some.at items r c.requires.ready.ready.each there).can }

pub returns-in_err-pass_all-clause-makes : goal.returns-in_err-pass_all-clause-makes
returns-in_err-pass_all-clause-makes g c =
    let items = c.args.tasks.now.items in
    let inside = at_inside c.args.table items c.in-Some.at (sym (c.position_of.ensures ∙ ap (position (is_in c.args.table)) c.deref.ensures.value) ∙ c.in-Some.is) in
    let r = c.index_mut.result.now in
    let there = slice_get_read items (length items) c.in-Some.at r refl inside c.index_mut.ensures.value in
    let q = err_from_is_err_and c.from_residual.result c.from_residual.ensures.1 in
    rw (q.1, q.2)
    (step_stopped (g.H.Host.view c.args.host.now) (g.met.H.Host.sound c.args.host.now) c.args.views.now c.args.parts.now items c.requires.ready c.in-Some.at r there (g.H.Host.view c.pass_all.new.host) c.pass_all.ensures.changes
    c.in_err-pass_all.field-0.0 c.in_err-pass_all.ensures.damaged (λ l ks. end_moves c.args.table ks) (λ l ks. without c.args.table ks) _ _ c.in_err-pass_all.ensures.undamaged c.in_err-pass_all.ensures.causes c.requires.classes)

pub end-requires-clause-ready : goal.end-requires-clause-ready
end-requires-clause-ready g c =
    let items = c.args.tasks.now.items in
    let inside = at_inside c.args.table items c.in-Some.at (sym (c.position_of.ensures ∙ ap (position (is_in c.args.table)) c.deref.ensures.value) ∙ c.in-Some.is) in
    let r = c.index_mut.result.now in
    let there = slice_get_read items (length items) c.in-Some.at r refl inside c.index_mut.ensures.value in
    goes_on_stepped (g.H.Host.view c.args.host.now) c.args.views.now c.args.parts.now items c.requires.ready c.in-Some.at r there (g.H.Host.view c.pass_all.new.host) c.pass_all.ensures.changes c.pass_all.new.task c.pass_all.ensures.same c.in_ok-pass_all.ensures.can

pub end-requires-clause-passed : goal.end-requires-clause-passed
end-requires-clause-passed g c =
    let inside = at_inside c.args.table c.args.tasks.now.items c.in-Some.at (sym (c.position_of.ensures ∙ ap (position (is_in c.args.table)) c.deref.ensures.value) ∙ c.in-Some.is) in
    let now = stepped c.index_mut.result.now c.pass_all.new.task in
    (now, set_there c.args.tasks.now.items c.in-Some.at now inside, c.in_ok-pass_all.ensures.ready)

pub returns-clause-makes : goal.returns-clause-makes
returns-clause-makes g c =
    let items = c.args.tasks.now.items in
    let is : position (is_in c.args.table) items ≡ Some c.in-Some.at = sym (c.position_of.ensures ∙ ap (position (is_in c.args.table)) c.deref.ensures.value) ∙ c.in-Some.is in
    let inside = at_inside c.args.table items c.in-Some.at is in
    let r = c.index_mut.result.now in
    let there = slice_get_read items (length items) c.in-Some.at r refl inside c.index_mut.ensures.value in
    let now = stepped r c.pass_all.new.task in
    subst (λ (t : ℕ). MakesTaskMoves (λ l ks. end_moves t ks) (λ l ks. without t ks) c.args.views.now (g.H.Host.view c.args.host.now) (g.H.Host.view c.end.new.host) c.args.parts.now c.end.new.parts items c.end.new.tasks.items c.end.result) (at_table c.args.table items c.in-Some.at r is there)
    (all_ended (g.H.Host.view c.args.host.now) (g.met.H.Host.sound c.args.host.now) c.args.views.now c.args.parts.now items c.requires.ready c.in-Some.at r there (g.H.Host.view c.pass_all.new.host) c.pass_all.ensures.changes c.pass_all.new.task c.pass_all.ensures.same
    c.in_ok-pass_all.ensures.can c.in_ok-pass_all.ensures.causes.ok c.pass_all.ensures.causes.out c.in_ok-pass_all.ensures.passed (g.H.Host.view c.end.new.host) c.end.new.parts c.end.new.tasks.items c.end.result
    (c.end.ensures.makes now (set_there items c.in-Some.at now inside)))
