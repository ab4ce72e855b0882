use Rattle.std.proofs.Common.{ℕ, false, List, [], ap, map, refl, subst, sym}
use Rattle.std.specs.List.{AllByRecursion}
use Rattle.std.proofs.lemmas.Result.{err_from_is_err_and}
use Rattle.sasi_layout.specs.Classes.{KnowsClasses}
use Rattle.sasi_layout.specs.Kept.{nothing}
use Rattle.sasi_layout.specs.Serving.{CanChange, HasExactlyBeside, Serves, StoreInMemory, known_in_memory}
use Rattle.sasi_machine.specs.Prepares.{IsStateOf}
use Rattle.sasi_model.specs.Sessions.{new_session}
use Rattle.sasi_model.specs.State.{State}
use Rattle.sasi_recover.specs.OpenedFolder.{opened_store}
use Rattle.sasi_recheck.specs.Rows.{KnowsWhere}
use Rattle.sasi_tasks.specs.Running.{AreTasksOf, KnowsTasks}
use Rattle.sasi_tasks.specs.declared.running.RunningTask.{RunningTask}
use Rattle.sasi_store.specs.Cursors.{AreCursorsOf, Opened, views_told}
use Rattle.sasi_store.specs.declared.session_state.OpenCursor.{OpenCursor}
use Rattle.sasi_store.proofs.KeptCursors.{new_cursors}
use Rattle.sasi_store.proofs.NewStore.{new_goes_on}
use Rattle.sasi_store.proofs.Known.{opened_state, reports_on}
use Rattle.sasi_store.proofs.store.Store.open.Goals as goal

pub returns-in_err-opened-clause-reports : goal.returns-in_err-opened-clause-reports
returns-in_err-opened-clause-reports g c =
    let p = err_from_is_err_and c.from_residual.result c.from_residual.ensures.1 in
    rw (p.1, p.2) (reports_on c.args.asked (map (λ b. (goal.Analyzer-dyn g (b.vtable, b.value)).kind b.value) c.args.kit.now.objects.items) (g.H.Host.view c.args.host.now) c.in_err-opened.field-0.0 c.in_err-opened.ensures.reports)

pub returns-clause-ready : goal.returns-clause-ready
returns-clause-ready g c =
    let v = g.H.Host.view c.open.new.host in
    record {
      goes_on = new_goes_on c.new-views.result c.new-views.ensures v c.in-Ok.parts c.new-tasks.result.items c.new-tasks.ensures.items (subst (CanChange v) (sym c.in-Ok.ensures.memory) c.in_ok-opened.ensures.ready) c.in-Ok.ensures.parts
          (subst (HasExactlyBeside v nothing) (sym c.in-Ok.ensures.memory) c.in_ok-opened.ensures.exactly);
      usable = refl;
      cursors = new_cursors v.files c.in-Ok.parts (record { trace = false; views = c.new-views.result; cursors = c.new-cursors.result; tasks = c.new-tasks.result }) c.new-cursors.ensures c.new-views.ensures;
    }

pub returns-clause-serves : goal.returns-clause-serves
returns-clause-serves g c folder l files shape =
    record {
      serves = subst (λ (s : StoreInMemory). Serves (g.H.Host.view c.open.new.host) s l) (sym c.in-Ok.ensures.memory) (c.in_ok-opened.ensures.serves folder l files shape);
      trace_is = refl;
      cursors_are = subst (λ (es : Opened). AreCursorsOf (g.H.Host.view c.open.new.host).files c.in-Ok.parts.maps es new_session) (sym c.new-cursors.ensures) tt;
      views_are = sym (ap views_told c.new-cursors.ensures);
      tasks_are = subst (λ (rs : List RunningTask). AreTasksOf (g.H.Host.view c.open.new.host) l rs []) (sym c.new-tasks.ensures.items) tt;
    }

pub returns-clause-no_cursors : goal.returns-clause-no_cursors
returns-clause-no_cursors g c = ap (λ (es : Opened). map (λ (e : List ℕ × OpenCursor). e.0) es) c.new-cursors.ensures

pub returns-clause-state : goal.returns-clause-state
returns-clause-state g c =
    subst (λ (h : StoreInMemory). (s : State) × IsStateOf (known_in_memory h) s) (sym c.in-Ok.ensures.memory) (opened_state (opened_store c.in_ok-opened.opened) c.in_ok-opened.ensures.timed)

pub returns-in_err-opened-clause-untouched : goal.returns-in_err-opened-clause-untouched
returns-in_err-opened-clause-untouched g c =
    let p = err_from_is_err_and c.from_residual.result c.from_residual.ensures.1 in
    rw (p.1, p.2) c.in_err-opened.ensures.untouched

pub returns-in_err-opened-clause-unopened : goal.returns-in_err-opened-clause-unopened
returns-in_err-opened-clause-unopened g c =
    let p = err_from_is_err_and c.from_residual.result c.from_residual.ensures.1 in
    rw (p.1, p.2) c.in_err-opened.ensures.unopened

pub returns-clause-classes : goal.returns-clause-classes
returns-clause-classes g c =
    let kinds = map (λ b. (goal.Analyzer-dyn g (b.vtable, b.value)).kind b.value) c.args.kit.now.objects.items in
    record {
      tables = subst (KnowsClasses kinds) (sym c.in-Ok.ensures.memory) c.in_ok-opened.ensures.classes;
      cursors = subst (AllByRecursion (λ (e : List ℕ × OpenCursor). KnowsWhere kinds e.1.rows.reader.rows.filter)) (sym c.new-cursors.ensures) tt;
      tasks = subst (KnowsTasks kinds) (sym c.new-tasks.ensures.items) tt;
    }

pub returns-in_err-opened-clause-absent : goal.returns-in_err-opened-clause-absent
returns-in_err-opened-clause-absent g c =
    let p = err_from_is_err_and c.from_residual.result c.from_residual.ensures.1 in
    rw (p.1, p.2) c.in_err-opened.ensures.absent
