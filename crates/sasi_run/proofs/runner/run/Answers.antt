use Rattle.std.proofs.Common.{List, map, subst}
use Rattle.std.specs.Prelude.{string_bytes}
use Rattle.sasi_types.specs.declared.class.Class.{Class}
use Rattle.sasi_run.specs.Causes.{RunCauses}
use Rattle.sasi_store.specs.declared.store.Store.{Store}
use Rattle.sasi_run.proofs.Causes.{causes_opened, causes_unopened, causes_unused}
use Rattle.sasi_run.proofs.FailedCalls.{calls_behind, opened_calls, unopened_calls}
use Rattle.sasi_run.proofs.RunParts.{unmoved}
use Rattle.sasi_run.proofs.WholeRun.{headline_of, shapes_of, whole_opened, whole_unopened, whole_unused}
use Rattle.sasi_run.proofs.runner.run.Goals as goal

pub returns-in-None-clause-headline : goal.returns-in-None-clause-headline
returns-in-None-clause-headline g c = headline_of _ _ _ _ _ _ (whole_unused _ (g.S.Source.view c.args.script.now) (g.H.Host.view c.args.host.now) (g.met.H.Host.sound c.args.host.now))

pub returns-in-None-clause-shapes : goal.returns-in-None-clause-shapes
returns-in-None-clause-shapes g c = shapes_of _ _ _ _ _ _ (whole_unused _ (g.S.Source.view c.args.script.now) (g.H.Host.view c.args.host.now) (g.met.H.Host.sound c.args.host.now))

pub returns-in-None-clause-causes : goal.returns-in-None-clause-causes
returns-in-None-clause-causes g c = causes_unused _ _ (g.S.Source.view c.args.script.now) (g.H.Host.view c.args.host.now) c.in-None.ensures.none

pub returns-in-Err-clause-headline : goal.returns-in-Err-clause-headline
returns-in-Err-clause-headline g c =
    let start = g.H.Host.view c.args.host.now in
    let later = g.H.Host.view c.open.new.host in
    rw c.fault_status.ensures
    (headline_of _ _ _ _ _ _ (whole_unopened _ c.in-Err.fault (g.S.Source.view c.args.script.now) start later (g.met.H.Host.sound c.args.host.now)
    (unmoved start later c.open.ensures.safe.changes.emitted) (rw c.in-Some.ensures.asked at c.open.ensures.safe.any_moment)))

pub returns-in-Err-clause-shapes : goal.returns-in-Err-clause-shapes
returns-in-Err-clause-shapes g c =
    let start = g.H.Host.view c.args.host.now in
    let later = g.H.Host.view c.open.new.host in
    rw c.fault_status.ensures
    (shapes_of _ _ _ _ _ _ (whole_unopened _ c.in-Err.fault (g.S.Source.view c.args.script.now) start later (g.met.H.Host.sound c.args.host.now)
    (unmoved start later c.open.ensures.safe.changes.emitted) (rw c.in-Some.ensures.asked at c.open.ensures.safe.any_moment)))

pub returns-in-Err-clause-causes : goal.returns-in-Err-clause-causes
returns-in-Err-clause-causes g c =
    let start = g.H.Host.view c.args.host.now in
    let later = g.H.Host.view c.open.new.host in
    let script = g.S.Source.view c.args.script.now in
    subst (λ (kinds : List Class). RunCauses (map (λ w. string_bytes w) c.args.words.now) kinds c.fault_status.result script script start later) c.new-kit.ensures.classes
    (rw c.fault_status.ensures (causes_unopened Store _ _ (g.S.Source.view c.args.script.now) start later (c.in-Some.command, c.in-Some.ensures.some) c.in-Err.fault
    (record {
      silent = c.open.ensures.safe.changes.emitted;
      none_out = c.open.ensures.safe.changes.emits;
      calls = unopened_calls c.in-Err.fault (g.S.Source.view c.args.script.now) _ _ c.in-Err.ensures.causes c.open.ensures.safe.changes.told;
      shows = c.in-Err.ensures.reports.damaged;
      undamaged = rw c.in-Some.ensures.asked at c.in-Err.ensures.reports.undamaged;
      tells = rw c.in-Some.ensures.asked at c.in-Err.ensures.reports.differs;
      kept = c.open.ensures.safe.kept;
      foreign = c.open.ensures.safe.foreign;
      untouched = c.in-Err.ensures.untouched;
      differs = rw c.in-Some.ensures.asked at c.in-Err.ensures.reports.differs_only;
      unopened = c.in-Err.ensures.unopened;
      lacks = c.in-Err.ensures.reports.lacks;
      lacks_only = c.in-Err.ensures.reports.lacks_only;
    })))

pub returns-clause-headline : goal.returns-clause-headline
returns-clause-headline g c =
    headline_of _ _ _ _ _ _ (
    whole_opened _ c.run_store.result (g.S.Source.view c.args.script.now) (g.S.Source.view c.run_store.new.script) (g.H.Host.view c.args.host.now)
    (g.H.Host.view c.open.new.host) (g.H.Host.view c.run_store.new.host) c.in-Ok.store c.in-Ok.ensures.state.0 (record { known = c.in-Ok.ensures.state.1; cursors = c.in-Ok.ensures.no_cursors }) (g.met.H.Host.sound c.args.host.now)
    (g.met.H.Host.sound c.run_store.new.host) c.open.ensures.safe.changes.emitted (rw c.in-Some.ensures.asked at c.open.ensures.safe.any_moment)
    (rw c.in-Some.ensures.asked at c.in-Ok.ensures.serves) c.run_store.ensures.runs)

pub returns-clause-shapes : goal.returns-clause-shapes
returns-clause-shapes g c =
    shapes_of _ _ _ _ _ _ (
    whole_opened _ c.run_store.result (g.S.Source.view c.args.script.now) (g.S.Source.view c.run_store.new.script) (g.H.Host.view c.args.host.now)
    (g.H.Host.view c.open.new.host) (g.H.Host.view c.run_store.new.host) c.in-Ok.store c.in-Ok.ensures.state.0 (record { known = c.in-Ok.ensures.state.1; cursors = c.in-Ok.ensures.no_cursors }) (g.met.H.Host.sound c.args.host.now)
    (g.met.H.Host.sound c.run_store.new.host) c.open.ensures.safe.changes.emitted (rw c.in-Some.ensures.asked at c.open.ensures.safe.any_moment)
    (rw c.in-Some.ensures.asked at c.in-Ok.ensures.serves) c.run_store.ensures.runs)

pub returns-clause-causes : goal.returns-clause-causes
returns-clause-causes g c =
    let start = g.H.Host.view c.args.host.now in
    let script = g.S.Source.view c.args.script.now in
    subst (λ (kinds : List Class). RunCauses (map (λ w. string_bytes w) c.args.words.now) kinds c.run_store.result script (g.S.Source.view c.run_store.new.script) start (g.H.Host.view c.run_store.new.host)) c.new-kit.ensures.classes
    (causes_opened _ c.run_store.result script (g.S.Source.view c.run_store.new.script) start (g.H.Host.view c.open.new.host)
    (g.H.Host.view c.run_store.new.host) c.in-Ok.store (c.in-Some.command, c.in-Some.ensures.some)
    (record {
      state = (c.in-Ok.ensures.state.0, record { known = c.in-Ok.ensures.state.1; cursors = c.in-Ok.ensures.no_cursors });
      silent = c.open.ensures.safe.changes.emitted;
      none_out = c.open.ensures.safe.changes.emits;
      opens = c.in-Ok.ensures.opens;
      serves = rw c.in-Some.ensures.asked at c.in-Ok.ensures.serves;
      agrees = rw c.in-Some.ensures.asked at c.in-Ok.ensures.reports.differs;
      complete = c.in-Ok.ensures.reports.lacks;
    })
    (rw c.open.ensures.kinds at c.run_store.ensures.runs)
    (calls_behind c.run_store.result script script _ _ (g.H.Host.view c.open.new.host) _
    (opened_calls c.in-Ok.store script _ _ c.in-Ok.ensures.causes c.open.ensures.safe.changes.told) c.run_store.ensures.calls)
    c.run_store.ensures.damage c.run_store.ensures.of_store)
