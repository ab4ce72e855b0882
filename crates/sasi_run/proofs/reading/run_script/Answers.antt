use Rattle.std.proofs.Common.{arith, refl, [], ap, Err, ◌∙◌}
use Rattle.sasi_run.proofs.ConsumedBytes.{consumes_nothing}
use Rattle.sasi_run.proofs.RunsAtEnd.{end_of_store, ended_same, ends_at_read, ends_beyond, ends_last, ends_script, fails_same, finishes_same, reads_same, safe_behind_read, starts_on, stop_of_store}
use Rattle.sasi_run.specs.declared.status.Status.TheVariants.{ScriptTooLong}
use Rattle.sasi_run.proofs.FailedCalls.{calls_behind, nothing_failed, nothing_of_host, nothing_on, stop_calls, stop_reports, unfailed_calls}
use Rattle.sasi_run.proofs.reading.run_script.Goals as goal

pub reads-init : goal.reads-init
reads-init g c = record {
  crash_safe = starts_on c.args.session.now (g.S.Source.view c.args.script.now).left (g.H.Host.view c.args.host.now) c.requires.ready (omega arith);
  few = omega arith;
  unfailed = nothing_failed (g.S.Source.view c.args.script.now) (g.H.Host.view c.args.host.now);
  known = c.requires.classes;
  kinds = refl;
}

pub returns-in-Err-clause-runs : goal.returns-in-Err-clause-runs
returns-in-Err-clause-runs g c =
    ends_at_read c.in-Err.status c.args.session.now c.reads.session _ _ _ _ _ _ _ _ c.requires.fresh c.reads.invariant.crash_safe c.reads.invariant.few
    (ended_same c.reads.invariant.kinds c.in-Err.ensures.err) (λ is. ap (λ h. g.H.Host.view h) (c.read_once.ensures.unread (c.in-Err.is ∙ ap (λ s. Err s) is)))

pub returns-in-Err-clause-calls : goal.returns-in-Err-clause-calls
returns-in-Err-clause-calls g c = calls_behind c.in-Err.status _ _ _ _ _ _ c.reads.invariant.unfailed c.in-Err.ensures.calls

pub returns-in-Err-clause-damage : goal.returns-in-Err-clause-damage
returns-in-Err-clause-damage g c = c.in-Err.ensures.damage

pub returns-in-Err-clause-of_store : goal.returns-in-Err-clause-of_store
returns-in-Err-clause-of_store g c = end_of_store c.in-Err.status c.reads.session _ _ _ _ _ c.in-Err.ensures.err

pub returns-in-Ok-finish-clause-ran : goal.returns-in-Ok-finish-clause-ran
returns-in-Ok-finish-clause-ran g c =
    let read = reads_same c.reads.invariant.kinds c.in-Ok.ensures.ok in
    let on = safe_behind_read c.args.session.now c.reads.session c.read_once.new.session _ _ _ _ _ _ c.reads.taken _ c.in-Ok.count c.reads.invariant.crash_safe
    read (omega (arith, c.if-count-eq0.true)) in
    ends_script c.args.session.now c.read_once.new.session c.finish.new.session _ _ _ _ _ _ _ [] c.requires.fresh on
    (omega (arith, c.if-count-eq0.true, c.reads.invariant.few)) (consumes_nothing _) refl (read.at_end (omega (arith, c.if-count-eq0.true)))
    (finishes_same (c.read_once.ensures.kinds ∙ c.reads.invariant.kinds) c.in-Ok-finish.ensures.ok)

pub returns-in-Ok-finish-clause-unfailed : goal.returns-in-Ok-finish-clause-unfailed
returns-in-Ok-finish-clause-unfailed g c =
    let start = g.H.Host.view c.args.host.now in
    let read = g.H.Host.view c.read_once.new.host in
    let script = g.S.Source.view c.read_once.new.script in
    let behind = nothing_on _ _ _ start _ read c.reads.invariant.unfailed c.in-Ok.ensures.unfailed in
    nothing_on _ _ script start read _ behind (nothing_of_host script read _ c.in-Ok-finish.ensures.causes.ok c.finish.ensures.told)

pub returns-in-Err-finish-clause-runs : goal.returns-in-Err-finish-clause-runs
returns-in-Err-finish-clause-runs g c =
    let read = reads_same c.reads.invariant.kinds c.in-Ok.ensures.ok in
    let on = safe_behind_read c.args.session.now c.reads.session c.read_once.new.session _ _ _ _ _ _ c.reads.taken _ c.in-Ok.count c.reads.invariant.crash_safe
    read (omega (arith, c.if-count-eq0.true)) in
    rw c.stop_status.ensures
    (ends_last _ c.args.session.now c.read_once.new.session _ _ _ _ _ _ _ [] c.requires.fresh on
    (omega (arith, c.if-count-eq0.true, c.reads.invariant.few)) (consumes_nothing _) refl (read.at_end (omega (arith, c.if-count-eq0.true)))
    (fails_same (c.read_once.ensures.kinds ∙ c.reads.invariant.kinds) c.in-Err-finish.ensures.err))

pub returns-in-Err-finish-clause-calls : goal.returns-in-Err-finish-clause-calls
returns-in-Err-finish-clause-calls g c =
    let start = g.H.Host.view c.args.host.now in
    let read = g.H.Host.view c.read_once.new.host in
    let script = g.S.Source.view c.read_once.new.script in
    let behind = nothing_on _ _ _ start _ read c.reads.invariant.unfailed c.in-Ok.ensures.unfailed in
    rw c.stop_status.ensures
    (calls_behind _ _ script script start read _ behind (stop_calls c.in-Err-finish.stop script read _ c.in-Err-finish.ensures.causes.stopped c.finish.ensures.told))

pub returns-in-Err-finish-clause-damage : goal.returns-in-Err-finish-clause-damage
returns-in-Err-finish-clause-damage g c =
    rw c.stop_status.ensures (stop_reports c.in-Err-finish.stop _ _ c.in-Err-finish.ensures.causes.stopped)

pub returns-in-Err-finish-clause-of_store : goal.returns-in-Err-finish-clause-of_store
returns-in-Err-finish-clause-of_store g c = rw c.stop_status.ensures (stop_of_store c.in-Err-finish.stop)

pub returns-then-count-room-clause-runs : goal.returns-then-count-room-clause-runs
returns-then-count-room-clause-runs g c =
    ends_beyond c.args.session.now c.reads.session c.read_once.new.session _ _ _ _ _ _ c.reads.taken _ c.in-Ok.count c.requires.fresh
    c.reads.invariant.crash_safe (omega (arith, c.reads.invariant.few))
    (reads_same c.reads.invariant.kinds c.in-Ok.ensures.ok)
    (omega (arith, c.if-count-room.true))

pub returns-then-count-room-clause-calls : goal.returns-then-count-room-clause-calls
returns-then-count-room-clause-calls g c =
    unfailed_calls ScriptTooLong _ _ _ _ (λ is. cc) (λ is. cc) (λ is. cc)
    (nothing_on _ _ _ _ _ _ c.reads.invariant.unfailed c.in-Ok.ensures.unfailed)

pub returns-then-count-room-clause-damage : goal.returns-then-count-room-clause-damage
returns-then-count-room-clause-damage g c = λ damage is. cc

pub reads-preserved : goal.reads-preserved
reads-preserved g c = record {
  crash_safe = safe_behind_read c.args.session.now c.reads.session c.read_once.new.session _ _ _ _ _ _ c.reads.taken _ c.in-Ok.count c.reads.invariant.crash_safe
      (reads_same c.reads.invariant.kinds c.in-Ok.ensures.ok) (omega (arith, c.if-count-room.false));
  few = omega (arith, c.if-count-room.false);
  unfailed = nothing_on _ _ _ _ _ _ c.reads.invariant.unfailed c.in-Ok.ensures.unfailed;
  known = c.in-Ok.ensures.classes;
  kinds = c.read_once.ensures.kinds ∙ c.reads.invariant.kinds;
}
