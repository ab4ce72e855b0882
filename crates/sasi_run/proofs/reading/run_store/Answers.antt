use Rattle.sasi_run.proofs.FailedCalls.{calls_behind, closed_nothing, count_reports, counted_calls, nothing_on, unclosed_calls}
use Rattle.sasi_run.proofs.RunsAtEnd.{count_of_store, ends_closed, ends_unclosed}
use Rattle.sasi_run.proofs.reading.run_store.Goals as goal

pub returns-in-Err-clause-runs : goal.returns-in-Err-clause-runs
returns-in-Err-clause-runs g c = rw c.new-session.ensures.store at c.in-Err.ensures.runs

pub returns-in-Ok-finish-clause-runs : goal.returns-in-Ok-finish-clause-runs
returns-in-Ok-finish-clause-runs g c =
    rw (c.end_status.ensures, ← c.new-session.ensures.store)
    (ends_closed c.new-session.result c.run_script.new.session (g.S.Source.view c.args.script.now).left (g.S.Source.view c.run_script.new.script).left
    (g.H.Host.view c.args.host.now) (g.H.Host.view c.run_script.new.host) (g.H.Host.view c.finish.new.host) c.new-session.ensures.fresh c.in-Ok.ensures.ran
    c.finish.ensures.changes.emitted c.finish.ensures.changes.emits
    (rw c.into_store.ensures at c.finish.ensures.any_moment) (rw c.into_store.ensures at c.in-Ok-finish.ensures.ends))

pub returns-in-Err-finish-clause-runs : goal.returns-in-Err-finish-clause-runs
returns-in-Err-finish-clause-runs g c =
    rw (← c.new-session.ensures.store)
    (ends_unclosed c.new-session.result c.run_script.new.session (g.S.Source.view c.args.script.now).left (g.S.Source.view c.run_script.new.script).left
    (g.H.Host.view c.args.host.now) (g.H.Host.view c.run_script.new.host) (g.H.Host.view c.finish.new.host) c.new-session.ensures.fresh c.in-Ok.ensures.ran
    c.finish.ensures.changes.emitted c.finish.ensures.changes.emits
    (rw c.into_store.ensures at c.finish.ensures.any_moment))

pub returns-in-Ok-finish-clause-calls : goal.returns-in-Ok-finish-clause-calls
returns-in-Ok-finish-clause-calls g c =
    let script = g.S.Source.view c.run_script.new.script in
    let told = c.finish.ensures.changes.told in
    rw c.end_status.ensures
    (counted_calls _ _ _ _ _
    (nothing_on _ script script _ (g.H.Host.view c.run_script.new.host) _ c.in-Ok.ensures.unfailed
    (closed_nothing _ script _ _ c.in-Ok-finish.ensures.causes told)))

pub returns-in-Err-finish-clause-calls : goal.returns-in-Err-finish-clause-calls
returns-in-Err-finish-clause-calls g c =
    let script = g.S.Source.view c.run_script.new.script in
    let told = c.finish.ensures.changes.told in
    calls_behind _ _ script script _ (g.H.Host.view c.run_script.new.host) _ c.in-Ok.ensures.unfailed
    (unclosed_calls _ script _ _ c.in-Err-finish.ensures.causes told)

pub returns-in-Ok-finish-clause-damage : goal.returns-in-Ok-finish-clause-damage
returns-in-Ok-finish-clause-damage g c = rw c.end_status.ensures (count_reports c.run_script.new.session.refused (g.H.Host.view c.finish.new.host))

pub returns-in-Err-finish-clause-damage : goal.returns-in-Err-finish-clause-damage
returns-in-Err-finish-clause-damage g c = λ damage is. cc

pub returns-in-Ok-finish-clause-of_store : goal.returns-in-Ok-finish-clause-of_store
returns-in-Ok-finish-clause-of_store g c = rw c.end_status.ensures (count_of_store c.run_script.new.session.refused)
