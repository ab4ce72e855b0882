use Rattle.std.proofs.Common.{refl, arith}
use Rattle.std.proofs.lemmas.Result.{err_from_is_err_and, on_ok_weaker, IfErr-weaker}
use Rattle.sasi_run.specs.declared.session.Session.{Session}
use Rattle.sasi_host.proofs.FailingLaws.{told_none}
use Rattle.sasi_run.proofs.FailedCalls.{none_failed}
use Rattle.sasi_run.proofs.Answering.{feeds_no_end, feeds_answer, stops_before, stops_at}
use Rattle.sasi_run.proofs.session.feed_byte.Goals as goal

pub returns-in_err-end-clause-err : goal.returns-in_err-end-clause-err
returns-in_err-end-clause-err g c =
    let p = err_from_is_err_and c.from_residual.result c.from_residual.ensures.1 in
    rw (p.1, p.2) (stops_before c.args.session.now _ _)

pub returns-in-Some-clause-ok : goal.returns-in-Some-clause-ok
returns-in-Some-clause-ok g c =
    let s = c.args.session.now in
    let stand : Session = record { store = s.store; splitter = c.push.new.self; reply = s.reply; refused = s.refused } in
    on_ok_weaker c.answer.result (feeds_answer s stand refl refl _ _ _ _ _ (rw c.in-Some.is at c.in_ok-end.ensures)) c.answer.ensures.ok

pub returns-in-Some-clause-err : goal.returns-in-Some-clause-err
returns-in-Some-clause-err g c =
    let s = c.args.session.now in
    let stand : Session = record { store = s.store; splitter = c.push.new.self; reply = s.reply; refused = s.refused } in
    IfErr-weaker c.answer.result _ _ (λ stop at. stops_at s stand refl refl stop _ _ _ _ (rw c.in-Some.is at c.in_ok-end.ensures) at)
    c.answer.ensures.err

pub returns-in-None-clause-ok : goal.returns-in-None-clause-ok
returns-in-None-clause-ok g c =
    let s = c.args.session.now in
    let stand : Session = record { store = s.store; splitter = c.push.new.self; reply = s.reply; refused = s.refused } in
    feeds_no_end s stand (g.H.Host.view c.args.host.now) _ c.requires.ready (omega arith) (rw c.in-None.is at c.in_ok-end.ensures) refl refl

pub returns-in_err-end-clause-causes : goal.returns-in_err-end-clause-causes
returns-in_err-end-clause-causes g c =
    let p = err_from_is_err_and c.from_residual.result c.from_residual.ensures.1 in
    rw (p.1, p.2) (record { ok = tt; stopped = none_failed (g.H.Host.view c.args.host.now) })

pub returns-in_err-end-clause-told : goal.returns-in_err-end-clause-told
returns-in_err-end-clause-told g c = told_none (g.H.Host.view c.args.host.now)

pub returns-in-None-clause-causes : goal.returns-in-None-clause-causes
returns-in-None-clause-causes g c = record { ok = none_failed (g.H.Host.view c.args.host.now); stopped = tt }

pub returns-in-None-clause-told : goal.returns-in-None-clause-told
returns-in-None-clause-told g c = told_none (g.H.Host.view c.args.host.now)
