use Rattle.std.proofs.Common.{ap, arith, refl}
use Rattle.std.proofs.lemmas.Result.{on_ok_weaker, IfErr-weaker}
use Rattle.sasi_model.specs.Pieces.{Pieces}
use Rattle.sasi_run.specs.declared.session.Session.{Session}
use Rattle.sasi_host.proofs.FailingLaws.{told_none}
use Rattle.sasi_run.proofs.FailedCalls.{none_failed}
use Rattle.sasi_run.proofs.Answering.{fails_last, finishes_answer, finishes_nothing}
use Rattle.sasi_run.proofs.session.finish.Goals as goal

pub returns-in-None-clause-ok : goal.returns-in-None-clause-ok
returns-in-None-clause-ok g c =
    let s = c.args.session.now in
    let stand : Session = record { store = s.store; splitter = c.end.new.self; reply = s.reply; refused = s.refused } in
    finishes_nothing s stand _ (ap (λ (p : Pieces). p.last) c.in-None.ensures) refl refl (omega arith) c.requires.ready

pub returns-in-Some-clause-ok : goal.returns-in-Some-clause-ok
returns-in-Some-clause-ok g c =
    let s = c.args.session.now in
    let stand : Session = record { store = s.store; splitter = c.end.new.self; reply = s.reply; refused = s.refused } in
    on_ok_weaker c.answer.result
    (finishes_answer s stand refl refl c.answer.new.session _ _ _ (ap (λ (p : Pieces). p.last) c.in-Some.ensures)) c.answer.ensures.ok

pub returns-in-Some-clause-err : goal.returns-in-Some-clause-err
returns-in-Some-clause-err g c =
    let s = c.args.session.now in
    let stand : Session = record { store = s.store; splitter = c.end.new.self; reply = s.reply; refused = s.refused } in
    IfErr-weaker c.answer.result _ _ (λ stop at. fails_last s stand refl refl stop _ _ _ (ap (λ (p : Pieces). p.last) c.in-Some.ensures) at) c.answer.ensures.err

pub returns-in-None-clause-causes : goal.returns-in-None-clause-causes
returns-in-None-clause-causes g c = record { ok = none_failed (g.H.Host.view c.args.host.now); stopped = tt }

pub returns-in-None-clause-told : goal.returns-in-None-clause-told
returns-in-None-clause-told g c = told_none (g.H.Host.view c.args.host.now)
