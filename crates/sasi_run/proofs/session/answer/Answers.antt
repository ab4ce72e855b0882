use Rattle.std.proofs.Common.{arith, ap, ◌∙◌, inl, refl}
use Rattle.std.proofs.lemmas.Result.{err_from_is_err_and}
use Rattle.sasi_model.specs.Pieces.{piece_of}
use Rattle.sasi_host.proofs.FailingLaws.{told_on}
use Rattle.sasi_run.proofs.Answering.{answers_on, fails_moving, fails_shown, names_served, state_served}
use Rattle.sasi_run.proofs.FailedCalls.{output_stops, output_went, step_stops, step_went}
use Rattle.sasi_run.proofs.session.answer.Goals as goal

pub returns-in_err-outcome-clause-err : goal.returns-in_err-outcome-clause-err
returns-in_err-outcome-clause-err g c =
    let p = err_from_is_err_and c.from_residual.result c.from_residual.ensures.1 in
    rw (p.1, p.2)
    (fails_moving c.in_err-outcome.field-0.0 c.args.session.now (g.H.Host.view c.args.host.now) (g.H.Host.view c.step.new.host)
    (piece_of c.args.end c.args.session.now.splitter.text)
    (record {
      change = c.step.ensures.changes;
      moments = rw c.piece.ensures at c.step.ensures.any_moment;
      spends = rw c.piece.ensures at c.in_err-outcome.ensures.spent;
      undamaged = c.in_err-outcome.ensures.undamaged;
      analyzer = rw c.piece.ensures at c.in_err-outcome.ensures.needed_first;
      lacks = rw c.piece.ensures at c.in_err-outcome.ensures.missing;
    }))

pub returns-in_err-emit_reply-clause-err : goal.returns-in_err-emit_reply-clause-err
returns-in_err-emit_reply-clause-err g c =
    let p = err_from_is_err_and c.from_residual-in_err-emit_reply.result c.from_residual-in_err-emit_reply.ensures.1 in
    rw (p.1, p.2)
    (fails_shown c.args.session.now c.step.new.self (g.H.Host.view c.args.host.now) (g.H.Host.view c.step.new.host) (g.H.Host.view c.emit_reply.new.host)
    (piece_of c.args.end c.args.session.now.splitter.text) c.step.new.reply c.bytes.result.now c.in_ok-outcome.outcome
    (record {
      change = c.step.ensures.changes;
      moments = rw c.piece.ensures at c.step.ensures.any_moment;
      answers = rw c.piece.ensures at c.in_ok-outcome.ensures.answers;
      anywhere = rw c.piece.ensures at c.in_ok-outcome.ensures.everywhere;
      analyzer = rw c.piece.ensures at c.in_ok-outcome.ensures.needed;
    })
    c.bytes.ensures c.emit_reply.ensures.emits c.in_err-emit_reply.ensures.failed_call)

pub returns-clause-ok : goal.returns-clause-ok
returns-clause-ok g c =
    answers_on c.args.session.now c.step.new.self (g.H.Host.view c.args.host.now) (g.H.Host.view c.step.new.host) (g.H.Host.view c.emit_reply.new.host)
    (piece_of c.args.end c.args.session.now.splitter.text) c.step.new.reply c.bytes.result.now c.in_ok-outcome.outcome
    (record {
      change = c.step.ensures.changes;
      moments = rw c.piece.ensures at c.step.ensures.any_moment;
      answers = rw c.piece.ensures at c.in_ok-outcome.ensures.answers;
      anywhere = rw c.piece.ensures at c.in_ok-outcome.ensures.everywhere;
      analyzer = rw c.piece.ensures at c.in_ok-outcome.ensures.needed;
    })
    c.bytes.ensures c.emit_reply.ensures.emits _ refl (omega arith) c.count_refused-session.ensures refl c.in_ok-outcome.ensures.ready
    c.in_ok-emit_reply.ensures.all c.emit_reply.ensures.call

pub returns-in_err-outcome-clause-causes : goal.returns-in_err-outcome-clause-causes
returns-in_err-outcome-clause-causes g c =
    let p = err_from_is_err_and c.from_residual.result c.from_residual.ensures.1 in
    rw (p.1, p.2) (record { ok = tt; stopped = step_stops _ c.in_err-outcome.field-0.0 _ _ c.in_err-outcome.ensures.causes c.in_err-outcome.ensures.damaged })

pub returns-in_err-outcome-clause-told : goal.returns-in_err-outcome-clause-told
returns-in_err-outcome-clause-told g c = c.step.ensures.changes.told

pub returns-in_err-emit_reply-clause-causes : goal.returns-in_err-emit_reply-clause-causes
returns-in_err-emit_reply-clause-causes g c =
    let p = err_from_is_err_and c.from_residual-in_err-emit_reply.result c.from_residual-in_err-emit_reply.ensures.1 in
    rw (p.1, p.2) (record { ok = tt; stopped = output_stops _ _ _ _ (step_went _ _ _ c.in_ok-outcome.ensures.causes) c.in_err-emit_reply.ensures.causes })

pub returns-in_err-emit_reply-clause-told : goal.returns-in_err-emit_reply-clause-told
returns-in_err-emit_reply-clause-told g c = told_on _ _ _ c.step.ensures.changes.told c.emit_reply.ensures.emits.told

pub returns-clause-causes : goal.returns-clause-causes
returns-clause-causes g c = record { ok = output_went _ _ _ _ (step_went _ _ _ c.in_ok-outcome.ensures.causes) c.in_ok-emit_reply.ensures.causes; stopped = tt }

pub returns-clause-told : goal.returns-clause-told
returns-clause-told g c = told_on _ _ _ c.step.ensures.changes.told c.emit_reply.ensures.emits.told

pub returns-in_err-outcome-clause-no_file_call : goal.returns-in_err-outcome-clause-no_file_call
returns-in_err-outcome-clause-no_file_call g c w serves needs =
    let no_file_call = rw c.piece.ensures at c.step.ensures.no_file_call in
    ap (λ h. (g.H.Host.view h).calls) (no_file_call _ _ (names_served _ c.args.session.now.store w serves) (state_served _ c.args.session.now.store w serves) (inl needs))

pub returns-in_err-emit_reply-clause-no_file_call : goal.returns-in_err-emit_reply-clause-no_file_call
returns-in_err-emit_reply-clause-no_file_call g c w serves needs =
    let no_file_call = rw c.piece.ensures at c.step.ensures.no_file_call in
    c.emit_reply.ensures.causes.calls ∙ ap (λ h. (g.H.Host.view h).calls) (no_file_call _ _ (names_served _ c.args.session.now.store w serves) (state_served _ c.args.session.now.store w serves) (inl needs))

pub returns-clause-no_file_call : goal.returns-clause-no_file_call
returns-clause-no_file_call g c w serves needs =
    let no_file_call = rw c.piece.ensures at c.step.ensures.no_file_call in
    c.emit_reply.ensures.causes.calls ∙ ap (λ h. (g.H.Host.view h).calls) (no_file_call _ _ (names_served _ c.args.session.now.store w serves) (state_served _ c.args.session.now.store w serves) (inl needs))
