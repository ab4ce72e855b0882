use Rattle.std.proofs.Common.{sym, ◌∙◌}
use Rattle.sasi_machine.proofs.MachineTurns.{both_ok, closed_none, closed_turn}
use Rattle.sasi_machine.proofs.printed_cursors.close.Goals as goal

pub returns-then-not-has-clause-session : goal.returns-then-not-has-clause-session
returns-then-not-has-clause-session c =
    both_ok _ _ _ c.reply_refusal.result
    (λ outcome reply_is outcome_is s piece prepares. closed_none s piece c.args.cursors.now c.args.reply.now c.reply_refusal.new.reply outcome c.args.cursor prepares (sym c.has.ensures.found ∙ c.if-not-has.true)
    reply_is outcome_is)
    c.reply_refusal.ensures.reply c.reply_refusal.ensures.outcome

pub returns-clause-session : goal.returns-clause-session
returns-clause-session c =
    λ s piece prepares. closed_turn s piece c.args.cursors.now c.remove.new.self c.args.reply.now c.ok.new.reply c.args.cursor prepares c.has.ensures.once (sym c.has.ensures.found ∙ c.if-not-has.false)
    c.remove.ensures.rest c.in_ok-ok.ensures.ok
