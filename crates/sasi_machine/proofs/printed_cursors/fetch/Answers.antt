use Rattle.std.proofs.Common.{ap, sym, ◌∙◌}
use Rattle.std.proofs.lemmas.Map.Steps.{set_value_same}
use Rattle.sasi_cursors.specs.Cursors.{with_cursor}
use Rattle.sasi_types.specs.Key.{key_eq}
use Rattle.sasi_machine.proofs.MachineTurns.{both_ok, err_any, fetched_none, fetched_turn}
use Rattle.sasi_machine.proofs.printed_cursors.fetch.Goals as goal

pub returns-in_default-clause-session : goal.returns-in_default-clause-session
returns-in_default-clause-session c =
    both_ok _ _ _ c.reply_refusal.result
    (λ outcome reply_is outcome_is s piece prepares. fetched_none s piece c.args.cursors.now c.args.reply.now c.reply_refusal.new.reply outcome c.args.asked prepares c.in_default.ensures.value reply_is outcome_is)
    c.reply_refusal.ensures.reply c.reply_refusal.ensures.outcome

pub returns-clause-session : goal.returns-clause-session
returns-clause-session c =
    λ s piece prepares. fetched_turn s piece c.args.cursors.now c.args.reply.now c.fetch.new.reply c.args.asked c.in-Some.rows.now _ prepares c.in-Some.ensures.once c.in-Some.ensures.value
    c.in_ok-fetch.ensures.rest c.in_ok-fetch.ensures.printed

pub returns-in_err-fetch-clause-err : goal.returns-in_err-fetch-clause-err
returns-in_err-fetch-clause-err c =
    let name = c.args.asked.cursor in
    err_any _ c.from_residual.result (ap (with_cursor name c.args.cursors.now) c.in_err-fetch.ensures.unchanged ∙ set_value_same (key_eq name) c.args.cursors.now c.in-Some.rows.now (sym c.in-Some.ensures.value))
