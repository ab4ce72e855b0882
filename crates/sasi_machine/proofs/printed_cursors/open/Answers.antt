use Rattle.std.proofs.Common.{refl, sym, subst}
use Rattle.std.specs.Map.{keys_of}
use Rattle.sasi_machine.specs.Prepares.{HasRows}
use Rattle.sasi_machine.specs.Refusal.{refusal_of}
use Rattle.sasi_machine.proofs.CursorTurns.{has_rows, name_free}
use Rattle.sasi_machine.proofs.MachineTurns.{opened_none, opened_turn}
use Rattle.sasi_machine.proofs.printed_cursors.open.Goals as goal

pub open_free-requires-clause-rows : goal.open_free-requires-clause-rows
open_free-requires-clause-rows g c =
    let asked = c.args.asked in
    subst (λ given. HasRows c.args.database.now given.rows) (sym c.in-Ok.ensures.free.0) (has_rows c.args.database.now asked (keys_of c.args.cursors.now) c.requires c.in-Ok.ensures.free.1)

pub open_free-requires-clause-free : goal.open_free-requires-clause-free
open_free-requires-clause-free g c = rw (c.in-Ok.ensures.free.0) (name_free c.args.asked (keys_of c.args.cursors.now) c.in-Ok.ensures.free.1)

pub returns-in_ok-open_free-in-Ok-clause-session : goal.returns-in_ok-open_free-in-Ok-clause-session
returns-in_ok-open_free-in-Ok-clause-session g c =
    λ piece prepares. opened_turn c.args.database.now piece c.args.cursors.now c.open_free.new.cursors c.args.reply.now c.open_free.new.reply _ c.args.asked prepares c.requires c.in-Ok.ensures.free.1
    (rw (← c.in-Ok.ensures.free.0) c.in_ok-open_free-in-Ok.ensures.opened) c.in_ok-open_free-in-Ok.ensures.reply refl

pub returns-in_ok-reply_refusal-in-Err-clause-session : goal.returns-in_ok-reply_refusal-in-Err-clause-session
returns-in_ok-reply_refusal-in-Err-clause-session g c =
    λ piece prepares. opened_none c.args.database.now piece c.args.cursors.now c.args.reply.now c.reply_refusal.new.reply c.in_ok-reply_refusal-in-Err.field-0 c.args.asked (refusal_of c.in-Err.refusal) prepares c.in-Err.ensures.refused
    c.in_ok-reply_refusal-in-Err.ensures.reply c.in_ok-reply_refusal-in-Err.ensures.outcome
