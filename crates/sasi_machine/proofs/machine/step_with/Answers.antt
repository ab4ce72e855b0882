use Rattle.std.proofs.Common.{subst, ◌∙◌}
use Rattle.std.proofs.lemmas.Result.{IfOk-weaker}
use Rattle.sasi_model.specs.Pieces.{piece_of}
use Rattle.sasi_machine.specs.Prepares.{Prepares}
use Rattle.sasi_machine.proofs.CursorTurns.{opens_from}
use Rattle.sasi_machine.proofs.MachineTurns.{answered_turn, created_turn, defined_turn, files_turn, selected_turn, told_turn, written_turn}
use Rattle.sasi_machine.proofs.machine.step_with.Goals as goal

pub returns-in-Answered-clause-session : goal.returns-in-Answered-clause-session
returns-in-Answered-clause-session g c =
    let s = c.args.database.now in
    let p = piece_of c.args.end c.args.piece.now in
    answered_turn s p c.args.cursors.now c.prepare.new.reply c.in-Answered.outcome (subst (Prepares s p c.prepare.new.reply) c.in-Answered.is c.in_ok-outcome.ensures.prepares)

pub returns-in_ok-create_table-in-Create-clause-session : goal.returns-in_ok-create_table-in-Create-clause-session
returns-in_ok-create_table-in-Create-clause-session g c =
    let s = c.args.database.now in
    let p = piece_of c.args.end c.args.piece.now in
    created_turn s p c.args.cursors.now c.prepare.new.reply c.in-Create.table (subst (Prepares s p c.prepare.new.reply) c.in-Create.is c.in_ok-outcome.ensures.prepares)

pub returns-in_ok-define_index-in-Define-clause-session : goal.returns-in_ok-define_index-in-Define-clause-session
returns-in_ok-define_index-in-Define-clause-session g c =
    let s = c.args.database.now in
    let p = piece_of c.args.end c.args.piece.now in
    defined_turn s p c.args.cursors.now c.prepare.new.reply c.in-Define.new (subst (Prepares s p c.prepare.new.reply) c.in-Define.is c.in_ok-outcome.ensures.prepares)

pub returns-in_ok-apply-in-Write-clause-session : goal.returns-in_ok-apply-in-Write-clause-session
returns-in_ok-apply-in-Write-clause-session g c =
    let s = c.args.database.now in
    let p = piece_of c.args.end c.args.piece.now in
    written_turn s p c.args.cursors.now c.prepare.new.reply c.in-Write.mutation (subst (Prepares s p c.prepare.new.reply) c.in-Write.is c.in_ok-outcome.ensures.prepares)

pub returns-in-Flush-clause-session : goal.returns-in-Flush-clause-session
returns-in-Flush-clause-session g c =
    let s = c.args.database.now in
    let p = piece_of c.args.end c.args.piece.now in
    files_turn s p c.args.cursors.now c.prepare.new.reply c.in_ok-outcome.field-0 c.in-Flush.is c.in_ok-outcome.ensures.prepares

pub returns-in-Trace-clause-session : goal.returns-in-Trace-clause-session
returns-in-Trace-clause-session g c =
    let s = c.args.database.now in
    let p = piece_of c.args.end c.args.piece.now in
    told_turn s p c.args.cursors.now c.prepare.new.reply c.in_ok-outcome.field-0 c.in-Trace.is c.in_ok-outcome.ensures.prepares

pub returns-in_ok-print_rows-in-Select-clause-session : goal.returns-in_ok-print_rows-in-Select-clause-session
returns-in_ok-print_rows-in-Select-clause-session g c =
    let s = c.args.database.now in
    let p = piece_of c.args.end c.args.piece.now in
    selected_turn s p c.args.cursors.now c.prepare.new.reply c.print_rows.new.reply c.in-Select.rows c.deref.result.now (subst (Prepares s p c.prepare.new.reply) c.in-Select.is c.in_ok-outcome.ensures.prepares)
    (c.deref.ensures.value ∙ c.in_ok-lines-in-Select.ensures.lines) c.in_ok-print_rows-in-Select.ensures

pub open-requires : goal.open-requires
open-requires g c =
    let s = c.args.database.now in
    let p = piece_of c.args.end c.args.piece.now in
    opens_from s p c.in-Open.asked (subst (Prepares s p c.prepare.new.reply) c.in-Open.is c.in_ok-outcome.ensures.prepares).2

pub returns-in-Open-clause-session : goal.returns-in-Open-clause-session
returns-in-Open-clause-session g c =
    let s = c.args.database.now in
    let p = piece_of c.args.end c.args.piece.now in
    IfOk-weaker c.open.result _ _ (λ outcome answers. answers p (subst (Prepares s p c.prepare.new.reply) c.in-Open.is c.in_ok-outcome.ensures.prepares)) c.open.ensures.session

pub returns-in_ok-fetch-in-Fetch-clause-session : goal.returns-in_ok-fetch-in-Fetch-clause-session
returns-in_ok-fetch-in-Fetch-clause-session g c =
    let s = c.args.database.now in
    let p = piece_of c.args.end c.args.piece.now in
    c.in_ok-fetch-in-Fetch.ensures.session s p (subst (Prepares s p c.prepare.new.reply) c.in-Fetch.is c.in_ok-outcome.ensures.prepares)

pub returns-in_ok-close-in-Close-clause-session : goal.returns-in_ok-close-in-Close-clause-session
returns-in_ok-close-in-Close-clause-session g c =
    let s = c.args.database.now in
    let p = piece_of c.args.end c.args.piece.now in
    c.in_ok-close-in-Close.ensures.session s p (subst (Prepares s p c.prepare.new.reply) c.in-Close.is c.in_ok-outcome.ensures.prepares)
