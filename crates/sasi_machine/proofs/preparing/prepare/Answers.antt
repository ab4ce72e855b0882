use Rattle.std.proofs.Common.{ap, inl, inr, sym, subst, ◌∙◌}
use Rattle.sasi_machine.specs.ParsedPiece.{IsReadFrom, model_piece}
use Rattle.sasi_machine.specs.Refusal.{refusal_of}
use Rattle.sasi_machine.specs.Prepares.{known_by}
use Rattle.sasi_machine.proofs.PreparedPieces.{bad_refused, bad_steps, nothing_steps}
use Rattle.sasi_machine.proofs.StatementPreparing.{piece_asks, piece_lists, piece_prepares, piece_selects, piece_timeless}
use Rattle.sasi_machine.proofs.preparing.prepare.Goals as goal

pub returns-in-Nothing-clause-prepares : goal.returns-in-Nothing-clause-prepares
returns-in-Nothing-clause-prepares g c s of =
    let nothing = sym c.in_ok-read.ensures.reads ∙ ap model_piece c.in-Nothing.is in
    (nothing_steps s _ c.clear.new.self nothing c.clear.ensures, inr nothing)

pub returns-in_ok-outcome-in-Bad-clause-prepares : goal.returns-in_ok-outcome-in-Bad-clause-prepares
returns-in_ok-outcome-in-Bad-clause-prepares g c s of =
    let bad = sym c.in_ok-read.ensures.reads ∙ ap model_piece c.in-Bad.is in (
      bad_steps s _ (refusal_of c.in-Bad.refusal) c.clear.new.self c.reply_refusal.new.reply c.in_ok-outcome-in-Bad.outcome bad c.clear.ensures
          c.in_ok-outcome-in-Bad.ensures.reply c.in_ok-outcome-in-Bad.ensures.outcome,
      inl (bad_refused s _ (refusal_of c.in-Bad.refusal) bad),
    )

pub returns-in-Says-clause-prepares : goal.returns-in-Says-clause-prepares
returns-in-Says-clause-prepares g c =
    piece_prepares (known_by c.args.schema.now c.args.max_timestamp) _ c.in-Says.statement c.clear.new.self c.prepare_statement.new.reply c.prepare_statement.result
    (sym c.in_ok-read.ensures.reads ∙ ap model_piece c.in-Says.is) (subst IsReadFrom c.in-Says.is c.in_ok-read.ensures.written).0 c.clear.ensures c.prepare_statement.ensures.prepares

pub returns-in-Says-clause-asked : goal.returns-in-Says-clause-asked
returns-in-Says-clause-asked g c =
    piece_asks (known_by c.args.schema.now c.args.max_timestamp) _ c.in-Says.statement c.clear.new.self c.prepare_statement.new.reply c.prepare_statement.result
    (sym c.in_ok-read.ensures.reads ∙ ap model_piece c.in-Says.is) c.prepare_statement.ensures.prepares

pub returns-in-Nothing-clause-timeless : goal.returns-in-Nothing-clause-timeless
returns-in-Nothing-clause-timeless g c = λ none. absurd none

pub returns-in_ok-outcome-in-Bad-clause-timeless : goal.returns-in_ok-outcome-in-Bad-clause-timeless
returns-in_ok-outcome-in-Bad-clause-timeless g c = λ none. absurd none

pub returns-in-Says-clause-timeless : goal.returns-in-Says-clause-timeless
returns-in-Says-clause-timeless g c =
    piece_timeless (known_by c.args.schema.now c.args.max_timestamp) _ c.in-Says.statement c.clear.new.self c.prepare_statement.new.reply c.prepare_statement.result
    (sym c.in_ok-read.ensures.reads ∙ ap model_piece c.in-Says.is) (subst IsReadFrom c.in-Says.is c.in_ok-read.ensures.written).0 c.clear.ensures c.prepare_statement.ensures.prepares

pub returns-in-Nothing-clause-selects : goal.returns-in-Nothing-clause-selects
returns-in-Nothing-clause-selects g c = λ none. absurd none

pub returns-in_ok-outcome-in-Bad-clause-selects : goal.returns-in_ok-outcome-in-Bad-clause-selects
returns-in_ok-outcome-in-Bad-clause-selects g c = λ none. absurd none

pub returns-in-Says-clause-selects : goal.returns-in-Says-clause-selects
returns-in-Says-clause-selects g c =
    piece_selects (known_by c.args.schema.now c.args.max_timestamp) _ c.in-Says.statement c.clear.new.self c.prepare_statement.new.reply c.prepare_statement.result
    (sym c.in_ok-read.ensures.reads ∙ ap model_piece c.in-Says.is) c.prepare_statement.ensures.prepares

pub returns-in-Nothing-clause-lists : goal.returns-in-Nothing-clause-lists
returns-in-Nothing-clause-lists g c = λ none. absurd none

pub returns-in_ok-outcome-in-Bad-clause-lists : goal.returns-in_ok-outcome-in-Bad-clause-lists
returns-in_ok-outcome-in-Bad-clause-lists g c = λ none. absurd none

pub returns-in-Says-clause-lists : goal.returns-in-Says-clause-lists
returns-in-Says-clause-lists g c =
    piece_lists (known_by c.args.schema.now c.args.max_timestamp) _ c.in-Says.statement c.clear.new.self c.prepare_statement.new.reply c.prepare_statement.result
    (sym c.in_ok-read.ensures.reads ∙ ap model_piece c.in-Says.is) c.prepare_statement.ensures.prepares
