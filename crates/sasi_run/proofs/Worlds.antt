-- Pieces run from a world, one after another, and that they show what the model shows at its state.
use Rattle.std.proofs.Common.{◌≡◌, ℕ, ◌+◌, List, [], ◌∷◌, ◌++◌, length, take, refl, sym, ap, ◌∙◌, subst, arith}
use Rattle.sasi_types.specs.declared.class.Class.{Class}
use Rattle.sasi_model.specs.Pieces.{Piece}
use Rattle.sasi_model.specs.State.{State}
use Rattle.sasi_model.specs.Parsers.{grammar_parser}
use Rattle.sasi_model.specs.Refusals.{read}
use Rattle.sasi_model.specs.Sessions.{refusals_by, session_by}
use Rattle.sasi_model.specs.Step.{state_after}
use Rattle.sasi_layout.specs.Layout.{state_of}
use Rattle.sasi_layout.specs.Running.{after_pieces, replies_of}
use Rattle.sasi_store.specs.Worlds.{World, steps, told_in}
use Rattle.sasi_run.specs.EmitCounts.{emits_for, emits_in, emits_of}
use Rattle.sasi_run.specs.Headline.{AreReplies}
use Rattle.sasi_run.specs.Session.{refusals_of, refused_in}
use Rattle.sasi_run.specs.Needs.{AreSupplied}
use Rattle.sasi_run.specs.Shapes.{answers_of}
use Rattle.sasi_run.proofs.Joining.{after-append, first_answers, replies-append}
use Rattle.sasi_run.proofs.OpeningMoves.{world_state, world_valid}
use Rattle.sasi_run.proofs.ValidWorlds.{IsValidWorld}

-- ---- one after another

pub after_both : (xs ys : List Piece) (w : World) → after_pieces steps w (xs ++ ys) ≡ after_pieces steps (after_pieces steps w xs) ys
after_both xs ys w = after-append steps xs ys w

pub replies_both : (xs ys : List Piece) (w : World) → replies_of steps w (xs ++ ys) ≡ replies_of steps w xs ++ replies_of steps (after_pieces steps w xs) ys
replies_both xs ys w = replies-append steps xs ys w

pub refusals_both : (xs ys : List Piece) (w : World) → refusals_of w (xs ++ ys) ≡ refusals_of w xs + refusals_of (after_pieces steps w xs) ys
refusals_both [] ys w = omega arith
refusals_both (x ∷ xs) ys w = let e = refusals_both xs ys (steps.after w x) in omega (arith, e)

pub emits_both : (xs ys : List Piece) (w : World) → emits_in w (xs ++ ys) ≡ emits_in w xs + emits_in (after_pieces steps w xs) ys
emits_both [] ys w = omega arith
emits_both (x ∷ xs) ys w = let e = emits_both xs ys (steps.after w x) in omega (arith, e)

pub supplied_both : (kinds : List Class) (xs ys : List Piece) (w : World) → AreSupplied kinds w xs → AreSupplied kinds (after_pieces steps w xs) ys → AreSupplied kinds w (xs ++ ys)
supplied_both kinds [] ys w none later = later
supplied_both kinds (x ∷ xs) ys w none later = (none.0, supplied_both kinds xs ys (steps.after w x) none.1 later)

-- ---- by the model

-- the state after the pieces is that of the model
pub state_is : (ps : List Piece) (w : World) → IsValidWorld w → state_of (after_pieces steps w ps).layout ≡ state_after (state_of w.layout) ps
state_is [] w valid = refl
state_is (p ∷ ps) w valid = state_is ps (steps.after w p) (world_valid w p valid) ∙ ap (λ (s : State). state_after s ps) (world_state w p valid)

-- and so is each of their replies
pub answers_are : (ps : List Piece) (w : World) → IsValidWorld w → AreReplies grammar_parser w.session (state_of w.layout) ps (answers_of steps w ps)
answers_are [] w valid = refl
answers_are (p ∷ ps) w valid = (
  (told_in w (read p), refl),
  subst (λ (s : State). AreReplies grammar_parser (session_by grammar_parser w.session (state_of w.layout) p) s ps (answers_of steps (steps.after w p) ps)) (world_state w p valid)
      (answers_are ps (steps.after w p) (world_valid w p valid)),
)

pub refusals_are : (ps : List Piece) (w : World) → IsValidWorld w → refusals_of w ps ≡ refusals_by grammar_parser w.session (state_of w.layout) ps
refusals_are [] w valid = refl
refusals_are (p ∷ ps) w valid =
    ap (λ (n : ℕ). refused_in w p + n)
    (refusals_are ps (steps.after w p) (world_valid w p valid)
    ∙ ap (λ (s : State). refusals_by grammar_parser (session_by grammar_parser w.session (state_of w.layout) p) s ps) (world_state w p valid))

-- ---- by the replies

emits_are : (ps : List Piece) (w : World) → emits_in w ps ≡ emits_for (answers_of steps w ps)
emits_are [] w = refl
emits_are (p ∷ ps) w = ap (λ (n : ℕ). emits_of (steps.reply w p) + n) (emits_are ps (steps.after w p))

-- the emits for some first pieces are those of as many replies
pub first_emits : (w : World) (done rest all : List Piece) → all ≡ done ++ rest → emits_in w done ≡ emits_for (take (length done) (answers_of steps w all))
first_emits w done rest all parts = emits_are done w ∙ ap emits_for (sym (first_answers steps w done rest all parts))
