-- How many emits a run makes: one for each reply with a byte, and none for any other.
use Rattle.std.specs.Prelude.{◌≡◌, ℕ, ◌+◌, ◌<◌, List, [], ◌∷◌, length, take, Option}
use Rattle.sasi_host.specs.View.{View, counted_by}
use Rattle.sasi_model.specs.Pieces.{Piece, pieces, all_pieces}
use Rattle.sasi_model.specs.State.{State}
use Rattle.sasi_model.specs.Parsers.{Parser, IsParser}
use Rattle.sasi_store.specs.Worlds.{World, steps}
use Rattle.sasi_run.specs.Headline.{EmitsBeforePiece, EmitsCutReply, EmitsFirstReplies, RunsAsModel, SCRIPT_MOST, first_of, script_of}
use Rattle.sasi_run.specs.declared.status.Status.{Status}
use Rattle.sasi_run.specs.declared.status.Status.TheVariants.{Done, Refused, Usage, ScriptFault, FolderFault, OutputFault, OutOfMemory, Damaged, AnalyzerMissing, PartitionerDiffers, NumbersSpent, ScriptTooLong}

-- the emits of one reply
abbrev pub emits_of : List ℕ → ℕ
emits_of [] = 0
emits_of (byte ∷ reply) = 1

-- the emits of replies: how many of them have a byte
abbrev pub emits_for : List (List ℕ) → ℕ
emits_for [] = 0
emits_for (reply ∷ answers) = emits_of reply + emits_for answers

-- those of the replies to pieces, run from a world
abbrev pub emits_in : World → List Piece → ℕ
emits_in w [] = 0
emits_in w (p ∷ ps) = emits_of (steps.reply w p) + emits_in (steps.after w p) ps

-- so many emits were made: none leaves the count as it is
pub record MakesEmits (emits old new : ℕ) : Type 0 where
  pub none : emits ≡ 0 → new ≡ old
  pub some : 0 < emits → new ≡ counted_by old emits

-- the emit that failed, where one did
abbrev pub emits_failed : Status → ℕ
emits_failed OutputFault = 1
emits_failed _ = 0

-- the pieces whose replies were emitted whole, by the status of a run with these replies
abbrev pub AnsweredByStatus : List (List ℕ) → Status → State → List ℕ → List ℕ → List ℕ → List Piece → Type 0
AnsweredByStatus answers Done s script read shown answered = answered ≡ all_pieces read
AnsweredByStatus answers (Refused n) s script read shown answered = answered ≡ all_pieces read
AnsweredByStatus answers Usage s script read shown answered = answered ≡ []
AnsweredByStatus answers ScriptFault s script read shown answered = answered ≡ (pieces read).whole
AnsweredByStatus answers ScriptTooLong s script read shown answered = answered ≡ (pieces (take SCRIPT_MOST read)).whole
AnsweredByStatus answers OutOfMemory s script read shown answered = (emits : EmitsFirstReplies (first_of answers) s script read shown) × (answered ≡ emits.done)
AnsweredByStatus answers FolderFault s script read shown answered = (emits : EmitsFirstReplies (first_of answers) s script read shown) × (answered ≡ emits.done)
AnsweredByStatus answers (Damaged damage) s script read shown answered = answered ≡ []
AnsweredByStatus answers (AnalyzerMissing class) s script read shown answered = (emits : EmitsFirstReplies (first_of answers) s script read shown) × (answered ≡ emits.done)
AnsweredByStatus answers (PartitionerDiffers asked kept) s script read shown answered = answered ≡ []
AnsweredByStatus answers (NumbersSpent kind) s script read shown answered = (emits : EmitsBeforePiece (first_of answers) s script read shown) × (answered ≡ emits.done)
AnsweredByStatus answers OutputFault s script read shown answered = (emits : EmitsCutReply (first_of answers) s script read shown) × (answered ≡ emits.done)

-- one emit for each reply with a byte to the pieces that were answered, and the one that failed
pub record EmitsCounted (answers : List (List ℕ)) (status : Status) (s : State) (script read shown : List ℕ) (old new : ℕ) : Type 0 where
  pub answered : List Piece
  pub by_status : AnsweredByStatus answers status s script read shown answered
  pub emits : MakesEmits (emits_for (take (length answered) answers) + emits_failed status) old new

-- **How many emits.** The run read some bytes and emitted what they show, and it made so many emits.
pub record CountsEmits (status : Status) (s : State) (left_old left_new : Option (List ℕ)) (host_old host_new : View) : Type 0 where
  pub parser : Parser
  pub parses : IsParser parser
  pub as_model : RunsAsModel parser status s left_old left_new host_old.emitted host_new.emitted
  pub counted : EmitsCounted as_model.answers status s (script_of left_old as_model.runs.read) as_model.runs.read as_model.runs.shown host_old.emits host_new.emits
