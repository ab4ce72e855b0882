-- The headline: what a run reads and emits, by the status that it answers, and what a crash leaves. The emitted bytes are
-- the replies that the model gives to the pieces of the script, and each status says how many of them. When a folder stands for
-- a state is a parameter: nothing here rests on a file's format. `Shapes` says it of files, and to the byte what the tails of replies say.
use Rattle.std.specs.Prelude.{◌≡◌, ℕ, ◌+◌, ◌-◌, ◌^◌, ◌≤◌, ◌<◌, ◌==◌, if◌then◌else◌, min, List, [], ◌∷◌, ◌++◌, length, take, Option, Some, unwrap_or}
use Rattle.std.specs.List.{concat}
use Rattle.std.specs.Io.KnownBytes.{Appends, Consumes, IsAtEnd}
use Rattle.sasi_types.specs.declared.partitioner.Partitioner.{Partitioner}
use Rattle.sasi_host.specs.View.{SourceView, View}
use Rattle.sasi_host.specs.Names.{Folder}
use Rattle.sasi_model.specs.Pieces.{Piece, pieces, all_pieces}
use Rattle.sasi_model.specs.State.{State}
use Rattle.sasi_model.specs.Parsers.{Parser, IsParser}
use Rattle.sasi_model.specs.Step.{step_by, state_by}
use Rattle.sasi_recover.specs.declared.fault.OpenFault.{OpenFault}
use Rattle.sasi_recover.specs.declared.fault.OpenFault.TheVariants as open_fault
use Rattle.sasi_store.specs.Answers.{PrintsStored}
use Rattle.sasi_run.specs.Recovering.{Recovers, StandsRelation, next_reply}
use Rattle.sasi_model.specs.Sessions.{SessionState, Told, new_session, refusals_by, reply_by, session_by, sessions_by, turn_by}
use Rattle.sasi_run.specs.declared.session.Stop.{Stop}
use Rattle.sasi_run.specs.declared.session.Stop.TheVariants.{Disk, Output, Memory, Corrupt, Spent, Missing}
use Rattle.sasi_run.specs.declared.status.Status.{Status}
use Rattle.sasi_run.specs.declared.status.Status.TheVariants.{Done, Refused, Usage, ScriptFault, FolderFault, OutputFault, OutOfMemory, Damaged, AnalyzerMissing, PartitionerDiffers, NumbersSpent, ScriptTooLong}

-- the most bytes of a script that are run
abbrev pub SCRIPT_MOST : ℕ
SCRIPT_MOST = 2 ^ 40

-- the most bytes that one read asks for
abbrev pub READ_MOST : ℕ
READ_MOST = 4096

-- ---- replies

-- the reply to a piece from a state is that of the model, whose tail, if it has one, tells some number or some files
abbrev pub IsReply : Parser → SessionState → State → Piece → List ℕ → Type 0
IsReply parser session s piece reply = (told : Told) × (reply ≡ reply_by parser session s piece told)

-- these are the replies to pieces from a state, one to each
abbrev pub AreReplies : Parser → SessionState → State → List Piece → List (List ℕ) → Type 0
AreReplies parser session s [] answers = answers ≡ []
AreReplies parser session s (p ∷ ps) [] = ⊥
AreReplies parser session s (p ∷ ps) (reply ∷ answers) = IsReply parser session s p reply × AreReplies parser (session_by parser session s p) (step_by parser s p).state ps answers

-- what is said of the bytes of replies: of those to the first pieces of a script from a state, joined, and of the one to a piece behind them
pub record Replies : Type 1 where
  pub all : State → List Piece → List ℕ → Type 0
  pub one : State → List Piece → Piece → List ℕ → Type 0

-- they are the first of these, which are the replies to the pieces of the script, one to each
abbrev pub first_of : List (List ℕ) → Replies
first_of answers = record {
  all = λ s pieces shown. shown ≡ concat (take (length pieces) answers);
  one = λ s done piece reply. next_reply answers (length done) ≡ reply;
}

-- the reply of a piece is that of the model, but where it comes from the files or tells of them
abbrev pub IsReplyButStored : Parser → SessionState → State → Piece → List ℕ → Type 0
IsReplyButStored parser session s piece reply = ¬ (PrintsStored parser session s piece) → reply ≡ (turn_by parser session s piece).reply

-- and so is each of the replies of pieces, in their order
abbrev pub AreRepliesButStored : Parser → SessionState → State → List Piece → List ℕ → Type 0
AreRepliesButStored parser session s [] shown = shown ≡ []
AreRepliesButStored parser session s (p ∷ ps) shown = (reply others : List ℕ) × (shown ≡ reply ++ others) × IsReplyButStored parser session s p reply
    × AreRepliesButStored parser (session_by parser session s p) (step_by parser s p).state ps others

-- they are those of the model, whatever SELECTs and FETCHes print, and whatever SHOW FILES does
abbrev pub but_stored : Parser → Replies
but_stored parser = record {
  all = AreRepliesButStored parser new_session;
  one = λ s done piece reply. IsReplyButStored parser (sessions_by parser new_session s done) (state_by parser s done) piece reply;
}

-- ---- what was emitted

-- the replies of all pieces of the script, of which so many are refused
pub record EmitsAllReplies (parser : Parser) (r : Replies) (s : State) (read shown : List ℕ) (refused : ℕ) : Type 0 where
  pub all : r.all s (all_pieces read) shown
  pub count : refused ≡ min (refusals_by parser new_session s (all_pieces read)) (2 ^ 64 - 1)
  pub short : length read ≤ SCRIPT_MOST

-- the replies of exactly the whole pieces within the bytes read
pub record EmitsWholePieces (r : Replies) (s : State) (read shown : List ℕ) : Type 0 where
  pub whole : r.all s (pieces read).whole shown
  pub short : length read ≤ SCRIPT_MOST

-- the same within the first 2^40 bytes, and the source gave more
pub record EmitsUpToLimit (r : Replies) (s : State) (read shown : List ℕ) : Type 0 where
  pub whole : r.all s (pieces (take SCRIPT_MOST read)).whole shown
  pub long : SCRIPT_MOST < length read

-- the script that a source tells, or else what was read of it
abbrev pub script_of : Option (List ℕ) → List ℕ → List ℕ
script_of script read = unwrap_or script read

-- What was answered where a run broke off: `done`, and `next` behind it, are a first part of the pieces of the script, and of those of the bytes read. The last read gave `last`: each piece that ends before it is done.
pub record IsFirstPart (script read : List ℕ) (done next : List Piece) : Type 0 where
  pub rest : List Piece
  pub parts : all_pieces script ≡ done ++ next ++ rest
  pub left_over : List Piece
  pub of_read : all_pieces read ≡ done ++ next ++ left_over
  pub before : List ℕ
  pub last : List ℕ
  pub reads : read ≡ before ++ last
  pub short : length last ≤ READ_MOST
  pub more : List Piece
  pub has : done ≡ (pieces before).whole ++ more

-- whole replies of a first part of the pieces were emitted, and nothing behind them
pub record EmitsFirstReplies (r : Replies) (s : State) (script read shown : List ℕ) : Type 0 where
  pub done : List Piece
  pub first : IsFirstPart script read done []
  pub replied : r.all s done shown

-- whole replies of a first part of the pieces were emitted, of all before the one that wasn't run
pub record EmitsBeforePiece (r : Replies) (s : State) (script read shown : List ℕ) : Type 0 where
  pub done : List Piece
  pub piece : Piece
  pub first : IsFirstPart script read done (piece ∷ [])
  pub replied : r.all s done shown

-- and a first part of the next reply behind them
pub record EmitsCutReply (r : Replies) (s : State) (script read shown : List ℕ) : Type 0 where
  pub done : List Piece
  pub piece : Piece
  pub first : IsFirstPart script read done (piece ∷ [])
  pub whole : List ℕ
  pub front : List ℕ
  pub back : List ℕ
  pub replied : r.all s done whole
  pub reply : r.one s done piece (front ++ back)
  pub parts : shown ≡ whole ++ front

-- what was emitted, by the status, of this script of which so much was read
abbrev pub EmitsByStatus : Parser → Replies → Status → State → List ℕ → List ℕ → List ℕ → Type 0
EmitsByStatus parser r Done s script read shown = EmitsAllReplies parser r s read shown 0
EmitsByStatus parser r (Refused n) s script read shown = (0 < n) × EmitsAllReplies parser r s read shown n
EmitsByStatus parser r Usage s script read shown = (read ≡ []) × (shown ≡ [])
EmitsByStatus parser r ScriptFault s script read shown = EmitsWholePieces r s read shown
EmitsByStatus parser r ScriptTooLong s script read shown = EmitsUpToLimit r s read shown
EmitsByStatus parser r (PartitionerDiffers asked kept) s script read shown = (read ≡ []) × (shown ≡ [])
EmitsByStatus parser r (NumbersSpent kind) s script read shown = EmitsBeforePiece r s script read shown
EmitsByStatus parser r OutputFault s script read shown = EmitsCutReply r s script read shown
EmitsByStatus parser r status s script read shown = EmitsFirstReplies r s script read shown

-- the script was read to its end
abbrev pub ReadsToEnd : Status → Option (List ℕ) → Type 0
ReadsToEnd Done left = IsAtEnd left
ReadsToEnd (Refused n) left = IsAtEnd left
ReadsToEnd _ left = Unit {0}

-- the script was run to its end
abbrev pub RanToEnd : Status → Type 0
RanToEnd Done = Unit {0}
RanToEnd (Refused n) = Unit {0}
RanToEnd _ = ⊥

-- the run read these bytes, and emitted what they show from this state
pub record Runs (parser : Parser) (r : Replies) (status : Status) (s : State) (left_old left_new out_old out_new : Option (List ℕ)) : Type 0 where
  pub read : List ℕ
  pub shown : List ℕ
  pub consumed : Consumes left_old left_new read
  pub emitted : Appends out_old out_new shown
  pub at_end : ReadsToEnd status left_new
  pub shows : EmitsByStatus parser r status s (script_of left_old read) read shown
  pub bounded : length read ≤ SCRIPT_MOST + READ_MOST

-- **The replies**, from a state: one to each piece of the script, as the model gives it, up to the numbers that tails say. What was emitted are the first of them, as many as the status says.
pub record RunsAsModel (parser : Parser) (status : Status) (s : State) (left_old left_new out_old out_new : Option (List ℕ)) : Type 0 where
  pub answers : List (List ℕ)
  pub runs : Runs parser (first_of answers) status s left_old left_new out_old out_new
  pub replied : AreReplies parser new_session s (all_pieces (script_of left_old runs.read)) answers

-- ---- from a state

-- A run on this host begins with this state: its folder, as it reads, stands for it, and each image of it stands for some state.
pub record StartsFrom (StandsFor : StandsRelation) (asked : Option Partitioner) (host : View) (s : State) : Type 0 where
  pub folder : Folder
  pub reads : host.files ≡ Some folder
  pub stands : StandsFor asked folder s
  pub images : (image : Folder) → host.image image → (t : State) × StandsFor asked image t

-- The folder as it reads stands for the state, and so does each image of it, whatever partitioner is asked.
pub record EndsWith (StandsFor : StandsRelation) (host : View) (s : State) : Type 0 where
  pub folder : Folder
  pub reads : host.files ≡ Some folder
  pub stands : (asked : Option Partitioner) → StandsFor asked folder s
  pub images : (image : Folder) → host.image image → (asked : Option Partitioner) → StandsFor asked image s

-- **The replies, and what a crash leaves.** What was emitted are replies as the status says, and at each moment since the start a crash leaves the state after the pieces whose replies were emitted, or after one more. A run to the script's end leaves the state after all of them.
pub record RunsFrom (StandsFor : StandsRelation) (parser : Parser) (asked : Option Partitioner) (status : Status) (s : State) (left_old left_new : Option (List ℕ)) (host_old host_new : View) : Type 0 where
  pub as_model : RunsAsModel parser status s left_old left_new host_old.emitted host_new.emitted
  pub crash : (before : List ℕ) → host_old.emitted ≡ Some before → (folder : Folder) (out : List ℕ) → host_new.left host_old.moment folder out
      → Recovers StandsFor parser asked host_old s (all_pieces (script_of left_old as_model.runs.read)) as_model.answers before folder out
  pub ends : RanToEnd status → EndsWith StandsFor host_new (state_by parser s (all_pieces (script_of left_old as_model.runs.read)))

-- what a run does where this partitioner is asked, by what its source and its host tell before it and after it
pub record Headline (StandsFor : StandsRelation) (asked : Option Partitioner) (status : Status) (script_old script_new : SourceView) (host_old host_new : View) : Type 0 where
  -- the parser of the grammar, by which each piece is read
  pub parser : Parser
  pub parses : IsParser parser
  -- on every host, also where its files aren't told or stand for nothing: from some state all but what comes from the files or tells of them
  pub on_every_host : (s : State) × Runs parser (but_stored parser) status s script_old.left script_new.left host_old.emitted host_new.emitted
  -- the replies, from the state for which the folder as it reads stands, whatever its images are
  pub as_it_reads : (folder : Folder) (s : State) → host_old.files ≡ Some folder → StandsFor asked folder s
      → RunsAsModel parser status s script_old.left script_new.left host_old.emitted host_new.emitted
  -- the replies, and the crash
  pub shows : (s : State) → StartsFrom StandsFor asked host_old s → RunsFrom StandsFor parser asked status s script_old.left script_new.left host_old host_new

-- ---- the status of a run's end

abbrev pub status_of_stop : Stop → Status
status_of_stop Memory = OutOfMemory
status_of_stop Output = OutputFault
status_of_stop Disk = FolderFault
status_of_stop (Corrupt damage) = Damaged damage
status_of_stop (Spent kind) = NumbersSpent kind
status_of_stop (Missing class) = AnalyzerMissing class

abbrev pub status_of_fault : OpenFault → Status
status_of_fault open_fault.Failed = FolderFault
status_of_fault open_fault.OutOfMemory = OutOfMemory
status_of_fault (open_fault.Damaged damage) = Damaged damage
status_of_fault (open_fault.PartitionerDiffers asked kept) = PartitionerDiffers asked kept
status_of_fault (open_fault.AnalyzerMissing class) = AnalyzerMissing class

abbrev pub status_of_count : ℕ → Status
status_of_count n = if n == 0 then Done else Refused n
