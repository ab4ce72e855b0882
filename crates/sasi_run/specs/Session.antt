-- What a part of a run does: it is fed bytes of the script, and emits the replies of the pieces that end in them. Each
-- word speaks of whatever may follow in the script, so that parts join to a run. Which pieces end is known on every host; what
-- they show is said of each world that the store serves.
use Rattle.std.specs.Prelude.{◌≡◌, ◌⊎◌, ◌+◌, ℕ, true, if◌then◌else◌, List, [], ◌∷◌, ◌++◌, Option, Ok, Err, Some, is_some, IfErr, OnOk}
use Rattle.std.specs.declared.result.Result.{Result}
use Rattle.sasi_host.specs.declared.damage.Damage.{Damage}
use Rattle.sasi_host.specs.Names.{Folder}
use Rattle.sasi_host.specs.View.{View, FailedAtLast, counted}
use Rattle.std.specs.Io.KnownBytes.{Appends}
use Rattle.sasi_types.specs.declared.class.Class.{Class}
use Rattle.sasi_model.specs.Asked.{asks}
use Rattle.sasi_model.specs.Parsers.{grammar_parser}
use Rattle.sasi_model.specs.Pieces.{Piece, pieces}
use Rattle.sasi_model.specs.Sessions.{refused_by}
use Rattle.sasi_machine.specs.declared.outcome.Outcome.{Outcome}
use Rattle.sasi_machine.specs.declared.outcome.Outcome.TheVariants as outcomes
use Rattle.sasi_cql.specs.SplitterState.{SplitterState, resume, behind}
use Rattle.sasi_folder.specs.Damages.{FolderShows}
use Rattle.sasi_layout.specs.Classes.{HasNeeded, LacksNeeded}
use Rattle.sasi_layout.specs.Layout.{state_of}
use Rattle.sasi_layout.specs.Running.{after_pieces, replies_of}
use Rattle.sasi_layout.specs.Spent.{spent}
use Rattle.sasi_layout.specs.Statements.{known_in}
use Rattle.sasi_store.specs.HeldDamage.{ShowsHeld}
use Rattle.sasi_store.specs.Worlds.{World, steps}
use Rattle.sasi_run.specs.Needs.{class_asked}
use Rattle.sasi_tables.specs.declared.fault.StepFault.{StepFault}
use Rattle.sasi_tables.specs.declared.fault.StepFault.TheVariants as step_fault
use Rattle.sasi_run.specs.declared.session.Session.{Session}
use Rattle.sasi_run.specs.declared.session.Stop.{Stop}
use Rattle.sasi_run.specs.declared.session.Stop.TheVariants.{Output, Memory, Disk, Corrupt, Spent, Missing}

-- why a statement wasn't done
abbrev pub stop_of : StepFault → Stop
stop_of step_fault.Failed = Disk
stop_of step_fault.OutOfMemory = Memory
stop_of (step_fault.Damaged damage) = Corrupt damage
stop_of (step_fault.NumbersSpent kind) = Spent kind
stop_of (step_fault.AnalyzerMissing class) = Missing class

abbrev pub counted_outcome : ℕ → Outcome → ℕ
counted_outcome count outcomes.Done = count
counted_outcome count (outcomes.Refused number) = counted count

-- ---- the pieces of a world

-- how much a piece adds to the count of those refused
abbrev pub refused_in : World → Piece → ℕ
refused_in w piece = if is_some (refused_by grammar_parser w.session (state_of w.layout) piece) then 1 else 0

-- how many of the pieces are refused
abbrev pub refusals_of : World → List Piece → ℕ
refusals_of w [] = 0
refusals_of w (p ∷ ps) = refused_in w p + refusals_of (steps.after w p) ps

-- ---- what is fed

-- known bytes grow by all of the bytes at Ok, and by a first part of them at Err
abbrev pub EmitAppends : {T E : Type 0} → Option (List ℕ) → Option (List ℕ) → Result T E → List ℕ → Type 0
EmitAppends old new (Ok _) bytes = Appends old new bytes
EmitAppends old new (Err _) bytes = (front back : List ℕ) × (bytes ≡ front ++ back) × Appends old new front

-- the session was fed these bytes: these pieces ended in them, and it goes on behind them
pub record Feeds (old new : Session) (bytes : List ℕ) : Type 0 where
  pub done : List Piece
  pub reading : (left : List ℕ) → resume old.splitter (bytes ++ left) ≡ behind done (resume new.splitter left)

-- what was emitted where a run stopped behind some pieces: nothing of the next reply, or a first part of it
abbrev pub EmittedAtStop : List Class → Stop → World → Option (List ℕ) → Option (List ℕ) → List Piece → List Piece → Type 0
EmittedAtStop kinds Memory w out_old out_new done next = Appends out_old out_new (replies_of steps w done)
EmittedAtStop kinds Disk w out_old out_new done next = Appends out_old out_new (replies_of steps w done)
EmittedAtStop kinds (Corrupt damage) w out_old out_new done next = ⊥
EmittedAtStop kinds (Spent kind) w out_old out_new done next = (piece : Piece) × (next ≡ piece ∷ []) × Appends out_old out_new (replies_of steps w done)
    × HasNeeded kinds (class_asked (after_pieces steps w done) piece) × (spent (after_pieces steps w done).layout (steps.moves (after_pieces steps w done) piece) ≡ Some kind)
EmittedAtStop kinds (Missing class) w out_old out_new done next = (piece : Piece) × (next ≡ piece ∷ []) × Appends out_old out_new (replies_of steps w done)
    × LacksNeeded kinds (asks (known_in (after_pieces steps w done).layout) piece) class
EmittedAtStop kinds Output w out_old out_new done next = (piece : Piece) × (front back : List ℕ) × (next ≡ piece ∷ []) × (steps.reply (after_pieces steps w done) piece ≡ front ++ back)
    × Appends out_old out_new (replies_of steps w done ++ front)

-- the session was fed a first part of these bytes, and stopped
pub record Stops (old : Session) (bytes : List ℕ) : Type 0 where
  pub taken : List ℕ
  pub rest : List ℕ
  pub parts : bytes ≡ taken ++ rest
  pub done : List Piece
  pub next : List Piece
  pub stand : SplitterState
  pub reading : (left : List ℕ) → resume old.splitter (taken ++ left) ≡ behind (done ++ next) (resume stand left)

-- the session stands at the start of a script
pub record IsAtScriptStart (session : Session) : Type 0 where
  pub reading : (left : List ℕ) → resume session.splitter left ≡ pieces left
  pub count : session.refused ≡ 0

-- ---- what failed

-- no call failed
pub record NoneFailed (old new : View) : Type 0 where
  pub disk : new.disk_faults ≡ old.disk_faults
  pub out : new.out_faults ≡ old.out_faults

-- only the last file call failed
pub record DiskFailed (old new : View) : Type 0 where
  pub disk : FailedAtLast old.disk_faults new.disk_faults new.failed_last
  pub out : new.out_faults ≡ old.out_faults

-- only the last emit failed
pub record OutputFailed (old new : View) : Type 0 where
  pub disk : new.disk_faults ≡ old.disk_faults
  pub out : FailedAtLast old.out_faults new.out_faults new.failed_last

-- the folder as it reads now shows the damage, or a file of it does that a cursor holds, which no table may have any more
abbrev pub ShowsNow : View → Damage → Type 0
ShowsNow v damage = (folder : Folder) → v.files ≡ Some folder → FolderShows folder damage ⊎ ShowsHeld (λ name. true) folder damage

-- what failed where a run stopped: the last call, where the folder or the output stopped it, and else none
abbrev pub StopFaults : Stop → View → View → Type 0
StopFaults Memory old new = NoneFailed old new
StopFaults Disk old new = DiskFailed old new
StopFaults (Corrupt damage) old new = NoneFailed old new × ShowsNow new damage
StopFaults (Spent kind) old new = NoneFailed old new
StopFaults (Missing class) old new = NoneFailed old new
StopFaults Output old new = OutputFailed old new

-- the same of a part of a run, where nothing failed if it went on
pub record Faults {T : Type 0} (old new : View) (result : Result T Stop) : Type 0 where
  pub ok : OnOk result (NoneFailed old new)
  pub stopped : IfErr result (λ stop. StopFaults stop old new)
