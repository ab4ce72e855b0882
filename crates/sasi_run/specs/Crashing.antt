-- What a crash leaves of a run: the emitted bytes, and the layout whose shape the folder has beside them.
use Rattle.std.specs.Prelude.{◌≡◌, ◌≢◌, ◌⊎◌, ◌≤◌, ℕ, false, ◌+◌, List, [], ◌∷◌, ◌++◌, length, take, Option, Some}
use Rattle.std.specs.Io.KnownBytes.{Appends, Consumes, IsAtEnd, Keeps}
use Rattle.sasi_types.specs.declared.class.Class.{Class}
use Rattle.sasi_analyzers.specs.Kits.{has_class}
use Rattle.sasi_model.specs.Pieces.{Piece, all_pieces}
use Rattle.sasi_model.specs.Parsers.{grammar_parser}
use Rattle.sasi_model.specs.Sessions.{SessionState, new_session, refusals_by, sessions_by}
use Rattle.sasi_model.specs.State.{State}
use Rattle.sasi_model.specs.Step.{state_after}
use Rattle.sasi_machine.specs.Prepares.{IsStateOf}
use Rattle.sasi_host.specs.declared.damage.Damage.{Damage}
use Rattle.sasi_host.specs.View.{CrashLeaves, IsTold, View, counted_by}
use Rattle.sasi_cql.specs.SplitterState.{resume}
use Rattle.sasi_layout.specs.Layout.{Layout, state_of}
use Rattle.sasi_layout.specs.Running.{Crashed, after_pieces, replies_of}
use Rattle.sasi_layout.specs.Serving.{Ended, closed, known_in_memory}
use Rattle.sasi_store.specs.Cursors.{HasNamesOf}
use Rattle.sasi_store.specs.Worlds.{ServesWorld, World, new_world, steps}
use Rattle.sasi_store.specs.StoreView.{IsReady, store_memory}
use Rattle.sasi_store.specs.declared.store.Store.{Store}
use Rattle.sasi_run.specs.declared.session.Session.{Session}
use Rattle.sasi_run.specs.declared.session.Stop.{Stop}
use Rattle.sasi_run.specs.declared.session.Stop.TheVariants.{Missing, Output, Spent}
use Rattle.sasi_run.specs.declared.status.Status.{Status}
use Rattle.sasi_run.specs.declared.status.Status.TheVariants.{AnalyzerMissing, Damaged, ScriptFault}
use Rattle.sasi_run.specs.EmitCounts.{EmitsCounted, MakesEmits, emits_failed, emits_in}
use Rattle.sasi_run.specs.Headline.{AreRepliesButStored, IsReplyButStored, RanToEnd, READ_MOST, SCRIPT_MOST, Runs, but_stored, first_of, script_of, status_of_stop}
use Rattle.sasi_run.specs.Session.{EmittedAtStop, Feeds, Stops, refusals_of}
use Rattle.sasi_run.specs.Needs.{AreSupplied, NeedsByStatus}
use Rattle.sasi_run.specs.Shapes.{answers_of}

-- ---- moments

-- a crash meanwhile leaves no more than these pieces do, run from a world
abbrev pub CrashLeavesPieces : View → View → World → List Piece → Type 0
CrashLeavesPieces a b w pieces = (out : List ℕ) → a.emitted ≡ Some out → CrashLeaves a b (Crashed steps w out pieces)

-- ---- parts of a run, on every host

-- the store has the definitions and the largest timestamp of the state, and open cursors of the names of those of the session
pub record IsOfState (store : Store) (session : SessionState) (s : State) : Type 0 where
  pub known : IsStateOf (known_in_memory (store_memory store)) s
  pub cursors : HasNamesOf store.session.cursors session

-- From a session and a state that the store was of these pieces were run: their replies were emitted, but for what comes from the files or tells of them, and the store is of those after them.
pub record RanButStored (session : SessionState) (s : State) (pieces : List Piece) (old new : Session) (a b : View) : Type 0 where
  pub state : IsOfState new.store (sessions_by grammar_parser session s pieces) (state_after s pieces)
  pub shown : List ℕ
  pub emitted : Appends a.emitted b.emitted shown
  pub replies : AreRepliesButStored grammar_parser session s pieces shown
  pub count : new.refused ≡ counted_by old.refused (refusals_by grammar_parser session s pieces)

-- what was emitted where a run stopped behind some pieces
abbrev pub EmittedButStored : Stop → SessionState → State → List Piece → List Piece → List ℕ → Type 0
EmittedButStored Output session s done next shown = (piece : Piece) × (whole front back : List ℕ) × (next ≡ piece ∷ []) × AreRepliesButStored grammar_parser session s done whole
    × IsReplyButStored grammar_parser (sessions_by grammar_parser session s done) (state_after s done) piece (front ++ back) × (shown ≡ whole ++ front)
EmittedButStored (Spent kind) session s done next shown = (piece : Piece) × (next ≡ piece ∷ []) × AreRepliesButStored grammar_parser session s done shown
EmittedButStored stop session s done next shown = AreRepliesButStored grammar_parser session s done shown

-- From a session and a state that the store was of the run stopped behind `done`, in `next`.
pub record StoppedButStored (stop : Stop) (session : SessionState) (s : State) (done next : List Piece) (a b : View) : Type 0 where
  pub shown : List ℕ
  pub emitted : Appends a.emitted b.emitted shown
  pub replies : EmittedButStored stop session s done next shown

-- none of these analyzers is of the class that stopped it
abbrev pub LacksAtStop : List Class → Stop → Type 0
LacksAtStop kinds (Missing class) = has_class class kinds ≡ false
LacksAtStop kinds stop = Unit {0}

-- ---- parts of a run over analyzers of these classes, with what a crash leaves meanwhile, and how many emits they made

-- From a world that the store served these pieces were run: their replies were emitted, and the store serves the world after them.
pub record RanPieces (kinds : List Class) (w : World) (pieces : List Piece) (old new : Session) (a b : View) : Type 0 where
  pub serves : ServesWorld b new.store (after_pieces steps w pieces)
  pub shown : Appends a.emitted b.emitted (replies_of steps w pieces)
  pub count : new.refused ≡ counted_by old.refused (refusals_of w pieces)
  pub crashes : CrashLeavesPieces a b w pieces
  pub emits : MakesEmits (emits_in w pieces) a.emits b.emits
  pub supplied : AreSupplied kinds w pieces

-- From a world that the store served the run stopped behind `done`, in `next`.
pub record StoppedPieces (kinds : List Class) (stop : Stop) (w : World) (done next : List Piece) (a b : View) : Type 0 where
  pub shown : EmittedAtStop kinds stop w a.emitted b.emitted done next
  pub crashes : CrashLeavesPieces a b w (done ++ next)
  pub emits : MakesEmits (emits_in w done + emits_failed (status_of_stop stop)) a.emits b.emits
  pub supplied : AreSupplied kinds w done

-- the session has run this piece
pub record AnswersCrashSafe (kinds : List Class) (old new : Session) (a b : View) (piece : Piece) : Type 0 where
  pub reading : new.splitter ≡ old.splitter
  pub anywhere : (x : SessionState) (s : State) → IsOfState old.store x s → RanButStored x s (piece ∷ []) old new a b
  pub ready : IsReady b new.store
  pub ran : (w : World) → ServesWorld a old.store w → RanPieces kinds w (piece ∷ []) old new a b

-- it stopped in these pieces
pub record FailsCrashSafe (kinds : List Class) (stop : Stop) (old : Session) (a b : View) (next : List Piece) : Type 0 where
  pub anywhere : (x : SessionState) (s : State) → IsOfState old.store x s → StoppedButStored stop x s [] next a b
  pub stopped : (w : World) → ServesWorld a old.store w → StoppedPieces kinds stop w [] next a b
  pub lacks : LacksAtStop kinds stop

-- it was fed these bytes
pub record FeedsCrashSafe (kinds : List Class) (old new : Session) (a b : View) (bytes : List ℕ) : Type 0 where
  pub feeds : Feeds old new bytes
  pub anywhere : (x : SessionState) (s : State) → IsOfState old.store x s → RanButStored x s feeds.done old new a b
  pub ready : IsReady b new.store
  pub ran : (w : World) → ServesWorld a old.store w → RanPieces kinds w feeds.done old new a b

-- it stopped within them
pub record StopsCrashSafe (kinds : List Class) (stop : Stop) (old : Session) (a b : View) (bytes : List ℕ) : Type 0 where
  pub stops : Stops old bytes
  pub anywhere : (x : SessionState) (s : State) → IsOfState old.store x s → StoppedButStored stop x s stops.done stops.next a b
  pub stopped : (w : World) → ServesWorld a old.store w → StoppedPieces kinds stop w stops.done stops.next a b
  pub lacks : LacksAtStop kinds stop

-- it has run the last piece, if anything was left of one
pub record FinishesCrashSafe (kinds : List Class) (old new : Session) (a b : View) : Type 0 where
  pub anywhere : (x : SessionState) (s : State) → IsOfState old.store x s → RanButStored x s (resume old.splitter []).last old new a b
  pub ready : IsReady b new.store
  pub ran : (w : World) → ServesWorld a old.store w → RanPieces kinds w (resume old.splitter []).last old new a b

-- so many bytes were read and fed to the session
pub record ReadsCrashSafe (kinds : List Class) (from to : Session) (left_old left_new : Option (List ℕ)) (a b : View) (count : ℕ) : Type 0 where
  pub read : List ℕ
  pub consumed : Consumes left_old left_new read
  pub length_is : count ≡ length read
  pub feeds : FeedsCrashSafe kinds from to a b read

-- ---- one read of the script

-- fed these bytes, the session stopped, and the run with this status
pub record StopsWith (kinds : List Class) (status : Status) (old : Session) (a b : View) (bytes : List ℕ) : Type 0 where
  pub stop : Stop
  pub gives : status ≡ status_of_stop stop
  pub stops : StopsCrashSafe kinds stop old a b bytes

-- so much was read, and the session was fed what there is room for
pub record FeedsRead (kinds : List Class) (old new : Session) (left_old left_new : Option (List ℕ)) (a b : View) (room count : ℕ) : Type 0 where
  pub read : List ℕ
  pub consumed : Consumes left_old left_new read
  pub length_is : length read ≡ count
  pub short : count ≤ READ_MOST
  pub at_end : count ≡ 0 → IsAtEnd left_new
  pub feeds : FeedsCrashSafe kinds old new a b (take room read)

-- the session stopped within it
pub record StopsAtRead (kinds : List Class) (status : Status) (old : Session) (left_old left_new : Option (List ℕ)) (a b : View) (room : ℕ) : Type 0 where
  pub read : List ℕ
  pub consumed : Consumes left_old left_new read
  pub short : length read ≤ READ_MOST
  pub stops : StopsWith kinds status old a b (take room read)

-- a read ended the run with this status: it failed, or the session stopped within what it gave
abbrev pub EndsAtRead : List Class → Status → Session → Option (List ℕ) → Option (List ℕ) → View → View → ℕ → Type 0
EndsAtRead kinds status old left_old left_new a b room = ((status ≡ ScriptFault) × Keeps left_old left_new) ⊎ StopsAtRead kinds status old left_old left_new a b room

-- ---- a run

-- the script was read to its end, and all its pieces were run
pub record RanScript (kinds : List Class) (from to : Session) (left_old left_new : Option (List ℕ)) (a b : View) : Type 0 where
  pub read : List ℕ
  pub consumed : Consumes left_old left_new read
  pub short : length read ≤ SCRIPT_MOST
  pub at_end : IsAtEnd left_new
  pub anywhere : (x : SessionState) (s : State) → IsOfState from.store x s → RanButStored x s (all_pieces read) from to a b
  pub ready : IsReady b to.store
  pub ran : (w : World) → ServesWorld a from.store w → RanPieces kinds w (all_pieces read) from to a b

-- From a world that the store served the run showed as many of its replies as its status says, by so many emits, and a crash meanwhile leaves no more than the pieces of the script do.
pub record RunsWorld (kinds : List Class) (status : Status) (w : World) (left_old left_new : Option (List ℕ)) (a b : View) : Type 0 where
  pub answers : List (List ℕ)
  pub runs : Runs grammar_parser (first_of answers) status (state_of w.layout) left_old left_new a.emitted b.emitted
  pub replied : answers ≡ answers_of steps w (all_pieces (script_of left_old runs.read))
  pub crashes : CrashLeavesPieces a b w (all_pieces (script_of left_old runs.read))
  pub told : RanToEnd status → IsTold b
  pub ends : RanToEnd status → Ended b (closed (after_pieces steps w (all_pieces (script_of left_old runs.read))).layout)
  pub emits : EmitsCounted answers status (state_of w.layout) (script_of left_old runs.read) runs.read runs.shown a.emits b.emits
  pub needs : NeedsByStatus kinds status w (script_of left_old runs.read) runs.read runs.shown
  pub undamaged : (damage : Damage) → status ≢ Damaged damage

-- the run of a store, with a new session, from each state that it was of, and from each layout that it served
pub record RunsCrashSafe (kinds : List Class) (status : Status) (store : Store) (left_old left_new : Option (List ℕ)) (a b : View) : Type 0 where
  pub anywhere : (s : State) → IsOfState store new_session s → Runs grammar_parser (but_stored grammar_parser) status s left_old left_new a.emitted b.emitted
  pub from : (l : Layout) → ServesWorld a store (new_world l) → RunsWorld kinds status (new_world l) left_old left_new a b
  pub lacks : (class : Class) → status ≡ AnalyzerMissing class → has_class class kinds ≡ false
