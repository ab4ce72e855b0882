-- What a step promises.
use Rattle.std.specs.Prelude.{◌≡◌, ◌+◌, ◌≤◌, ℕ, List, IfErr, IfOk, OnOk, Some, Result}
use Rattle.sasi_host.specs.Disk.{Changes, Same}
use Rattle.sasi_host.specs.Names.{Folder}
use Rattle.sasi_host.specs.View.{View}
use Rattle.sasi_layout.specs.Between.{Between}
use Rattle.sasi_layout.specs.Serving.{known_in_memory}
use Rattle.sasi_layout.specs.Classes.{HasNeeded, LacksNeeded}
use Rattle.sasi_layout.specs.Spent.{spent}
use Rattle.sasi_machine.specs.Prepares.{IsStateOf}
use Rattle.sasi_machine.specs.declared.outcome.Outcome.{Outcome}
use Rattle.sasi_types.specs.declared.class.Class.{Class}
use Rattle.sasi_model.specs.Asked.{NoChange, asks, class_needed}
use Rattle.sasi_model.specs.Pieces.{Piece}
use Rattle.sasi_model.specs.Refusals.{read}
use Rattle.sasi_model.specs.Sessions.{SessionState}
use Rattle.sasi_model.specs.State.{State}
use Rattle.sasi_recover.specs.OpenedFolder.{AnyFolderChange}
use Rattle.sasi_store.specs.Answers.{Answered, AnsweredButRows, DeletesOrBuilds, ReadsFiles}
use Rattle.sasi_tables.specs.Faults.{OnMissing, OnSpent, OnStepDamage, StepCauses}
use Rattle.sasi_tasks.specs.MakesTaskMoves.{CanGoOn, KeepsHeld}
use Rattle.sasi_store.specs.Selects.{HasShortRows, select_reads}
use Rattle.sasi_tables.specs.TablesView.{memory_of}
use Rattle.sasi_store.specs.Cursors.{AreCursors, HasNamesOf}
use Rattle.sasi_store.specs.HeldDamage.{StepShows}
use Rattle.sasi_store.specs.StoreView.{KnowsAll}
use Rattle.sasi_store.specs.Worlds.{PartsServe, World, steps}
use Rattle.sasi_tables.specs.declared.fault.StepFault.{StepFault}
use Rattle.sasi_tables.specs.declared.parts.Parts.{Parts}
use Rattle.sasi_store.specs.declared.session_state.SessionState.{SessionState as StoreSession}

-- over analyzers of these classes; the parts and the session of the store before it, and after it
pub record StepPromises (kinds : List Class) (piece : Piece) (a b : View) (old new : Parts) (was now : StoreSession) (reply : List ℕ) (result : Result Outcome StepFault) : Type 0 where
  pub answers : IfOk result (λ outcome. (w : World) → PartsServe a old was w → Answered b new now w piece reply outcome)
  pub everywhere : IfOk result (λ outcome. (x : SessionState) (s : State) → HasNamesOf was.cursors x → IsStateOf (known_in_memory (memory_of old)) s → AnsweredButRows new now x s piece reply outcome)
  pub ready : OnOk result (CanGoOn b now.views new now.tasks.items)
  pub cursors : OnOk result (AreCursors b.files new now)
  pub any_moment : (w : World) → PartsServe a old was w → Changes (λ x y. Between w.layout (steps.moves w piece) y) a b
  pub spent_is : IfErr result (OnSpent (λ kind. (w : World) → PartsServe a old was w → spent w.layout (steps.moves w piece) ≡ Some kind))
  -- an analyzer is there for each index, also for a new one, and for each cursor; where none is, no number was looked at
  pub classes : OnOk result (KnowsAll kinds old was → KnowsAll kinds new now)
  pub needed : IfOk result (λ outcome. HasNeeded kinds (class_needed (asks (known_in_memory (memory_of old)) piece)))
  pub needed_first : IfErr result (OnSpent (λ kind. HasNeeded kinds (class_needed (asks (known_in_memory (memory_of old)) piece))))
  pub missing : IfErr result (OnMissing (LacksNeeded kinds (asks (known_in_memory (memory_of old)) piece)))
  pub damaged : (folder : Folder) → b.files ≡ Some folder → IfErr result (OnStepDamage (StepShows was.views folder))
  pub undamaged : (w : World) → PartsServe a old was w → IfErr result (OnStepDamage (λ _. ⊥))
  pub reads_only : asks (known_in_memory (memory_of old)) piece ≡ NoChange → (DeletesOrBuilds (read piece) → ⊥) → Changes Same a b
  pub unread : (ReadsFiles (read piece) → ⊥) → b.reads ≡ a.reads
  pub reads : (w : World) → PartsServe a old was w → HasShortRows a.files w.layout (read piece) → b.reads ≤ a.reads + select_reads a.files w.layout (read piece)
  pub changes : Changes AnyFolderChange a b
  -- the files that open cursors hold after it stay, also where it fails
  pub held_stay : Changes (KeepsHeld now.views) a b
  pub causes : StepCauses a b result
