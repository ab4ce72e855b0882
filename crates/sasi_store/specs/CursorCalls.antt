-- What OPEN, FETCH and CLOSE make of a store, where no rule of cursors refuses them.
use Rattle.std.specs.Prelude.{◌≡◌, ◌⊎◌, ◌++◌, ◌∷◌, [], ◌-◌, ◌<◌, ℕ, true, List, slice_get, take, Option, Some}
use Rattle.std.specs.List.{AllByRecursion}
use Rattle.std.specs.Map.{keys_of}
use Rattle.sasi_host.specs.declared.name.FileName.{FileName}
use Rattle.sasi_host.specs.View.{View}
use Rattle.sasi_manifest.specs.FileNames.{has_name}
use Rattle.sasi_layout.specs.Serving.{StoreInMemory}
use Rattle.sasi_machine.specs.Prepares.{CanAnswer}
use Rattle.sasi_machine.specs.declared.prepared.FetchAsked.{FetchAsked}
use Rattle.sasi_machine.specs.declared.prepared.OpenAsked.{OpenAsked}
use Rattle.sasi_machine.specs.declared.prepared.Selection.{Selection}
use Rattle.sasi_model.specs.Abbreviations.{first_refusal}
use Rattle.sasi_model.specs.Lines.{rows_lines}
use Rattle.sasi_model.specs.Refusals.{Refusal, cursor_rules}
use Rattle.sasi_model.specs.Sessions as model
use Rattle.sasi_model.specs.Sessions.{rows_left}
use Rattle.sasi_model.specs.State.{Definition}
use Rattle.sasi_types.specs.declared.class.Class.{Class}
use Rattle.sasi_types.specs.declared.statement.Statement.TheVariants as statement
use Rattle.sasi_cursors.specs.Cursors.{cursor_of}
use Rattle.sasi_engine.specs.Plans.{map_numbers}
use Rattle.sasi_fetch.specs.Cursors.{view_of}
use Rattle.sasi_fetch.specs.Printing.{PrintsAtMost}
use Rattle.sasi_tables.specs.Held.{AreForgottenBut}
use Rattle.sasi_tables.specs.MakesMoves.{Knows}
use Rattle.sasi_tables.specs.TablesView.{memory_of}
use Rattle.sasi_tables.specs.declared.fault.StepFault.{StepFault}
use Rattle.sasi_tables.specs.declared.fault.StepFault.TheVariants as fault
use Rattle.sasi_tables.specs.declared.parts.Parts.{Parts}
use Rattle.sasi_tasks.specs.MakesTaskMoves.{CanGoOn}
use Rattle.sasi_store.specs.Cursors.{AreCursors, HasNamesOf, Opened, view_names}
use Rattle.sasi_store.specs.StoreView.{KnowsAll}
use Rattle.sasi_store.specs.Worlds.{PartsServe, World, closed_world, fetched_world, opened_world}
use Rattle.sasi_store.specs.declared.session_state.OpenCursor.{OpenCursor}
use Rattle.sasi_store.specs.declared.session_state.SessionState.{SessionState}

-- the table of the rows is there, and no rule refuses the SELECT on it, but perhaps that of the number of relations
pub record CanOpenOn (store : StoreInMemory) (rows : Selection) : Type 0 where
  pub some : 0 < rows.table
  pub definition : Definition
  pub there : slice_get store.definitions (rows.table - 1) ≡ Some definition
  pub can : CanAnswer definition rows.select

-- the refusal of an OPEN by the rules of cursors
abbrev pub open_refusal : Opened → OpenAsked → Option Refusal
open_refusal cursors asked = first_refusal (cursor_rules (keys_of cursors) (statement.OpenCursor asked.cursor asked.rows.select))

-- **A cursor more is open**, over what its table has: a world that was served is served with it. No call was made.
pub record IsOpened (kinds : List Class) (v : View) (asked : OpenAsked) (old new : Parts) (was now : SessionState) : Type 0 where
  pub serves : (w : World) → PartsServe v old was w → PartsServe v new now (opened_world asked w)
  pub ready : CanGoOn v now.views new now.tasks.items
  pub cursors : AreCursors v.files new now
  pub classes : KnowsAll kinds new now
  pub knows : Knows (memory_of new) old.schema.definitions old.max_timestamp
  pub manifest : new.manifest ≡ old.manifest
  pub names : keys_of now.cursors ≡ keys_of was.cursors ++ asked.cursor ∷ []

-- **A cursor gave its next rows**, and has the others left.
pub record IsFetched (kinds : List Class) (a b : View) (asked : FetchAsked) (p : Parts) (was now : SessionState) (reply_old reply_new : List ℕ) : Type 0 where
  pub serves : (w : World) → PartsServe a p was w → PartsServe b p now (fetched_world asked w)
  pub reply_is : (w : World) → PartsServe a p was w → reply_new ≡ reply_old ++ rows_lines (take asked.count (rows_left asked.cursor w.session.cursors))
  pub ready : CanGoOn b now.views p now.tasks.items
  pub cursors : AreCursors b.files p now
  pub classes : KnowsAll kinds p was → KnowsAll kinds p now
  pub names : keys_of now.cursors ≡ keys_of was.cursors
  -- in any file it prints no more than that
  pub few : (c : OpenCursor) → Some c ≡ cursor_of asked.cursor was.cursors → PrintsAtMost c.rows.reader.picked asked.count reply_old reply_new

-- **A cursor is closed.** Of the files of its view those are gone that neither a table has nor a view that is out, and so are its maps.
pub record IsClosed (a b : View) (name : List ℕ) (old new : Parts) (was now : SessionState) : Type 0 where
  pub serves : (w : World) → PartsServe a old was w → PartsServe b new now (closed_world name w)
  pub memory : memory_of new ≡ memory_of old
  pub ready : CanGoOn b now.views new now.tasks.items
  pub cursors : AreCursors b.files new now
  pub classes : (kinds : List Class) → KnowsAll kinds old was → KnowsAll kinds new now
  -- so are the names of a model's session
  pub names : (x : model.SessionState) → HasNamesOf was.cursors x → HasNamesOf now.cursors (record x { cursors = model.without_cursor name x.cursors })
  pub forgotten : (c : OpenCursor) → Some c ≡ cursor_of name was.cursors → AreForgottenBut old.tables.items now.views (map_numbers (view_of c.rows)) old.maps new.maps

-- the table of the cursor has all files still that it lists
abbrev pub HasAllListed : Parts → OpenCursor → Type 0
HasAllListed p c = AllByRecursion (λ (file : FileName). has_name p.manifest.listing.tables file ≡ true) (view_names (view_of c.rows))

-- a call on the host failed, or memory ran out
abbrev pub IsOfCalls : StepFault → Type 0
IsOfCalls f = (f ≡ fault.Failed) ⊎ (f ≡ fault.OutOfMemory)
