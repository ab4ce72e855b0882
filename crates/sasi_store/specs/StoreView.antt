-- What contracts see of a store.
use Rattle.std.specs.Prelude.{ℕ, IsTrue, List}
use Rattle.std.specs.List.{AllByRecursion}
use Rattle.sasi_types.specs.declared.class.Class.{Class}
use Rattle.sasi_host.specs.View.{View}
use Rattle.sasi_layout.specs.Classes.{KnowsClasses}
use Rattle.sasi_layout.specs.Serving.{StoreInMemory}
use Rattle.sasi_recheck.specs.Rows.{KnowsWhere}
use Rattle.sasi_tables.specs.TablesView.{memory_of}
use Rattle.sasi_tasks.specs.MakesTaskMoves.{CanGoOn}
use Rattle.sasi_tasks.specs.Running.{KnowsTasks}
use Rattle.sasi_tables.specs.declared.parts.Parts.{Parts}
use Rattle.sasi_store.specs.Cursors.{AreCursors}
use Rattle.sasi_store.specs.declared.session_state.OpenCursor.{OpenCursor}
use Rattle.sasi_store.specs.declared.session_state.SessionState.{SessionState}
use Rattle.sasi_store.specs.declared.store.Store.{Store}

-- ---- a store

-- what it has in memory of its folder
abbrev pub store_memory : Store → StoreInMemory
store_memory store = memory_of store.parts

-- It can make a step: every step before succeeded, each task can go on, the views that are out are those of the open cursors, each of which can be read on, and the
-- folder has the files that are listed, those that cursors hold, those that tasks have begun, and no other.
pub record IsReady (v : View) (store : Store) : Type 0 where
  pub goes_on : CanGoOn v store.session.views store.parts store.session.tasks.items
  pub usable : IsTrue store.usable
  pub cursors : AreCursors v.files store.parts store.session

-- An analyzer is there for each index of the tables and of the tasks, and for each condition of an open cursor that needs one.
pub record KnowsAll (kinds : List Class) (p : Parts) (session : SessionState) : Type 0 where
  pub tables : KnowsClasses kinds (memory_of p)
  pub cursors : AllByRecursion (λ (e : List ℕ × OpenCursor). KnowsWhere kinds e.1.rows.reader.rows.filter) session.cursors
  pub tasks : KnowsTasks kinds session.tasks.items

abbrev pub KnowsStore : List Class → Store → Type 0
KnowsStore kinds store = KnowsAll kinds store.parts store.session
