-- The open cursors of a store: what is kept of each, and which cursor of a model's session it is.
use Rattle.std.specs.Prelude.{◌≡◌, ◌⊎◌, ◌≤◌, ◌<◌, ◌-◌, ℕ, Contains, List, length, map, slice_get, Option, Some}
use Rattle.std.specs.List.{AllByRecursion, flat_map}
use Rattle.sasi_host.specs.declared.name.FileName.{FileName}
use Rattle.sasi_host.specs.Names.{Folder}
use Rattle.sasi_memindex.specs.Book as maps
use Rattle.sasi_model.specs.Abbreviations.{types_of}
use Rattle.sasi_model.specs.Cells.{Partition}
use Rattle.sasi_model.specs.Sessions as model
use Rattle.sasi_manifest.specs.Edits.{files_of}
use Rattle.sasi_manifest.specs.ListedDefinition.{ListedDefinition}
use Rattle.sasi_views.specs.Books.{Book}
use Rattle.sasi_views.specs.Kept.{IsCounted}
pub use Rattle.sasi_views.specs.Parts.{view_names}
use Rattle.sasi_views.specs.Parts.{ListsOnce}
use Rattle.sasi_views.specs.declared.part.Part.{Part}
use Rattle.sasi_views.specs.declared.part.Part.TheVariants.{File, Map}
use Rattle.sasi_cursors.specs.Agreement.{Agrees}
use Rattle.sasi_plan.specs.Answers.{RowsLeft}
use Rattle.sasi_plan.specs.contracts.plan_candidates.PlanCandidatesCandidates.TheImpl as source
use Rattle.sasi_fetch.specs.Cursors.{IsReadable, view_of}
use Rattle.sasi_fetch.specs.Printing.{row_picked}
use Rattle.sasi_tables.specs.Pinned.{IsAside}
use Rattle.sasi_tasks.specs.Running.{IsUnlisted}
use Rattle.sasi_tables.specs.declared.parts.Parts.{Parts}
use Rattle.sasi_store.specs.declared.session_state.OpenCursor.{OpenCursor}
use Rattle.sasi_store.specs.declared.session_state.SessionState.{SessionState}

-- open cursors, each under its name
abbrev pub Opened : Type 0
Opened = List (List ℕ × OpenCursor)

-- ---- their views

-- the views that they have out
abbrev pub views_out : Opened → List (List Part)
views_out cursors = map (λ (e : List ℕ × OpenCursor). view_of e.1.rows) cursors

-- so few views are out that one more can be counted, those that are counted
abbrev pub HasFewOut : Book → Type 0
HasFewOut book = (out : List (List Part)) × IsCounted book out × (length out ≤ 64)

-- what is told of them: the name of each cursor, and the files that it holds
abbrev pub views_told : Opened → List (List ℕ × List FileName)
views_told cursors = map (λ (e : List ℕ × OpenCursor). (e.0, view_names (view_of e.1.rows))) cursors

-- the names of the files that the open cursors hold
abbrev pub view_names_out : SessionState → List FileName
view_names_out session = flat_map (λ (view : List Part). view_names view) (views_out session.cursors)

-- ---- what is kept of them

-- a data file of a number that is used, which the table has listed with these index files or has no more, or a frozen map
abbrev pub IsKeptPart : Parts → ℕ → Part → Type 0
IsKeptPart p table (File number indexes) = (number ≤ p.numbers.data) × (Contains (files_of p.manifest.listing.tables table) (record { number = number; parts = indexes }) ⊎ IsUnlisted number p.manifest.listing)
IsKeptPart p table (Map number) = IsAside p number

-- It can be read on, and lists files that its table has or had, and frozen maps, none of them twice.
pub record IsKept (files : Option Folder) (p : Parts) (c : OpenCursor) : Type 0 where
  pub some : 0 < c.table
  pub row : ListedDefinition
  pub there : slice_get p.manifest.listing.tables (c.table - 1) ≡ Some row
  pub readable : IsReadable (types_of row.definition) files p.maps c.rows
  pub parts : AllByRecursion (IsKeptPart p c.table) (view_of c.rows)
  pub once : ListsOnce (view_of c.rows)

-- **The views that are out are those of the open cursors**, and each of these is kept.
pub record AreCursors (files : Option Folder) (p : Parts) (session : SessionState) : Type 0 where
  pub counted : IsCounted session.views (views_out session.cursors)
  pub kept : AllByRecursion (λ (e : List ℕ × OpenCursor). IsKept files p e.1) session.cursors
  pub few : length session.cursors ≤ 64

-- ---- the cursors of a model's session

-- **The cursor has the rows left that the model's has**, as the files and the maps are.
abbrev pub GivesRows : Option Folder → maps.Book → OpenCursor → model.Cursor → Type 0
GivesRows files book c x = (rows : List (List ℕ × Partition)) × RowsLeft source.leaves-value.it c.rows.reader.rows files book rows × (x.rows ≡ map (row_picked c.rows.reader.picked) rows)

-- one by one, in the order of opening
abbrev pub AreCursorsOf : Option Folder → maps.Book → Opened → model.SessionState → Type 0
AreCursorsOf files book cursors session = Agrees (λ (x : model.Cursor). x.name) (GivesRows files book) cursors session.cursors

-- the session has cursors of the same names
abbrev pub HasNamesOf : Opened → model.SessionState → Type 0
HasNamesOf cursors session = map (λ (e : List ℕ × OpenCursor). e.0) cursors ≡ model.cursor_names session
