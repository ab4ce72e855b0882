-- The tasks of a store: what each needs to go on, and which task of a layout it is.
use Rattle.std.specs.Prelude.{◌≡◌, ◌⊎◌, IsTrue, ◌<◌, ◌≤◌, ◌-◌, ◌++◌, ◌&&◌, ◌||◌, ◌+◌, ◌^◌, ℕ, Bool, true, not, is_some, nat_lt, Contains, List, [], ◌∷◌, length, map, slice_get, take, Option, None, Some, ⊤}
use Rattle.std.specs.FinMap as map_
use Rattle.std.specs.List.{AllByRecursion, list_any, zip}
use Rattle.sasi_types.specs.declared.class.Class.{Class}
use Rattle.sasi_types.specs.declared.index_def.IndexDef.{IndexDef}
use Rattle.sasi_host.specs.declared.name.FileName.{FileName}
use Rattle.sasi_host.specs.Names.{Folder, data_name, name_eq}
use Rattle.sasi_host.specs.View.{IsAbsent, View}
use Rattle.sasi_model.specs.Abbreviations.{kind_of, types_of}
use Rattle.sasi_model.specs.Indexes.{index_of}
use Rattle.sasi_manifest.specs.Edits.{files_of}
use Rattle.sasi_manifest.specs.FileNames.{has_name}
use Rattle.sasi_manifest.specs.ListedFiles.{NumbersRise}
use Rattle.sasi_manifest.specs.ListedTables.{listed}
use Rattle.sasi_manifest.specs.Listings.{by_number}
use Rattle.sasi_manifest.specs.declared.listed.ListedTable.{ListedTable}
use Rattle.sasi_manifest.specs.ListedDefinition.{ListedDefinition}
use Rattle.sasi_manifest.specs.declared.files.ListedFile.{ListedFile}
use Rattle.sasi_manifest.specs.declared.files.PartNumber.{PartNumber}
use Rattle.sasi_manifest.specs.declared.listing.Listing.{Listing}
use Rattle.sasi_merge.specs.Streams.{Entries}
use Rattle.sasi_compact.specs.Tasks.{CanGiveUp, CanGoOn, IsCompacting, MayReadMore}
use Rattle.sasi_compact.specs.declared.task.CompactTask.{CompactTask}
use Rattle.sasi_layout.specs.Compacting.{Compaction, IsRunning, TakesFirst, compact_parts, indexes_left}
use Rattle.sasi_layout.specs.Layout.{Layout, drawn}
use Rattle.sasi_layout.specs.Spent.{first_spent, part_draws}
use Rattle.sasi_views.specs.Books.{Book}
use Rattle.sasi_tables.specs.Held.{KnowsDef}
use Rattle.sasi_tables.specs.declared.fault.StepFault.{StepFault}
use Rattle.sasi_tables.specs.declared.fault.StepFault.TheVariants as fault
use Rattle.sasi_tables.specs.declared.parts.Parts.{Parts}
use Rattle.sasi_tasks.specs.Tasks.{Task, source_map}
use Rattle.sasi_tasks.specs.Unheld.{is_counted}
use Rattle.sasi_tasks.specs.declared.running.RunningTask.{RunningTask}

-- the numbers of index definitions
abbrev pub numbers_of : List IndexDef → List ℕ
numbers_of defs = map (λ (def : IndexDef). def.number) defs

-- the compaction of the layout that it is
abbrev pub compaction_of : RunningTask → Compaction
compaction_of r = record { table = r.table; output = r.task.compaction.number; sources = r.task.compaction.sources; indexes = numbers_of r.task.compaction.indexes }

-- ---- in any folder

-- it is the definition of an index of the table that is listed so, under its number
pub record IsListedIndex (row : ListedDefinition) (def : IndexDef) : Type 0 where
  pub listed : Contains (zip row.numbers row.definition.indexes) (def.number, index_of def)
  pub kind : kind_of row.definition def.column ≡ def.kind

-- they are definitions of indexes of the table, and rise by number
pub record AreListedIndexes (row : ListedDefinition) (defs : List IndexDef) : Type 0 where
  pub each : AllByRecursion (IsListedIndex row) defs
  pub rise : NumbersRise 0 (numbers_of defs)
  pub few : length defs < 2 ^ 16

-- no file of this number is listed
abbrev pub IsUnlisted : ℕ → Listing → Type 0
IsUnlisted number listing = (name : FileName) → has_name listing.tables name ≡ true → name.number ≡ number → ⊥

-- **It can go on**: it takes in the first files that are listed of its table, under the table's types and the one partitioner, and its file is listed of none.
pub record IsTaskReady (v : View) (p : Parts) (r : RunningTask) : Type 0 where
  pub can : CanGoOn v r.task
  pub some : 0 < r.table
  pub row : ListedDefinition
  pub there : slice_get p.manifest.listing.tables (r.table - 1) ≡ Some row
  pub types_are : r.task.compaction.types ≡ types_of row.definition
  pub partitioner_is : r.task.compaction.partitioner ≡ p.manifest.listing.partitioner
  pub takes : TakesFirst p.numbers.data (compaction_of r) row.files
  -- its sources are the first of these files
  pub firsts : map (λ (f : ListedFile). f.number) (take (length r.task.compaction.sources) row.files) ≡ r.task.compaction.sources
  pub indexes_are : AreListedIndexes row r.task.compaction.indexes
  pub used : r.task.compaction.number ≤ p.numbers.data
  pub unlisted : IsUnlisted r.task.compaction.number p.manifest.listing

-- its table and its file are those of none of these
abbrev pub IsApartFrom : List RunningTask → RunningTask → Type 0
IsApartFrom others r = AllByRecursion (λ (o : RunningTask). (o.table ≡ r.table → ⊥) × (o.task.compaction.number ≡ r.task.compaction.number → ⊥)) others

-- each is apart from those behind it
abbrev pub AreApart : List RunningTask → Type 0
AreApart [] = ⊤
AreApart (r ∷ rs) = IsApartFrom rs r × AreApart rs

pub record AreTasksReady (v : View) (p : Parts) (tasks : List RunningTask) : Type 0 where
  pub each : AllByRecursion (IsTaskReady v p) tasks
  pub apart : AreApart tasks

-- ---- files beside the listed ones

-- the file of a task that has done a unit
abbrev pub is_begun : List RunningTask → FileName → Bool
is_begun tasks name = list_any (λ (r : RunningTask). name_eq name (data_name r.task.compaction.number) && is_some r.task.output) tasks

-- a view that is out lists it
abbrev pub is_held : Book → FileName → Bool
is_held views name = not (is_counted views 0 name)

-- no view that is out lists a file of this number
abbrev pub IsUnheld : Book → ℕ → Type 0
IsUnheld views number = (name : FileName) → name.number ≡ number → is_held views name ≡ true → ⊥

-- a table has this file, with these parts, or no file of its number is listed
abbrev pub IsListedOrGone : Listing → ℕ → ListedFile → Type 0
IsListedOrGone listing table f = Contains (files_of listing.tables table) f ⊎ IsUnlisted f.number listing

-- a file that a view lists which is out stays one of its table, or stays or becomes one that is listed no more
abbrev pub KeepsPlaces : Book → Listing → Listing → Type 0
KeepsPlaces views old new = (table : ℕ) (f : ListedFile) → is_held views (data_name f.number) ≡ true → IsListedOrGone old table f → IsListedOrGone new table f

-- **Beside the listed files are those that a view lists which is out, and those of tasks that have done a unit.**
abbrev pub is_aside : Book → List RunningTask → Listing → FileName → Bool
is_aside views tasks listing name = not (has_name listing.tables name) && (is_held views name || is_begun tasks name)

-- ---- the tasks of a layout

-- **It is this task of the layout**: it runs there, has passed so many keys of the merge of its sources, and has the others left.
pub record IsTaskOf (v : View) (l : Layout) (r : RunningTask) (k : Task) : Type 0 where
  pub is : k.compaction ≡ compaction_of r
  pub runs : IsRunning k.compaction l
  pub passed : Entries
  pub left : Entries
  pub compacting : IsCompacting v r.task passed left
  pub passed_is : length passed ≡ k.passed
  pub whole : passed ++ left ≡ map_.entries (source_map k.compaction l)
  -- it has an output from its first unit on
  pub begun : is_some r.task.output ≡ nat_lt 0 k.passed

-- one by one, in the order in which they were begun
abbrev pub AreTasksOf : View → Layout → List RunningTask → List Task → Type 0
AreTasksOf v l [] [] = ⊤
AreTasksOf v l (r ∷ rs) (k ∷ ks) = IsTaskOf v l r k × AreTasksOf v l rs ks
AreTasksOf v l rs ks = ⊥

-- ---- what calls say of them

-- where it stands among them, if one is of this table
abbrev pub IsPositionOf : ℕ → List RunningTask → Option ℕ → Type 0
IsPositionOf table tasks None = AllByRecursion (λ (r : RunningTask). r.table ≡ table → ⊥) tasks
IsPositionOf table tasks (Some at) = (r : RunningTask) × (slice_get tasks at ≡ Some r) × (r.table ≡ table)

-- it takes in all files that are listed of its table, with the indexes of the table, into a file of this number, and is before its first unit
pub record IsOverAll (p : Parts) (table number : ℕ) (task : CompactTask) : Type 0 where
  pub row : ListedTable
  pub there : slice_get p.manifest.listing.tables (table - 1) ≡ Some (listed row)
  pub sources_are : task.compaction.sources ≡ map (λ (f : ListedFile). f.number) (files_of p.manifest.listing.tables table)
  pub number_is : task.compaction.number ≡ number
  pub indexes_are : task.compaction.indexes ≡ by_number row.table.indexes
  pub types_are : task.compaction.types ≡ types_of (listed row).definition
  pub partitioner_is : task.compaction.partitioner ≡ p.manifest.listing.partitioner
  pub before : task.output ≡ None
  pub usable : IsTrue task.usable

-- an analyzer of these classes is there for each of their indexes
abbrev pub KnowsTasks : List Class → List RunningTask → Type 0
KnowsTasks kinds tasks = AllByRecursion (λ (r : RunningTask). AllByRecursion (KnowsDef kinds) r.task.compaction.indexes) tasks

-- so many reads at most are left to the task of the table, if one runs there
abbrev pub MayReadIn : ℕ → Option Folder → List RunningTask → ℕ → Type 0
MayReadIn table files tasks most = AllByRecursion (λ (r : RunningTask). r.table ≡ table → MayReadMore files r.task most) tasks

-- these are the parts that the last unit draws after the last used one, and there is room for them
pub record DrawsParts (used : ℕ) (c : Compaction) (numbers : List ℕ) (parts : List PartNumber) : Type 0 where
  pub are : parts ≡ compact_parts used c numbers
  pub room : used + length parts < 2 ^ 32
  pub unspent : first_spent (part_draws used parts) None ≡ None

-- memory ran out, or no number is left for the part of one of the indexes with these numbers
abbrev pub StopsDrawn : ℕ → List ℕ → StepFault → Type 0
StopsDrawn used indexes fault.Failed = ⊥
StopsDrawn used indexes fault.OutOfMemory = ⊤
StopsDrawn used indexes (fault.Damaged damage) = ⊥
StopsDrawn used indexes (fault.NumbersSpent kind) = first_spent (part_draws used (drawn used indexes)) None ≡ Some kind
StopsDrawn used indexes (fault.AnalyzerMissing class) = ⊥

-- so of those that the last unit draws
abbrev pub StopsParts : ℕ → Compaction → List ℕ → StepFault → Type 0
StopsParts used c numbers f = StopsDrawn used (indexes_left c numbers) f

-- ---- giving up

-- each can be given up
abbrev pub CanGiveUpAll : View → List RunningTask → Type 0
CanGiveUpAll v tasks = AllByRecursion (λ (r : RunningTask). CanGiveUp v r.task) tasks

-- the file that it began is no longer there
abbrev pub IsGone : View → RunningTask → Type 0
IsGone v r = is_some r.task.output ≡ true → IsAbsent v (data_name r.task.compaction.number)
