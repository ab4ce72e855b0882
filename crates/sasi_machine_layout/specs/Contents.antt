-- What a layout in memory holds, as a layout of the definitions.
use Rattle.std.specs.Prelude.{◌≡◌, ℕ, ◌<◌, ◌≤◌, List, [], ◌∷◌, ◌++◌, length, map, ⊤, Some}
use Rattle.std.specs.FinMap as map_
use Rattle.std.specs.List.{AllByRecursion}
use Rattle.sasi_types.specs.declared.decorated_key.DecoratedKey.{DecoratedKey}
use Rattle.sasi_types.specs.declared.partitioner.Partitioner.{Partitioner}
use Rattle.sasi_model.specs.Abbreviations.{Partitions, TIME_LIMIT}
use Rattle.sasi_model.specs.Cells.{IsNormal, Partition}
use Rattle.sasi_model.specs.State.{Definition, max_timestamp}
use Rattle.sasi_layout.specs.Layout.{File, Layout, TableParts, state_of}
use Rattle.sasi_machine.specs.TableRows.{TextsStored}
use Rattle.sasi_machine_layout.specs.declared.contents.Contents.{Contents}
use Rattle.sasi_machine_layout.specs.declared.contents.FileContents.{FileContents}
use Rattle.sasi_machine_layout.specs.declared.contents.TableContents.{TableContents}

-- ---- the layout

abbrev pub file_of : FileContents → File
file_of f = record { listed = f.listed; holds = f.holds.partitions }

-- the table of this definition, whose indexes have these numbers; no map of it is frozen
abbrev pub table_with : Definition → List ℕ → TableContents → TableParts
table_with d numbers t = record {
  definition = d;
  numbers = numbers;
  since = t.since;
  first = t.first;
  files = map file_of t.files.items;
  frozen = [];
  memtable = t.memtable.partitions;
}

abbrev pub tables_of : List Definition → List (List ℕ) → List TableContents → List TableParts
tables_of [] numbers ts = []
tables_of (d ∷ ds) [] ts = []
tables_of (d ∷ ds) (n ∷ ns) [] = []
tables_of (d ∷ ds) (n ∷ ns) (t ∷ ts) = table_with d n t ∷ tables_of ds ns ts

-- **The layout.**
abbrev pub layout_of : Contents → Layout
layout_of c = record {
  partitioner = c.partitioner;
  floor = c.floor;
  last = c.last;
  records = c.records;
  length = c.length;
  tables = tables_of c.schema.definitions c.schema.numbers c.tables.items;
  used = record { manifest = c.manifest; log = c.last; «data» = c.«data»; index = c.schema.last; part = c.part };
}

-- ---- what is true of it

-- its maps, the oldest first
abbrev pub maps_in : TableContents → List Partitions
maps_in t = map (λ (f : FileContents). f.holds.partitions) t.files.items ++ t.memtable.partitions ∷ []

-- their keys have tokens of the partitioner
pub record IsUnder (p : Partitioner) (t : TableContents) : Type 0 where
  pub files : AllByRecursion (λ (f : FileContents). f.holds.partitioner ≡ p) t.files.items
  pub memtable : t.memtable.partitioner ≡ p

-- texts are UTF-8, and no cell is shadowed
pub record IsKept (m : Partitions) : Type 0 where
  pub texts : TextsStored m
  pub normal : (key : DecoratedKey) (part : Partition) → map_.get m key ≡ Some part → IsNormal part

-- and so of all maps of a table
pub record AreKept (t : TableContents) : Type 0 where
  pub files : AllByRecursion (λ (f : FileContents). IsKept f.holds.partitions) t.files.items
  pub memtable : IsKept t.memtable.partitions

-- there is a table for each definition, and for each list of numbers
abbrev pub AreHeld : List Definition → List (List ℕ) → List TableContents → Type 0
AreHeld [] [] [] = ⊤
AreHeld [] [] (t ∷ ts) = ⊥
AreHeld [] (n ∷ ns) ts = ⊥
AreHeld (d ∷ ds) [] ts = ⊥
AreHeld (d ∷ ds) (n ∷ ns) [] = ⊥
AreHeld (d ∷ ds) (n ∷ ns) (t ∷ ts) = AreHeld ds ns ts

pub record IsContents (c : Contents) : Type 0 where
  pub held : AreHeld c.schema.definitions c.schema.numbers c.tables.items
  pub under : AllByRecursion (IsUnder c.partitioner) c.tables.items
  pub kept : AllByRecursion AreKept c.tables.items
  -- this is the largest timestamp of the state
  pub max_timestamp_is : c.max_timestamp ≡ max_timestamp (state_of (layout_of c))
  pub limit : c.max_timestamp ≤ TIME_LIMIT

-- there is a table of this number
pub record HasTable (c : Contents) (number : ℕ) : Type 0 where
  pub some : 0 < number
  pub inside : number ≤ length c.tables.items
