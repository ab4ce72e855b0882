-- The maps of tables in memory, frozen ones and memtables: they stand in a book under numbers of their own, each with the indexes of its table.
use Rattle.std.specs.Prelude.{◌≡◌, ◌⊎◌, ◌<◌, ◌≤◌, ◌-◌, ◌++◌, ◌∷◌, [], ℕ, suc, false, nat_eq, List, Contains, length, map, slice_get, slice_set, Option, None, Some, IsSome, ⊤}
use Rattle.std.specs.FinMap.{get, remove}
use Rattle.std.specs.List.{AllByRecursion, zip}
use Rattle.std.specs.Option.{option_map, option_map_or}
use Rattle.sasi_types.specs.Rule.{class_of}
use Rattle.sasi_types.specs.declared.class.Class.{Class}
use Rattle.sasi_types.specs.declared.column.ColumnType.{ColumnType}
use Rattle.sasi_types.specs.declared.index_def.IndexDef.{IndexDef}
use Rattle.sasi_types.specs.declared.partitioner.Partitioner.TheVariants.{Lead8}
use Rattle.sasi_types.specs.declared.rule.Rule.{Rule}
use Rattle.sasi_cells.specs.Maps.{merged}
use Rattle.sasi_cells.specs.declared.mutation.Mutation.{Mutation}
use Rattle.sasi_layout.specs.Classes.{HasNeeded}
use Rattle.sasi_layout.specs.Moves.{or_else}
use Rattle.sasi_layout.specs.Serving.{TableInMemory}
use Rattle.sasi_manifest.specs.ListedDefinition.{ListedDefinition}
use Rattle.sasi_manifest.specs.declared.listed.ListedTable.{ListedTable}
use Rattle.sasi_memindex.specs.declared.map_part.MapPart.{MapPart}
use Rattle.sasi_memindex.specs.Book.{AreKept, AreValuesOf, Book, IsAdded, IsChanged, IsMissingIn, bare, subjects}
use Rattle.sasi_memtable.specs.MemtableView.{MemtableView, empty_memtable}
use Rattle.sasi_model.specs.Abbreviations.{Partitions, kind_of}
use Rattle.sasi_model.specs.State.{Definition, Index}
use Rattle.sasi_recover.specs.declared.opened.TableMap.{TableMap}
use Rattle.sasi_views.specs.Books.{Book as ViewBook, count_of}
use Rattle.sasi_views.specs.declared.component.Component.TheVariants.{Map}
use Rattle.sasi_tables.specs.declared.table_maps.TableMaps.{TableMaps}

-- ---- the maps of tables

-- the map with this number, an empty one where there is none
abbrev pub map_in : Book → ℕ → MemtableView
map_in book number = option_map_or (λ (part : MapPart). part.map) (get book number) (empty_memtable Lead8)

-- the numbers of a table's maps: the frozen ones, the oldest first, and then the memtable
abbrev pub numbers_of : TableMaps → List ℕ
numbers_of t = t.frozen ++ t.memtable ∷ []

-- a table with its maps
pub record HeldTable : Type 0 where
  pub number : ℕ
  -- the oldest first
  pub frozen : List MemtableView
  pub memtable : MemtableView
  -- the first live segment that has a mutation of one of them
  pub first : Option ℕ

abbrev pub held_by : Book → TableMaps → HeldTable
held_by book t = record { number = t.number; frozen = map (map_in book) t.frozen; memtable = map_in book t.memtable; first = t.first }

abbrev pub held_of : Book → List TableMaps → List HeldTable
held_of book tables = map (held_by book) tables

-- a table of an opened folder, which has no frozen map
abbrev pub opened_held : TableMap → HeldTable
opened_held t = record { number = t.number; frozen = []; memtable = t.memtable; first = t.first }

abbrev pub partitions_of : List MemtableView → List Partitions
partitions_of maps = map (λ (m : MemtableView). m.partitions) maps

-- what is in memory of a table
abbrev pub in_memory : HeldTable → TableInMemory
in_memory t = record { first = t.first; frozen = partitions_of t.frozen; memtable = t.memtable.partitions }

-- ---- several maps

-- what isn't flushed of a table in memory, the oldest first
abbrev pub unflushed_maps : TableInMemory → List Partitions
unflushed_maps t = t.frozen ++ t.memtable ∷ []

-- the maps with these numbers
abbrev pub maps_with : Book → List ℕ → List Partitions
maps_with book numbers = map (λ number. (map_in book number).partitions) numbers

-- their merge, in which a later one is newer
abbrev pub merged_in : Book → List ℕ → Partitions
merged_in book numbers = merged (maps_with book numbers)

-- the maps with these numbers are there, and one alone is what it is merged into
pub record CanMerge (book : Book) (numbers : List ℕ) : Type 0 where
  pub there : AllByRecursion (λ number. IsSome (get book number)) numbers
  pub alone : (number : ℕ) → numbers ≡ number ∷ [] → merged_in book numbers ≡ (map_in book number).partitions

-- ---- their indexes

-- the number of an index, and what it is of
abbrev pub Subject : Type 0
Subject = ℕ × (ℕ × (ColumnType × Option Rule))

abbrev pub subject_in : Definition → Index → ℕ × (ColumnType × Option Rule)
subject_in d index = (index.column, (kind_of d index.column, index.rule))

-- the indexes that a listed table has
abbrev pub subjects_of : ListedDefinition → List Subject
subjects_of t = zip t.numbers (map (subject_in t.definition) t.definition.indexes)

-- the map has these indexes and no others, and each has the terms of the cells that are current in the map
pub record IsIndexed (wanted : List Subject) (part : MapPart) : Type 0 where
  pub subjects_are : subjects part.indexes ≡ wanted
  pub kept : AreKept part.map.partitions part.indexes

abbrev pub HasIndexes : List Subject → Option MapPart → Type 0
HasIndexes wanted None = ⊥
HasIndexes wanted (Some part) = IsIndexed wanted part

-- each number is less than those after it
abbrev pub Rise : List ℕ → Type 0
Rise [] = ⊤
Rise (n ∷ ns) = AllByRecursion (λ k. n < k) ns × Rise ns

-- The tables have maps of their own in the book, numbered up to the last used number: those of one rise, and none is that of two. Each map has its table's indexes.
pub record AreMapped (book : Book) (last : ℕ) (wanted : List (List Subject)) (tables : List TableMaps) : Type 0 where
  pub counted : length wanted ≡ length tables
  pub apart : (i j : ℕ) (x y : TableMaps) (number : ℕ) → slice_get tables i ≡ Some x → slice_get tables j ≡ Some y → Contains (numbers_of x) number → Contains (numbers_of y) number → i ≡ j
  pub rising : (i : ℕ) (x : TableMaps) → slice_get tables i ≡ Some x → Rise (numbers_of x)
  pub used : (i : ℕ) (x : TableMaps) (number : ℕ) → slice_get tables i ≡ Some x → Contains (numbers_of x) number → number ≤ last
  pub indexed : (i : ℕ) (x : TableMaps) (subjects : List Subject) (number : ℕ) → slice_get tables i ≡ Some x → slice_get wanted i ≡ Some subjects → Contains (numbers_of x) number → HasIndexes subjects (get book number)

-- each index is of a regular column
abbrev pub HasRegularIndexes : ListedDefinition → Type 0
HasRegularIndexes t = AllByRecursion (λ (index : Index). 1 ≤ index.column) t.definition.indexes

-- ---- changes

-- the map with this number is another, and the others stay
abbrev pub OthersStay : ℕ → Book → Book → Type 0
OthersStay number old new = (other : ℕ) → nat_eq other number ≡ false → get new other ≡ get old other

-- the table with this number is there, and so are its maps
pub record HasMapFor (number : ℕ) (tables : List TableMaps) (book : Book) : Type 0 where
  pub some : 0 < number
  pub inside : number ≤ length tables
  pub there : (t : TableMaps) → slice_get tables (number - 1) ≡ Some t → AllByRecursion (λ n. IsSome (get book n)) (numbers_of t)

-- an analyzer of each class is there that the map's indexes need
abbrev pub KnowsMap : List Class → Option MapPart → Type 0
KnowsMap kinds part = (class : Class) → IsMissingIn kinds part class → ⊥

-- The map of a table has the mutation, and this segment is the table's first one if it had none.
pub record IsPutIn (segment : ℕ) (m : Mutation) (t : TableMaps) (old new : List TableMaps) (book after : Book) : Type 0 where
  pub tables_are : new ≡ slice_set old (m.table - 1) (record t { first = or_else t.first (Some segment) })
  pub changed : IsChanged m.key m.change (get book t.memtable) (get after t.memtable)
  pub others : OthersStay t.memtable book after

-- what an index is of that has this definition
abbrev pub subject_of : IndexDef → Subject
subject_of def = (def.number, (def.column, (def.kind, def.rule)))

-- an analyzer is there for an index of this definition
abbrev pub KnowsDef : List Class → IndexDef → Type 0
KnowsDef kinds def = HasNeeded kinds (option_map class_of def.rule)

-- the map has values of the type in the column of each of them
abbrev pub CanAddAll : List IndexDef → Option MapPart → Type 0
CanAddAll defs None = ⊥
CanAddAll defs (Some part) = AllByRecursion (λ (def : IndexDef). AreValuesOf def.column def.kind part.map.partitions) defs

-- indexes of these definitions come after the others; where those are kept, all are
pub record HasNewIndexes (defs : List IndexDef) (old new : MapPart) : Type 0 where
  pub map_is : new.map ≡ old.map
  pub subjects_are : subjects new.indexes ≡ subjects old.indexes ++ map subject_of defs
  pub kept : AreKept old.map.partitions old.indexes → AreKept new.map.partitions new.indexes

abbrev pub AreAdded : List IndexDef → Option MapPart → Option MapPart → Type 0
AreAdded defs (Some old) (Some new) = HasNewIndexes defs old new
AreAdded defs old new = ⊥

-- what the indexes of listed tables are of
abbrev pub wanted_rows : List ListedTable → List (List Subject)
wanted_rows rows = map (λ (row : ListedTable). map subject_of row.table.indexes) rows

-- maps for the listed tables, whose indexes can be made
abbrev pub CanIndexTables : List Class → List ListedTable → List TableMap → Type 0
CanIndexTables kinds [] [] = ⊤
CanIndexTables kinds [] (x ∷ xs) = ⊥
CanIndexTables kinds (row ∷ rows) [] = ⊥
CanIndexTables kinds (row ∷ rows) (x ∷ xs) = CanAddAll row.table.indexes (Some (bare x.memtable)) × AllByRecursion (KnowsDef kinds) row.table.indexes × CanIndexTables kinds rows xs

-- a table more has its map under a new number, with indexes of these definitions
pub record IsAddedTo (last : ℕ) (t : TableMap) (defs : List IndexDef) (old new : List TableMaps) (book after : Book) : Type 0 where
  pub tables_are : new ≡ old ++ record { number = t.number; frozen = []; memtable = suc last; first = t.first } ∷ []
  pub made : AreAdded defs (Some (bare t.memtable)) (get after (suc last))
  pub others : OthersStay (suc last) book after

-- another map with indexes of these definitions stands in the place of a table's memtable, and the table has no frozen map and no first segment
pub record IsReplaced (index : ℕ) (memtable : MemtableView) (defs : List IndexDef) (t : TableMaps) (old new : List TableMaps) (book after : Book) : Type 0 where
  pub tables_are : new ≡ slice_set old index (record t { frozen = []; first = None })
  pub made : AreAdded defs (Some (bare memtable)) (get after t.memtable)
  pub others : OthersStay t.memtable book after

-- a table's memtable is its last frozen map, and another map with indexes of these definitions is the memtable, under a new number
pub record IsFrozen (last index : ℕ) (memtable : MemtableView) (defs : List IndexDef) (t : TableMaps) (old new : List TableMaps) (book after : Book) : Type 0 where
  pub tables_are : new ≡ slice_set old index (record t { frozen = numbers_of t; memtable = suc last })
  pub made : AreAdded defs (Some (bare memtable)) (get after (suc last))
  pub others : OthersStay (suc last) book after

-- an index of this definition is in each of the maps with these numbers, and all other maps stay
pub record IsAddedToAll (def : IndexDef) (numbers : List ℕ) (book after : Book) : Type 0 where
  pub added : (number : ℕ) → Contains numbers number → IsAdded def.number def.column def.kind def.rule (get book number) (get after number)
  pub others : (number : ℕ) → (Contains numbers number → ⊥) → get after number ≡ get book number

-- ---- maps that nothing lists

-- Of the maps with these numbers those are gone that no view lists which is out, and all others stay.
pub record AreForgotten (views : ViewBook) (numbers : List ℕ) (book after : Book) : Type 0 where
  pub gone : (number : ℕ) → Contains numbers number → count_of views (Map number) ≡ 0 → get after number ≡ None
  pub listed : (number : ℕ) → 0 < count_of views (Map number) → get after number ≡ get book number
  pub kept : (number : ℕ) → IsSome (get after number) → get after number ≡ get book number
  pub others : (number : ℕ) → (Contains numbers number → ⊥) → get after number ≡ get book number

-- the map with this number is one of a table's
abbrev pub IsOfTable : List TableMaps → ℕ → Type 0
IsOfTable tables number = (at : ℕ) × (t : TableMaps) × (slice_get tables at ≡ Some t) × Contains (numbers_of t) number

-- the numbers of each table's maps rise
abbrev pub HaveRising : List TableMaps → Type 0
HaveRising tables = (at : ℕ) (t : TableMaps) → slice_get tables at ≡ Some t → Rise (numbers_of t)

-- The map with this number is gone, where no table has it and no view lists it which is out. Else all maps stay.
abbrev pub IsForgottenBut : List TableMaps → ViewBook → ℕ → Book → Book → Type 0
IsForgottenBut tables views number book after =
    ((after ≡ remove book number) × (IsOfTable tables number → ⊥) × (count_of views (Map number) ≡ 0)) ⊎ ((after ≡ book) × (IsOfTable tables number ⊎ (0 < count_of views (Map number))))

-- **Of the maps with these numbers those are gone that no table has and no view lists which is out**, and all others stay.
pub record AreForgottenBut (tables : List TableMaps) (views : ViewBook) (numbers : List ℕ) (book after : Book) : Type 0 where
  pub gone : (number : ℕ) → Contains numbers number → count_of views (Map number) ≡ 0 → (IsOfTable tables number → ⊥) → get after number ≡ None
  pub listed : (number : ℕ) → 0 < count_of views (Map number) → get after number ≡ get book number
  pub own : (number : ℕ) → IsOfTable tables number → get after number ≡ get book number
  pub others : (number : ℕ) → (Contains numbers number → ⊥) → get after number ≡ get book number

-- The book has no maps but those of tables, and those that a view lists which is out.
abbrev pub HasNoOthers : ViewBook → List TableMaps → Book → Type 0
HasNoOthers views tables book = (number : ℕ) → IsSome (get book number) → IsOfTable tables number ⊎ (0 < count_of views (Map number))
