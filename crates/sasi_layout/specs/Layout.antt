-- What a store holds, part by part: in files that the manifest lists, and in maps that aren't in a file yet.
use Rattle.std.specs.Prelude.{◌≡◌, ℕ, suc, max, nat_eq, if◌then◌else◌, List, [], ◌∷◌, ◌++◌, map, Option, None, Some}
use Rattle.std.specs.List.{zip}
use Rattle.std.specs.Ordering.{nat_cmp}
use Rattle.sasi_types.specs.declared.partitioner.Partitioner.{Partitioner}
use Rattle.sasi_cells.specs.Maps.{merged}
use Rattle.sasi_model.specs.State.{Definition, Index, State, Table}
use Rattle.sasi_model.specs.Abbreviations.{Partitions}
use Rattle.sasi_manifest.specs.declared.files.ListedFile.{ListedFile}
use Rattle.sasi_manifest.specs.declared.files.PartNumber.{PartNumber}
use Rattle.sasi_manifest.specs.declared.listing.Listing.{Listing}
use Rattle.sasi_manifest.specs.FileNames.{largest_part}
use Rattle.sasi_manifest.specs.ListedDefinition.{ListedDefinition}
use Rattle.sasi_manifest.specs.Listings.{largest_index}
use Rattle.sasi_segments.specs.Sorting.{sort}

-- ---- a layout

-- a current data file, with the partitions that it has
pub record File : Type 0 where
  pub listed : ListedFile
  pub holds : Partitions

-- the parts of a table
pub record TableParts : Type 0 where
  pub definition : Definition
  -- the numbers of its indexes, in order
  pub numbers : List ℕ
  -- the first segment of the log that can have mutations of the table
  pub since : ℕ
  -- the least live segment from there on that has one
  pub first : Option ℕ
  -- rising by number
  pub files : List File
  -- maps that no write changes any more, the oldest first
  pub frozen : List Partitions
  pub memtable : Partitions

-- the last used number of each kind
pub record Used : Type 0 where
  -- that of the sealed manifest
  pub manifest : ℕ
  pub log : ℕ
  pub «data» : ℕ
  pub index : ℕ
  pub part : ℕ

pub record Layout : Type 0 where
  pub partitioner : Partitioner
  -- the live segments of the log are those from the floor to the last
  pub floor : ℕ
  pub last : ℕ
  -- the number of records of the manifest, and its length
  pub records : ℕ
  pub length : ℕ
  pub tables : List TableParts
  pub used : Used

-- the item of a number, where the numbers rise from this one on
abbrev pub numbered : {A : Type 0} → ℕ → ℕ → List A → Option A
numbered n number [] = None
numbered n number (x ∷ xs) = if nat_eq n number then Some x else numbered (suc n) number xs

-- ---- indexes

-- the indexes with their numbers
abbrev pub numbered_indexes : TableParts → List (ℕ × Index)
numbered_indexes t = zip t.numbers t.definition.indexes

-- their numbers, rising: a flush writes a file of each
abbrev pub rising_numbers : TableParts → List ℕ
rising_numbers t = sort nat_cmp t.numbers

-- a part of each index of these numbers, in their order, after the last used one
abbrev pub drawn : ℕ → List ℕ → List PartNumber
drawn used [] = []
drawn used (n ∷ ns) = record { index = n; part = suc used } ∷ drawn (suc used) ns

-- ---- what the manifest lists of it

abbrev pub listed_of : TableParts → ListedDefinition
listed_of t = record { definition = t.definition; numbers = t.numbers; since = t.since; files = map (λ (f : File). f.listed) t.files }

abbrev pub listing_of : Layout → Listing
listing_of l = record { partitioner = l.partitioner; floor = l.floor; last = l.last; records = l.records; length = l.length; tables = map listed_of l.tables }

-- ---- the state

-- what isn't in a file, the oldest first
abbrev pub unflushed : TableParts → List Partitions
unflushed t = t.frozen ++ t.memtable ∷ []

-- all parts, the oldest first
abbrev pub parts : TableParts → List Partitions
parts t = map (λ (f : File). f.holds) t.files ++ unflushed t

abbrev pub table_of : TableParts → Table
table_of t = record { definition = t.definition; partitions = merged (parts t) }

-- The state: of each table the merge of all its parts.
abbrev pub state_of : Layout → State
state_of l = record { partitioner = l.partitioner; tables = map table_of l.tables }

-- ---- what a crash leaves of it

abbrev pub largest_file : List ListedFile → ℕ
largest_file [] = 0
largest_file (f ∷ fs) = max f.number (largest_file fs)

abbrev pub largest_data : List ListedDefinition → ℕ
largest_data [] = 0
largest_data (t ∷ ts) = max (largest_file t.files) (largest_data ts)

-- the largest numbers that are listed, under the manifest of this number
abbrev pub used_in : ℕ → Listing → Used
used_in manifest listing = record { manifest = manifest; log = listing.last; «data» = largest_data listing.tables; index = largest_index listing.tables; part = largest_part listing.tables }

-- no map is frozen
abbrev pub IsIdle : TableParts → Type 0
IsIdle t = t.frozen ≡ []

abbrev pub bare_table : TableParts → TableParts
bare_table t = record t { frozen = []; memtable = merged (unflushed t) }

-- What isn't flushed is one map, and the last used numbers are those that are listed.
abbrev pub bare : Layout → Layout
bare l = record l { tables = map bare_table l.tables; used = used_in l.used.manifest (listing_of l) }
