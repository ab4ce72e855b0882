-- What holds of every listing that edits make.
use Rattle.std.specs.Prelude.{◌≡◌, ℕ, ◌<◌, ◌≤◌, ◌^◌, true, nat_eq, List, [], ◌∷◌, length, Option, Some, None}
use Rattle.std.specs.List.{AllByRecursion, count_by}
use Rattle.sasi_manifest.specs.declared.files.ListedFile.{ListedFile}
use Rattle.sasi_manifest.specs.declared.listing.Listing.{Listing}
use Rattle.sasi_host.specs.Names.{Bytes}
use Rattle.sasi_model.specs.Abbreviations.{kind_of}
use Rattle.sasi_model.specs.Indexes.{mode_fits}
use Rattle.sasi_model.specs.Statements.{same}
use Rattle.sasi_manifest.specs.Edits.{index_names, index_numbers}
use Rattle.sasi_manifest.specs.ListedDefinition.{ListedDefinition}
use Rattle.sasi_manifest.specs.ListedFiles.{FitParts, has_file}
pub use Rattle.sasi_manifest.specs.ListedFiles.{NumbersRise}
use Rattle.sasi_manifest.specs.Listings.{CanStart, listed_definitions}

-- the numbers of the files rise, the first above this one, and they fit their width
abbrev pub FilesRise : ℕ → List ListedFile → Type 0
FilesRise above [] = Unit {0}
FilesRise above (f ∷ fs) = (above < f.number) × (f.number < 2 ^ 32) × FilesRise f.number fs

-- how many tables have the file of this number
abbrev pub owners : ℕ → List ListedDefinition → ℕ
owners n tables = count_by (λ t. has_file t.files n) tables

-- how many indexes have this number, or this name
abbrev pub numbered : ℕ → List ListedDefinition → ℕ
numbered n tables = count_by (nat_eq n) (index_numbers tables)

abbrev pub named : Bytes → List ListedDefinition → ℕ
named name tables = count_by (same name) (index_names (listed_definitions tables))

-- Each index of a table has a number from 1 on, and stands on a column of a number from 1 on, of which none has two. The type of the column can have its mode.
pub record HasIndexes (t : ListedDefinition) : Type 0 where
  pub counted : length t.numbers ≡ length t.definition.indexes
  pub numbered : AllByRecursion (λ n. (1 ≤ n) × (n < 2 ^ 32)) t.numbers
  pub regular : AllByRecursion (λ i. (1 ≤ i.column) × (i.column < 2 ^ 16)) t.definition.indexes
  pub typed : AllByRecursion (λ i. mode_fits i.mode (kind_of t.definition i.column) ≡ true) t.definition.indexes
  pub columns : (column : ℕ) → count_by (λ i. nat_eq i.column column) t.definition.indexes ≤ 1

-- each file has parts of the table's indexes
abbrev pub HasParts : ListedDefinition → Type 0
HasParts t = AllByRecursion (λ f. FitParts t.numbers f.parts) t.files

-- There are live segments of the log, and no table begins after the last of them. The files of each table rise by number, and none stands in two tables.
-- Their parts are those of indexes of the table. No number and no name of an index stands twice.
pub record IsConsistent (listing : Listing) : Type 0 where
  pub start : CanStart listing.floor listing.last
  pub since : AllByRecursion (λ t. t.since ≤ listing.last) listing.tables
  pub files : AllByRecursion (λ t. FilesRise 0 t.files) listing.tables
  pub apart : (n : ℕ) → owners n listing.tables ≤ 1
  pub parts : AllByRecursion HasParts listing.tables
  pub indexes : AllByRecursion HasIndexes listing.tables
  pub numbers : (n : ℕ) → numbered n listing.tables ≤ 1
  pub names : (name : Bytes) → named name listing.tables ≤ 1

-- The indexes of each table were created in the order of their numbers. Edits may create them in another order.
abbrev pub HasIndexesInOrder : Listing → Type 0
HasIndexesInOrder listing = AllByRecursion (λ t. NumbersRise 0 t.numbers) listing.tables

-- the same of a listing, if there is one
abbrev pub ConsistentIf : Option Listing → Type 0
ConsistentIf None = Unit {0}
ConsistentIf (Some listing) = IsConsistent listing
