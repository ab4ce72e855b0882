-- What a step leaves of the files of tables: a reader that has a view of them can go on reading.
use Rattle.std.specs.Prelude.{◌≡◌, ◌≤◌, ◌++◌, ℕ, true, Contains, List, slice_get, Some}
use Rattle.std.specs.List.{zip}
use Rattle.std.specs.FinMap.{get}
use Rattle.sasi_folder.specs.Damages.{IsListedName}
use Rattle.sasi_host.specs.declared.name.FileName.{FileName}
use Rattle.sasi_host.specs.Names.{Folder, rank}
use Rattle.sasi_model.specs.Abbreviations.{types_of}
use Rattle.sasi_model.specs.State.{Index}
use Rattle.sasi_layout.specs.NumbersInOrder.{Rising}
use Rattle.sasi_manifest.specs.FileNames.{has_name}
use Rattle.sasi_manifest.specs.ListedDefinition.{ListedDefinition}
use Rattle.sasi_manifest.specs.declared.files.ListedFile.{ListedFile}
use Rattle.sasi_manifest.specs.declared.listing.Listing.{Listing}

-- **The listed files stay**: each data file that the listing has, and each index file that goes with one, has the same contents in both folders, or is in neither.
abbrev pub KeepsListed : Listing → Folder → Folder → Type 0
KeepsListed listing old new = (name : FileName) → IsListedName listing.tables name → get new name ≡ get old name

-- **The used files stay**: each data file, index file and segment of an index has the same contents in both folders, or is in neither,
-- where its number is at most the last used one. It may be listed, or stand aside of the listed ones.
abbrev pub KeepsUsed : ℕ → Folder → Folder → Type 0
KeepsUsed used old new = (name : FileName) → 3 ≤ rank name.kind → name.number ≤ used → get new name ≡ get old name

-- a listed table with the indexes and the files that it had, and perhaps more files behind them, of numbers above the one and up to the other
pub record HasGrown (was now : ℕ) (old new : ListedDefinition) : Type 0 where
  pub types_are : types_of new.definition ≡ types_of old.definition
  pub indexes : (numbered : ℕ × Index) → Contains (zip old.numbers old.definition.indexes) numbered → Contains (zip new.numbers new.definition.indexes) numbered
  pub more : List ListedFile
  pub files_are : new.files ≡ old.files ++ more
  pub rise : Rising was now more

-- **What is listed stays listed**: each table has the indexes and the files that it had, and perhaps more files behind them, of numbers that weren't used
-- before. No other file of a used number is listed, and the partitioner stays.
pub record KeepsTables (was now : ℕ) (old new : Listing) : Type 0 where
  pub partitioner_is : new.partitioner ≡ old.partitioner
  pub rows : (at : ℕ) (t : ListedDefinition) → slice_get old.tables at ≡ Some t → (u : ListedDefinition) × (slice_get new.tables at ≡ Some u) × HasGrown was now t u
  pub stay : (name : FileName) → has_name old.tables name ≡ true → has_name new.tables name ≡ true
  pub others : (name : FileName) → name.number ≤ was → has_name new.tables name ≡ true → has_name old.tables name ≡ true
