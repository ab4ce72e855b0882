-- The data files of a table, in which one token after another is looked up.
use Rattle.std.specs.Prelude.{◌≡◌, ℕ, List, [], ◌∷◌, map, Option, ⊤}
use Rattle.sasi_types.specs.declared.column.ColumnType.{ColumnType}
use Rattle.sasi_types.specs.declared.partitioner.Partitioner.{Partitioner}
use Rattle.sasi_host.specs.declared.name.FileName.{FileName}
use Rattle.sasi_host.specs.declared.damage.Damage.{Damage}
use Rattle.sasi_host.specs.Names.{Folder, data_name}
use Rattle.sasi_datawrite.specs.Format.{Content}
use Rattle.sasi_ranges.specs.EachStream.{EachIsReady, SomeOpens, SomeShows}
use Rattle.sasi_hits.specs.Calls.{IsFile}
use Rattle.sasi_lookup.specs.Files.{FileShows, HasTokenKeys, IsDataOf, IsFileReady, LookedFile, unopened}

-- the view of a look-up: the types of the table's columns, and its data files, the oldest first
pub record LookupView : Type 0 where
  pub types : List ColumnType
  pub files : List LookedFile

-- before the first token
abbrev pub unopened_files : List ℕ → List LookedFile
unopened_files numbers = map (λ (number : ℕ). unopened (data_name number)) numbers

-- ---- the data files of these contents

-- each file reads as the data file of the content of its position
abbrev pub AreDataOf : Option Folder → Partitioner → List ColumnType → List LookedFile → List Content → Type 0
AreDataOf seen partitioner types [] [] = ⊤
AreDataOf seen partitioner types [] (content ∷ contents) = ⊥
AreDataOf seen partitioner types (file ∷ files) [] = ⊥
AreDataOf seen partitioner types (file ∷ files) (content ∷ contents) = IsDataOf seen partitioner types file.name file.opened content × AreDataOf seen partitioner types files contents

abbrev pub IsLookingIn : Option Folder → Partitioner → List Content → LookupView → Type 0
IsLookingIn seen partitioner contents lookup = AreDataOf seen partitioner lookup.types lookup.files contents

-- each file is open, and has in hand the keys with the token
abbrev pub EachHasKeys : Partitioner → ℕ → List LookedFile → List Content → Type 0
EachHasKeys partitioner token [] [] = ⊤
EachHasKeys partitioner token [] (content ∷ contents) = ⊥
EachHasKeys partitioner token (file ∷ files) [] = ⊥
EachHasKeys partitioner token (file ∷ files) (content ∷ contents) = HasTokenKeys partitioner token file content × EachHasKeys partitioner token files contents

abbrev pub HasKeysOf : Partitioner → ℕ → List Content → LookupView → Type 0
HasKeysOf partitioner token contents lookup = EachHasKeys partitioner token lookup.files contents

-- ---- in any file

-- it may read the data files
abbrev pub FilesOpen : List LookedFile → FileName → Type 0
FilesOpen = SomeOpens (λ (file : LookedFile). IsFile file.name)

abbrev pub Opens : LookupView → FileName → Type 0
Opens lookup = FilesOpen lookup.files

-- each open file is open as it reads
abbrev pub FilesReady : List ColumnType → Option Folder → List LookedFile → Type 0
FilesReady types = EachIsReady (IsFileReady types)

abbrev pub IsReady : LookupView → Option Folder → Type 0
IsReady lookup seen = FilesReady lookup.types seen lookup.files

-- a data file shows the damage
abbrev pub FilesShow : List ColumnType → Option Folder → List LookedFile → Damage → Type 0
FilesShow types = SomeShows (λ (file : LookedFile). FileShows types file.name)

abbrev pub Shows : LookupView → Option Folder → Damage → Type 0
Shows lookup seen = FilesShow lookup.types seen lookup.files

-- the table and its data files are the same
pub record IsOfSameFiles (old new : LookupView) : Type 0 where
  pub types_are : new.types ≡ old.types
  pub names_are : map (λ (file : LookedFile). file.name) new.files ≡ map (λ (file : LookedFile). file.name) old.files

-- ---- what excludes damage

-- its files have what contents have, which are given with their partitioner
abbrev pub AreRight : Option Folder → List ColumnType → List LookedFile → Partitioner × List Content → Type 0
AreRight seen types files has = AreDataOf seen has.0 types files has.1

abbrev pub IsRight : Option Folder → LookupView → Partitioner × List Content → Type 0
IsRight seen lookup = AreRight seen lookup.types lookup.files

-- and each has in hand the keys with a token
abbrev pub AreTurned : Option Folder → List ColumnType → List LookedFile → Partitioner × (ℕ × List Content) → Type 0
AreTurned seen types files has = AreDataOf seen has.0 types files has.1.1 × EachHasKeys has.0 has.1.0 files has.1.1

abbrev pub IsTurned : Option Folder → LookupView → Partitioner × (ℕ × List Content) → Type 0
IsTurned seen lookup = AreTurned seen lookup.types lookup.files
