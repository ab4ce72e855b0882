-- The files of a folder that a layout lists: where two folders agree on them, they have the same shapes.
use Rattle.std.specs.Prelude.{◌≡◌, ◌≢◌, ◌≤◌, ◌<◌, ℕ, List}
use Rattle.std.specs.FinMap.{get}
use Rattle.std.specs.List.{AllByRecursion}
use Rattle.sasi_host.specs.declared.name.FileName.{FileName}
use Rattle.sasi_host.specs.Names.{Folder, log_name, manifest_name, rank, seal_name}
use Rattle.sasi_manifest.specs.ListedFiles.{names_of}
use Rattle.sasi_layout.specs.Layout.{File, Layout, TableParts}

-- the folders have the same of these names
abbrev pub AreAlike : Folder → Folder → List FileName → Type 0
AreAlike x y names = AllByRecursion (λ (name : FileName). get y name ≡ get x name) names

-- and of the names of these files
abbrev pub AgreeOnFiles : Folder → Folder → List File → Type 0
AgreeOnFiles x y fs = AllByRecursion (λ (f : File). AreAlike x y (names_of f.listed)) fs

-- and of those of the tables' files
abbrev pub AgreeOnTables : Folder → Folder → List TableParts → Type 0
AgreeOnTables x y ts = AllByRecursion (λ (t : TableParts). AgreeOnFiles x y t.files) ts

-- Each file of the kinds that tables have is the same: data files, index files and segments of postings.
abbrev pub SameFiles : Folder → Folder → Type 0
SameFiles x y = (name : FileName) → 3 ≤ rank name.kind → get y name ≡ get x name

-- and so each of another data file than the one of this number
abbrev pub OthersSame : Folder → Folder → ℕ → Type 0
OthersSame x y number = (name : FileName) → 3 ≤ rank name.kind → name.number ≢ number → get y name ≡ get x name

-- the folders agree on the seals, the sealed manifest, the live segments and the files of the tables
pub record AgreeOn (l : Layout) (x y : Folder) : Type 0 where
  pub seals : (other : ℕ) → get y (seal_name other) ≡ get x (seal_name other)
  pub manifest : get y (manifest_name l.used.manifest) ≡ get x (manifest_name l.used.manifest)
  pub logs : (segment : ℕ) → l.floor ≤ segment → segment ≤ l.last → get y (log_name segment) ≡ get x (log_name segment)
  pub files : AgreeOnTables x y l.tables

-- no file changes but the segments below the floor
abbrev pub DeletesOld : ℕ → Folder → Folder → Type 0
DeletesOld floor x y = (name : FileName) → ((segment : ℕ) → segment < floor → name ≢ log_name segment) → get y name ≡ get x name
