-- What an opening promises, whatever it gives: of the folder, and of what it reports.
use Rattle.std.specs.Prelude.{◌≡◌, ◌≢◌, ◌⊎◌, ℕ, IfErr, List, Option, Some}
use Rattle.std.specs.declared.result.Result.{Result}
use Rattle.sasi_types.specs.declared.class.Class.{Class}
use Rattle.sasi_types.specs.declared.partitioner.Partitioner.{Partitioner}
use Rattle.sasi_host.specs.Disk.{Changes, Same}
use Rattle.std.specs.FinMap.{get}
use Rattle.sasi_host.specs.Names.{Bytes, Folder, manifest_name}
use Rattle.sasi_manifest.specs.Format.{IsManifest}
use Rattle.sasi_manifest.specs.declared.listing.Listing.{Listing}
use Rattle.sasi_layout.specs.Classes.{IsFirstMissing, classes_listed}
use Rattle.sasi_host.specs.View.{View}
use Rattle.sasi_folder.specs.Damages.{FolderShows}
use Rattle.sasi_folder.specs.Opens.{KeepsPartitioner}
use Rattle.sasi_folder.specs.FolderContents.{IsSealed}
use Rattle.sasi_layout.specs.Layout.{Layout}
use Rattle.sasi_layout.specs.Shape.{ShapeOf}
use Rattle.sasi_recover.specs.Faults.{OnDiffers, OnMissing, OnOpenDamage, TellsDifference, TellsMissing}
use Rattle.sasi_recover.specs.KeptListed.{KeepsListed}
use Rattle.sasi_recover.specs.NewFolder.{IsForeign}
use Rattle.sasi_recover.specs.OpenedFolder.{AnyFolderChange}
use Rattle.sasi_recover.specs.OpeningReads.{OpensReadingOnce}
use Rattle.sasi_recover.specs.declared.fault.OpenFault.{OpenFault}

-- **What becomes of the folder**, and how often it is read.
pub record OpensSafely (asked : Option Partitioner) (a b : View) : Type 0 where
  -- each moment has the shape of the folder's layout, where it has one
  pub any_moment : (folder : Folder) (l : Layout) → a.files ≡ Some folder → ShapeOf asked folder l → Changes (λ x y. (y ≡ x) ⊎ ShapeOf asked y l) a b
  -- whatever is damaged, the files that the manifest of the highest seal lists stay, and all files where it can't be read
  pub kept : (folder : Folder) (number : ℕ) → a.files ≡ Some folder → IsSealed folder number → Changes (KeepsListed folder number) a b
  -- a folder of something else stays as it is
  pub foreign : (folder : Folder) → a.files ≡ Some folder → IsForeign folder → Changes Same a b
  -- each page is read at most once
  pub once : (folder : Folder) → a.files ≡ Some folder → OpensReadingOnce folder a b
  -- no reply is emitted
  pub changes : Changes AnyFolderChange a b

-- the manifest of this number lists indexes, and this class of analyzer is the first that is missing
pub record LacksUnder (kinds : List Class) (folder : Folder) (number : ℕ) (class : Class) : Type 0 where
  pub bytes : Bytes
  pub listing : Listing
  pub there : get folder (manifest_name number) ≡ Some bytes
  pub lists : IsManifest number bytes listing
  pub first : IsFirstMissing kinds (classes_listed listing.tables) class

-- the same of the manifest that counts
abbrev pub LacksClass : List Class → Folder → Class → Type 0
LacksClass kinds folder class = (number : ℕ) × IsSealed folder number × LacksUnder kinds folder number class

-- **What is reported stands in the folder**: corruption, another partitioner than is asked, and an index whose analyzer isn't among those of these classes.
pub record ReportsTruly {T : Type 0} (asked : Option Partitioner) (kinds : List Class) (a : View) (result : Result T OpenFault) : Type 0 where
  -- the folder shows the corruption
  pub damaged : (folder : Folder) → a.files ≡ Some folder → IfErr result (OnOpenDamage (FolderShows folder))
  -- and has no shape then
  pub undamaged : (folder : Folder) (l : Layout) → a.files ≡ Some folder → ShapeOf asked folder l → IfErr result (OnOpenDamage (λ _. ⊥))
  -- where another partitioner is kept, it is reported
  pub differs : (folder : Folder) (wanted kept : Partitioner) → a.files ≡ Some folder → asked ≡ Some wanted → KeepsPartitioner folder kept → wanted ≢ kept → TellsDifference wanted kept result
  -- and only then
  pub differs_only : (folder : Folder) → a.files ≡ Some folder → IfErr result (OnDiffers (λ wanted kept. (asked ≡ Some wanted) × KeepsPartitioner folder kept × (wanted ≢ kept)))
  -- where the analyzer of a listed index is missing, that is reported
  pub lacks : (folder : Folder) (class : Class) → a.files ≡ Some folder → LacksClass kinds folder class → TellsMissing result
  -- with the class of the index that has the least number, and only then
  pub lacks_only : (folder : Folder) → a.files ≡ Some folder → IfErr result (OnMissing (LacksClass kinds folder))
