-- A folder with a seal: which damage is reported of a file that is missing.
use Rattle.std.specs.Prelude.{◌≡◌, ◌⊎◌, ℕ, ◌+◌, ◌≤◌, ◌<◌, All, Bool, false, IsTrue, List, [], ◌∷◌, ◌++◌, Contains, Some}
use Rattle.std.specs.List.{list_any}
use Rattle.std.specs.List.Sorted.{IsSorted}
use Rattle.sasi_host.specs.declared.damage.Damage.{Damage}
use Rattle.sasi_host.specs.declared.damage.FormatRule.TheVariants.{Missing}
use Rattle.sasi_host.specs.declared.name.FileName.{FileName}
use Rattle.sasi_host.specs.Damages.{seen_bytes}
use Rattle.sasi_host.specs.Names.{Bytes, log_name, manifest_name, name_cmp, name_eq, seal_name}
use Rattle.sasi_host.specs.Disk.{Changes, IsFileDurable}
use Rattle.sasi_host.specs.View.{IsAbsent, IsThere, IsTold, Reaches, View, contents}
use Rattle.sasi_manifest.specs.Consistent.{IsConsistent}
use Rattle.sasi_manifest.specs.FileNames.{has_name}
use Rattle.sasi_manifest.specs.OpenManifest.{ManifestState, ManifestStands}
use Rattle.sasi_manifest.specs.Reading.{ReadsListing}
use Rattle.sasi_recover.specs.Deletion.{Deletes, keeps}
use Rattle.sasi_recover.specs.FileEnds.{HasEnd, IsLargestOf}
use Rattle.sasi_recover.specs.Replaying.{LiveSegmentsExist}
use Rattle.sasi_recover.specs.declared.unlisted_files.Keep.TheVariants.{Store}
use Rattle.sasi_manifest.specs.declared.listing.Listing.{Listing}

-- ---- what isn't there

-- the damage reports that this file isn't among the names
pub record ReportsMissing (names : List FileName) (file : FileName) (damage : Damage) : Type 0 where
  pub absent : ¬ Contains names file
  pub named : damage.file ≡ file
  pub rule : damage.rule ≡ Missing
  pub offset_is : damage.at ≡ 0
  pub seen : seen_bytes damage.seen ≡ []

-- the damage reports the first live segment of the log that isn't among them
pub record ReportsMissingSegment (names : List FileName) (floor last : ℕ) (damage : Damage) : Type 0 where
  pub segment : ℕ
  pub above : floor ≤ segment
  pub below : segment ≤ last
  pub earlier : (number : ℕ) → floor ≤ number → number < segment → Contains names (log_name number)
  pub missing : ReportsMissing names (log_name segment) damage

-- or the first of these files that isn't among them
pub record ReportsMissingFile (names files : List FileName) (damage : Damage) : Type 0 where
  pub file : FileName
  pub before : List FileName
  pub behind : List FileName
  pub listed : files ≡ before ++ file ∷ behind
  pub earlier : All (Contains names) before
  pub missing : ReportsMissing names file damage

-- a live segment, or a file of a table where these are there
abbrev pub ReportsMissingListed : List FileName → ℕ → ℕ → List FileName → Damage → Type 0
ReportsMissingListed names floor last files damage =
    ReportsMissingSegment names floor last damage ⊎ (((segment : ℕ) → floor ≤ segment → segment ≤ last → Contains names (log_name segment)) × ReportsMissingFile names files damage)

-- ---- what is there

-- the live segments and the files of tables are among the names
pub record AreNamed (names : List FileName) (floor last : ℕ) (files : List FileName) : Type 0 where
  pub segments : (segment : ℕ) → floor ≤ segment → segment ≤ last → Contains names (log_name segment)
  pub there : All (Contains names) files

-- the manifest was opened, and is as it reads
pub record IsManifestRead (v : View) (m : ManifestState) : Type 0 where
  pub there : IsThere v (manifest_name m.number)
  pub sealed : IsThere v (seal_name m.number)
  pub reads : ReadsListing v m.number m.listing
  pub stands : (bytes : Bytes) → IsTold v → IsFileDurable v (manifest_name m.number) bytes → ManifestStands v m.number m.at m.listing
  pub consistent : IsConsistent m.listing
  pub room : Reaches v (manifest_name m.number) (m.at + 1)
  pub usable : IsTrue m.usable

-- these are the names of the listed data files and index files, in their order
pub record AreListedFiles (listing : Listing) (files : List FileName) : Type 0 where
  pub sorted : IsSorted name_cmp files
  pub listed : (name : FileName) → list_any (name_eq name) files ≡ has_name listing.tables name

-- the files that a store with this manifest keeps
abbrev pub kept_with : ManifestState → List FileName → FileName → Bool
kept_with m files = keeps (Store m.number m.listing.floor m.listing.last) files

-- What the manifest lists was checked: the segments are there, and the files of tables with their ends. The other files were deleted.
pub record IsChecked (old new : View) (m : ManifestState) (files : List FileName) (time : ℕ) : Type 0 where
  pub deletes : Changes (Deletes (kept_with m files)) old new
  pub gone : (name : FileName) → kept_with m files name ≡ false → IsAbsent new name
  pub live : LiveSegmentsExist new m.listing
  pub there : (name : FileName) → Contains files name → IsThere old name
  pub durable : (name : FileName) (bytes : Bytes) → Contains files name → contents old name ≡ Some bytes → IsFileDurable new name bytes
  pub ends : (name : FileName) → Contains files name → HasEnd old name
  pub tells : IsLargestOf old files time
