-- What an opening makes durable, and which seal counts.
use Rattle.std.specs.Prelude.{◌≡◌, ◌≢◌, ℕ, ◌<◌, ◌≤◌, Bool, true, false, List, Contains, Option, Some, None, is_some}
use Rattle.std.specs.FinMap.{get}
use Rattle.sasi_host.specs.declared.name.FileName.{FileName}
use Rattle.sasi_host.specs.declared.name.Kind.{Kind}
use Rattle.sasi_host.specs.declared.name.Kind.TheVariants.{Manifest, Log}
use Rattle.sasi_host.specs.Names.{Folder, log_name, manifest_name, seal_name}
use Rattle.sasi_host.specs.View.{View}
use Rattle.sasi_host.specs.Disk.{IsFolderSynced, IsSynced}

-- ---- what a crash leaves of the folder as it reads

-- manifests and segments of the log are what states are read from
abbrev pub has_records : Kind → Bool
has_records Manifest = true
has_records Log = true
has_records _ = false

-- a file with records is synced
abbrev pub IsRecordSynced : View → FileName → Type 0
IsRecordSynced v name = has_records name.kind ≡ true → IsSynced v name

-- Each image has the names of the folder as it reads, and its manifests and segments of the log.
pub record IsFolderDurable (v : View) : Type 0 where
  pub names : IsFolderSynced v
  pub records : (name : FileName) → IsRecordSynced v name

-- ---- the highest seal

-- no name is that of a seal, or this is the highest number of one
abbrev pub IsHighestSeal : List FileName → Option ℕ → Type 0
IsHighestSeal names None = (number : ℕ) → ¬ Contains names (seal_name number)
IsHighestSeal names (Some number) = Contains names (seal_name number) × ((other : ℕ) → number < other → ¬ Contains names (seal_name other))

-- the number, if the name is that of a seal
abbrev pub IsSealNumber : FileName → Option ℕ → Type 0
IsSealNumber name None = (number : ℕ) → name ≢ seal_name number
IsSealNumber name (Some number) = name ≡ seal_name number

-- ---- what a store's folder keeps

-- the folder has as before what a store with this manifest has: its seal as the highest, itself, and the segments in a range
pub record KeepsStore (number floor last : ℕ) (x y : Folder) : Type 0 where
  pub seal : is_some (get y (seal_name number)) ≡ is_some (get x (seal_name number))
  pub higher : (other : ℕ) → number < other → get x (seal_name other) ≡ None → get y (seal_name other) ≡ None
  pub manifest : get y (manifest_name number) ≡ get x (manifest_name number)
  pub logs : (segment : ℕ) → floor ≤ segment → segment ≤ last → get y (log_name segment) ≡ get x (log_name segment)
