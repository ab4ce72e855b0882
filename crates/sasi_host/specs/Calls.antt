-- A host in memory, told by the calls that were made on it.
use Rattle.std.specs.Prelude.{◌≡◌, ◌⊎◌, ℕ, zero, suc, List, [], ◌∷◌, ◌++◌, length, take, Some, is_some}
use Rattle.std.specs.FinMap.{get, insert, remove}
use Rattle.sasi_host.specs.declared.name.FileName.{FileName}
use Rattle.sasi_host.specs.declared.call.Call.{Call}
use Rattle.sasi_host.specs.declared.call.Call.TheVariants.{Created, Wrote, Synced, Deleted, FolderSynced, Emitted, Put}
use Rattle.sasi_host.specs.Names.{Bytes, Folder}
use Rattle.sasi_host.specs.View.{View}
use Rattle.sasi_host.specs.Disk.{FileChange, InPlace, Torn, MaybeCreated, MaybeDeleted}
use Rattle.sasi_host.specs.Counts.{Counts}
use Rattle.sasi_host.specs.Files.{written}

-- what the folder reads, the bytes that were emitted, and what a crash now may leave
pub record Medium : Type 1 where
  pub folder : Folder
  pub emitted : Bytes
  pub image : Folder → Type 0

-- what the folder reads after a call
abbrev pub apply : Call → Folder → Folder
apply (Created file) folder = insert folder file []
apply (Wrote file at bytes) folder = written (get folder file) file at bytes folder
apply (Synced file) folder = folder
apply (Deleted file) folder = remove folder file
apply FolderSynced folder = folder
apply (Emitted bytes) folder = folder
apply (Put file bytes) folder = insert folder file bytes

-- what a call may make of an image, where the folder reads like this before it
abbrev pub Effect : Call → Folder → Folder → Folder → Type 0
Effect (Created file) folder was image = FileChange file MaybeCreated was image
Effect (Wrote file at bytes) folder was image = FileChange file (InPlace (Torn at (length bytes))) was image
Effect (Synced file) folder was image = (image ≡ was) × ((left read : Bytes) → get folder file ≡ Some read → get image file ≡ Some left → left ≡ read)
Effect (Deleted file) folder was image = FileChange file MaybeDeleted was image
Effect FolderSynced folder was image = (image ≡ was) × ((name : FileName) → is_some (get image name) ≡ is_some (get folder name))
Effect (Emitted bytes) folder was image = image ≡ was
Effect (Put file bytes) folder was image = image ≡ insert was file bytes

-- what a call emits
abbrev pub output : Call → Bytes
output (Created file) = []
output (Wrote file at bytes) = []
output (Synced file) = []
output (Deleted file) = []
output FolderSynced = []
output (Emitted bytes) = bytes
output (Put file bytes) = []

-- after one call
abbrev pub step : Medium → Call → Medium
step m call = record {
  folder = apply call m.folder;
  emitted = m.emitted ++ output call;
  image = λ image. (was : Folder) × m.image was × Effect call m.folder was image;
}

-- after several, the oldest first
abbrev pub replay : Medium → List Call → Medium
replay m [] = m
replay m (call ∷ calls) = replay (step m call) calls

-- what a crash now leaves
abbrev pub LeftNow : Medium → Folder → Bytes → Type 0
LeftNow m folder out = m.image folder × (out ≡ m.emitted)

-- what a crash within a call leaves: each first part of what it emits may be out
abbrev pub LeftDuring : Medium → Call → Folder → Bytes → Type 0
LeftDuring m call folder out = m.image folder × (k : ℕ) × (out ≡ m.emitted ++ take k (output call))

-- what a crash at some moment leaves, from the call with this number on
abbrev pub LeftSince : Medium → List Call → ℕ → Folder → Bytes → Type 0
LeftSince m [] zero folder out = LeftNow m folder out
LeftSince m [] (suc t) folder out = ⊥
LeftSince m (call ∷ calls) zero folder out = LeftNow m folder out ⊎ LeftDuring m call folder out ⊎ LeftSince (step m call) calls zero folder out
LeftSince m (call ∷ calls) (suc t) folder out = LeftSince (step m call) calls t folder out

-- a folder with nothing pending
abbrev pub opened : Folder → Medium
opened start = record { folder = start; emitted = []; image = λ image. image ≡ start }

-- what a host tells that began with this folder, after these calls
abbrev pub view_after : Folder → List Call → Counts → View
view_after start calls counts = record {
  files = Some (replay (opened start) calls).folder;
  emitted = Some (replay (opened start) calls).emitted;
  image = (replay (opened start) calls).image;
  moment = length calls;
  left = LeftSince (opened start) calls;
  disk_faults = counts.disk_faults;
  out_faults = counts.out_faults;
  reads = counts.reads;
  calls = counts.calls;
  emits = counts.emits;
  failed_last = counts.failed_last;
  refused = counts.refused;
  failing = counts.failing;
}
