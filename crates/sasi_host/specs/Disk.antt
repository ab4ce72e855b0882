-- What calls do to the folder, and to what a crash may leave of it.
use Rattle.std.specs.Prelude.{◌≡◌, ◌≢◌, ◌⊎◌, ◌↔◌, Bool, false, ℕ, ◌+◌, ◌-◌, ◌≤◌, min, max, List, [], ◌++◌, length, take, drop, Option, Some, None, IsSome, is_some, Contains}
use Rattle.std.specs.FinMap.{get}
use Rattle.sasi_host.specs.declared.name.FileName.{FileName}
use Rattle.sasi_host.specs.Names.{Bytes, Folder}
use Rattle.sasi_host.specs.View.{View, IsTold, contents, CrashLeaves, FailsOnlyAsTold}

-- a change of a folder
abbrev pub Relation : Type 1
Relation = Folder → Folder → Type 0

-- an image of then, changed by S, with what was emitted then
abbrev pub FromImage : Relation → View → Folder → Bytes → Type 0
FromImage S old folder out = (was : Folder) × old.image was × S was folder × (old.emitted ≡ Some out)

-- From one moment to a later one the folder changes by S: as it reads, in each image, and in what a crash leaves meanwhile. No emit is made.
pub record Changes (S : Relation) (old new : View) : Type 0 where
  pub seen : (was : Folder) → old.files ≡ Some was → (now : Folder) × (new.files ≡ Some now) × S was now
  pub untold : old.files ≡ None → new.files ≡ None
  pub image : (folder : Folder) → new.image folder → (was : Folder) × old.image was × S was folder
  pub during : CrashLeaves old new (FromImage S old)
  pub emitted : new.emitted ≡ old.emitted
  pub emits : new.emits ≡ old.emits
  pub told : FailsOnlyAsTold old new

-- each image has P
abbrev pub Each : View → (Folder → Type 0) → Type 0
Each v P = (c : Folder) → v.image c → P c

-- the folder stays as it is
abbrev pub Same : Relation
Same was now = now ≡ was

-- one file changes by R, and each other file stays
pub record FileChange (file : FileName) (R : Option Bytes → Option Bytes → Type 0) (old new : Folder) : Type 0 where
  pub others : (name : FileName) → name ≢ file → get new name ≡ get old name
  pub this : R (get old file) (get new file)

-- no file but those of a set changes
abbrev pub Within : (FileName → Bool) → Relation
Within mine old new = (name : FileName) → mine name ≡ false → get new name ≡ get old name

-- ---- how one file changes

-- the file is there after it exactly where it was, and its bytes change by R
abbrev pub InPlace : (Bytes → Bytes → Type 0) → Option Bytes → Option Bytes → Type 0
InPlace R None None = Unit {0}
InPlace R (Some a) (Some b) = R a b
InPlace R None (Some b) = ⊥
InPlace R (Some a) None = ⊥

-- the file is there after it, with bytes that have P
abbrev pub LeftWith : (Bytes → Type 0) → Option Bytes → Option Bytes → Type 0
LeftWith P a b = (bytes : Bytes) × (b ≡ Some bytes) × P bytes

-- any change of the file
abbrev pub AnyChange : Option Bytes → Option Bytes → Type 0
AnyChange a b = Unit {0}

-- the file is as before, or there and empty
abbrev pub MaybeCreated : Option Bytes → Option Bytes → Type 0
MaybeCreated a b = (b ≡ a) ⊎ (b ≡ Some [])

-- the file is as before, or not there
abbrev pub MaybeDeleted : Option Bytes → Option Bytes → Type 0
MaybeDeleted a b = (b ≡ a) ⊎ (b ≡ None)

-- A write of n bytes that wasn't synced: the range and the part past the old end may hold any bytes. The length is between the old and the new.
pub record Torn (at n : ℕ) (old new : Bytes) : Type 0 where
  pub before : take at new ≡ take at old
  pub after : drop (at + n) new ≡ drop (at + n) old
  pub no_shorter : length old ≤ length new
  pub no_longer : length new ≤ max (length old) (at + n)

-- ---- what a call that succeeded leaves

-- the bytes written over the old ones, from this offset on
abbrev pub overlay : Bytes → ℕ → Bytes → Bytes
overlay old at bytes = take at old ++ bytes ++ drop (at + length bytes) old

-- where the file was told, it is now told as this function of its bytes
abbrev pub Becomes : FileName → (Bytes → Bytes) → View → View → Type 0
Becomes file f old new = (bytes : Bytes) → contents old file ≡ Some bytes → contents new file ≡ Some (f bytes)

-- the file is durable: each image has it with these bytes
abbrev pub IsFileDurable : View → FileName → Bytes → Type 0
IsFileDurable v file bytes = (folder : Folder) → v.image folder → get folder file ≡ Some bytes

-- a crash leaves of the file what it reads, or the name isn't there
abbrev pub IsSynced : View → FileName → Type 0
IsSynced v file = (folder : Folder) (left read : Bytes) → v.image folder → contents v file ≡ Some read → get folder file ≡ Some left → left ≡ read

-- a crash leaves the names that are there
abbrev pub IsFolderSynced : View → Type 0
IsFolderSynced v = (folder : Folder) (name : FileName) → IsTold v → v.image folder → is_some (get folder name) ≡ is_some (contents v name)

-- the names are those of the files, where the folder is told
abbrev pub Lists : View → List FileName → Type 0
Lists v names = IsTold v → (name : FileName) → Contains names name ↔ IsSome (contents v name)

-- a buffer was filled with what the file has from this offset on, as far as both reach
pub record Fills (file : Bytes) (at : ℕ) (old new : Bytes) (count : ℕ) : Type 0 where
  pub taken : count ≡ min (length old) (length file - at)
  pub front : take count new ≡ take count (drop at file)
  pub rest : drop count new ≡ drop count old

-- ---- after a crash

-- what is left after a crash: one of the images, with nothing pending and nothing emitted
pub record IsCrashOf (before after : View) : Type 0 where
  pub folder : Folder
  pub reads : after.files ≡ Some folder
  pub was : before.image folder
  pub only : (image : Folder) → after.image image → image ≡ folder
  pub none_out : after.emitted ≡ Some []
