-- Sequential reads through a buffered file, and how many pages they read.
use Rattle.std.specs.Prelude.{◌≡◌, ℕ, ◌+◌, ◌*◌, ◌/◌, ◌≤◌, length, Option, Some}
use Rattle.sasi_host.specs.declared.name.FileName.{FileName}
use Rattle.sasi_host.specs.Names.{Bytes}
use Rattle.sasi_host.specs.View.{View, contents}
use Rattle.sasi_host.specs.Buffered.{reached}

-- the buffered page, if there is one, begins before or at this offset
abbrev pub BeginsBy : Option ℕ → ℕ → Type 0
BeginsBy buffered at = (page : ℕ) → buffered ≡ Some page → 4096 * page ≤ at

-- the file, where it is told, reaches to this offset
abbrev pub ReachesTo : View → FileName → ℕ → Type 0
ReachesTo v file at = (bytes : Bytes) → contents v file ≡ Some bytes → at ≤ length bytes

-- how many pages begin within a file of these bytes, or at its end
abbrev pub pages_to_end : Bytes → ℕ
pages_to_end bytes = length bytes / 4096 + 1

-- A sequential read from the first buffered page to the second: each page up to it was read once, and it begins within the file or at
-- its end. The reader is then at this offset, which isn't before the page nor beyond the end of the file.
pub record ReadsEachOnce (old new : View) (file : FileName) (before after : Option ℕ) (end : ℕ) : Type 0 where
  pub sequential : BeginsBy after end
  pub pages : new.reads + reached before ≤ old.reads + reached after
  pub within : ReachesTo old file end
  pub page : (bytes : Bytes) → contents old file ≡ Some bytes → reached after ≤ pages_to_end bytes

-- a sequential read from an offset within the file, also one that fails: no page was read twice, and none beyond the end
abbrev pub ReadsNoFurther : View → View → FileName → Option ℕ → ℕ → Type 0
ReadsNoFurther old new file before at =
    (bytes : Bytes) → contents old file ≡ Some bytes → at ≤ length bytes → new.reads + reached before ≤ old.reads + pages_to_end bytes

-- a reading of the file from its start: at most its pages, and the one on which it ends
abbrev pub ReadsWithinPages : View → View → FileName → Type 0
ReadsWithinPages old new file = (bytes : Bytes) → contents old file ≡ Some bytes → new.reads ≤ old.reads + pages_to_end bytes
