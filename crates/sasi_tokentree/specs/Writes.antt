-- What was written to a file from an offset on.
use Rattle.std.specs.Prelude.{◌≡◌, ℕ, ◌+◌, ◌≤◌, length, take}
use Rattle.sasi_host.specs.declared.name.FileName.{FileName}
use Rattle.sasi_host.specs.Names.{Bytes}
use Rattle.sasi_host.specs.View.{View, Reaches}
use Rattle.sasi_host.specs.Disk.{Changes, FileChange, InPlace, Becomes, overlay}

-- the bytes before this offset stay, and the file gets no shorter
pub record KeepsBefore (at : ℕ) (old new : Bytes) : Type 0 where
  pub before : take at new ≡ take at old
  pub no_shorter : length old ≤ length new

-- a file changes in place, from this offset on
abbrev pub ChangesFrom : FileName → ℕ → View → View → Type 0
ChangesFrom file at old new = Changes (FileChange file (InPlace (KeepsBefore at))) old new

-- no call failed so far, and none read anything
pub record KeepsCounts (old new : View) : Type 0 where
  pub disk : new.disk_faults ≡ old.disk_faults
  pub out : new.out_faults ≡ old.out_faults
  pub reads : new.reads ≡ old.reads

-- these bytes were written at this offset, the file reaches to their end, and nothing before it changed
pub record Writes (old new : View) (file : FileName) (at : ℕ) (bytes : Bytes) : Type 0 where
  pub becomes : Becomes file (λ was. overlay was at bytes) old new
  pub reaches : Reaches new file (at + length bytes)
  pub changes : ChangesFrom file at old new
  pub counts : KeepsCounts old new
