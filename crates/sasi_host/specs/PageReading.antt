-- What a call that reads a file by pages needs, and what it leaves.
use Rattle.std.specs.Prelude.{◌≡◌, ◌⊎◌, Option}
use Rattle.sasi_host.specs.declared.name.FileName.{FileName}
use Rattle.sasi_host.specs.Names.{Folder}
use Rattle.sasi_host.specs.View.{View, IsThere}
use Rattle.sasi_host.specs.Disk.{Changes, Same}
use Rattle.sasi_host.specs.Buffered.{Buffered, IsBuffered}

-- the file is there, and the pages that the reader keeps are those of the folder
pub record CanRead (Keeps : Option Folder → Type 0) (v : View) (file : FileName) : Type 0 where
  pub there : IsThere v file
  pub agrees : Keeps v.files

-- the folder is unchanged, the pages that the reader then keeps are those of it, and they are of no further file but this one
pub record HasRead (Keeps : Option Folder → Type 0) (Before After : FileName → Type 0) (old new : View) (file : FileName) : Type 0 where
  pub agrees : Keeps new.files
  pub covers : (name : FileName) → After name → Before name ⊎ (name ≡ file)
  pub changes : Changes Same old new

-- the same of a read through a buffered file: the file has the buffered page
pub record CanReadOn (Keeps : Option Folder → Type 0) (v : View) (was : Buffered) : Type 0 where
  pub there : IsThere v was.file
  pub agrees : Keeps v.files
  pub buffered : IsBuffered was v.files

-- the same afterwards, and the buffered file is still that of this name
pub record HasReadOn (Keeps : Option Folder → Type 0) (Before After : FileName → Type 0) (old new : View) (before after : Buffered) : Type 0 where
  pub agrees : Keeps new.files
  pub covers : (name : FileName) → After name → Before name ⊎ (name ≡ before.file)
  pub changes : Changes Same old new
  pub buffered : IsBuffered after new.files
  pub file : after.file ≡ before.file
