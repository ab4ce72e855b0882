-- What stays where the other files of a folder are deleted.
use Rattle.std.specs.Prelude.{◌≡◌, Bool, true, false, ◌||◌, List, Option}
use Rattle.std.specs.FinMap.{get}
use Rattle.std.specs.List.{list_any}
use Rattle.sasi_host.specs.declared.name.FileName.{FileName}
use Rattle.sasi_host.specs.Names.{Bytes, Folder, manifest_name, name_eq, seal_name}
use Rattle.sasi_layout.specs.Kept.{has_segment}
use Rattle.sasi_host.specs.Disk.{MaybeDeleted}
use Rattle.sasi_recover.specs.declared.unlisted_files.Keep.{Keep}
use Rattle.sasi_recover.specs.declared.unlisted_files.Keep.TheVariants.{Nothing, Store}

-- the name is to stay; the names are those of the listed files
abbrev pub keeps : Keep → List FileName → FileName → Bool
keeps Nothing files name = false
keeps (Store number floor last) files name = name_eq name (manifest_name number) || (name_eq name (seal_name number) || (has_segment floor last name || list_any (name_eq name) files))

-- a file that stays as it is, or else may be gone
abbrev pub DeletedUnless : Bool → Option Bytes → Option Bytes → Type 0
DeletedUnless true a b = b ≡ a
DeletedUnless false a b = MaybeDeleted a b

-- each name is as before, or gone if it isn't kept
abbrev pub Deletes : (FileName → Bool) → Folder → Folder → Type 0
Deletes kept x y = (name : FileName) → DeletedUnless (kept name) (get x name) (get y name)
