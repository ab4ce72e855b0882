-- A folder that is kept in a tree.
use Rattle.std.specs.Prelude.{◌≡◌, ℕ, ◌^◌, ◌≤◌, nat_le, if◌then◌else◌, List, length, Option, Some, None}
use Rattle.std.specs.Map.{lookup}
use Rattle.std.specs.BTreeMap.{is_at}
use Rattle.std.specs.Coded.{Coded, code_by, coded×, coded_ℕ, coded_list}
use Rattle.std.specs.FinMap.{from_entries, get, insert, code}
use Rattle.sasi_host.specs.declared.name.FileName.{FileName}
use Rattle.sasi_host.specs.Names.{Bytes, Folder, name_cmp}
use Rattle.sasi_host.specs.NameLaws.{name_numbers, named, named_back}
use Rattle.sasi_host.specs.Disk.{overlay}

-- the names of a tree, each with its bytes
abbrev pub Entries : Type 0
Entries = List (FileName × Bytes)

-- what the tree finds at a name
abbrev pub look_up : Entries → FileName → Option Bytes
look_up files name = lookup (is_at (name_cmp name)) files

-- the folder with these files
abbrev pub folder_of : Entries → Folder
folder_of files = from_entries {R = name_cmp} files

-- a name is stored as its four numbers
abbrev pub name_code : Coded FileName
name_code = code_by (ℕ × (ℕ × (ℕ × ℕ))) (coded× coded_ℕ (coded× coded_ℕ (coded× coded_ℕ coded_ℕ))) name_numbers named named_back

-- and a folder as its files
abbrev pub folder_code : Coded Folder
folder_code = code name_code (coded_list coded_ℕ)

-- each file has at most 2^62 bytes
pub record FitsAll (folder : Folder) : Type 0 where
  pub each : (name : FileName) (bytes : Bytes) → get folder name ≡ Some bytes → length bytes ≤ 2 ^ 62

-- the bytes after a write: nothing is written where that would leave a gap
abbrev pub overwritten : Bytes → ℕ → Bytes → Bytes
overwritten old at bytes = if nat_le at (length old) then overlay old at bytes else old

-- the folder after a write, where these are the file's bytes: nothing is written where it isn't there
abbrev pub written : Option Bytes → FileName → ℕ → Bytes → Folder → Folder
written None file at bytes folder = folder
written (Some old) file at bytes folder = insert folder file (overwritten old at bytes)
