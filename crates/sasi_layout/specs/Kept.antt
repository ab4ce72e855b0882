-- The files that belong to a store, by their names alone: a store in memory knows them without reading the folder.
use Rattle.std.specs.Prelude.{◌≡◌, ◌≤◌, ◌&&◌, ◌||◌, ℕ, Bool, true, false, nat_le, is_some}
use Rattle.std.specs.FinMap.{get}
use Rattle.sasi_host.specs.declared.name.FileName.{FileName}
use Rattle.sasi_host.specs.Names.{Folder, log_name, manifest_name, name_eq, rank, seal_name}
use Rattle.sasi_manifest.specs.declared.listing.Listing.{Listing}
use Rattle.sasi_manifest.specs.FileNames.{has_name}
use Rattle.sasi_layout.specs.Layout.{Layout, listing_of}

-- what tells which files are kept: the number of the sealed manifest, and what it lists
pub record Kept : Type 0 where
  pub manifest : ℕ
  pub listing : Listing

-- a segment of the log with a number from the floor to the last
abbrev pub has_segment : ℕ → ℕ → FileName → Bool
has_segment floor last name = name_eq name (log_name name.number) && (nat_le floor name.number && nat_le name.number last)

-- the manifest, its seal, a live segment of the log, or a file that a table has
abbrev pub is_kept : Kept → FileName → Bool
is_kept k name = name_eq name (manifest_name k.manifest) || (name_eq name (seal_name k.manifest) || (has_segment k.listing.floor k.listing.last name || has_name k.listing.tables name))

abbrev pub kept_of : Layout → Kept
kept_of l = record { manifest = l.used.manifest; listing = listing_of l }

-- the name belongs to the layout
abbrev pub belongs : Layout → FileName → Bool
belongs l name = is_kept (kept_of l) name

-- one of these names, or a kept one
abbrev pub is_kept_beside : (FileName → Bool) → Kept → FileName → Bool
is_kept_beside aside k name = aside name || is_kept k name

-- the folder has the files that are kept, those aside, and no other
abbrev pub HasKeptBeside : (FileName → Bool) → Kept → Folder → Type 0
HasKeptBeside aside k folder = (name : FileName) → is_some (get folder name) ≡ is_kept_beside aside k name

-- no name
abbrev pub nothing : FileName → Bool
nothing name = false

-- the folder has the files that are kept, and no other
abbrev pub HasKept : Kept → Folder → Type 0
HasKept k folder = HasKeptBeside nothing k folder

-- Files that a store has aside of those that it lists: data files and index files, of numbers that are used.
pub record AreAside (used : ℕ) (aside : FileName → Bool) : Type 0 where
  pub kind : (name : FileName) → aside name ≡ true → 3 ≤ rank name.kind
  pub number : (name : FileName) → aside name ≡ true → name.number ≤ used

-- The folder has exactly the files that belong to the layout.
abbrev pub HasExactly : Layout → Folder → Type 0
HasExactly l folder = HasKept (kept_of l) folder
