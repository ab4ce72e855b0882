-- What is made before a flush is listed: the file of what isn't flushed, with its index files, and a new segment of the log.
use Rattle.std.specs.Prelude.{◌≡◌, ◌&&◌, ◌||◌, ◌-◌, ◌≤◌, ℕ, suc, Bool, nat_le, nat_lt, List, [], ◌∷◌, ◌++◌, drop, length, map, Some}
use Rattle.std.specs.FinMap as map_
use Rattle.std.specs.FinMap.{get}
use Rattle.std.specs.List.{list_any}
use Rattle.sasi_types.specs.declared.partitioner.Partitioner.{Partitioner}
use Rattle.sasi_cells.specs.Maps.{merged}
use Rattle.sasi_cells.specs.declared.mutation.Mutation.{Mutation}
use Rattle.sasi_gated.specs.Format.{IsGated}
use Rattle.sasi_host.specs.declared.name.FileName.{FileName}
use Rattle.sasi_host.specs.Names.{Bytes, Folder, log_name, name_eq}
use Rattle.sasi_model.specs.Abbreviations.{Partitions}
use Rattle.sasi_datawrite.specs.Format.{Content, data_bytes}
use Rattle.sasi_manifest.specs.declared.files.ListedFile.{ListedFile}
use Rattle.sasi_manifest.specs.ListedFiles.{is_name_of}
use Rattle.sasi_manifest.specs.OpenManifest.{IsEither}
use Rattle.sasi_manifest.proofs.Replacing.{At}
use Rattle.sasi_layout.specs.Layout.{Layout, TableParts, listing_of, unflushed}
use Rattle.sasi_layout.specs.Moves.{flushed_file, next_floor}
use Rattle.sasi_layout.specs.Shape.{HasFile}

-- keys and their partitions, in the order of the map
abbrev pub contents_of : Partitions → Content
contents_of m = map (λ e. (e.0.key, e.1)) (map_.entries m)

-- something of the table isn't flushed, and these are the bytes of its file
pub record IsWritten (partitioner : Partitioner) (bytes : Bytes) (t : TableParts) : Type 0 where
  pub some : 1 ≤ length (map_.entries (merged (unflushed t)))
  pub bytes_are : bytes ≡ data_bytes partitioner (contents_of (merged (unflushed t)))

-- the folder has the file of what isn't flushed of the table, under the next number
abbrev pub HasFlushed : ℕ → Layout → Folder → Type 0
HasFlushed table l folder = At 1 table (λ t. HasFile folder l.partitioner t.definition t.numbers (flushed_file (suc l.used.«data») l.used.part t)) l.tables

-- and the next segment of the log, which is empty
pub record HasNew (table : ℕ) (l : Layout) (folder : Folder) : Type 0 where
  pub file : HasFlushed table l folder
  pub bytes : Bytes
  pub segment : get folder (log_name (suc l.last)) ≡ Some bytes
  pub empty : IsGated (log_name (suc l.last)) bytes []

-- the mutations of the segments that are live after the flush
abbrev pub logs_after : ℕ → Layout → List (List Mutation) → List (List Mutation)
logs_after table l logs = drop (next_floor table l - l.floor) logs ++ [] ∷ []

-- what the manifest may list while a record is appended: what the one layout lists, or what the other does
abbrev pub ListsEither : Layout → Layout → Bytes → Type 0
ListsEither former next = IsEither former.used.manifest (listing_of former) (listing_of next)

-- ---- names

-- the names that a flush makes: the new segment, and those of its file
abbrev pub flush_makes : ListedFile → ℕ → FileName → Bool
flush_makes f last name = name_eq name (log_name last) || is_name_of f name

-- and those that it lets go: the segments from the former floor up to before the new one
abbrev pub flush_drops : ℕ → ℕ → FileName → Bool
flush_drops first floor name = name_eq name (log_name name.number) && (nat_le first name.number && nat_lt name.number floor)
