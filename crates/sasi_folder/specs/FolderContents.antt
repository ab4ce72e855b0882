-- What a folder holds. A seal tells that the manifest of its number is whole, and the manifest of the highest seal counts. It lists
-- the tables, their data files and index files, and the live segments of the log.
use Rattle.std.specs.Prelude.{◌≡◌, ◌≢◌, ℕ, suc, ◌+◌, ◌<◌, List, [], ◌∷◌, length, Some, None, IsSome, ⊤}
use Rattle.std.specs.FinMap.{get}
use Rattle.sasi_host.specs.declared.name.FileName.{FileName}
use Rattle.sasi_host.specs.Names.{Bytes, Folder, log_name, manifest_name, seal_name}
use Rattle.sasi_cells.specs.declared.mutation.Mutation.{Mutation}
use Rattle.sasi_commitlog.specs.Format.{IsLog, Tables}
use Rattle.sasi_manifest.specs.declared.listing.Listing.{Listing}
use Rattle.sasi_manifest.specs.Format.{IsManifest}
use Rattle.sasi_manifest.specs.Types.{numbered_types}

-- ---- a new folder

-- There is no seal, and no file but those that an unfinished creation leaves: the first manifest and the first segment of the log, whatever they hold.
abbrev pub IsFresh : Folder → Type 0
IsFresh folder = (name : FileName) → name ≢ manifest_name 1 → name ≢ log_name 1 → get folder name ≡ None

-- ---- a sealed folder

-- the folder has the segment with this number, and it has these mutations
abbrev pub HasSegment : Folder → Tables → ℕ → List Mutation → Type 0
HasSegment folder tables number mutations = (bytes : Bytes) × (get folder (log_name number) ≡ Some bytes) × IsLog number tables bytes mutations

-- and those with rising numbers from this one on
abbrev pub HasSegments : Folder → Tables → ℕ → List (List Mutation) → Type 0
HasSegments folder tables number [] = ⊤
HasSegments folder tables number (mutations ∷ logs) = HasSegment folder tables number mutations × HasSegments folder tables (suc number) logs

-- the seal of this number is the highest
pub record IsSealed (folder : Folder) (number : ℕ) : Type 0 where
  pub there : IsSome (get folder (seal_name number))
  pub highest : (other : ℕ) → number < other → get folder (seal_name other) ≡ None

-- The manifest of this number counts and lists this, and the live segments have these mutations.
pub record FolderHolds (folder : Folder) (number : ℕ) (listing : Listing) (logs : List (List Mutation)) : Type 0 where
  pub sealed : IsSealed folder number
  pub manifest : (bytes : Bytes) × (get folder (manifest_name number) ≡ Some bytes) × IsManifest number bytes listing
  pub live : listing.floor + length logs ≡ suc listing.last
  pub segments : HasSegments folder (numbered_types 1 listing.tables) listing.floor logs

-- ---- short names, which contracts and proofs cite

-- the types of the tables' columns, by the numbers of the tables
abbrev pub types_listed : Listing → Tables
types_listed listing = numbered_types 1 listing.tables
