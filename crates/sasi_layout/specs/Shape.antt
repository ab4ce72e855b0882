-- The layout that the files of a folder show, and the state for which a folder stands.
use Rattle.std.specs.Prelude.{◌≡◌, ◌⊎◌, ◌&&◌, ◌||◌, ◌+◌, ◌^◌, ◌≤◌, ℕ, suc, Bool, false, nat_eq, nat_le, if◌then◌else◌, List, [], ◌∷◌, length, map, Contains, Option, None, Some, unwrap_or, ⊤}
use Rattle.std.specs.FinMap as map_
use Rattle.std.specs.FinMap.{get}
use Rattle.std.specs.List.{AllByRecursion, zip}
use Rattle.sasi_types.specs.declared.partitioner.Partitioner.{Partitioner}
use Rattle.sasi_types.specs.declared.partitioner.Partitioner.TheVariants.{Lead8}
use Rattle.sasi_types.specs.Token.{AreBytes}
use Rattle.sasi_host.specs.Names.{Bytes, Folder, data_name, manifest_name}
use Rattle.sasi_model.specs.Abbreviations.{Partitions, types_of}
use Rattle.sasi_model.specs.State.{Definition, Index, State, decorated}
use Rattle.sasi_cells.specs.Maps.{put}
use Rattle.sasi_cells.specs.declared.mutation.Mutation.{Mutation}
use Rattle.sasi_datawrite.specs.Files.{IsDataFile}
use Rattle.sasi_datawrite.specs.Format.{Content}
use Rattle.sasi_manifest.specs.declared.files.PartNumber.{PartNumber}
use Rattle.sasi_manifest.specs.Format.{IsManifest}
use Rattle.sasi_manifest.specs.ListedFiles.{index_name}
use Rattle.sasi_manifest.specs.Types.{numbered_types}
use Rattle.sasi_postings.specs.IndexFiles.{StandsForIndex}
use Rattle.sasi_folder.specs.FolderContents.{HasSegments, IsFresh, IsSealed}
use Rattle.sasi_layout.specs.Layout.{File, IsIdle, Layout, TableParts, listing_of, state_of, used_in}

-- ---- data files

-- the partitions of a data file, as a map
abbrev pub map_of : Partitioner → Content → Partitions
map_of partitioner content = map_.from_entries (map (λ one. (decorated partitioner one.0, one.1)) content)

-- the folder has the index file of this part, which goes with the data file of this number and content: it is that of one of the table's indexes, under its number
pub record HasIndexFile (folder : Folder) (partitioner : Partitioner) (definition : Definition) (numbers : List ℕ) (number : ℕ) (content : Content) (p : PartNumber) : Type 0 where
  pub index : Index
  pub defined : Contains (zip numbers definition.indexes) (p.index, index)
  pub bytes : Bytes
  pub there : get folder (index_name number p) ≡ Some bytes
  pub stands : StandsForIndex partitioner definition index content bytes
  pub fits : length bytes ≤ 2 ^ 62

-- the folder has the data file, and it has these partitions; with it, it has the index file of each part that is listed
pub record HasFile (folder : Folder) (partitioner : Partitioner) (definition : Definition) (numbers : List ℕ) (file : File) : Type 0 where
  pub bytes : Bytes
  pub content : Content
  pub there : get folder (data_name file.listed.number) ≡ Some bytes
  pub data_file : IsDataFile partitioner (types_of definition) bytes content
  pub fits : length bytes ≤ 2 ^ 62
  pub keys : AllByRecursion (λ one. AreBytes one.0) content
  pub holds : file.holds ≡ map_of partitioner content
  pub indexes : AllByRecursion (HasIndexFile folder partitioner definition numbers file.listed.number content) file.listed.parts

-- ---- replay

-- the map after a segment's mutations of the table
abbrev pub replay_segment : Partitioner → ℕ → Partitions → List Mutation → Partitions
replay_segment partitioner table m [] = m
replay_segment partitioner table m (x ∷ xs) = replay_segment partitioner table (if nat_eq x.table table then put m (decorated partitioner x.key) x.change else m) xs

-- after those of the segments with rising numbers from n on; the table has its own first segment
abbrev pub replay : Partitioner → ℕ → ℕ → ℕ → Partitions → List (List Mutation) → Partitions
replay partitioner table since n m [] = m
replay partitioner table since n m (ms ∷ logs) = replay partitioner table since (suc n) (if nat_le since n then replay_segment partitioner table m ms else m) logs

-- there is a mutation of the table
abbrev pub has_mutation : ℕ → List Mutation → Bool
has_mutation table [] = false
has_mutation table (x ∷ xs) = nat_eq x.table table || has_mutation table xs

-- the least of these segments that has a mutation which is replayed into the table
abbrev pub first_in : ℕ → ℕ → ℕ → List (List Mutation) → Option ℕ
first_in table since n [] = None
first_in table since n (ms ∷ logs) = if nat_le since n && has_mutation table ms then Some n else first_in table since (suc n) logs

-- ---- tables

-- the table's files are there, and its memtable is what the live segments have of it
pub record IsShaped (folder : Folder) (partitioner : Partitioner) (floor number : ℕ) (logs : List (List Mutation)) (t : TableParts) : Type 0 where
  pub files : AllByRecursion (HasFile folder partitioner t.definition t.numbers) t.files
  pub idle : IsIdle t
  pub memtable : t.memtable ≡ replay partitioner number t.since floor map_.empty logs
  pub first : t.first ≡ first_in number t.since floor logs

-- and so of the tables with rising numbers from this one on
abbrev pub AreShaped : Folder → Partitioner → ℕ → ℕ → List (List Mutation) → List TableParts → Type 0
AreShaped folder partitioner floor number logs [] = ⊤
AreShaped folder partitioner floor number logs (t ∷ ts) = IsShaped folder partitioner floor number logs t × AreShaped folder partitioner floor (suc number) logs ts

-- ---- the folder

-- The folder has the shape of the layout, where its live segments have these mutations: the manifest of the highest seal lists
-- what the layout lists, and the files of the tables and the live segments are there. No other file matters.
pub record HasShape (folder : Folder) (l : Layout) (logs : List (List Mutation)) : Type 0 where
  pub sealed : IsSealed folder l.used.manifest
  pub manifest : (bytes : Bytes) × (get folder (manifest_name l.used.manifest) ≡ Some bytes) × IsManifest l.used.manifest bytes (listing_of l)
  pub live : l.floor + length logs ≡ suc l.last
  pub segments : HasSegments folder (numbered_types 1 (listing_of l).tables) l.floor logs
  pub tables : AreShaped folder l.partitioner l.floor 1 logs l.tables
  pub used : l.used ≡ used_in l.used.manifest (listing_of l)

-- the folder has the shape of the layout, whatever its segments have
abbrev pub IsOfShape : Layout → Folder → Type 0
IsOfShape l folder = (logs : List (List Mutation)) × HasShape folder l logs

-- ---- a new folder

-- the layout of a new store: one empty segment of the log, and a manifest of one record, the start
abbrev pub new_layout : Partitioner → Layout
new_layout partitioner = record { partitioner = partitioner; floor = 1; last = 1; records = 1; length = 36; tables = []; used = record { manifest = 1; log = 1; «data» = 0; index = 0; part = 0 } }

-- The folder's shape. A new folder has that of the store that will be created in it, under the partitioner that is asked, or lead8.
abbrev pub ShapeOf : Option Partitioner → Folder → Layout → Type 0
ShapeOf asked folder l = (IsFresh folder × (l ≡ new_layout (unwrap_or asked Lead8))) ⊎ IsOfShape l folder

-- ---- the state

-- the sealed folder stands for the state of its shape
pub record StandsSealed (folder : Folder) (s : State) : Type 0 where
  pub shape : Layout
  pub has : IsOfShape shape folder
  pub state_is : s ≡ state_of shape

-- The folder stands for the state of its shape.
pub record Stands (asked : Option Partitioner) (folder : Folder) (s : State) : Type 0 where
  pub shape : Layout
  pub has : ShapeOf asked folder shape
  pub state_is : s ≡ state_of shape
