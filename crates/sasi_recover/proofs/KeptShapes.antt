-- The shape of a folder, where the files that it lists stay.
use Rattle.std.proofs.Common.{◌≡◌, ℕ, suc, true, List, [], ◌∷◌, map, All, Contains, Option, Some, None, is_some, refl, sym, ◌∙◌, ap}
use Rattle.std.specs.FinMap.{get}
use Rattle.std.specs.List.{AllByRecursion, flat_map}
use Rattle.std.proofs.lemmas.List.Elements.{All-append, All-contains, All-from_recursion, Contains-append_left, Contains-append_right}
use Rattle.sasi_types.specs.declared.partitioner.Partitioner.{Partitioner}
use Rattle.sasi_host.specs.declared.name.FileName.{FileName}
use Rattle.sasi_host.specs.Names.{Bytes, Folder}
use Rattle.sasi_host.specs.View.{View, IsSound, contents, contents_in}
use Rattle.sasi_host.specs.Disk.{IsFileDurable, IsSynced, Each}
use Rattle.sasi_model.specs.Abbreviations.{types_of}
use Rattle.sasi_model.specs.State.{Definition}
use Rattle.sasi_cells.specs.declared.mutation.Mutation.{Mutation}
use Rattle.sasi_datawrite.specs.Format.{Content}
use Rattle.sasi_manifest.specs.declared.files.PartNumber.{PartNumber}
use Rattle.sasi_manifest.specs.FileNames.{file_names, has_name}
use Rattle.sasi_manifest.specs.ListedFiles.{index_name, names_of}
use Rattle.sasi_folder.specs.FolderContents.{FolderHolds}
use Rattle.sasi_layout.specs.Frames.{AgreeOnFiles, AgreeOnTables}
use Rattle.sasi_layout.specs.Layout.{File, Layout, TableParts, listed_of, listing_of}
use Rattle.sasi_layout.specs.Shape.{AreShaped, HasFile, HasIndexFile, HasShape}
use Rattle.sasi_layout.proofs.ShapeLaws.{tables_kept}
use Rattle.sasi_recover.specs.FileEnds.{IsWhole}
use Rattle.sasi_recover.specs.Opening.{IsFolderDurable, KeepsStore}
use Rattle.sasi_recover.proofs.NameLists.{all_of, any_of, of_any}
use Rattle.sasi_recover.proofs.SyncedFolder.{durable_name, durable_none, durable_store, holds_where_kept}

-- what a shape tells without its listed files
pub holds_of : (x : Folder) (l : Layout) (logs : List (List Mutation)) → HasShape x l logs → FolderHolds x l.used.manifest (listing_of l) logs
holds_of x l logs has = record { sealed = has.sealed; manifest = has.manifest; live = has.live; segments = has.segments }

-- **A folder that has what another lists has its shape.**
pub shape_where_kept : (x y : Folder) (l : Layout) (logs : List (List Mutation)) → KeepsStore l.used.manifest l.floor l.last x y
    → AgreeOnTables x y l.tables → HasShape x l logs → HasShape y l logs
shape_where_kept x y l logs keeps alike has =
    let holds = holds_where_kept x y l.used.manifest (listing_of l) logs keeps (holds_of x l logs has) in
    record {
      sealed = holds.sealed;
      manifest = holds.manifest;
      live = holds.live;
      segments = holds.segments;
      tables = tables_kept x y l.partitioner l.floor 1 logs l.tables alike has.tables;
      used = has.used;
    }

-- ---- listed files are there

-- the folder has the file, and its bytes are a whole file of its kind
pub record IsWholeThere (x : Folder) (name : FileName) : Type 0 where
  pub bytes : Bytes
  pub there : get x name ≡ Some bytes
  pub whole : IsWhole name.kind bytes

parts_whole : (x : Folder) (p : Partitioner) (d : Definition) (numbers : List ℕ) (number : ℕ) (content : Content) (parts : List PartNumber) → AllByRecursion (HasIndexFile x p d numbers number content) parts
    → AllByRecursion (IsWholeThere x) (map (index_name number) parts)
parts_whole x p d numbers number content [] has = tt
parts_whole x p d numbers number content (part ∷ parts) has = (
  record { bytes = has.0.bytes; there = has.0.there; whole = (has.0.stands.content, has.0.stands.file_is) },
  parts_whole x p d numbers number content parts has.1,
)

files_whole : (x : Folder) (p : Partitioner) (d : Definition) (numbers : List ℕ) (fs : List File) → AllByRecursion (HasFile x p d numbers) fs → All (IsWholeThere x) (flat_map names_of (map (λ (f : File). f.listed) fs))
files_whole x p d numbers [] has = All-from_recursion (IsWholeThere x) [] tt
files_whole x p d numbers (f ∷ fs) has = All-append (IsWholeThere x) (names_of f.listed) (flat_map names_of (map (λ (f : File). f.listed) fs))
    (All-from_recursion (IsWholeThere x) (names_of f.listed) (
      record { bytes = has.0.bytes; there = has.0.there; whole = (p, types_of d, has.0.content, has.0.data_file) },
      parts_whole x p d numbers f.listed.number has.0.content f.listed.parts has.0.indexes,
    )) (files_whole x p d numbers fs has.1)

tables_whole : (x : Folder) (p : Partitioner) (floor n : ℕ) (logs : List (List Mutation)) (ts : List TableParts) → AreShaped x p floor n logs ts → All (IsWholeThere x) (file_names (map listed_of ts))
tables_whole x p floor n logs [] are = All-from_recursion (IsWholeThere x) [] tt
tables_whole x p floor n logs (t ∷ ts) are = All-append (IsWholeThere x) (flat_map names_of (listed_of t).files) (file_names (map listed_of ts))
    (files_whole x p t.definition t.numbers t.files are.0.files) (tables_whole x p floor (suc n) logs ts are.1)

-- **A listed file of a shape is there, whole.**
pub file_of_shape : (x : Folder) (l : Layout) (logs : List (List Mutation)) (name : FileName) → HasShape x l logs → has_name (listing_of l).tables name ≡ true → IsWholeThere x name
file_of_shape x l logs name has listed = All-contains (IsWholeThere x) (file_names (listing_of l).tables) name (tables_whole x l.partitioner l.floor 1 logs l.tables has.tables) (of_any (file_names (listing_of l).tables) name listed)

-- ---- folders that agree on listed files

module _ (x y : Folder) where
  files_agree : (fs : List File) → ((name : FileName) → Contains (flat_map names_of (map (λ (f : File). f.listed) fs)) name → get y name ≡ get x name) → AgreeOnFiles x y fs
  files_agree [] each = tt
  files_agree (f ∷ fs) each = (
    all_of (λ name. get y name ≡ get x name) (names_of f.listed) (λ name has. each name (Contains-append_left (names_of f.listed) (flat_map names_of (map (λ (f : File). f.listed) fs)) name has)),
    files_agree fs (λ name has. each name (Contains-append_right (names_of f.listed) (flat_map names_of (map (λ (f : File). f.listed) fs)) name has)),
  )

  tables_agree : (ts : List TableParts) → ((name : FileName) → Contains (file_names (map listed_of ts)) name → get y name ≡ get x name) → AgreeOnTables x y ts
  tables_agree [] each = tt
  tables_agree (t ∷ ts) each = (
    files_agree t.files (λ name has. each name (Contains-append_left (flat_map names_of (listed_of t).files) (file_names (map listed_of ts)) name has)),
    tables_agree ts (λ name has. each name (Contains-append_right (flat_map names_of (listed_of t).files) (file_names (map listed_of ts)) name has)),
  )

-- **Folders that have the same of each listed name agree on the tables' files.**
pub agree_where : (x y : Folder) (l : Layout) → ((name : FileName) → has_name (listing_of l).tables name ≡ true → get y name ≡ get x name) → AgreeOnTables x y l.tables
agree_where x y l each = tables_agree x y l.tables (λ name has. each name (any_of (file_names (listing_of l).tables) name has))

-- ---- synced folders

some_of : (o : Option Bytes) → is_some o ≡ true → (b : Bytes) × (o ≡ Some b)
some_of None is = cc
some_of (Some b) is = (b, refl)

module _ (v : View) (sound : IsSound v) (durable : IsFolderDurable v) (f : Folder) (files : v.files ≡ Some f) where
  -- a file that is synced is in each image
  pub synced_file : (x : Folder) (now : v.image x) (name : FileName) → IsSynced v name → get x name ≡ get f name
  synced_file x now name synced = by (get f name) refl
    where
      by : (o : Option Bytes) → get f name ≡ o → get x name ≡ get f name
      by None none = durable_none v sound durable f files x now name none ∙ sym none
      by (Some bytes) has =
          let there = some_of (get x name) (durable_name v sound durable f files x now name ∙ ap (λ (o : Option Bytes). is_some o) has) in
          let reads : contents v name ≡ Some bytes = ap (λ (o : Option Folder). contents_in o name) files ∙ has in
          there.1 ∙ ap (λ (b : Bytes). Some b) (synced x there.0 bytes now reads there.1) ∙ sym has

  -- **Each image has the shape of the folder as it reads, once its listed files are synced.**
  pub synced_shape : (l : Layout) (logs : List (List Mutation)) → ((name : FileName) → has_name (listing_of l).tables name ≡ true → IsSynced v name) → HasShape f l logs → Each v (λ x. HasShape x l logs)
  synced_shape l logs synced has x now = shape_where_kept f x l logs (durable_store v sound durable f files x now l.used.manifest l.floor l.last) (agree_where f x l (λ name listed. synced_file x now name (synced name listed))) has

-- a synced file is durable
pub synced_durable : (v : View) → IsSound v → IsFolderDurable v → (name : FileName) (bytes : Bytes) → IsSynced v name → contents v name ≡ Some bytes → IsFileDurable v name bytes
synced_durable v sound durable name bytes synced reads x now =
    let there = some_of (get x name) (durable.names x name (sound.told x now) now ∙ ap (λ (o : Option Bytes). is_some o) reads) in
    there.1 ∙ ap (λ (b : Bytes). Some b) (synced x there.0 bytes now reads there.1)
