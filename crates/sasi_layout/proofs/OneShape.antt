-- A folder has at most one shape, and stands for at most one state.
use Rattle.std.specs.Prelude.{ℕ, suc, List, Option, Some, refl, map, ◌≡◌, ◌∷◌, []}
use Rattle.std.proofs.Common.{◌∙◌, sym, ap, subst, inl, inr, arith}
use Rattle.std.specs.FinMap.{get}
use Rattle.std.specs.List.{AllByRecursion}
use Rattle.std.specs.FinMap as map_
use Rattle.sasi_types.specs.declared.partitioner.Partitioner.{Partitioner}
use Rattle.sasi_model.specs.Abbreviations.{types_of}
use Rattle.sasi_model.specs.State.{Definition, State}
use Rattle.sasi_cells.proofs.Laws.Sorted.{first, second}
use Rattle.sasi_cells.specs.declared.mutation.Mutation.{Mutation}
use Rattle.sasi_host.specs.Names.{Bytes, Folder, manifest_name, data_name}
use Rattle.sasi_datawrite.specs.Files.{IsDataFile}
use Rattle.sasi_manifest.proofs.Laws.{manifest_same}
use Rattle.sasi_manifest.specs.Format.{IsManifest}
use Rattle.sasi_manifest.specs.ListedDefinition.{ListedDefinition}
use Rattle.sasi_manifest.specs.Types.{numbered_types}
use Rattle.sasi_manifest.specs.declared.files.ListedFile.{ListedFile}
use Rattle.sasi_manifest.specs.declared.listing.Listing.{Listing}
use Rattle.sasi_folder.proofs.FolderLaws.{sealed_not_fresh, highest_same, segments_same}
use Rattle.sasi_folder.specs.FolderContents.{HasSegments}
use Rattle.sasi_layout.proofs.OneContent.{one_content}
use Rattle.sasi_layout.specs.Layout.{File, Layout, TableParts, listed_of, listing_of, state_of, used_in}
use Rattle.sasi_layout.specs.Shape.{HasFile, map_of, replay, first_in, IsShaped, AreShaped, HasShape, ShapeOf, Stands}

-- ---- of its tables

one_value : (a b : Bytes) (o : Option Bytes) → o ≡ Some a → o ≡ Some b → a ≡ b
one_value a b o first second = let e : Some a ≡ Some b = sym first ∙ second in cc

module _ (x : Folder) (p : Partitioner) where
  file_same : (d : Definition) (ns : List ℕ) (f g : File) → f.listed ≡ g.listed → HasFile x p d ns f → HasFile x p d ns g → f ≡ g
  file_same d ns f g listed first second =
      let there : get x (data_name g.listed.number) ≡ Some first.bytes = ap (λ (l : ListedFile). get x (data_name l.number)) (sym listed) ∙ first.there in
      let bytes : second.bytes ≡ first.bytes = one_value second.bytes first.bytes (get x (data_name g.listed.number)) second.there there in
      let content : first.content ≡ second.content = one_content p (types_of d) first.bytes first.content second.content first.fits first.data_file (subst (λ (l : Bytes). IsDataFile p (types_of d) l second.content) bytes second.data_file) in
      let holds : f.holds ≡ g.holds = first.holds ∙ ap (map_of p) content ∙ sym second.holds in
      λ i. record { listed = listed i; holds = holds i }

  files_same : (d : Definition) (ns : List ℕ) (fs gs : List File) → map (λ (f : File). f.listed) fs ≡ map (λ (f : File). f.listed) gs → AllByRecursion (HasFile x p d ns) fs → AllByRecursion (HasFile x p d ns) gs → fs ≡ gs
  files_same d ns [] [] listed first second = refl
  files_same d ns [] (g ∷ gs) listed first second = cc
  files_same d ns (f ∷ fs) [] listed first second = cc
  files_same d ns (f ∷ fs) (g ∷ gs) listed first second =
      let head : f.listed ≡ g.listed = cc in
      let tail : map (λ (f : File). f.listed) fs ≡ map (λ (f : File). f.listed) gs = cc in
      let here : f ≡ g = file_same d ns f g head first.0 second.0 in
      let rest : fs ≡ gs = files_same d ns fs gs tail first.1 second.1 in
      λ i. here i ∷ rest i

  table_same : (floor n : ℕ) (logs : List (List Mutation)) (t u : TableParts) → listed_of t ≡ listed_of u → IsShaped x p floor n logs t → IsShaped x p floor n logs u → t ≡ u
  table_same floor n logs t u listed first second =
      let definition : t.definition ≡ u.definition = ap (λ (l : ListedDefinition). l.definition) listed in
      let numbers : t.numbers ≡ u.numbers = ap (λ (l : ListedDefinition). l.numbers) listed in
      let since : t.since ≡ u.since = ap (λ (l : ListedDefinition). l.since) listed in
      let there : AllByRecursion (HasFile x p t.definition t.numbers) u.files =
      subst (λ (d : Definition). AllByRecursion (HasFile x p d t.numbers) u.files) (sym definition) (subst (λ (ns : List ℕ). AllByRecursion (HasFile x p u.definition ns) u.files) (sym numbers) second.files) in
      let files : t.files ≡ u.files = files_same t.definition t.numbers t.files u.files (ap (λ (l : ListedDefinition). l.files) listed) first.files there in
      let frozen : t.frozen ≡ u.frozen = first.idle ∙ sym second.idle in
      let memtable : t.memtable ≡ u.memtable = first.memtable ∙ ap (λ s. replay p n s floor map_.empty logs) since ∙ sym second.memtable in
      let least : t.first ≡ u.first = first.first ∙ ap (λ s. first_in n s floor logs) since ∙ sym second.first in
      λ i. record { definition = definition i; numbers = numbers i; since = since i; first = least i; files = files i; frozen = frozen i; memtable = memtable i }

  tables_same : (floor n : ℕ) (logs : List (List Mutation)) (ts us : List TableParts) → map listed_of ts ≡ map listed_of us → AreShaped x p floor n logs ts → AreShaped x p floor n logs us → ts ≡ us
  tables_same floor n logs [] [] listed first second = refl
  tables_same floor n logs [] (u ∷ us) listed first second = cc
  tables_same floor n logs (t ∷ ts) [] listed first second = cc
  tables_same floor n logs (t ∷ ts) (u ∷ us) listed first second =
      let head : listed_of t ≡ listed_of u = cc in
      let tail : map listed_of ts ≡ map listed_of us = cc in
      let here : t ≡ u = table_same floor n logs t u head first.0 second.0 in
      let rest : ts ≡ us = tables_same floor (suc n) logs ts us tail first.1 second.1 in
      λ i. here i ∷ rest i

-- ---- of all

-- A folder has at most one shape.
pub shape_same : (x : Folder) (l k : Layout) (a b : List (List Mutation)) → HasShape x l a → HasShape x k b → (l ≡ k) × (a ≡ b)
shape_same x l k a b first second =
    let number : l.used.manifest ≡ k.used.manifest = highest_same x l.used.manifest k.used.manifest first.sealed second.sealed in
    let there : get x (manifest_name l.used.manifest) ≡ Some second.manifest.0 = subst (λ n. get x (manifest_name n) ≡ Some second.manifest.0) (sym number) second.manifest.1 in
    let bytes : second.manifest.0 ≡ first.manifest.0 = one_value second.manifest.0 first.manifest.0 (get x (manifest_name l.used.manifest)) there first.manifest.1 in
    let lists : IsManifest l.used.manifest first.manifest.0 (listing_of k) = subst (λ (c : Bytes). IsManifest l.used.manifest c (listing_of k)) bytes (subst (λ n. IsManifest n second.manifest.0 (listing_of k)) (sym number) second.manifest.2) in
    let listing : listing_of l ≡ listing_of k = manifest_same l.used.manifest first.manifest.0 (listing_of l) (listing_of k) first.manifest.2 lists in
    let partitioner : l.partitioner ≡ k.partitioner = ap (λ (e : Listing). e.partitioner) listing in
    let floor : l.floor ≡ k.floor = ap (λ (e : Listing). e.floor) listing in
    let last : l.last ≡ k.last = ap (λ (e : Listing). e.last) listing in
    let records : l.records ≡ k.records = ap (λ (e : Listing). e.records) listing in
    let size : l.length ≡ k.length = ap (λ (e : Listing). e.length) listing in
    let segments : HasSegments x (numbered_types 1 (listing_of l).tables) l.floor b = subst (λ (e : Listing). HasSegments x (numbered_types 1 e.tables) e.floor b) (sym listing) second.segments in
    let logs : a ≡ b = segments_same x (numbered_types 1 (listing_of l).tables) l.floor a b (omega (arith, first.live, second.live, floor, last)) first.segments segments in
    let shaped : AreShaped x l.partitioner l.floor 1 a k.tables =
    subst (λ (p : Partitioner). AreShaped x p l.floor 1 a k.tables) (sym partitioner) (subst (λ f. AreShaped x k.partitioner f 1 a k.tables) (sym floor) (subst (λ (c : List (List Mutation)). AreShaped x k.partitioner k.floor 1 c k.tables) (sym logs) second.tables)) in
    let tables : l.tables ≡ k.tables = tables_same x l.partitioner l.floor 1 a l.tables k.tables (ap (λ (e : Listing). e.tables) listing) first.tables shaped in
    let used : l.used ≡ k.used = first.used ∙ ap (λ n. used_in n (listing_of l)) number ∙ ap (used_in k.used.manifest) listing ∙ sym second.used in
    (λ i. record { partitioner = partitioner i; floor = floor i; last = last i; records = records i; length = size i; tables = tables i; used = used i }, logs)

-- under what is asked, a folder has at most one shape
pub one_shape : (asked : Option Partitioner) (x : Folder) (l k : Layout) → ShapeOf asked x l → ShapeOf asked x k → l ≡ k
one_shape asked x l k (inl first) (inl second) = first.1 ∙ sym second.1
one_shape asked x l k (inl first) (inr second) = absurd (sealed_not_fresh x k.used.manifest second.1.sealed first.0)
one_shape asked x l k (inr first) (inl second) = absurd (sealed_not_fresh x l.used.manifest first.1.sealed second.0)
one_shape asked x l k (inr first) (inr second) = (shape_same x l k first.0 second.0 first.1 second.1).0

-- It stands for at most one state.
pub stands_same : (asked : Option Partitioner) (x : Folder) (s t : State) → Stands asked x s → Stands asked x t → s ≡ t
stands_same asked x s t first second = first.state_is ∙ ap state_of (one_shape asked x first.shape second.shape first.has second.has) ∙ sym second.state_is
