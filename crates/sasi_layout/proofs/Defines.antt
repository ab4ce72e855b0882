-- A new index: one record more in the manifest, which lists it.
use Rattle.std.specs.Prelude.{Contains, ℕ, suc, true, false, cond, nat_eq, List, Option, Some, refl, map, ◌≡◌, ◌≢◌, ◌∷◌, ◌++◌, []}
use Rattle.std.proofs.Common.{sym, ap, ◌∙◌, subst, ⊎_elim, arith}
use Rattle.std.specs.FinMap.{get}
use Rattle.std.specs.List.{AllByRecursion, cons_option, zip}
use Rattle.std.proofs.lemmas.List.Elements.{Contains-append_left}
use Rattle.std.specs.Option.{option_map, option_map_or}
use Rattle.sasi_types.specs.declared.column.ColumnType.{ColumnType}
use Rattle.sasi_types.specs.declared.partitioner.Partitioner.{Partitioner}
use Rattle.sasi_model.specs.State.{Definition, Index, with_index}
use Rattle.sasi_model.specs.Stored.{column_types}
use Rattle.sasi_cells.specs.declared.mutation.Mutation.{Mutation}
use Rattle.sasi_host.specs.Disk.{AnyChange, Changes, Each, FileChange, LeftWith}
use Rattle.sasi_host.specs.Names.{Bytes, Folder, log_name, manifest_name, seal_name}
use Rattle.sasi_host.specs.View.{View, IsSound}
use Rattle.sasi_host.specs.declared.name.FileName.{FileName}
use Rattle.sasi_host.proofs.ChangeLaws.{at_each_moment}
use Rattle.sasi_commitlog.specs.Format.{Tables}
use Rattle.sasi_datawrite.specs.Format.{Content}
use Rattle.sasi_manifest.specs.Format.{IsManifest, IsNext}
use Rattle.sasi_manifest.specs.Listings.{after_all, index_edit, listed_with_index, with_record_counted}
use Rattle.sasi_manifest.specs.Edits.{encoded}
use Rattle.sasi_manifest.specs.ListedDefinition.{ListedDefinition}
use Rattle.sasi_manifest.specs.OpenManifest.{ManifestStands}
use Rattle.sasi_manifest.specs.declared.edit.Edit.{Edit}
use Rattle.sasi_manifest.specs.declared.files.PartNumber.{PartNumber}
use Rattle.sasi_model.specs.Changes.{at_number}
use Rattle.sasi_manifest.specs.Types.{numbered_types}
use Rattle.sasi_manifest.specs.declared.listing.Listing.{Listing}
use Rattle.sasi_folder.proofs.FolderLaws.{kinds_apart, sealed_kept, segments_kept}
use Rattle.sasi_folder.specs.FolderContents.{HasSegments}
use Rattle.sasi_layout.proofs.Flushes.{flush_kept}
use Rattle.sasi_layout.proofs.LayoutLaws.{bare_listing}
use Rattle.sasi_layout.proofs.ShapeLaws.{all_agree, bare_shape, files_kept, bare_idle}
use Rattle.sasi_layout.proofs.Numbered.{seen_at}
use Rattle.sasi_layout.proofs.Trails.{none_done, all_done, manifest_each}
use Rattle.sasi_layout.specs.Between.{Between}
use Rattle.sasi_layout.specs.Flushed.{ListsEither}
use Rattle.sasi_layout.specs.Frames.{SameFiles}
use Rattle.sasi_layout.specs.Layout.{File, Layout, TableParts, bare, bare_table, listed_of, listing_of, numbered}
use Rattle.sasi_layout.specs.Moves.{Move, Define, after_define, define_edits, define_table, index_def, moved}
use Rattle.sasi_layout.specs.Shape.{HasFile, HasIndexFile, IsShaped, AreShaped, HasShape}

-- ---- any move with a record

-- **What an append of a move's record leaves**, where the shape after the move follows from what the manifest lists then.
module _ (l : Layout) (m : Move) (logs later : List (List Mutation)) (Has : Folder → Type 0)
    (gained : (x y : Folder) → HasShape x (bare l) logs → Has x → ((name : FileName) → name ≢ manifest_name l.used.manifest → get y name ≡ get x name)
    → (bytes : Bytes) → get y (manifest_name l.used.manifest) ≡ Some bytes → IsManifest l.used.manifest bytes (listing_of (moved m l)) → HasShape y (bare (moved m l)) later) where
  pub listed_moves : (a b : View) → IsSound a → Each a (λ x. HasShape x (bare l) logs × Has x) → Changes (FileChange (manifest_name l.used.manifest) (LeftWith (ListsEither l (moved m l)))) a b → Changes (λ x y. Between l (m ∷ []) y) a b
  listed_moves a b sound each change =
      at_each_moment a b _ (λ x. HasShape x (bare l) logs × Has x) (λ y. Between l (m ∷ []) y) sound change each (λ x y has step.
      ⊎_elim (λ former. none_done l (m ∷ []) y (logs, flush_kept x y l 0 logs has.0 step.others step.this.0 step.this.1 former))
      (λ next. all_done l (m ∷ []) y (later, gained x y has.0 has.1 step.others step.this.0 step.this.1 next)) step.this.2)

-- ---- numbered indexes

-- longer lists have the same pairs in front
zip_front : {A B : Type 0} (xs more : List A) (ys others : List B) → (rest : List (A × B)) × (zip (xs ++ more) (ys ++ others) ≡ zip xs ys ++ rest)
zip_front [] more ys others = (zip more (ys ++ others), refl)
zip_front (x ∷ xs) more [] others = (zip ((x ∷ xs) ++ more) others, refl)
zip_front {A} {B} (x ∷ xs) more (y ∷ ys) others = (let rest = zip_front xs more ys others in (rest.0, ap (λ (l : List (A × B)). (x, y) ∷ l) rest.1))

-- and so what is among the pairs stays
zip_longer : {A B : Type 0} (xs more : List A) (ys others : List B) (e : A × B) → Contains (zip xs ys) e → Contains (zip (xs ++ more) (ys ++ others)) e
zip_longer {A} {B} xs more ys others e has =
    let front = zip_front xs more ys others in
    subst (λ (l : List (A × B)). Contains l e) (sym front.1) (Contains-append_left (zip xs ys) front.0 e has)

-- ---- tables

module _ (x y : Folder) (p : Partitioner) (floor table number : ℕ) (index : Index) (logs : List (List Mutation)) (same : SameFiles x y) where
  parts_defined : (d : Definition) (ns : List ℕ) (file : ℕ) (content : Content) (ps : List PartNumber) → AllByRecursion (HasIndexFile y p d ns file content) ps
      → AllByRecursion (HasIndexFile y p (with_index index d) (ns ++ number ∷ []) file content) ps
  parts_defined d ns file content [] has = tt
  parts_defined d ns file content (part ∷ ps) has = (
    record { index = has.0.index; defined = zip_longer ns (number ∷ []) d.indexes (index ∷ []) (part.index, has.0.index) has.0.defined; bytes = has.0.bytes; there = has.0.there; stands = has.0.stands; fits = has.0.fits },
    parts_defined d ns file content ps has.1,
  )

  files_defined : (d : Definition) (ns : List ℕ) (fs : List File) → AllByRecursion (HasFile y p d ns) fs → AllByRecursion (HasFile y p (with_index index d) (ns ++ number ∷ [])) fs
  files_defined d ns [] has = tt
  files_defined d ns (f ∷ fs) has = (
    record { bytes = has.0.bytes; content = has.0.content; there = has.0.there; data_file = has.0.data_file; fits = has.0.fits; keys = has.0.keys; holds = has.0.holds; indexes = parts_defined d ns f.listed.number has.0.content f.listed.parts has.0.indexes },
    files_defined d ns fs has.1,
  )

  defined_shaped : (n : ℕ) (ts : List TableParts) → AreShaped x p floor n logs (map bare_table ts) → AreShaped y p floor n logs (map bare_table (at_number n table (define_table number index) ts))
  defined_shaped n [] are = tt
  defined_shaped n (t ∷ ts) are =
      let rest = defined_shaped (suc n) ts are.1 in
      let files = files_kept x y p t.definition t.numbers t.files (all_agree x y same t.files) are.0.files in
      elim (nat_eq n table) as (λ b. IsShaped y p floor n logs (bare_table (cond b (define_table number index t) t)) × AreShaped y p floor (suc n) logs (map bare_table (at_number (suc n) table (define_table number index) ts))) [
        | true ↦ (record { files = files_defined t.definition t.numbers t.files files; idle = bare_idle t; memtable = are.0.memtable; first = are.0.first }, rest)
        | false ↦ (record { files = files; idle = bare_idle t; memtable = are.0.memtable; first = are.0.first }, rest)
      ]

-- the types of the columns stay where the columns do
pub types_at : (f : TableParts → TableParts) → ((t : TableParts) → column_types (f t).definition ≡ column_types t.definition) → (n table number : ℕ) (ts : List TableParts) → numbered_types number (map listed_of (at_number n table f ts)) ≡ numbered_types number (map listed_of ts)
types_at f same n table number [] = refl
types_at f same n table number (t ∷ ts) =
    let rest = types_at f same (suc n) table (suc number) ts in
    let row : Option (List ColumnType) → Option (ℕ × List ColumnType) = λ o. option_map (λ (types : List ColumnType). (number, types)) o in
    elim (nat_eq n table) as (λ b. cons_option (row (column_types (cond b (f t) t).definition)) (numbered_types (suc number) (map listed_of (at_number (suc n) table f ts))) ≡ cons_option (row (column_types t.definition)) (numbered_types (suc number) (map listed_of ts))) [
      | true ↦ λ i. cons_option (row (same t i)) (rest i)
      | false ↦ λ i. cons_option (row (column_types t.definition)) (rest i)
    ]

-- ---- the folder

pub define_gained : (l : Layout) (table : ℕ) (index : Index) (logs : List (List Mutation)) (x y : Folder) → HasShape x (bare l) logs → ((name : FileName) → name ≢ manifest_name l.used.manifest → get y name ≡ get x name)
    → (bytes : Bytes) → get y (manifest_name l.used.manifest) ≡ Some bytes → IsManifest l.used.manifest bytes (listing_of (after_define table index l)) → HasShape y (bare (after_define table index l)) logs
define_gained l table index logs x y has others bytes there later =
    let segments : HasSegments x (numbered_types 1 (listing_of l).tables) l.floor logs = subst (λ (e : Listing). HasSegments x (numbered_types 1 e.tables) l.floor logs) (bare_listing l) has.segments in
    bare_shape y (after_define table index l) (listing_of (after_define table index l)) logs refl
    (sealed_kept x y l.used.manifest (λ n. others (seal_name n) (kinds_apart _ _ (omega arith))) has.sealed)
    (bytes, there, later)
    has.live
    (subst (λ (ts : Tables). HasSegments y ts l.floor logs) (sym (types_at (define_table (suc l.used.index) index) (λ t. refl) 1 table 1 l.tables))
    (segments_kept x y (numbered_types 1 (listing_of l).tables) l.floor logs (λ segment above below. others (log_name segment) (kinds_apart _ _ (omega arith))) segments))
    (defined_shaped x y l.partitioner l.floor table (suc l.used.index) index logs (λ name file. others name (kinds_apart _ _ (omega (arith, file)))) 1 l.tables has.tables)

-- what is listed of the tables with a new index
defined_tables : (table : ℕ) (index : Index) (l : Layout) (t : TableParts) → numbered 1 table l.tables ≡ Some t
    → (listing_of (after_define table index l)).tables ≡ at_number 1 table (listed_with_index (index_def (suc l.used.index) table index t.definition)) (listing_of l).tables
defined_tables table index l t there = seen_at listed_of (define_table (suc l.used.index) index) (listed_with_index (index_def (suc l.used.index) table index t.definition)) (λ t. refl) 1 table l.tables

-- A new index is one record.
pub define_is_next : (table : ℕ) (index : Index) (l : Layout) (t : TableParts) → numbered 1 table l.tables ≡ Some t → IsNext (listing_of l) (define_edits table index l) (listing_of (after_define table index l))
define_is_next table index l t there =
    let edits : define_edits table index l ≡ index_edit (index_def (suc l.used.index) table index t.definition) ∷ [] = ap (λ (o : Option TableParts). option_map_or (λ t. index_edit (index_def (suc l.used.index) table index t.definition) ∷ []) o []) there in
    ap (λ (ts : List ListedDefinition). Some (record (listing_of (after_define table index l)) { tables = ts })) (defined_tables table index l t there)
    ∙ ap (λ (es : List Edit). with_record_counted (encoded (define_edits table index l)) (after_all (Some (listing_of l)) es)) (sym edits)

-- **At each moment of the record of a new index a crash leaves the layout before it or after it.**
pub define_moves : (l : Layout) (table : ℕ) (index : Index) (logs : List (List Mutation)) (a b : View) → IsSound a → Each a (λ x. HasShape x (bare l) logs)
    → Changes (FileChange (manifest_name l.used.manifest) (LeftWith (ListsEither l (after_define table index l)))) a b → Changes (λ x y. Between l (Define table index ∷ []) y) a b
define_moves l table index logs a b sound each change =
    listed_moves l (Define table index) logs logs (λ x. Unit {0}) (λ x y has none others bytes there later. define_gained l table index logs x y has others bytes there later) a b sound (λ x now. (each x now, tt)) change

-- each image has the shape with the index after it
pub define_each : (l : Layout) (table : ℕ) (index : Index) (at : ℕ) (a b : View) (logs : List (List Mutation)) → Each a (λ x. HasShape x (bare l) logs) → Changes (FileChange (manifest_name l.used.manifest) AnyChange) a b
    → ManifestStands b l.used.manifest at (listing_of (after_define table index l)) → Each b (λ x. HasShape x (bare (after_define table index l)) logs)
define_each l table index at a b logs each change end y now =
    let from = change.image y now in
    let lists = manifest_each b l.used.manifest at (listing_of (after_define table index l)) end in
    define_gained l table index logs from.0 y (each from.0 from.1) from.2.others end.at_end.bytes (lists.0 y now) lists.1
