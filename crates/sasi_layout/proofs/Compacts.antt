-- The last unit of a compaction: one record more in the manifest, which lists its file in the place of its sources.
use Rattle.std.specs.Prelude.{◌≡◌, ◌≢◌, ℕ, suc, Bool, true, false, cond, not, nat_eq, nat_le, List, [], ◌∷◌, map, Some, refl}
use Rattle.std.proofs.Common.{sym, ap, subst, ◌∙◌, arith}
use Rattle.std.specs.FinMap.{get}
use Rattle.std.specs.List.{AllByRecursion}
use Rattle.std.specs.Option.{option_map_or}
use Rattle.sasi_types.specs.declared.partitioner.Partitioner.{Partitioner}
use Rattle.sasi_cells.specs.declared.mutation.Mutation.{Mutation}
use Rattle.sasi_commitlog.specs.Format.{Tables}
use Rattle.sasi_host.specs.Disk.{AnyChange, Changes, Each, FileChange, LeftWith}
use Rattle.sasi_host.specs.Names.{Bytes, Folder, log_name, manifest_name, seal_name}
use Rattle.sasi_host.specs.View.{IsSound, View}
use Rattle.sasi_host.specs.declared.name.FileName.{FileName}
use Rattle.sasi_manifest.specs.Format.{IsManifest, IsNext}
use Rattle.sasi_manifest.specs.ListedDefinition.{ListedDefinition}
use Rattle.sasi_manifest.specs.ListedFiles.{is_among, with_file}
use Rattle.sasi_manifest.specs.Listings.{after_all, at_number, replaced, with_record_counted}
use Rattle.sasi_manifest.specs.Edits.{encoded}
use Rattle.sasi_manifest.specs.OpenManifest.{ManifestStands}
use Rattle.sasi_manifest.specs.Types.{numbered_types}
use Rattle.sasi_manifest.specs.declared.edit.Edit.{Edit}
use Rattle.sasi_manifest.specs.declared.edit.Edit.TheVariants.{Replace}
use Rattle.sasi_manifest.specs.declared.files.ListedFile.{ListedFile}
use Rattle.sasi_manifest.specs.declared.listing.Listing.{Listing}
use Rattle.sasi_manifest.proofs.Replacing.{At}
use Rattle.sasi_folder.proofs.FolderLaws.{kinds_apart, sealed_kept, segments_kept}
use Rattle.sasi_folder.specs.FolderContents.{HasSegments}
use Rattle.sasi_layout.specs.Between.{Between}
use Rattle.sasi_layout.specs.Compacted.{HasOutput}
use Rattle.sasi_layout.specs.Compacting.{Compaction, compact_table, insert_file, listed_output, others, output_file}
use Rattle.sasi_layout.specs.Flushed.{ListsEither}
use Rattle.sasi_layout.specs.Frames.{SameFiles}
use Rattle.sasi_layout.specs.Layout.{File, Layout, TableParts, bare, bare_table, listed_of, listing_of, numbered}
use Rattle.sasi_layout.specs.Moves.{Compact, after_compact, compact_edits}
use Rattle.sasi_layout.specs.Shape.{AreShaped, HasFile, HasShape, IsShaped}
use Rattle.sasi_layout.proofs.CompactLaws.{IsOne, listed_inserted, listed_others, one_at}
use Rattle.sasi_layout.proofs.Defines.{listed_moves, types_at}
use Rattle.sasi_layout.proofs.LayoutLaws.{bare_listing}
use Rattle.sasi_layout.proofs.Numbered.{seen_of_it}
use Rattle.sasi_layout.proofs.ShapeLaws.{all_agree, bare_idle, bare_shape, files_kept}
use Rattle.sasi_layout.proofs.Trails.{manifest_each}

-- ---- files

all_others : (P : File → Type 0) (ns : List ℕ) (fs : List File) → AllByRecursion P fs → AllByRecursion P (others ns fs)
all_others P ns [] all = tt
all_others P ns (f ∷ fs) all = by (is_among ns f.listed.number) (all_others P ns fs all.1)
  where
    by : (b : Bool) → AllByRecursion P (others ns fs) → AllByRecursion P (cond (not b) (f ∷ others ns fs) (others ns fs))
    by true rest = rest
    by false rest = (all.0, rest)

all_inserted : (P : File → Type 0) (f : File) (fs : List File) → P f → AllByRecursion P fs → AllByRecursion P (insert_file f fs)
all_inserted P f [] here all = (here, tt)
all_inserted P f (g ∷ gs) here all = by (nat_le f.listed.number g.listed.number) (all_inserted P f gs here all.1)
  where
    by : (b : Bool) → AllByRecursion P (insert_file f gs) → AllByRecursion P (cond b (f ∷ g ∷ gs) (g ∷ insert_file f gs))
    by true rest = (here, all)
    by false rest = (all.0, rest)

-- ---- tables

module _ (x y : Folder) (p : Partitioner) (floor used : ℕ) (c : Compaction) (logs : List (List Mutation)) (same : SameFiles x y) where
  compacted : (n : ℕ) (t : TableParts) → HasFile x p t.definition t.numbers (output_file used c t) → IsShaped x p floor n logs (bare_table t) → IsShaped y p floor n logs (bare_table (compact_table used c t))
  compacted n t out is =
      let new = files_kept x y p t.definition t.numbers (output_file used c t ∷ []) (all_agree x y same (output_file used c t ∷ [])) (out, tt) in
      let old = files_kept x y p t.definition t.numbers t.files (all_agree x y same t.files) is.files in
      record {
        files = all_inserted (HasFile y p t.definition t.numbers) (output_file used c t) (others c.sources t.files) new.0 (all_others (HasFile y p t.definition t.numbers) c.sources t.files old);
        idle = bare_idle (compact_table used c t);
        memtable = is.memtable;
        first = is.first;
      }

  compacted_shaped : (n table : ℕ) (ts : List TableParts) → At n table (λ t. HasFile x p t.definition t.numbers (output_file used c t)) ts → AreShaped x p floor n logs (map bare_table ts) → AreShaped y p floor n logs (map bare_table (at_number n table (compact_table used c) ts))
  compacted_shaped n table [] out are = tt
  compacted_shaped n table (t ∷ ts) out are =
      let rest = compacted_shaped (suc n) table ts out.1 are.1 in
      elim (nat_eq n table) as (λ b. (b ≡ true → HasFile x p t.definition t.numbers (output_file used c t)) → IsShaped y p floor n logs (bare_table (cond b (compact_table used c t) t)) × AreShaped y p floor (suc n) logs (map bare_table (at_number (suc n) table (compact_table used c) ts))) [
        | true ↦ λ new. (compacted n t (new refl) are.0, rest)
        | false ↦ λ new. (record { files = files_kept x y p t.definition t.numbers t.files (all_agree x y same t.files) are.0.files; idle = bare_idle t; memtable = are.0.memtable; first = are.0.first }, rest)
      ] out.0

-- ---- the folder

pub compact_gained : (c : Compaction) (l : Layout) (logs : List (List Mutation)) (x y : Folder) → HasShape x (bare l) logs → HasOutput c l x → ((name : FileName) → name ≢ manifest_name l.used.manifest → get y name ≡ get x name)
    → (bytes : Bytes) → get y (manifest_name l.used.manifest) ≡ Some bytes → IsManifest l.used.manifest bytes (listing_of (after_compact c l)) → HasShape y (bare (after_compact c l)) logs
compact_gained c l logs x y has out others bytes there later =
    let segments : HasSegments x (numbered_types 1 (listing_of l).tables) l.floor logs = subst (λ (e : Listing). HasSegments x (numbered_types 1 e.tables) l.floor logs) (bare_listing l) has.segments in
    bare_shape y (after_compact c l) (listing_of (after_compact c l)) logs refl
    (sealed_kept x y l.used.manifest (λ n. others (seal_name n) (kinds_apart _ _ (omega arith))) has.sealed)
    (bytes, there, later)
    has.live
    (subst (λ (ts : Tables). HasSegments y ts l.floor logs) (sym (types_at (compact_table l.used.part c) (λ t. refl) 1 c.table 1 l.tables))
    (segments_kept x y (numbered_types 1 (listing_of l).tables) l.floor logs (λ segment above below. others (log_name segment) (kinds_apart _ _ (omega arith))) segments))
    (compacted_shaped x y l.partitioner l.floor l.used.part c logs (λ name file. others name (kinds_apart _ _ (omega (arith, file)))) 1 c.table l.tables out has.tables)

-- ---- the listing

compact_listed : (used : ℕ) (c : Compaction) (t k : TableParts) → IsOne t k → listed_of (compact_table used c k) ≡ replaced c.sources (listed_output used c t.numbers ∷ []) t.since (listed_of k)
compact_listed used c t k is =
    let same : listed_of (compact_table used c t) ≡ replaced c.sources (listed_output used c t.numbers ∷ []) t.since (listed_of t) =
    ap (λ (fs : List ListedFile). record (listed_of t) { files = fs })
    (listed_inserted (output_file used c t) (others c.sources t.files) ∙ ap (with_file (listed_output used c t.numbers)) (listed_others c.sources t.files)) in
    subst (λ (k : TableParts). listed_of (compact_table used c k) ≡ replaced c.sources (listed_output used c t.numbers ∷ []) t.since (listed_of k)) (sym is) same

-- **The last unit is one record of the manifest.**
pub compact_is_next : (c : Compaction) (l : Layout) (t : TableParts) → numbered 1 c.table l.tables ≡ Some t → IsNext (listing_of l) (compact_edits c l) (listing_of (after_compact c l))
compact_is_next c l t there =
    let edit : Edit = Replace c.table c.sources (listed_output l.used.part c t.numbers ∷ []) t.since l.floor l.last in
    let edits : compact_edits c l ≡ edit ∷ [] = ap (λ o. option_map_or (λ (t : TableParts). Replace c.table c.sources (listed_output l.used.part c t.numbers ∷ []) t.since l.floor l.last ∷ []) o []) there in
    let tables : (listing_of (after_compact c l)).tables ≡ at_number 1 c.table (replaced c.sources (listed_output l.used.part c t.numbers ∷ []) t.since) (listing_of l).tables =
    seen_of_it listed_of (compact_table l.used.part c) (IsOne t) (replaced c.sources (listed_output l.used.part c t.numbers ∷ []) t.since) (λ k is. compact_listed l.used.part c t k is) 1 c.table l.tables (one_at 1 c.table l.tables t there) in
    ap (λ (ts : List ListedDefinition). Some (record (listing_of (after_compact c l)) { tables = ts })) tables
    ∙ ap (λ (es : List Edit). with_record_counted (encoded (compact_edits c l)) (after_all (Some (listing_of l)) es)) (sym edits)

-- ---- moments

-- **At each moment of its record a crash leaves the layout before it or after it.**
pub compact_moves : (c : Compaction) (l : Layout) (logs : List (List Mutation)) (a b : View) → IsSound a → Each a (λ x. HasShape x (bare l) logs × HasOutput c l x)
    → Changes (FileChange (manifest_name l.used.manifest) (LeftWith (ListsEither l (after_compact c l)))) a b → Changes (λ x y. Between l (Compact c ∷ []) y) a b
compact_moves c l logs a b sound each change =
    listed_moves l (Compact c) logs logs (HasOutput c l) (λ x y has out others bytes there later. compact_gained c l logs x y has out others bytes there later) a b sound each change

-- each image has the shape with the file after it
pub compact_each : (c : Compaction) (l : Layout) (at : ℕ) (a b : View) (logs : List (List Mutation)) → Each a (λ x. HasShape x (bare l) logs × HasOutput c l x) → Changes (FileChange (manifest_name l.used.manifest) AnyChange) a b
    → ManifestStands b l.used.manifest at (listing_of (after_compact c l)) → Each b (λ x. HasShape x (bare (after_compact c l)) logs)
compact_each c l at a b logs each change end y now =
    let from = change.image y now in
    let lists = manifest_each b l.used.manifest at (listing_of (after_compact c l)) end in
    let has = each from.0 from.1 in
    compact_gained c l logs from.0 y has.0 has.1 from.2.others end.at_end.bytes (lists.0 y now) lists.1
