-- A flush: a new data file and a new segment of the log, and one record more in the manifest, which lists them.
use Rattle.std.specs.Prelude.{ℕ, zero, suc, true, false, cond, nat_eq, List, Option, Some, refl, length, map, drop, ◌≡◌, ◌≢◌, ◌⊎◌, ◌+◌, ◌-◌, ◌≤◌, ◌∷◌, ◌++◌, []}
use Rattle.std.proofs.Common.{◌∙◌, sym, ap, subst, inl, inr, ⊎_elim, arith, length-append, length-drop}
use Rattle.std.specs.FinMap.{get}
use Rattle.std.specs.List.{cons_option}
use Rattle.std.specs.Option.{option_map}
use Rattle.std.specs.FinMap as map_
use Rattle.sasi_types.specs.declared.column.ColumnType.{ColumnType}
use Rattle.sasi_types.specs.declared.partitioner.Partitioner.{Partitioner}
use Rattle.sasi_model.specs.Stored.{column_types}
use Rattle.sasi_cells.proofs.Laws.Maps.{then_empty}
use Rattle.sasi_cells.specs.declared.mutation.Mutation.{Mutation}
use Rattle.sasi_host.specs.Disk.{FileChange, LeftWith}
use Rattle.sasi_host.specs.Names.{Bytes, Folder, log_name, manifest_name, seal_name}
use Rattle.sasi_host.specs.declared.name.FileName.{FileName}
use Rattle.sasi_commitlog.specs.Format.{Tables}
use Rattle.sasi_manifest.proofs.Replacing.{At}
use Rattle.sasi_manifest.specs.Format.{IsManifest}
use Rattle.sasi_manifest.specs.Listings.{at_number}
use Rattle.sasi_manifest.specs.Types.{numbered_types}
use Rattle.sasi_manifest.specs.declared.listing.Listing.{Listing}
use Rattle.sasi_folder.proofs.FolderChanges.{segments_join, all_both}
use Rattle.sasi_folder.proofs.FolderLaws.{kinds_apart, sealed_kept, segments_kept}
use Rattle.sasi_folder.specs.FolderContents.{HasSegment, HasSegments, IsSealed}
use Rattle.sasi_layout.proofs.Floors.{need_floor, floor_below, floor_above, NeedFrom}
use Rattle.sasi_layout.proofs.LayoutLaws.{bare_listing}
use Rattle.sasi_layout.proofs.Replaying.{IsFrom, replay_dropped, replay_late, replay_with_none}
use Rattle.sasi_layout.specs.Frames.{SameFiles}
use Rattle.sasi_layout.proofs.ShapeLaws.{all_agree, bare_shape, files_kept, bare_idle, shaped_kept}
use Rattle.sasi_layout.specs.Flushed.{HasNew, logs_after, ListsEither}
use Rattle.sasi_layout.specs.Layout.{Layout, TableParts, bare, bare_table, listed_of, listing_of}
use Rattle.sasi_layout.specs.Moves.{after_flush, flush_table, flushed_file, next_floor}
use Rattle.sasi_layout.specs.Shape.{HasFile, replay, first_in, IsShaped, AreShaped, HasShape}

-- ---- tables

module _ (x y : Folder) (p : Partitioner) (floor next k table file part last : ℕ) (logs : List (List Mutation)) (raised : next ≡ floor + k) (ends : next + length (drop k logs) ≤ last) (same : SameFiles x y) where
  flush_shaped : (n : ℕ) (t : TableParts) → (nat_eq n table ≡ false → IsFrom next t.first) → (nat_eq n table ≡ true → HasFile x p t.definition t.numbers (flushed_file file part t)) → IsShaped x p floor n logs (bare_table t)
      → IsShaped y p next n (drop k logs ++ [] ∷ []) (bare_table (cond (nat_eq n table) (flush_table file part last t) t))
  flush_shaped n t need new is =
      elim (nat_eq n table) as (λ b. (b ≡ false → IsFrom next t.first) → (b ≡ true → HasFile x p t.definition t.numbers (flushed_file file part t)) → IsShaped y p next n (drop k logs ++ [] ∷ []) (bare_table (cond b (flush_table file part last t) t))) [
        | true ↦ λ need' new'.
            let none = replay_with_none p n last next map_.empty (drop k logs) in
            let late = replay_late p n last next map_.empty (drop k logs) ends in
            record {
              files = all_both (HasFile y p t.definition t.numbers) t.files (flushed_file file part t ∷ []) (files_kept x y p t.definition t.numbers t.files (all_agree x y same t.files) is.files)
                  (files_kept x y p t.definition t.numbers (flushed_file file part t ∷ []) (all_agree x y same (flushed_file file part t ∷ [])) (new' refl, tt));
              idle = bare_idle t;
              memtable = then_empty map_.empty ∙ sym (none.0 ∙ late.0);
              first = sym (none.1 ∙ late.1);
            }
        | false ↦ λ need' new'.
            let none = replay_with_none p n t.since next map_.empty (drop k logs) in
            let from : IsFrom (floor + k) (first_in n t.since floor logs) = subst (λ i. IsFrom i (first_in n t.since floor logs)) raised (subst (IsFrom next) is.first (need' refl)) in
            let dropped = replay_dropped p n t.since floor k map_.empty logs from in
            record {
              files = files_kept x y p t.definition t.numbers t.files (all_agree x y same t.files) is.files;
              idle = bare_idle t;
              memtable = is.memtable ∙ dropped.0 ∙ sym (ap (λ i. replay p n t.since i map_.empty (drop k logs)) raised) ∙ sym none.0;
              first = is.first ∙ dropped.1 ∙ sym (ap (λ i. first_in n t.since i (drop k logs)) raised) ∙ sym none.1;
            }
      ] need new

  flushed_shaped : (n : ℕ) (ts : List TableParts) → NeedFrom next n table ts → At n table (λ t. HasFile x p t.definition t.numbers (flushed_file file part t)) ts → AreShaped x p floor n logs (map bare_table ts) → AreShaped y p next n (drop k logs ++ [] ∷ []) (map bare_table (at_number n table (flush_table file part last) ts))
  flushed_shaped n [] need new are = tt
  flushed_shaped n (t ∷ ts) need new are = (flush_shaped n t need.0 new.0 are.0, flushed_shaped (suc n) ts need.1 new.1 are.1)

-- ---- segments

pub segments_dropped : (x : Folder) (tables : Tables) (n k : ℕ) (logs : List (List Mutation)) → HasSegments x tables n logs → HasSegments x tables (n + k) (drop k logs)
segments_dropped x tables n zero logs has = let e : n ≡ n + 0 = omega arith in subst (λ i. HasSegments x tables i logs) e has
segments_dropped x tables n (suc k) [] has = tt
segments_dropped x tables n (suc k) (ms ∷ logs) has = let e : suc n + k ≡ n + suc k = omega arith in subst (λ i. HasSegments x tables i (drop k logs)) e (segments_dropped x tables (suc n) k logs has.1)

types_flushed : (file part last n table number : ℕ) (ts : List TableParts) → numbered_types number (map listed_of (at_number n table (flush_table file part last) ts)) ≡ numbered_types number (map listed_of ts)
types_flushed file part last n table number [] = refl
types_flushed file part last n table number (t ∷ ts) =
    let after : Tables = numbered_types (suc number) (map listed_of (at_number (suc n) table (flush_table file part last) ts)) in
    let before : Tables = numbered_types (suc number) (map listed_of ts) in
    let rest : after ≡ before = types_flushed file part last (suc n) table (suc number) ts in
    let own : Option (ℕ × List ColumnType) = option_map (λ (types : List ColumnType). (number, types)) (column_types t.definition) in
    elim (nat_eq n table) as (λ b. cons_option (option_map (λ (types : List ColumnType). (number, types)) (column_types (listed_of (cond b (flush_table file part last t) t)).definition)) after ≡ cons_option own before) [
      | true ↦ ap (λ (l : Tables). cons_option own l) rest
      | false ↦ ap (λ (l : Tables). cons_option own l) rest
    ]

-- ---- the folder

module _ (x y : Folder) (l : Layout) (table : ℕ) (logs : List (List Mutation)) (has : HasShape x (bare l) logs) (others : (name : FileName) → name ≢ manifest_name l.used.manifest → get y name ≡ get x name) where
  flush_data : SameFiles x y
  flush_data name file = others name (kinds_apart _ _ (omega (arith, file)))

  flush_logs : (number : ℕ) → get y (log_name number) ≡ get x (log_name number)
  flush_logs number = others (log_name number) (kinds_apart _ _ (omega arith))

  flush_sealed : IsSealed y l.used.manifest
  flush_sealed = sealed_kept x y l.used.manifest (λ n. others (seal_name n) (kinds_apart _ _ (omega arith))) has.sealed

  flush_segments : HasSegments y (numbered_types 1 (listing_of l).tables) l.floor logs
  flush_segments =
      segments_kept x y (numbered_types 1 (listing_of l).tables) l.floor logs (λ segment above below. flush_logs segment)
      (subst (λ (e : Listing). HasSegments x (numbered_types 1 e.tables) l.floor logs) (bare_listing l) has.segments)

  -- where the manifest lists the same as before, the shape is the one from before
  pub flush_kept : (bytes : Bytes) → get y (manifest_name l.used.manifest) ≡ Some bytes → IsManifest l.used.manifest bytes (listing_of l) → HasShape y (bare l) logs
  flush_kept bytes there former =
      bare_shape y l (listing_of l) logs refl flush_sealed (bytes, there, former) has.live flush_segments (shaped_kept x y l.partitioner l.floor 1 logs (map bare_table l.tables) flush_data has.tables)

  -- where it has the record of the flush, the shape is that after it
  pub flush_gained : HasNew table l x → (bytes : Bytes) → get y (manifest_name l.used.manifest) ≡ Some bytes → IsManifest l.used.manifest bytes (listing_of (after_flush table l)) → HasShape y (bare (after_flush table l)) (logs_after table l logs)
  flush_gained new bytes there later =
      let types = numbered_types 1 (listing_of l).tables in
      let next = next_floor table l in
      let k = next - l.floor in
      let live : l.floor + length logs ≡ suc l.last = has.live in
      let above : l.floor ≤ next = floor_above x l.partitioner l.floor 1 table (suc l.last) logs l.tables has.tables (omega (arith, live)) in
      let below : next ≤ suc l.last = floor_below 1 table (suc l.last) l.tables in
      let raised : next ≡ l.floor + k = omega (arith, above) in
      let left : next + length (drop k logs) ≡ suc l.last = omega (arith, live, raised, below, length-drop k logs) in
      bare_shape y (after_flush table l) (listing_of (after_flush table l)) (logs_after table l logs) refl flush_sealed (bytes, there, later)
      (omega (arith, left, length-append (drop k logs) ([] ∷ [])))
      (subst (λ (ts : Tables). HasSegments y ts next (drop k logs ++ [] ∷ [])) (sym (types_flushed (suc l.used.«data») l.used.part (suc l.last) 1 table 1 l.tables))
      (segments_join y types next (drop k logs) [] (subst (λ i. HasSegments y types i (drop k logs)) (sym raised) (segments_dropped y types l.floor k logs flush_segments))
      (subst (λ n. HasSegment y types n []) (sym left) (new.bytes, flush_logs (suc l.last) ∙ new.segment, record { gated = new.empty; of_tables = tt }))))
      (flushed_shaped x y l.partitioner l.floor next k table (suc l.used.«data») l.used.part (suc l.last) logs raised (omega (arith, left)) flush_data 1 l.tables (need_floor 1 table (suc l.last) l.tables) new.file has.tables)

-- At each moment of the append to the manifest the folder has the shape from before, or that after the flush.
pub flush_appended : (x y : Folder) (l : Layout) (table : ℕ) (logs : List (List Mutation)) → HasShape x (bare l) logs → HasNew table l x → FileChange (manifest_name l.used.manifest) (LeftWith (ListsEither l (after_flush table l))) x y
    → HasShape y (bare l) logs ⊎ HasShape y (bare (after_flush table l)) (logs_after table l logs)
flush_appended x y l table logs has new step =
    ⊎_elim
    (λ former. inl (flush_kept x y l table logs has step.others step.this.0 step.this.1 former))
    (λ later. inr (flush_gained x y l table logs has step.others new step.this.0 step.this.1 later))
    step.this.2
