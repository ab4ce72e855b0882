-- A new table: one record more in the manifest.
use Rattle.std.specs.Prelude.{ℕ, suc, Bool, true, false, cond, nat_eq, nat_le, List, None, Some, refl, length, map, ◌≡◌, ◌≢◌, ◌⊎◌, ◌&&◌, ◌||◌, ◌+◌, ◌∷◌, ◌++◌, []}
use Rattle.std.proofs.Common.{◌∙◌, sym, ap, subst, inl, inr, ⊎_elim, arith}
use Rattle.std.proofs.lemmas.Bool.Decides.{nat_tests}
use Rattle.std.proofs.lemmas.List.{map-append, length-map}
use Rattle.std.specs.FinMap.{get}
use Rattle.std.specs.List.{AllByRecursion}
use Rattle.std.specs.FinMap as map_
use Rattle.sasi_types.specs.declared.partitioner.Partitioner.{Partitioner}
use Rattle.sasi_model.specs.Abbreviations.{Partitions}
use Rattle.sasi_model.specs.State.{Definition}
use Rattle.sasi_cells.proofs.Laws.Maps.{then_empty}
use Rattle.sasi_cells.specs.declared.mutation.Mutation.{Mutation}
use Rattle.sasi_host.specs.Disk.{FileChange, LeftWith}
use Rattle.sasi_host.specs.Names.{Bytes, Folder, log_name, manifest_name, seal_name}
use Rattle.sasi_host.specs.declared.name.FileName.{FileName}
use Rattle.sasi_commitlog.specs.Format.{IsMutationOf, Tables}
use Rattle.sasi_manifest.specs.Format.{IsManifest}
use Rattle.sasi_manifest.specs.ListedDefinition.{ListedDefinition}
use Rattle.sasi_manifest.specs.Types.{numbered_types}
use Rattle.sasi_manifest.specs.declared.listing.Listing.{Listing}
use Rattle.sasi_folder.proofs.FolderChanges.{mutation_listed, segments_of_more, types_push}
use Rattle.sasi_folder.proofs.FolderLaws.{kinds_apart, sealed_kept, segments_kept}
use Rattle.sasi_folder.specs.FolderContents.{HasSegments}
use Rattle.sasi_layout.proofs.Flushes.{flush_kept}
use Rattle.sasi_layout.proofs.LayoutLaws.{bare_listing}
use Rattle.sasi_layout.proofs.Replaying.{no_mutation}
use Rattle.sasi_layout.specs.Frames.{SameFiles}
use Rattle.sasi_layout.proofs.ShapeLaws.{all_agree, bare_shape, files_kept, bare_idle}
use Rattle.sasi_layout.specs.Flushed.{ListsEither}
use Rattle.sasi_layout.specs.Layout.{Layout, TableParts, bare, bare_table, listed_of, listing_of}
use Rattle.sasi_layout.specs.Moves.{after_create, new_parts}
use Rattle.sasi_layout.specs.Shape.{replay, replay_segment, has_mutation, first_in, AreShaped, HasShape}

-- ---- the log has nothing of it

none_of_it : (listing : Listing) (table : ℕ) (ms : List Mutation) → table ≡ 1 + length listing.tables → AllByRecursion (IsMutationOf (numbered_types 1 listing.tables)) ms → has_mutation table ms ≡ false
none_of_it listing table [] is all = refl
none_of_it listing table (m ∷ ms) is all =
    let below = (mutation_listed listing m all.0).inside in
    let other : nat_eq m.table table ≡ false = grind (arith, nat_tests, is, below) in
    ap (λ b. b || has_mutation table ms) other ∙ none_of_it listing table ms is all.1

nothing_replayed : (x : Folder) (p : Partitioner) (listing : Listing) (table since n : ℕ) (m : Partitions) (logs : List (List Mutation)) → table ≡ 1 + length listing.tables → HasSegments x (numbered_types 1 listing.tables) n logs → (replay p table since n m logs ≡ m) × (first_in table since n logs ≡ None)
nothing_replayed x p listing table since n m [] is has = (refl, refl)
nothing_replayed x p listing table since n m (ms ∷ logs) is has =
    let none = none_of_it listing table ms is has.0.2.of_tables in
    let rest = nothing_replayed x p listing table since (suc n) m logs is has.1 in (
      ap (λ (k : Partitions). replay p table since (suc n) k logs) (same (nat_le since n) (no_mutation p table m ms none)) ∙ rest.0,
      first (nat_le since n) none ∙ rest.1,
    )
  where
    same : (b : Bool) → replay_segment p table m ms ≡ m → cond b (replay_segment p table m ms) m ≡ m
    same true is = is
    same false is = refl

    first : (b : Bool) → has_mutation table ms ≡ false → cond (b && has_mutation table ms) (Some n) (first_in table since (suc n) logs) ≡ first_in table since (suc n) logs
    first true none = ap (λ t. cond t (Some n) (first_in table since (suc n) logs)) none
    first false none = refl

-- ---- the folder

module _ (x y : Folder) (p : Partitioner) (floor last : ℕ) (d : Definition) (logs : List (List Mutation)) (same : SameFiles x y) where
  created_shaped : (n : ℕ) (ts : List TableParts) → (replay p (n + length ts) last floor map_.empty logs ≡ map_.empty) → (first_in (n + length ts) last floor logs ≡ None) → AreShaped x p floor n logs (map bare_table ts) → AreShaped y p floor n logs (map bare_table (ts ++ new_parts d last ∷ []))
  created_shaped n [] none first are =
      let e : n + 0 ≡ n = omega arith in (
        record {
          files = tt;
          idle = bare_idle (new_parts d last);
          memtable = then_empty map_.empty ∙ sym (subst (λ i. replay p i last floor map_.empty logs ≡ map_.empty) e none);
          first = sym (subst (λ i. first_in i last floor logs ≡ None) e first);
        },
        tt,
      )
  created_shaped n (t ∷ ts) none first are =
      let e : n + length (t ∷ ts) ≡ suc n + length ts = omega arith in (
        record { files = files_kept x y p t.definition t.numbers t.files (all_agree x y same t.files) are.0.files; idle = bare_idle t; memtable = are.0.memtable; first = are.0.first },
        created_shaped (suc n) ts (subst (λ i. replay p i last floor map_.empty logs ≡ map_.empty) e none) (subst (λ i. first_in i last floor logs ≡ None) e first) are.1,
      )

module _ (x y : Folder) (l : Layout) (d : Definition) (logs : List (List Mutation)) (has : HasShape x (bare l) logs) (others : (name : FileName) → name ≢ manifest_name l.used.manifest → get y name ≡ get x name) where
  create_segments : HasSegments x (numbered_types 1 (listing_of l).tables) l.floor logs
  create_segments = subst (λ (e : Listing). HasSegments x (numbered_types 1 e.tables) l.floor logs) (bare_listing l) has.segments

  -- Where the manifest has the record of the table, the shape is that with it.
  pub create_gained : (bytes : Bytes) → get y (manifest_name l.used.manifest) ≡ Some bytes → IsManifest l.used.manifest bytes (listing_of (after_create d l)) → HasShape y (bare (after_create d l)) logs
  create_gained bytes there later =
      let listed = (listing_of l).tables in
      let count : length listed ≡ length l.tables = length-map l.tables listed_of in
      let none = nothing_replayed x l.partitioner (listing_of l) (1 + length l.tables) l.last l.floor map_.empty logs (omega (arith, count)) create_segments in
      let kept : HasSegments y (numbered_types 1 listed) l.floor logs = segments_kept x y (numbered_types 1 listed) l.floor logs (λ segment above below. others (log_name segment) (kinds_apart _ _ (omega arith))) create_segments in
      let more : listed ++ listed_of (new_parts d l.last) ∷ [] ≡ (listing_of (after_create d l)).tables = sym (map-append listed_of l.tables (new_parts d l.last ∷ [])) in
      bare_shape y (after_create d l) (listing_of (after_create d l)) logs refl
      (sealed_kept x y l.used.manifest (λ n. others (seal_name n) (kinds_apart _ _ (omega arith))) has.sealed)
      (bytes, there, later)
      has.live
      (subst (λ (ts : List ListedDefinition). HasSegments y (numbered_types 1 ts) l.floor logs) more (subst (λ (ts : Tables). HasSegments y ts l.floor logs) (sym (types_push 1 listed (listed_of (new_parts d l.last)))) (segments_of_more y (numbered_types 1 listed) _ l.floor logs kept)))
      (created_shaped x y l.partitioner l.floor l.last d logs (λ name file. others name (kinds_apart _ _ (omega (arith, file)))) 1 l.tables none.0 none.1 has.tables)

  -- where the manifest lists the same as before, the shape is the one from before
  pub create_kept : (bytes : Bytes) → get y (manifest_name l.used.manifest) ≡ Some bytes → IsManifest l.used.manifest bytes (listing_of l) → HasShape y (bare l) logs
  create_kept bytes there former = flush_kept x y l 0 logs has others bytes there former

-- At each moment of the append to the manifest the folder has the shape from before, or that with the table.
pub create_appended : (x y : Folder) (l : Layout) (d : Definition) (logs : List (List Mutation)) → HasShape x (bare l) logs → FileChange (manifest_name l.used.manifest) (LeftWith (ListsEither l (after_create d l))) x y
    → HasShape y (bare l) logs ⊎ HasShape y (bare (after_create d l)) logs
create_appended x y l d logs has step =
    ⊎_elim
    (λ former. inl (create_kept x y l d logs has step.others step.this.0 step.this.1 former))
    (λ later. inr (create_gained x y l d logs has step.others step.this.0 step.this.1 later))
    step.this.2
