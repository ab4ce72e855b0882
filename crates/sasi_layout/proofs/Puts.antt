-- A put: one record more at the end of the log.
use Rattle.std.specs.Prelude.{ℕ, suc, true, false, cond, nat_eq, nat_le, List, Some, refl, length, map, ◌≡◌, ◌≢◌, ◌⊎◌, ◌+◌, ◌≤◌, ◌∷◌, ◌++◌, []}
use Rattle.std.proofs.Common.{◌∙◌, sym, ap, subst, inl, inr, ⊎_elim, arith, length-append}
use Rattle.std.proofs.lemmas.Bool.Decides.{nat_tests}
use Rattle.std.proofs.lemmas.List.{map-append}
use Rattle.std.specs.FinMap.{get}
use Rattle.std.specs.List.{AllByRecursion}
use Rattle.std.specs.FinMap as map_
use Rattle.sasi_types.specs.declared.partitioner.Partitioner.{Partitioner}
use Rattle.sasi_model.specs.Abbreviations.{Partitions}
use Rattle.sasi_model.specs.State.{decorated}
use Rattle.sasi_cells.proofs.Laws.Maps.{put_merged}
use Rattle.sasi_cells.specs.Maps.{put}
use Rattle.sasi_cells.specs.declared.mutation.Mutation.{Mutation}
use Rattle.sasi_host.specs.Disk.{FileChange, LeftWith}
use Rattle.sasi_host.specs.Names.{Bytes, Folder, log_name, manifest_name, seal_name}
use Rattle.sasi_host.specs.declared.name.FileName.{FileName}
use Rattle.sasi_gated.specs.Format.{IsGated}
use Rattle.sasi_commitlog.specs.Format.{IsMutationOf, Tables, payload_of}
use Rattle.sasi_commitlog.specs.LogPosition.{IsLogBeforeOrAfter}
use Rattle.sasi_manifest.specs.Format.{IsManifest}
use Rattle.sasi_manifest.specs.Listings.{at_number}
use Rattle.sasi_manifest.specs.Types.{numbered_types}
use Rattle.sasi_manifest.specs.declared.listing.Listing.{Listing}
use Rattle.sasi_folder.proofs.FolderChanges.{segments_join, all_both, segments_apart}
use Rattle.sasi_folder.proofs.FolderLaws.{kinds_apart, numbers_apart, sealed_kept, segments_kept}
use Rattle.sasi_folder.specs.FolderContents.{HasSegment, HasSegments, IsSealed}
use Rattle.sasi_layout.proofs.LayoutLaws.{bare_listing}
use Rattle.sasi_layout.proofs.ListingLaws.{put_listing}
use Rattle.sasi_layout.proofs.Replaying.{first_other, first_own, replay_other, replay_own}
use Rattle.sasi_layout.specs.Frames.{SameFiles}
use Rattle.sasi_layout.proofs.ShapeLaws.{all_agree, bare_shape, files_kept, bare_idle, shaped_kept}
use Rattle.sasi_layout.specs.Layout.{Layout, TableParts, bare, bare_table, listing_of}
use Rattle.sasi_layout.specs.Moves.{after_put, put_table, or_else}
use Rattle.sasi_layout.specs.Shape.{IsShaped, AreShaped, HasShape}

-- ---- tables

module _ (x y : Folder) (p : Partitioner) (floor last : ℕ) (older : List (List Mutation)) (current : List Mutation) (m : Mutation) (end : floor + length older ≡ last) (same : SameFiles x y) where
  put_shaped : (n : ℕ) (t : TableParts) → t.since ≤ last → IsShaped x p floor n (older ++ current ∷ []) (bare_table t) → IsShaped y p floor n (older ++ (current ++ m ∷ []) ∷ []) (bare_table (cond (nat_eq n m.table) (put_table p last m t) t))
  put_shaped n t since is =
      elim (nat_eq n m.table) as (λ b. nat_eq n m.table ≡ b → IsShaped y p floor n (older ++ (current ++ m ∷ []) ∷ []) (bare_table (cond b (put_table p last m t) t))) [
        | true ↦ λ own.
            let taken : nat_le t.since last ≡ true = grind (arith, nat_tests) in
            let mine : nat_eq m.table n ≡ true = grind (arith, nat_tests) in
            record {
              files = files_kept x y p t.definition t.numbers t.files (all_agree x y same t.files) is.files;
              idle = bare_idle t;
              memtable =
                  put_merged map_.empty t.frozen t.memtable (decorated p m.key) m.change
                  ∙ ap (λ (k : Partitions). put k (decorated p m.key) m.change) is.memtable
                  ∙ sym (replay_own p n t.since floor older current m last end map_.empty taken mine);
              first = ap (λ o. or_else o (Some last)) is.first ∙ sym (first_own p n t.since floor older current m last end taken mine);
            }
        | false ↦ λ other.
            let others : nat_eq m.table n ≡ false = grind (arith, nat_tests) in
            record {
              files = files_kept x y p t.definition t.numbers t.files (all_agree x y same t.files) is.files;
              idle = bare_idle t;
              memtable = is.memtable ∙ sym (replay_other p n t.since floor older current m last end map_.empty others);
              first = is.first ∙ sym (first_other p n t.since floor older current m last end others);
            }
      ] refl

  puts_shaped : (n : ℕ) (ts : List TableParts) → AllByRecursion (λ (t : TableParts). t.since ≤ last) ts → AreShaped x p floor n (older ++ current ∷ []) (map bare_table ts)
      → AreShaped y p floor n (older ++ (current ++ m ∷ []) ∷ []) (map bare_table (at_number n m.table (put_table p last m) ts))
  puts_shaped n [] since are = tt
  puts_shaped n (t ∷ ts) since are = (put_shaped n t since.0 are.0, puts_shaped (suc n) ts since.1 are.1)

-- ---- segments

-- an append to the last segment leaves the segments, or those with one more mutation
appended : (x y : Folder) (tables : Tables) (floor last : ℕ) (older : List (List Mutation)) (current : List Mutation) (m : Mutation) → floor + length older ≡ last → HasSegments x tables floor (older ++ current ∷ []) → IsMutationOf tables m
    → FileChange (log_name last) (LeftWith (IsLogBeforeOrAfter (log_name last) current m)) x y → HasSegments y tables floor (older ++ current ∷ []) ⊎ HasSegments y tables floor (older ++ (current ++ m ∷ []) ∷ [])
appended x y tables floor last older current m end has fits step =
    let parts = segments_apart x tables floor older current has in
    let kept = segments_kept x y tables floor older (λ segment above below. step.others (log_name segment) (numbers_apart _ _ (omega (arith, below, end)))) parts.0 in
    let bytes = step.this.0 in
    ⊎_elim
    (λ as_before. inl (segments_join y tables floor older current kept (subst (λ n. HasSegment y tables n current) (sym end) (bytes, step.this.1, record { gated = as_before; of_tables = parts.1.2.of_tables }))))
    (λ with_one. inr (segments_join y tables floor older (current ++ m ∷ []) kept (subst (λ n. HasSegment y tables n (current ++ m ∷ [])) (sym end) (
      bytes,
      step.this.1,
      record {
        gated = subst (λ (l : List Bytes). IsGated (log_name last) bytes l) (sym (map-append payload_of current (m ∷ []))) with_one;
        of_tables = all_both (IsMutationOf tables) current (m ∷ []) parts.1.2.of_tables (fits, tt);
      },
    ))))
    step.this.2

-- the same where the segment is known to have it
pub gained : (x y : Folder) (tables : Tables) (floor last : ℕ) (older : List (List Mutation)) (current : List Mutation) (m : Mutation) → floor + length older ≡ last → HasSegments x tables floor (older ++ current ∷ []) → IsMutationOf tables m → ((name : FileName) → name ≢ log_name last → get y name ≡ get x name)
    → (bytes : Bytes) → get y (log_name last) ≡ Some bytes → IsGated (log_name last) bytes (map payload_of (current ++ m ∷ [])) → HasSegments y tables floor (older ++ (current ++ m ∷ []) ∷ [])
gained x y tables floor last older current m end has fits others bytes there gated =
    let parts = segments_apart x tables floor older current has in
    let kept = segments_kept x y tables floor older (λ segment above below. others (log_name segment) (numbers_apart _ _ (omega (arith, below, end)))) parts.0 in
    segments_join y tables floor older (current ++ m ∷ []) kept (subst (λ n. HasSegment y tables n (current ++ m ∷ [])) (sym end) (bytes, there, record { gated = gated; of_tables = all_both (IsMutationOf tables) current (m ∷ []) parts.1.2.of_tables (fits, tt) }))

-- ---- the folder

module _ (x y : Folder) (l : Layout) (older : List (List Mutation)) (current : List Mutation) (m : Mutation) (has : HasShape x (bare l) (older ++ current ∷ [])) (others : (name : FileName) → name ≢ log_name l.last → get y name ≡ get x name) where
  pub last_is : l.floor + length older ≡ l.last
  last_is = omega (arith, has.live, length-append older (current ∷ []))

  same_size : length (older ++ (current ++ m ∷ []) ∷ []) ≡ length (older ++ current ∷ [])
  same_size = omega (arith, length-append older (current ∷ []), length-append older ((current ++ m ∷ []) ∷ []))

  put_data : SameFiles x y
  put_data name file = others name (kinds_apart _ _ (omega (arith, file)))

  put_sealed : IsSealed y l.used.manifest
  put_sealed = sealed_kept x y l.used.manifest (λ n. others (seal_name n) (kinds_apart _ _ (omega arith))) has.sealed

  put_manifest : (bytes : Bytes) × (get y (manifest_name l.used.manifest) ≡ Some bytes) × IsManifest l.used.manifest bytes (listing_of l)
  put_manifest = (has.manifest.0, others (manifest_name l.used.manifest) (kinds_apart _ _ (omega arith)) ∙ has.manifest.1, subst (IsManifest l.used.manifest has.manifest.0) (bare_listing l) has.manifest.2)

  pub put_segments : HasSegments x (numbered_types 1 (listing_of l).tables) l.floor (older ++ current ∷ [])
  put_segments = subst (λ (e : Listing). HasSegments x (numbered_types 1 e.tables) l.floor (older ++ current ∷ [])) (bare_listing l) has.segments

  -- where the segment has what it had, the shape is the one from before
  pub put_kept : HasSegments y (numbered_types 1 (listing_of l).tables) l.floor (older ++ current ∷ []) → HasShape y (bare l) (older ++ current ∷ [])
  put_kept kept = bare_shape y l (listing_of l) (older ++ current ∷ []) refl put_sealed put_manifest has.live kept (shaped_kept x y l.partitioner l.floor 1 (older ++ current ∷ []) (map bare_table l.tables) put_data has.tables)

  -- where it has the mutation too, the shape is that after it
  pub put_gained : AllByRecursion (λ (t : TableParts). t.since ≤ l.last) l.tables → HasSegments y (numbered_types 1 (listing_of l).tables) l.floor (older ++ (current ++ m ∷ []) ∷ []) → HasShape y (bare (after_put m l)) (older ++ (current ++ m ∷ []) ∷ [])
  put_gained since more =
      bare_shape y (after_put m l) (listing_of l) (older ++ (current ++ m ∷ []) ∷ []) (put_listing m l) put_sealed put_manifest (omega (arith, has.live, same_size)) more (puts_shaped x y l.partitioner l.floor l.last older current m last_is put_data 1 l.tables since has.tables)

-- At each moment of an append to the log the folder has the shape from before, or that after the put.
pub put_appended : (x y : Folder) (l : Layout) (older : List (List Mutation)) (current : List Mutation) (m : Mutation) → HasShape x (bare l) (older ++ current ∷ []) → AllByRecursion (λ (t : TableParts). t.since ≤ l.last) l.tables → IsMutationOf (numbered_types 1 (listing_of l).tables) m
    → FileChange (log_name l.last) (LeftWith (IsLogBeforeOrAfter (log_name l.last) current m)) x y → HasShape y (bare l) (older ++ current ∷ []) ⊎ HasShape y (bare (after_put m l)) (older ++ (current ++ m ∷ []) ∷ [])
put_appended x y l older current m has since fits step =
    ⊎_elim
    (λ kept. inl (put_kept x y l older current m has step.others kept))
    (λ more. inr (put_gained x y l older current m has step.others since more))
    (appended x y (numbered_types 1 (listing_of l).tables) l.floor l.last older current m (last_is x y l older current m has step.others) (put_segments x y l older current m has step.others) fits step)
