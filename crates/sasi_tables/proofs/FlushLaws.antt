-- A flush over a layout, call by call.
use Rattle.std.specs.Prelude.{◌≡◌, ◌^◌, ◌≤◌, ℕ, suc, List, [], ◌∷◌, length, Some}
use Rattle.std.proofs.Common.{sym, ap, subst, ◌∙◌, arith}
use Rattle.std.specs.FinMap as map_
use Rattle.sasi_types.specs.declared.index_def.IndexDef.{IndexDef}
use Rattle.sasi_types.specs.declared.partitioner.Partitioner.{Partitioner}
use Rattle.sasi_host.specs.Names.{Bytes, data_name, log_name, manifest_name}
use Rattle.sasi_host.specs.View.{IsSound, View}
use Rattle.sasi_host.specs.Disk.{AnyChange, Changes, FileChange, IsFileDurable, LeftWith, Each}
use Rattle.sasi_host.proofs.Durability.{file_durable_contents}
use Rattle.sasi_model.specs.Abbreviations.{Partitions}
use Rattle.sasi_cells.specs.Maps.{merged}
use Rattle.sasi_cells.specs.declared.mutation.Mutation.{Mutation}
use Rattle.sasi_commitlog.specs.LogPosition.{IsAtLogEnd}
use Rattle.sasi_datawrite.specs.Format.{data_bytes}
use Rattle.sasi_gated.specs.Handles.{Handle}
use Rattle.sasi_manifest.proofs.Replacing.{At}
use Rattle.sasi_manifest.specs.declared.edit.Edit.{Edit}
use Rattle.sasi_manifest.specs.declared.edit.Edit.TheVariants.{Replace}
use Rattle.sasi_manifest.specs.declared.files.PartNumber.{PartNumber}
use Rattle.sasi_manifest.specs.declared.listing.Listing.{Listing}
use Rattle.sasi_manifest.specs.Format.{IsNext}
use Rattle.sasi_manifest.specs.OpenManifest.{IsEither, ManifestState, ManifestStands}
use Rattle.sasi_memtable.specs.MemtableView.{MemtableView}
use Rattle.sasi_folder.proofs.FolderLaws.{kinds_apart}
use Rattle.sasi_layout.specs.Layout.{Layout, TableParts, listing_of, unflushed}
use Rattle.sasi_layout.specs.Moves.{Flush, after_flush, flush_edits, new_listed_file}
use Rattle.sasi_layout.specs.Between.{Between, Makes}
use Rattle.sasi_layout.specs.Flushed.{HasNew, IsWritten, ListsEither, contents_of, logs_after}
use Rattle.sasi_layout.proofs.ListingLaws.{flush_is_next}
use Rattle.sasi_layout.proofs.Making.{makes_early, makes_flush, makes_listing, makes_none, makes_still}
use Rattle.sasi_layout.proofs.NewFiles.{HasIndexes, flushed_each}
use Rattle.sasi_layout.proofs.Trails.{new_each}
use Rattle.sasi_tables.specs.declared.flush.FlushNumbers.{FlushNumbers}
use Rattle.sasi_tables.specs.Flushing.{AreWritten, DeletesSegments, IsFlushOf, IsFlushed, MakesFiles, edit_of}
use Rattle.sasi_tables.proofs.FlushedIndexes.{each_indexed}
use Rattle.sasi_tables.proofs.FlushFrames.{agree_dropped, agree_made, end_kept, log_undeleted, manifest_undeleted, manifest_unmade, stands_kept}

at_as : {A : Type 0} (P Q : A → Type 0) → ((x : A) → P x → Q x) → (n number : ℕ) (xs : List A) → At n number P xs → At n number Q xs
at_as P Q wider n number [] at = tt
at_as P Q wider n number (x ∷ xs) at = (λ own. wider x (at.0 own), at_as P Q wider (suc n) number xs at.1)

module _ (l : Layout) (logs : List (List Mutation)) (a : View) (manifest : ManifestState) (memtable : MemtableView) (n : FlushNumbers) (defs : List IndexDef) (parts : List PartNumber) (is : IsFlushOf a manifest memtable n defs parts l logs) (sound_a : IsSound a) where
  begun : Makes l [] logs a a
  begun = makes_none l logs a sound_a is.shape

  -- before any call
  pub flush_none : Changes (λ x y. Between l (Flush n.table ∷ []) y) a a
  flush_none = makes_early l [] (Flush n.table ∷ []) logs a a begun

  files_made : (b : View) → Changes (MakesFiles n parts) a b → Makes l [] logs a b
  files_made b made = makes_still l [] logs (MakesFiles n parts) a a b sound_a begun made (λ x y step. agree_made n parts x y step l is.in_order is.file is.last)

  -- while the new files are made
  pub flush_made : (b : View) → Changes (MakesFiles n parts) a b → Changes (λ x y. Between l (Flush n.table ∷ []) y) a b
  flush_made b made = makes_early l [] (Flush n.table ∷ []) logs a b (files_made b made)

  edits_are : edit_of n parts ∷ [] ≡ flush_edits n.table l
  edits_are = let file = is.file in let last = is.last in let floor = is.floor in let own = is.parts_are in λ i. Replace n.table [] (new_listed_file (file i) (own i) ∷ []) (last i) (floor i) (last i) ∷ []

  -- what the manifest lists afterwards
  next_is : IsNext manifest.listing (edit_of n parts ∷ []) (listing_of (after_flush n.table l))
  next_is =
      let next = listing_of (after_flush n.table l) in
      subst (λ (e : Listing). IsNext e (edit_of n parts ∷ []) next) (sym is.listing) (subst (λ (es : List Edit). IsNext (listing_of l) es next) (sym edits_are) (flush_is_next n.table l is.in_order))

  listing_after : (next : Listing) → IsNext manifest.listing (edit_of n parts ∷ []) next → next ≡ listing_of (after_flush n.table l)
  listing_after next made = let e : Some next ≡ Some (listing_of (after_flush n.table l)) = made ∙ sym next_is in cc

  module _ (b c : View) (sound_b : IsSound b) (made : Changes (MakesFiles n parts) a b) (partitioner : Partitioner) (partitioner_is : partitioner ≡ manifest.listing.partitioner) (files : AreWritten b n.file partitioner defs parts (contents_of memtable.partitions)) (some : 1 ≤ length (map_.entries memtable.partitions)) (at : ℕ) (end : IsAtLogEnd b (log_name n.last) at [])
      (moments : (next : Listing) → IsNext manifest.listing (edit_of n parts ∷ []) next → ManifestStands b manifest.number manifest.at manifest.listing
      → Changes (FileChange (manifest_name manifest.number) (LeftWith (IsEither manifest.number manifest.listing next))) b c) where
    bytes : Bytes
    bytes = data_bytes l.partitioner (contents_of memtable.partitions)

    files_there : AreWritten b (suc l.used.«data») l.partitioner defs parts (contents_of memtable.partitions)
    files_there =
        subst (λ number. AreWritten b number l.partitioner defs parts (contents_of memtable.partitions)) is.file
        (subst (λ (e : Listing). AreWritten b n.file e.partitioner defs parts (contents_of memtable.partitions)) is.listing
        (subst (λ p. AreWritten b n.file p defs parts (contents_of memtable.partitions)) partitioner_is files))

    file_there : IsFileDurable b (data_name (suc l.used.«data»)) bytes
    unfolding bytes
    file_there = files_there.«data»

    written : At 1 n.table (IsWritten l.partitioner bytes) l.tables
    unfolding bytes
    written = at_as (λ (t : TableParts). merged (unflushed t) ≡ memtable.partitions) (IsWritten l.partitioner bytes)
        (λ t same. record {
          some = subst (λ (m : Partitions). 1 ≤ length (map_.entries m)) (sym same) some;
          bytes_are = ap (λ (m : Partitions). data_bytes l.partitioner (contents_of m)) (sym same);
        }) 1 n.table l.tables is.holds

    indexed : Each b (λ x. At 1 n.table (HasIndexes x l.partitioner (suc l.used.«data») l.used.part) l.tables)
    indexed = each_indexed b sound_b n.table l defs parts memtable.partitions is.parts_are is.holds is.indexes files_there

    new_files : Each b (HasNew n.table l)
    new_files x now =
        let fits : length bytes ≤ 2 ^ 62 = sound_b.fits (data_name (suc l.used.«data»)) bytes (file_durable_contents b (data_name (suc l.used.«data»)) bytes sound_b (sound_b.told x now) file_there) in
        new_each l n.table at b (flushed_each l n.table bytes b is.storable written file_there fits indexed) (subst (λ number. IsAtLogEnd b (log_name number) at []) is.last end) x now

    stands_made : ManifestStands b manifest.number manifest.at manifest.listing
    stands_made = stands_kept a b (MakesFiles n parts) manifest.number manifest.at manifest.listing (λ x y step. manifest_unmade n parts x y step manifest.number) made is.stands

    either : Changes (FileChange (manifest_name l.used.manifest) (LeftWith (ListsEither l (after_flush n.table l)))) b c
    either =
        let next = listing_of (after_flush n.table l) in
        subst (λ k. Changes (FileChange (manifest_name k) (LeftWith (IsEither k (listing_of l) next))) b c) is.number
        (subst (λ (e : Listing). Changes (FileChange (manifest_name manifest.number) (LeftWith (IsEither manifest.number e next))) b c) is.listing (moments next next_is stands_made))

    -- while the manifest gets its record
    pub flush_listed : Changes (λ x y. Between l (Flush n.table ∷ []) y) a c
    flush_listed = makes_listing l n.table logs a b c sound_b (files_made b made) new_files either

    module _ (d : View) (sound_c : IsSound c) (first : ℕ) (new : ManifestState) (next : IsNext manifest.listing (edit_of n parts ∷ []) new.listing)
        (stands : ManifestStands b manifest.number manifest.at manifest.listing → ManifestStands c manifest.number new.at new.listing) (deleted : Changes (DeletesSegments first n.floor) c d) where
      stands_after : ManifestStands c l.used.manifest new.at (listing_of (after_flush n.table l))
      stands_after = subst (λ k. ManifestStands c k new.at (listing_of (after_flush n.table l))) is.number (subst (λ (e : Listing). ManifestStands c manifest.number new.at e) (listing_after new.listing next) (stands stands_made))

      made_all : Makes l (Flush n.table ∷ []) (logs_after n.table l logs) a d
      made_all = makes_still l (Flush n.table ∷ []) (logs_after n.table l logs) (DeletesSegments first n.floor) a c d sound_c
          (makes_flush l n.table new.at logs a b c sound_b (files_made b made) new_files either stands_after) deleted
          (λ x y step. agree_dropped (after_flush n.table l) first n.floor x y is.floor step)

      -- while segments are deleted
      pub flush_deleted : Changes (λ x y. Between l (Flush n.table ∷ []) y) a d
      flush_deleted = made_all.between

      pub flush_done : (log : Handle) → log.at ≡ at → n.floor ≤ n.last → new.number ≡ manifest.number → Changes (FileChange (manifest_name manifest.number) AnyChange) b c → IsFlushed d new log n l logs
      flush_done log at_is within number listed = record {
        shape = made_all.shape;
        listing = listing_after new.listing next;
        stands = subst (λ k. ManifestStands d k new.at new.listing) (sym number)
            (stands_kept c d (DeletesSegments first n.floor) manifest.number new.at new.listing (λ x y step. manifest_undeleted first n.floor manifest.number x y step) deleted (stands stands_made));
        log_end = subst (λ k. IsAtLogEnd d (log_name n.last) k []) (sym at_is)
            (end_kept c d (DeletesSegments first n.floor) (log_name n.last) at [] (λ x y step. log_undeleted first n.floor n.last within x y step) deleted
            (end_kept b c (FileChange (manifest_name manifest.number) AnyChange) (log_name n.last) at [] (λ x y step. step.others (log_name n.last) (kinds_apart _ _ (omega arith))) listed end));
      }
