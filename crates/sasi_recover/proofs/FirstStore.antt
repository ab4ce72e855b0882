-- The making of a folder's first store.
use Rattle.std.proofs.Common.{◌≡◌, ◌≢◌, ℕ, ◌+◌, ◌≤◌, ◌<◌, ◌^◌, IsTrue, Bool, [], ◌∷◌, length, Option, Some, None, Ok, Err, IfOk, IsSome, is_some, refl, sym, ◌∙◌, ap, subst, inl, inr, ⊎_elim, arith}
use Rattle.std.specs.FinMap.{get}
use Rattle.std.specs.declared.result.Result.{Result}
use Rattle.sasi_types.specs.declared.partitioner.Partitioner.{Partitioner}
use Rattle.sasi_model.specs.State.{max_timestamp}
use Rattle.sasi_host.specs.declared.fault.HostFault.{HostFault}
use Rattle.sasi_host.specs.declared.name.FileName.{FileName}
use Rattle.sasi_host.proofs.NameCases.{name_cases}
use Rattle.sasi_host.specs.Names.{Bytes, Folder, log_name, manifest_name, seal_name}
use Rattle.sasi_host.specs.View.{View, IsSound, IsTold, Reaches}
use Rattle.sasi_host.specs.Disk.{AnyChange, Changes, IsFileDurable, Relation, Same, FileChange, Each}
use Rattle.sasi_host.proofs.ContentLaws.{contents_kept, reaches_where}
use Rattle.sasi_host.proofs.ChangeLaws.{at_each_moment, changes_as, changes_on, each_on, stays, then_each_moment}
use Rattle.sasi_gated.specs.Format.{IsGated}
use Rattle.sasi_gated.proofs.Laws.{gated_end}
use Rattle.sasi_gated.proofs.HandleLaws.{end_stays}
use Rattle.sasi_commitlog.specs.LogPosition.{IsAtLogEnd}
use Rattle.sasi_manifest.specs.declared.listing.Listing.{Listing}
use Rattle.sasi_manifest.specs.Consistent.{IsConsistent}
use Rattle.sasi_manifest.proofs.Applying.{start_applies}
use Rattle.sasi_manifest.proofs.Consistency.{record_consistent}
use Rattle.sasi_manifest.proofs.EditBytes.{start_length}
use Rattle.sasi_manifest.specs.Edits.{AllApply, encoded}
use Rattle.sasi_manifest.specs.Format.{IsManifest, IsRewritten}
use Rattle.sasi_manifest.specs.Listings.{rewrite_edits}
use Rattle.sasi_manifest.specs.OpenManifest.{Creates, IsUnsealed, ChangesOnlyManifest}
use Rattle.sasi_manifest.specs.OpenManifest as manifests
use Rattle.sasi_folder.proofs.FolderLaws.{kinds_apart}
use Rattle.sasi_folder.specs.FolderContents.{FolderHolds, IsFresh}
use Rattle.sasi_layout.specs.Layout.{state_of}
use Rattle.sasi_layout.proofs.KeptLaws.{none_aside}
use Rattle.sasi_layout.specs.Kept.{HasKept, nothing}
use Rattle.sasi_layout.specs.Serving.{CanChange, HasExactlyBeside, Serves}
use Rattle.sasi_layout.specs.Shape.{HasShape, new_layout}
use Rattle.sasi_recover.specs.declared.opened.Numbers.{Numbers}
use Rattle.sasi_recover.specs.declared.opened.Opened.{Opened}
use Rattle.sasi_recover.specs.Deletion.{Deletes}
use Rattle.sasi_recover.specs.NewFolder.{IsFreshOrNew}
use Rattle.sasi_recover.specs.OpenedFolder.{AnyFolderChange, opened_store}
use Rattle.sasi_recover.proofs.DeletedFiles.{deletes_fresh}

-- ---- what the first manifest lists

abbrev pub new_listing : Partitioner → Listing
new_listing p = record { partitioner = p; floor = 1; last = 1; records = 1; length = 36; tables = [] }

pub first_apply : (p : Partitioner) → AllApply None (rewrite_edits (new_listing p))
first_apply p = (start_applies p 1 1 (record { floor_some = omega arith; ordered = omega arith; last_fits = omega arith }), tt)

pub first_short : (p : Partitioner) → length (encoded (rewrite_edits (new_listing p))) ≤ 2 ^ 30
first_short p = omega (arith, start_length p 1 1)

-- the listing that is made
abbrev pub made_listing : Partitioner → Listing
made_listing p = record
    { partitioner = p; floor = 1; last = 1; records = 0 + 1; length = 17 + (5 + length (encoded (rewrite_edits (new_listing p)))); tables = [] }

pub is_rewritten : (p : Partitioner) → IsRewritten (new_listing p) (made_listing p)
is_rewritten p = refl

pub made_is : (p : Partitioner) (made : Listing) → IsRewritten (new_listing p) made → made ≡ made_listing p
made_is p made is = let e : Some made ≡ Some (made_listing p) = is in cc

made_consistent : (p : Partitioner) → IsConsistent (made_listing p)
made_consistent p = record_consistent None (encoded (rewrite_edits (new_listing p))) (rewrite_edits (new_listing p)) (made_listing p) (first_apply p)
    (is_rewritten p) tt

-- which is that of a new layout
pub made_new : (p : Partitioner) → made_listing p ≡ new_listing p
made_new p = ap (λ n. record { partitioner = p; floor = 1; last = 1; records = 0 + 1; length = 17 + (5 + n); tables = [] }) (start_length p 1 1)

-- ---- what stands in a folder with it

-- the first segment of the log, without a mutation
abbrev pub IsFirstLog : Bytes → Type 0
IsFirstLog bytes = IsGated (log_name 1) bytes []

holds_made : (p : Partitioner) (y : Folder) (manifest log : Bytes) → IsSome (get y (seal_name 1))
    → ((other : ℕ) → 1 < other → get y (seal_name other) ≡ None) → get y (manifest_name 1) ≡ Some manifest
    → IsManifest 1 manifest (made_listing p)
    → get y (log_name 1) ≡ Some log → IsFirstLog log → FolderHolds y 1 (made_listing p) ([] ∷ [])
holds_made p y manifest log sealed none there lists has first = record {
  sealed = record { there = sealed; highest = none };
  manifest = (manifest, there, lists);
  live = refl;
  segments = ((log, has, record { gated = first; of_tables = tt }), tt);
}

-- so it has the shape of the new layout
shape_made : (p : Partitioner) (y : Folder) → FolderHolds y 1 (made_listing p) ([] ∷ []) → HasShape y (new_layout p) ([] ∷ [])
shape_made p y holds =
    let is : FolderHolds y 1 (new_listing p) ([] ∷ []) = subst (λ (l : Listing). FolderHolds y 1 l ([] ∷ [])) (made_new p) holds in
    record { sealed = is.sealed; manifest = is.manifest; live = is.live; segments = is.segments; tables = tt; used = refl }

-- ---- moments

fresh_stands : (p : Partitioner) (x y : Folder) → IsFresh y → IsFreshOrNew p x y
fresh_stands p x y fresh = inl fresh

-- where each image is new and stays so
pub fresh_moments : (a b : View) (S : Relation) (p : Partitioner) → IsSound a → ((x y : Folder) → S x y → IsFresh x → IsFresh y)
    → Changes S a b → Each a IsFresh → Changes (IsFreshOrNew p) a b
fresh_moments a b S p sound keeps change fresh = at_each_moment a b S IsFresh (λ y. IsFreshOrNew p y y) sound change fresh
    (λ x y was step. fresh_stands p y y (keeps x y step was))

pub same_fresh : (x y : Folder) → Same x y → IsFresh x → IsFresh y
same_fresh x y same fresh = subst IsFresh (sym same) fresh

pub log_fresh : (x y : Folder) → FileChange (log_name 1) AnyChange x y → IsFresh x → IsFresh y
log_fresh x y step fresh name other another = step.others name another ∙ fresh name other another

seal_none : (x : Folder) (number : ℕ) → IsFresh x → get x (seal_name number) ≡ None
seal_none x number fresh = fresh (seal_name number) (kinds_apart _ _ (omega arith)) (kinds_apart _ _ (omega arith))

pub fresh_unsealed : (v : View) → Each v IsFresh → IsUnsealed v 1
fresh_unsealed v fresh x now = seal_none x 1 (fresh x now)

-- each image is new, and its log has no mutation
record IsBegun (log : Bytes) (x : Folder) : Type 0 where
  fresh : IsFresh x
  has : get x (log_name 1) ≡ Some log

log_apart : (number : ℕ) → log_name 1 ≢ manifest_name number
log_apart number = kinds_apart _ _ (omega arith)

log_seal_apart : (number : ℕ) → log_name 1 ≢ seal_name number
log_seal_apart number = kinds_apart _ _ (omega arith)

seals_apart : (other : ℕ) → 1 < other → seal_name other ≢ seal_name 1
seals_apart other above same = let e : other ≡ 1 = ap (λ (n : FileName). n.number) same in absurd (omega (arith, e, above))

-- the manifest and its seal are made, or the folder is still new
created_stands : (p : Partitioner) (log : Bytes) (x y : Folder) → IsFirstLog log → IsBegun log x → Creates 1 (made_listing p) x y → IsFreshOrNew p x y
created_stands p log x y first begun creates = ⊎_elim
    (λ none. fresh_stands p x y (λ name other another. ⊎_elim
    (λ same. subst (λ (n : FileName). get y n ≡ None) (sym same) none)
    (λ apart. creates.others name other apart ∙ begun.fresh name other another)
    (name_cases name (seal_name 1))))
    (λ whole. inr (
      [] ∷ [],
      shape_made p y (holds_made p y whole.1 log (ap (λ (o : Option Bytes). is_some o) whole.0)
          (λ other above. creates.others (seal_name other) (kinds_apart _ _ (omega arith)) (seals_apart other above)
          ∙ seal_none x other begun.fresh) whole.2 whole.3 (creates.others (log_name 1) (log_apart 1) (log_seal_apart 1) ∙ begun.has) first),
    ))
    creates.whole

first_log : (v : View) (at : ℕ) → (end : IsAtLogEnd v (log_name 1) at []) → IsFirstLog end.bytes
first_log v at end = gated_end v (log_name 1) at [] end

pub create_moments : (a b c : View) (p : Partitioner) (at : ℕ) → IsSound a → IsSound b → Each a IsFresh
    → Changes (FileChange (log_name 1) AnyChange) a b → IsAtLogEnd b (log_name 1) at [] → Changes (Creates 1 (made_listing p)) b c
    → Changes (IsFreshOrNew p) a c
create_moments a b c p at sound_a sound_b fresh first end second =
    let fresh_b = each_on a b (FileChange (log_name 1) AnyChange) IsFresh first log_fresh fresh in
    then_each_moment a b c (λ y. IsFreshOrNew p y y) (fresh_moments a b (FileChange (log_name 1) AnyChange) p sound_a log_fresh first fresh)
    (at_each_moment b c (Creates 1 (made_listing p)) (IsBegun end.bytes) (λ y. IsFreshOrNew p y y) sound_b second
    (λ x now. record { fresh = fresh_b x now; has = end.kept x now })
    (λ x y begun creates. created_stands p end.bytes x y (first_log b at end) begun creates))

-- ---- the store that is made

log_kept : (x y : Folder) → ChangesOnlyManifest 1 x y → get y (log_name 1) ≡ get x (log_name 1)
log_kept x y touches = touches (log_name 1) (log_apart 1) (log_seal_apart 1)

pub log_room : (b c : View) (at : ℕ) → Changes (ChangesOnlyManifest 1) b c → Reaches b (log_name 1) at → Reaches c (log_name 1) at
log_room b c at change reaches = reaches_where b c (ChangesOnlyManifest 1) (log_name 1) at change
    (contents_kept b c (ChangesOnlyManifest 1) (log_name 1) log_kept change) reaches

log_end : (b c : View) (at : ℕ) → Changes (ChangesOnlyManifest 1) b c → IsAtLogEnd b (log_name 1) at [] → IsAtLogEnd c (log_name 1) at []
log_end b c at change = end_stays b c (log_name 1) at [] (λ bytes kept x now. let was = change.image x now in log_kept was.0 x was.2 ∙ kept was.0 was.1)

-- what is made
abbrev pub IsFirst : Partitioner → Opened → Type 0
IsFirst p opened = IsRewritten (new_listing p) opened.manifest.listing × (opened.manifest.number ≡ 1) × (opened.log.file ≡ log_name 1) × (opened.tables.items ≡ [])
    × (opened.numbers ≡ record { manifest = 1; log = 1; «data» = 0; index = 0; part = 0 }) × (opened.greatest ≡ 0)

module _ (p : Partitioner) (opened : Opened) (first : IsFirst p opened) where
  listing_is : opened.manifest.listing ≡ new_listing p
  listing_is = made_is p opened.manifest.listing first.0 ∙ made_new p

  number_is : opened.manifest.number ≡ 1
  number_is = first.1

  pub first_ready : (c : View) → Reaches c (manifest_name 1) (opened.manifest.at + 1) → Reaches c (log_name 1) (opened.log.at + 1)
      → IsTrue opened.manifest.usable → IsTrue opened.log.usable → manifests.ManifestStands c 1 opened.manifest.at opened.manifest.listing → ((folder : Folder) → c.files ≡ Some folder → HasKept (record { manifest = 1; listing = new_listing p }) folder) → CanChange c (opened_store opened)
  first_ready c manifest_room log_room manifest_usable log_usable stands kept = record {
    consistent = subst IsConsistent (sym listing_is) (subst IsConsistent (made_new p) (made_consistent p));
    definitions = rw listing_is refl;
    tables = rw (listing_is, first.3) tt;
    numbered = record {
      manifest_is = ap (λ (n : Numbers). n.manifest) first.4 ∙ sym first.1;
      log_is = ap (λ (n : Numbers). n.log) first.4 ∙ ap (λ (l : Listing). l.last) (sym listing_is);
      files = rw listing_is tt;
      indexes = rw listing_is tt;
      fits = omega (arith, ap (λ (n : Numbers). n.«data») first.4);
    };
    timestamp = omega (arith, first.5);
    log_file = first.2 ∙ ap (λ (l : Listing). log_name l.last) (sym listing_is);
    manifest_room = subst (λ n. Reaches c (manifest_name n) (opened.manifest.at + 1)) (sym first.1) manifest_room;
    log_room = subst (λ f. Reaches c f (opened.log.at + 1)) (sym first.2) log_room;
    manifest_usable = manifest_usable;
    log_usable = log_usable;
    stands = λ told. subst (λ n. manifests.ManifestStands c n opened.manifest.at opened.manifest.listing) (sym first.1) stands;
    aside = nothing;
    aside_are = none_aside _;
    exactly = rw (first.1, listing_is) kept;
  }

  -- no other file is there
  pub first_exactly : (c : View) → ((folder : Folder) → c.files ≡ Some folder → HasKept (record { manifest = 1; listing = new_listing p }) folder) → HasExactlyBeside c nothing (opened_store opened)
  first_exactly c kept = rw (first.1, listing_is) kept

  no_time : 0 ≡ max_timestamp (state_of (new_layout p))
  unfolding max_timestamp
  no_time = refl

  pub first_serves : (a b c : View) → IsTold c → Each a IsFresh → Changes (FileChange (log_name 1) AnyChange) a b → IsAtLogEnd b (log_name 1) opened.log.at []
      → Changes (ChangesOnlyManifest 1) b c → (IsUnsealed b 1 → IsFileDurable c (seal_name 1) [])
      → manifests.ManifestStands c 1 opened.manifest.at opened.manifest.listing → Serves c (opened_store opened) (new_layout p)
  first_serves a b c told fresh begun end second sealed stands =
      let fresh_b = each_on a b (FileChange (log_name 1) AnyChange) IsFresh begun log_fresh fresh in
      let end_c = log_end b c opened.log.at second end in
      let stands_new : manifests.ManifestStands c 1 opened.manifest.at (new_listing p) = subst (manifests.ManifestStands c 1 opened.manifest.at) listing_is stands in
      let whole : IsManifest 1 stands_new.at_end.bytes (new_listing p) = (
        stands_new.records,
        gated_end c (manifest_name 1) opened.manifest.at stands_new.records stands_new.at_end,
        stands_new.builds,
      ) in
      record {
        told = told;
        in_order = record { files = tt; indexes = tt };
        definitions = rw listing_is refl;
        tables = rw first.3 refl;
        used = rw first.4 refl;
        timestamp = first.5 ∙ no_time;
        listing = listing_is;
        manifest = first.1;
        log = first.2;
        older = [];
        current = [];
        log_end = end_c;
        manifest_end = stands_new;
        shape = λ y now. (
            let from = second.image y now in
            let none = λ (other : ℕ) (above : 1 < other). from.2 (seal_name other) (kinds_apart _ _ (omega arith)) (seals_apart other above)
            ∙ seal_none from.0 other (fresh_b from.0 from.1) in
            let there : IsSome (get y (seal_name 1)) = ap (λ (o : Option Bytes). is_some o) (sealed (fresh_unsealed b fresh_b) y now) in
            record {
              sealed = record { there = there; highest = none };
              manifest = (stands_new.at_end.bytes, stands_new.at_end.kept y now, whole);
              live = refl;
              segments = ((end_c.bytes, end_c.kept y now, record { gated = first_log c opened.log.at end_c; of_tables = tt }), tt);
              tables = tt;
              used = refl;
            }
            );
      }

pub still_fresh : (a b : View) → Each a IsFresh → Changes (FileChange (log_name 1) AnyChange) a b → Each b IsFresh
still_fresh a b fresh change = each_on a b (FileChange (log_name 1) AnyChange) IsFresh change log_fresh fresh

pub made_any_change : (a b c : View) → Changes (FileChange (log_name 1) AnyChange) a b → Changes (ChangesOnlyManifest 1) b c → Changes AnyFolderChange a c
made_any_change a b c first second = changes_on a b c (FileChange (log_name 1) AnyChange) (ChangesOnlyManifest 1) AnyFolderChange first second (λ x y s. tt) (λ x y z s t. tt)

pub log_any_change : (a b : View) → Changes (FileChange (log_name 1) AnyChange) a b → Changes AnyFolderChange a b
log_any_change a b change = changes_as a b (FileChange (log_name 1) AnyChange) AnyFolderChange change (λ x y step. tt)

pub deletes_any_change : (a b : View) (kept : FileName → Bool) → Changes (Deletes kept) a b → Changes AnyFolderChange a b
deletes_any_change a b kept change = changes_as a b (Deletes kept) AnyFolderChange change (λ x y step. tt)

pub stays_any_change : (v : View) → Changes AnyFolderChange v v
stays_any_change v = changes_as v v Same AnyFolderChange (stays v) (λ x y same. tt)

pub any_change_on : (a b c : View) → Changes AnyFolderChange a b → Changes AnyFolderChange b c → Changes AnyFolderChange a c
any_change_on a b c first second = changes_on a b c AnyFolderChange AnyFolderChange AnyFolderChange first second (λ x y s. tt) (λ x y z s t. tt)

-- ---- what was there before

-- no change yet
pub no_moments : (v : View) (p : Partitioner) → IsSound v → Each v IsFresh → Changes (IsFreshOrNew p) v v
no_moments v p sound fresh = fresh_moments v v Same p sound same_fresh (stays v) fresh

module _ (a b : View) (p : Partitioner) (kept : FileName → Bool) (sound : IsSound a) (change : Changes (Deletes kept) a b)
    (fresh : Each a IsFresh) where
  pub deleted_moments : Changes (IsFreshOrNew p) a b
  deleted_moments = fresh_moments a b (Deletes kept) p sound (deletes_fresh kept) change fresh

  pub deleted_fresh : Each b IsFresh
  deleted_fresh = each_on a b (Deletes kept) IsFresh change (deletes_fresh kept) fresh

module _ (a b c : View) (p : Partitioner) (kept : FileName → Bool) (sound_a : IsSound a) (sound_b : IsSound b)
    (change : Changes (Deletes kept) a b) (sync : Changes Same b c) (fresh : Each a IsFresh) where
  pub synced_moments : Changes (IsFreshOrNew p) a c
  synced_moments = then_each_moment a b c (λ y. IsFreshOrNew p y y) (deleted_moments a b p kept sound_a change fresh)
      (fresh_moments b c Same p sound_b same_fresh sync (deleted_fresh a b p kept sound_a change fresh))

  pub synced_fresh : Each c IsFresh
  synced_fresh = each_on b c Same IsFresh sync same_fresh (deleted_fresh a b p kept sound_a change fresh)

-- what a later part of a call promises, promised from its start
pub serves_later : (p : Partitioner) (result : Result Opened HostFault) (b c a : View) → IfOk result (λ opened. IsTold b → Each b IsFresh → Serves c (opened_store opened) (new_layout p))
    → (IsTold a → IsTold b) → (Each a IsFresh → Each b IsFresh) → IfOk result (λ opened. IsTold a → Each a IsFresh → Serves c (opened_store opened) (new_layout p))
serves_later p (Ok opened) b c a serves told fresh = λ seen new. serves (told seen) (fresh new)
serves_later p (Err fault) b c a serves told fresh = tt
