-- What a manifest lists is checked, and the other files are deleted.
use Rattle.std.proofs.Common.{◌≡◌, ◌⊎◌, ℕ, zero, Bool, true, false, List, ◌∷◌, All, Contains, Option, Some, is_some, refl, sym, ◌∙◌, ap, subst, inl, inr, arith}
use Rattle.std.specs.FinMap.{get}
use Rattle.std.proofs.lemmas.List.Elements.{All-contains, All-weaker, Contains-append_right}
use Rattle.sasi_host.specs.declared.damage.Damage.{Damage}
use Rattle.sasi_host.specs.declared.fault.ReadFault.{ReadFault}
use Rattle.sasi_host.specs.declared.fault.ReadFault.TheVariants.{Damaged, Failed, OutOfMemory}
use Rattle.sasi_host.specs.declared.name.FileName.{FileName}
use Rattle.sasi_host.specs.Damages.{OnDamage}
use Rattle.sasi_host.specs.Names.{Bytes, Folder, log_name, manifest_name}
use Rattle.sasi_host.specs.View.{View, IsAbsent, IsSound, IsThere}
use Rattle.sasi_host.specs.Disk.{Changes, IsSynced, Lists, Same, Each}
use Rattle.sasi_host.proofs.ContentLaws.{contents_same}
use Rattle.sasi_host.proofs.ChangeLaws.{at_each_moment, changes_as, changes_on}
use Rattle.sasi_cells.specs.declared.mutation.Mutation.{Mutation}
use Rattle.sasi_manifest.specs.declared.listing.Listing.{Listing}
use Rattle.sasi_manifest.specs.FileNames.{has_name}
use Rattle.sasi_manifest.specs.OpenManifest.{ManifestState}
use Rattle.sasi_manifest.specs.Reading.{ReadsListing}
use Rattle.sasi_folder.specs.Damages.{ShowsManifestOrListed, broken_ends, broken_file, missing_file}
use Rattle.sasi_layout.specs.Layout.{Layout, listing_of}
use Rattle.sasi_layout.specs.Shape.{HasShape}
use Rattle.sasi_recover.specs.declared.unlisted_files.Keep.TheVariants.{Store}
use Rattle.sasi_recover.specs.Deletion.{Deletes, keeps}
use Rattle.sasi_recover.specs.FileEnds.{HasEnd, IsLargestOf, NoFalseEndDamage, ShowsEndDamage}
use Rattle.sasi_recover.specs.Opening.{IsFolderDurable, KeepsStore}
use Rattle.sasi_recover.specs.OpenedFolder.{AnyFolderChange}
use Rattle.sasi_recover.specs.Replaying.{LiveSegmentsExist}
use Rattle.sasi_recover.specs.SealedFolder.{AreListedFiles, AreNamed, IsChecked, IsManifestRead, ReportsMissingFile, ReportsMissingListed, kept_with}
use Rattle.sasi_recover.proofs.Damaged.{missing_from, segment_missing}
use Rattle.sasi_recover.proofs.DeletedFiles.{deletes_kept, deletes_listed, deletes_store, keeps_listed}
use Rattle.sasi_recover.proofs.KeptShapes.{agree_where, file_of_shape, holds_of, shape_where_kept, synced_durable, synced_shape}
use Rattle.sasi_recover.proofs.NameLists.{any_of, of_any}
use Rattle.sasi_recover.proofs.SealedStore.{bytes_there, held_is_listed, listed_is_there, listed_same, reads_of, segments_listed, segments_live, then_deletes}
use Rattle.sasi_recover.proofs.SyncedFolder.{durable_same, there_same}

-- the missing one is in the list
missing_listed : (names files : List FileName) (damage : Damage) (one : ReportsMissingFile names files damage) → Contains files one.file
missing_listed names files damage one = subst (λ (l : List FileName). Contains l one.file) (sym one.listed) (Contains-append_right one.before (one.file ∷ one.behind) one.file (zero, omega arith, refl))

-- ---- one opening

module _ (a : View) (names : List FileName) (m : ManifestState) (wanted : List FileName) (lists : Lists a names) (read : IsManifestRead a m) (listed : AreListedFiles m.listing wanted) where
  -- a name in the list is that of a listed file
  pub is_of_list : (name : FileName) → Contains wanted name → has_name m.listing.tables name ≡ true
  is_of_list name has = sym (listed.listed name) ∙ any_of wanted name has

  pub in_list : (name : FileName) → has_name m.listing.tables name ≡ true → Contains wanted name
  in_list name is = of_any wanted name (listed.listed name ∙ is)

  -- ---- the files are there

  module _ (named : AreNamed names m.listing.floor m.listing.last wanted) where
    pub live_there : LiveSegmentsExist a m.listing
    live_there segment above below = listed_is_there a names (log_name segment) lists (named.segments segment above below)

    pub file_there : (name : FileName) → Contains wanted name → IsThere a name
    file_there name has = listed_is_there a names name lists (All-contains (Contains names) wanted name named.there has)

    pub all_there : All (IsThere a) wanted
    all_there = All-weaker (Contains names) (IsThere a) (λ name has. listed_is_there a names name lists has) wanted named.there

    -- what was checked, once the others are deleted
    pub checked : (b c : View) (time : ℕ) → IsSound b → IsFolderDurable a → Changes Same a b → All (HasEnd a) wanted → All (IsSynced b) wanted → IsLargestOf a wanted time
        → Changes (Deletes (kept_with m wanted)) b c → ((name : FileName) → kept_with m wanted name ≡ false → IsAbsent c name) → IsChecked a c m wanted time
    checked b c time sound durable same ends synced largest deletes gone = record {
      deletes = then_deletes a b c (kept_with m wanted) same deletes;
      gone = gone;
      live = segments_live b c m.number m.listing wanted deletes (λ segment above below. there_same a b same (log_name segment) (live_there segment above below));
      there = file_there;
      durable = λ name bytes has reads. deletes_kept b c (kept_with m wanted) name bytes (keeps_listed m.number m.listing.floor m.listing.last wanted name has) deletes
          (synced_durable b sound (durable_same a b same durable) name bytes (All-contains (IsSynced b) wanted name synced has) (contents_same a b name same ∙ reads));
      ends = λ name has. All-contains (HasEnd a) wanted name ends has;
      tells = largest;
    }

  -- ---- a folder with a shape

  module _ (folder : Folder) (files : a.files ≡ Some folder) (l : Layout) (logs : List (List Mutation)) (number : l.used.manifest ≡ m.number) (has : HasShape folder l logs) where
    pub listing_is : m.listing ≡ listing_of l
    listing_is = listed_same a folder l.used.manifest (listing_of l) m.listing logs files (holds_of folder l logs has) (subst (λ n. ReadsListing a n m.listing) (sym number) read.reads)

    pub among_shape : (name : FileName) → has_name (listing_of l).tables name ≡ true → Contains wanted name
    among_shape name is = in_list name (ap (λ (e : Listing). has_name e.tables name) listing_is ∙ is)

    pub shape_has : (name : FileName) → Contains wanted name → has_name (listing_of l).tables name ≡ true
    shape_has name has = ap (λ (e : Listing). has_name e.tables name) (sym listing_is) ∙ is_of_list name has

    -- none of its files is missing
    pub nothing_missing : (damage : Damage) → ReportsMissingListed names m.listing.floor m.listing.last wanted damage → ⊥
    nothing_missing damage (inl segment) = segments_listed a names l.used.manifest lists folder (listing_of l) logs files (holds_of folder l logs has) m.listing damage
        (subst (λ n. ReadsListing a n m.listing) (sym number) read.reads) segment
    nothing_missing damage (inr (there, one)) =
        let file = file_of_shape folder l logs one.file has (shape_has one.file (missing_listed names wanted damage one)) in
        one.missing.absent (held_is_listed a names folder one.file lists files (ap (λ (o : Option Bytes). is_some o) file.there))

    -- nor has one a damaged end
    pub ends_undamaged : (fault : ReadFault) → NoFalseEndDamage a wanted fault → OnDamage (λ _. ⊥) fault
    ends_undamaged Failed no_false = tt
    ends_undamaged OutOfMemory no_false = tt
    ends_undamaged (Damaged damage) no_false = no_false (λ name listed.
        let file = file_of_shape folder l logs name has (shape_has name listed) in
        (file.bytes, reads_of a folder name file.bytes files file.there, file.whole))

    -- ---- moments

    module _ (b : View) (sound_b : IsSound b) (durable : IsFolderDurable a) (same : Changes Same a b) where
      pub shapes_synced : All (IsSynced b) wanted → Each b (λ x. HasShape x l logs)
      shapes_synced synced =
          let now = same.seen folder files in
          synced_shape b sound_b (durable_same a b same durable) folder (now.1 ∙ ap (λ (f : Folder). Some f) now.2) l logs
          (λ name is. All-contains (IsSynced b) wanted name synced (among_shape name is)) has

      -- while others are deleted, each image keeps the shape
      deletes_shape : (x y : Folder) → HasShape x l logs → Deletes (kept_with m wanted) x y → HasShape y l logs
      deletes_shape x y has_x deletes =
          shape_where_kept x y l logs
          (rw number (subst (λ (e : Listing). KeepsStore m.number e.floor e.last x y) listing_is (deletes_store m.number m.listing.floor m.listing.last wanted x y deletes)))
          (agree_where x y l (λ name is. deletes_listed m.number m.listing.floor m.listing.last wanted x y name (among_shape name is) deletes)) has_x

      pub shapes_kept : (c : View) → All (IsSynced b) wanted → Changes (Deletes (kept_with m wanted)) b c → Changes (λ x y. (y ≡ x) ⊎ HasShape y l logs) a c
      shapes_kept c synced deletes =
          changes_on a b c Same (λ x y. HasShape y l logs) (λ x y. (y ≡ x) ⊎ HasShape y l logs) same
          (at_each_moment b c (Deletes (kept_with m wanted)) (λ x. HasShape x l logs) (λ x. HasShape x l logs) sound_b deletes (shapes_synced synced) deletes_shape)
          (λ x y is. inl is) (λ x y z is shape. inr shape)

  -- ---- damage

  module _ (folder : Folder) (files : a.files ≡ Some folder) where
    manifest_bytes : (bytes : Bytes) × (get folder (manifest_name m.number) ≡ Some bytes)
    manifest_bytes = bytes_there a folder (manifest_name m.number) files read.there

    pub missing_shown : (damage : Damage) → ReportsMissingListed names m.listing.floor m.listing.last wanted damage → ShowsManifestOrListed folder m.number damage
    missing_shown damage (inl segment) = segment_missing a folder files names lists m.number m.listing damage read.there read.reads segment
    missing_shown damage (inr (there, one)) =
        broken_file manifest_bytes.0 m.listing manifest_bytes.1 (read.reads manifest_bytes.0 (reads_of a folder (manifest_name m.number) manifest_bytes.0 files manifest_bytes.1))
        (missing_file one.file (is_of_list one.file (missing_listed names wanted damage one)) (missing_from a folder files names lists one.file damage one.missing))

    pub ends_shown : (fault : ReadFault) → ((name : FileName) → Contains wanted name → IsThere a name) → ShowsEndDamage a wanted fault → OnDamage (ShowsManifestOrListed folder m.number) fault
    ends_shown Failed there shown = tt
    ends_shown OutOfMemory there shown = tt
    ends_shown (Damaged damage) there (name, has, shown) =
        let bytes = bytes_there a folder name files (there name has) in
        broken_file manifest_bytes.0 m.listing manifest_bytes.1 (read.reads manifest_bytes.0 (reads_of a folder (manifest_name m.number) manifest_bytes.0 files manifest_bytes.1))
        (broken_ends name bytes.0 (is_of_list name has) bytes.1 (shown bytes.0 (reads_of a folder name bytes.0 files bytes.1)))

pub same_moments : (a b : View) (l : Layout) (logs : List (List Mutation)) → Changes Same a b → Changes (λ x y. (y ≡ x) ⊎ HasShape y l logs) a b
same_moments a b l logs same = changes_as a b Same (λ x y. (y ≡ x) ⊎ HasShape y l logs) same (λ x y is. inl is)

pub moments_then_same : (a b c : View) (l : Layout) (logs : List (List Mutation)) → Changes (λ x y. (y ≡ x) ⊎ HasShape y l logs) a b → Changes Same b c → Changes (λ x y. (y ≡ x) ⊎ HasShape y l logs) a c
moments_then_same a b c l logs first second = changes_on a b c (λ x y. (y ≡ x) ⊎ HasShape y l logs) Same (λ x y. (y ≡ x) ⊎ HasShape y l logs) first second (λ x y s. s) (λ x y z s is. subst (λ (f : Folder). (f ≡ x) ⊎ HasShape f l logs) (sym is) s)

pub same_any : (a b : View) → Changes Same a b → Changes AnyFolderChange a b
same_any a b same = changes_as a b Same AnyFolderChange same (λ x y is. tt)

pub same_then_any : (a b c : View) (kept : FileName → Bool) → Changes Same a b → Changes (Deletes kept) b c → Changes AnyFolderChange a c
same_then_any a b c kept first second = changes_on a b c Same (Deletes kept) AnyFolderChange first second (λ x y is. tt) (λ x y z is d. tt)

-- what the deletion keeps, by the manifest's own number and listing
pub deletes_as : (a b : View) (m : ManifestState) (wanted : List FileName) (number : ℕ) (listing : Listing) → number ≡ m.number → listing ≡ m.listing → Changes (Deletes (keeps (Store number listing.floor listing.last) wanted)) a b → Changes (Deletes (kept_with m wanted)) a b
deletes_as a b m wanted number listing number_is listing_is change =
    subst (λ (l : Listing). Changes (Deletes (keeps (Store m.number l.floor l.last) wanted)) a b) listing_is
    (subst (λ n. Changes (Deletes (keeps (Store n listing.floor listing.last) wanted)) a b) number_is change)

pub gone_as : (v : View) (m : ManifestState) (wanted : List FileName) (number : ℕ) (listing : Listing) → number ≡ m.number → listing ≡ m.listing → ((name : FileName) → keeps (Store number listing.floor listing.last) wanted name ≡ false → IsAbsent v name)
    → (name : FileName) → kept_with m wanted name ≡ false → IsAbsent v name
gone_as v m wanted number listing number_is listing_is gone =
    subst (λ (l : Listing). (name : FileName) → keeps (Store m.number l.floor l.last) wanted name ≡ false → IsAbsent v name) listing_is
    (subst (λ n. (name : FileName) → keeps (Store n listing.floor listing.last) wanted name ≡ false → IsAbsent v name) number_is gone)
