-- The opening of a folder, over its parts.
use Rattle.std.proofs.Common.{◌≡◌, ◌≢◌, ◌⊎◌, ℕ, zero, suc, ◌+◌, ◌<◌, ◌≤◌, IsTrue, true, List, [], ◌∷◌, ◌++◌, length, map, All, Contains, Option, Some, None, IsSome, is_some, unwrap_or, Ok, Err, IfOk, OnOk, refl, sym, ◌∙◌, ap, subst, inl, inr, ⊎_elim, arith}
use Rattle.std.specs.Prelude.{max}
use Rattle.std.specs.FinMap.{get}
use Rattle.std.specs.declared.result.Result.{Result}
use Rattle.sasi_types.specs.declared.partitioner.Partitioner.{Partitioner}
use Rattle.sasi_types.specs.declared.partitioner.Partitioner.TheVariants.{Lead8}
use Rattle.sasi_host.specs.declared.fault.ReadFault.{ReadFault}
use Rattle.sasi_host.specs.declared.fault.ReadFault.TheVariants as read_fault
use Rattle.sasi_host.specs.declared.name.FileName.{FileName}
use Rattle.sasi_host.specs.Damages.{OnDamage}
use Rattle.sasi_host.specs.Names.{Bytes, Folder, log_name, manifest_name, seal_name}
use Rattle.sasi_host.specs.View.{View, IsSound, IsThere, IsTold, Reaches, contents, contents_in}
use Rattle.sasi_host.specs.Disk.{Changes, IsFileDurable, Lists, Same, Each}
use Rattle.sasi_host.proofs.ContentLaws.{contents_same, reaches_where, there_where, told_after, told_before, told_files}
use Rattle.sasi_host.proofs.ChangeLaws.{changes_as, changes_on}
use Rattle.sasi_host.proofs.Durability.{file_durable_same}
use Rattle.sasi_cells.specs.declared.mutation.Mutation.{Mutation}
use Rattle.sasi_commitlog.specs.Format.{Tables}
use Rattle.sasi_commitlog.specs.LogPosition.{IsAtLogEnd}
use Rattle.sasi_manifest.specs.Consistent.{IsConsistent}
use Rattle.sasi_manifest.specs.declared.listing.Listing.{Listing}
use Rattle.sasi_manifest.specs.OpenManifest.{ManifestState, ManifestStands}
use Rattle.sasi_manifest.specs.Reading.{ReadsListing, StandsWhereKept}
use Rattle.sasi_manifest.proofs.Laws.{manifest_stays}
use Rattle.sasi_folder.proofs.FolderLaws.{kinds_apart, segments_kept}
use Rattle.sasi_folder.specs.Opens.{CanOpen, KeepsPartitioner, KeepsUnder, Opens}
use Rattle.sasi_folder.specs.FolderContents.{HasSegments, IsFresh, IsSealed, types_listed}
use Rattle.sasi_layout.proofs.KeptLaws.{none_aside}
use Rattle.sasi_layout.specs.Kept.{HasKept, nothing}
use Rattle.sasi_layout.specs.Layout.{Layout, listed_of, listing_of, state_of, used_in}
use Rattle.sasi_model.specs.State.{max_timestamp}
use Rattle.sasi_layout.specs.Serving.{AreNumbered, CanChange, HasExactlyBeside, Serves}
use Rattle.sasi_layout.specs.Shape.{HasShape, IsOfShape, ShapeOf, new_layout}
use Rattle.sasi_manifest.specs.Damages.{NoFalseManifestDamage}
use Rattle.sasi_manifest.specs.Format.{IsManifest}
use Rattle.sasi_recover.specs.declared.fault.OpenFault.{OpenFault}
use Rattle.sasi_recover.specs.declared.fault.OpenFault.TheVariants as fault
use Rattle.sasi_types.specs.declared.class.Class.{Class}
use Rattle.sasi_recover.specs.Faults.{OnDiffers, OnMissing, OnOpenDamage, open_fault_of}
use Rattle.sasi_recover.specs.Promises.{LacksClass, LacksUnder}
use Rattle.sasi_recover.proofs.Damaged.{foreign_shown}
use Rattle.sasi_recover.proofs.OpenedState.{firsts_fresh}
use Rattle.sasi_folder.specs.Damages.{FolderShows, ShowsManifestOrListed}
use Rattle.sasi_recover.proofs.Differences.{open_damage}
use Rattle.sasi_recover.specs.declared.opened.Opened.{Opened}
use Rattle.sasi_recover.specs.Deletion.{Deletes, keeps}
use Rattle.sasi_recover.specs.NewFolder.{IsFreshOrNew, NoFalseFreshDamage, ReportsForeign, is_initial}
use Rattle.sasi_recover.specs.OpenedFolder.{AnyFolderChange, opened_store, opened_table, used_numbers}
use Rattle.sasi_recover.specs.Opening.{IsFolderDurable, IsHighestSeal, KeepsStore}
use Rattle.sasi_recover.specs.Replaying.{KeepsSegments, NoFalseReplayDamage, ReadsAll, Replays}
use Rattle.sasi_recover.specs.ReplayState.{IsReplayOf, ReplayState, replayed_state, tables_time}
use Rattle.sasi_recover.specs.SealedFolder.{AreListedFiles, IsChecked, IsManifestRead, kept_with}
use Rattle.sasi_recover.proofs.DeletedFiles.{deletes_kept, deletes_store, keeps_listed, keeps_manifest, keeps_seal, keeps_segment, unless_kept}
use Rattle.sasi_recover.proofs.KeptFiles.{has_kept, keeps_is}
use Rattle.sasi_recover.proofs.KeptShapes.{agree_where, file_of_shape, shape_where_kept}
use Rattle.sasi_recover.proofs.OpenedStore.{consistent_in_order, data_fits, definitions_are, indexes_numbered, maps_in_memory, shape_bare, shape_in_order, tables_ready}
use Rattle.sasi_recover.proofs.PerTable.{maps_of, replayed_maps}
use Rattle.sasi_recover.proofs.SealedStore.{bytes_there, contents_left, held_is_listed, listed_is_there, manifest_room, manifest_stands, reads_of}
use Rattle.sasi_recover.proofs.Checking.{among_shape, in_list, listing_is, shape_has}
use Rattle.sasi_recover.proofs.ShapeTimes.{shape_time}
use Rattle.sasi_recover.proofs.SyncedFolder.{durable_kept, durable_store, there_same}

-- ---- which of the two it is

none_is_not : {A : Type 0} (o : Option A) → o ≡ None → IsSome o → ⊥
none_is_not None is some = cc
none_is_not (Some x) is some = cc

below_or : (m n : ℕ) → (m < n) ⊎ ((m ≡ n) ⊎ (n < m))
below_or zero zero = inr (inl refl)
below_or zero (suc n) = inl (omega arith)
below_or (suc m) zero = inr (inr (omega arith))
below_or (suc m) (suc n) = ⊎_elim (λ l. inl (omega (arith, l)))
    (λ r. inr (⊎_elim (λ e. inl (ap (λ k. suc k) e)) (λ l. inr (omega (arith, l))) r)) (below_or m n)

module _ (v : View) (names : List FileName) (asked : Option Partitioner) (folder : Folder) (l : Layout) (lists : Lists v names) (files : v.files ≡ Some folder) where
  -- where no name is that of a seal, the folder is new
  pub unsealed_fresh : IsHighestSeal names None → ShapeOf asked folder l → IsFresh folder × (l ≡ new_layout (unwrap_or asked Lead8))
  unsealed_fresh none (inl fresh) = fresh
  unsealed_fresh none (inr shape) = absurd (none l.used.manifest (held_is_listed v names folder (seal_name l.used.manifest) lists files shape.1.sealed.there))

  seal_there : (number : ℕ) → Contains names (seal_name number) → IsSome (get folder (seal_name number))
  seal_there number has =
      let told : IsTold v = ap (λ (o : Option Folder). is_some o) files in
      subst (λ (o : Option Folder). IsSome (contents_in o (seal_name number))) files (listed_is_there v names (seal_name number) lists has told)

  -- where this is the highest seal, the folder has a shape under it
  pub sealed_shape : (number : ℕ) → IsHighestSeal names (Some number) → ShapeOf asked folder l → (l.used.manifest ≡ number) × IsOfShape l folder
  sealed_shape number highest (inl fresh) = absurd (none_is_not (get folder (seal_name number))
      (fresh.0 (seal_name number) (kinds_apart _ _ (omega arith)) (kinds_apart _ _ (omega arith))) (seal_there number highest.0))
  sealed_shape number highest (inr shape) =
      let there = seal_there number highest.0 in
      let same : l.used.manifest ≡ number = ⊎_elim
      (λ below. absurd (none_is_not (get folder (seal_name number)) (shape.1.sealed.highest number below) there))
      (λ other. ⊎_elim (λ is. is)
      (λ above. absurd (highest.1 l.used.manifest above (held_is_listed v names folder (seal_name l.used.manifest) lists files shape.1.sealed.there)))
      other)
      (below_or l.used.manifest number) in
      (same, shape)

-- ---- the live segments, once other files are deleted

keeps_segments : (b : View) (f : Folder) (tables : Tables) (number : ℕ) (logs : List (List Mutation))
    → ((segment : ℕ) (bytes : Bytes) → number ≤ segment → segment < number + length logs → get f (log_name segment) ≡ Some bytes
    → IsFileDurable b (log_name segment) bytes) → HasSegments f tables number logs → KeepsSegments b tables number logs
keeps_segments b f tables number [] kept has = tt
keeps_segments b f tables number (ms ∷ logs) kept has = (
  (has.0.0, kept number has.0.0 (omega arith) (omega arith) has.0.1, has.0.2),
  keeps_segments b f tables (suc number) logs (λ segment bytes above below. kept segment bytes (omega (arith, above)) (omega (arith, below))) has.1,
)

keeps_on : (x y z : Folder) (number floor last : ℕ) → KeepsStore number floor last x y → KeepsStore number floor last y z → KeepsStore number floor last x z
keeps_on x y z number floor last first second = record {
  seal = second.seal ∙ first.seal;
  higher = λ other above none. second.higher other above (first.higher other above none);
  manifest = second.manifest ∙ first.manifest;
  logs = λ segment above below. second.logs segment above below ∙ first.logs segment above below;
}

module _ (a c : View) (m : ManifestState) (wanted : List FileName) (time : ℕ) (names : List FileName) (lists : Lists a names) (sound : IsSound a) (durable : IsFolderDurable a) (read : IsManifestRead a m) (listed : AreListedFiles m.listing wanted)
    (checked : IsChecked a c m wanted time) where
  -- ---- the shape, in each image

  module _ (folder : Folder) (files : a.files ≡ Some folder) (l : Layout) (logs : List (List Mutation)) (number : l.used.manifest ≡ m.number) (has : HasShape folder l logs) where
    told_c : IsTold c
    told_c = told_after (Deletes (kept_with m wanted)) a c checked.deletes (ap (λ (o : Option Folder). is_some o) files)

    lists_l : m.listing ≡ listing_of l
    lists_l = listing_is a names m wanted lists read listed folder files l logs number has

    pub each_shape : Each c (λ x. HasShape x l logs)
    each_shape y now =
        let from = checked.deletes.image y now in
        let stays : KeepsStore m.number m.listing.floor m.listing.last folder y = keeps_on folder from.0 y m.number m.listing.floor m.listing.last
        (durable_store a sound durable folder files from.0 from.1 m.number m.listing.floor m.listing.last)
        (deletes_store m.number m.listing.floor m.listing.last wanted from.0 y from.2) in
        shape_where_kept folder y l logs (rw number (subst (λ (e : Listing). KeepsStore m.number e.floor e.last folder y) lists_l stays))
        (agree_where folder y l (λ name is. (
        let file = file_of_shape folder l logs name has is in
        checked.durable name file.bytes (among_shape a names m wanted lists read listed folder files l logs number has name is) (reads_of a folder name file.bytes files file.there) y now ∙ sym file.there
        ))) has

    pub live_kept : KeepsSegments c (types_listed m.listing) m.listing.floor logs
    live_kept =
        subst (λ (e : Listing). KeepsSegments c (types_listed e) e.floor logs) (sym lists_l)
        (keeps_segments c folder (types_listed (listing_of l)) l.floor logs
        (λ segment bytes above below is.
        deletes_kept a c (kept_with m wanted) (log_name segment) bytes
        (keeps_segment m.number m.listing.floor m.listing.last wanted segment (omega (arith, above, ap (λ (e : Listing). e.floor) lists_l)) (omega (arith, below, has.live, ap (λ (e : Listing). e.last) lists_l))) checked.deletes
        (durable_kept a sound durable (log_name segment) bytes refl (reads_of a folder (log_name segment) bytes files is)))
        has.segments)

    pub live_count : m.listing.floor + length logs ≡ suc m.listing.last
    live_count = subst (λ (e : Listing). e.floor + length logs ≡ suc e.last) (sym lists_l) has.live

    -- no damage is told of a segment
    pub replay_undamaged : (fault : ReadFault) → NoFalseReplayDamage c m.listing fault → OnDamage (λ _. ⊥) fault
    replay_undamaged read_fault.Failed no_false = tt
    replay_undamaged read_fault.OutOfMemory no_false = tt
    replay_undamaged (read_fault.Damaged damage) no_false = no_false logs told_c live_count live_kept

    -- **The store that was opened serves the layout.**
    pub opened_serves : (e : View) (opened : Opened) (state : ReplayState) → opened.manifest ≡ m → opened.tables.items ≡ state.tables → used_numbers opened.numbers ≡ used_in m.number m.listing → opened.greatest ≡ max time state.max_timestamp
        → opened.log.file ≡ log_name m.listing.last → Changes Same c e → Replays c e m.listing opened.log.at state → IsReplayOf m.listing state → Serves e (opened_store opened) l
    unfolding replayed_state
    opened_serves e opened state manifest_is tables_are numbers_are greatest_is file_is same replays is_replay =
        let replayed = replays logs told_c live_count live_kept in
        let ends = replayed.1 in
        let maps : state.tables ≡ maps_of l.partitioner l.floor logs 1 (map listed_of l.tables) =
        ap (λ (s : ReplayState). s.tables) replayed.0 ∙ ap (λ (e : Listing). (replayed_state e logs).tables) lists_l ∙ replayed_maps l.partitioner (map listed_of l.tables) l.floor 0 logs in
        let kept_manifest = durable_kept a sound durable (manifest_name m.number) (bytes_there a folder (manifest_name m.number) files read.there).0 refl
        (reads_of a folder (manifest_name m.number) (bytes_there a folder (manifest_name m.number) files read.there).0 files (bytes_there a folder (manifest_name m.number) files read.there).1) in
        let at_a = read.stands (bytes_there a folder (manifest_name m.number) files read.there).0 (ap (λ (o : Option Folder). is_some o) files) kept_manifest in
        let at_c = manifest_stands a c m.number m.listing wanted checked.deletes m.at at_a in
        let bare_is = shape_bare folder l logs has in
        let time_is : max time state.max_timestamp ≡ max_timestamp (state_of l) = ap (max time) (is_replay.time ∙ ap tables_time maps)
        ∙ shape_time a folder l logs wanted time files has (among_shape a names m wanted lists read listed folder files l logs number has) (shape_has a names m wanted lists read listed folder files l logs number has) checked.tells in
        record {
          told = told_after Same c e same told_c;
          in_order = shape_in_order folder l logs has (subst IsConsistent lists_l read.consistent);
          definitions = rw (manifest_is, lists_l) (definitions_are l.tables);
          tables = ap (map opened_table) (tables_are ∙ maps) ∙ maps_in_memory folder l.partitioner l.floor 1 logs l.tables has.tables;
          used = numbers_are ∙ ap (λ n. used_in n m.listing) (sym number) ∙ ap (used_in l.used.manifest) lists_l ∙ sym has.used;
          timestamp = greatest_is ∙ time_is;
          listing = ap (λ (s : ManifestState). s.listing) manifest_is ∙ lists_l;
          manifest = ap (λ (s : ManifestState). s.number) manifest_is ∙ sym number;
          log = file_is ∙ ap (λ (e : Listing). log_name e.last) lists_l;
          older = ends.0;
          current = ends.1;
          log_end = subst (λ (listing : Listing). IsAtLogEnd e (log_name listing.last) opened.log.at ends.1) lists_l ends.3;
          manifest_end = rw manifest_is (rw number (subst (λ (listing : Listing). ManifestStands e m.number m.at listing) lists_l
              (manifest_stays c e m.number m.at m.listing (λ bytes. file_durable_same c e (manifest_name m.number) bytes same) at_c)));
          shape = λ x now. (
              let from = same.image x now in
              subst (λ (k : Layout). HasShape x k (ends.0 ++ ends.1 ∷ [])) (sym bare_is)
              (subst (λ (k : List (List Mutation)). HasShape x l k) ends.2
              (subst (λ (f : Folder). HasShape f l logs) (sym from.2) (each_shape from.0 from.1)))
              );
        }

  -- ---- whatever the folder holds

  kept_now : (e : View) → Changes Same c e → (folder : Folder) → e.files ≡ Some folder → HasKept (record { manifest = m.number; listing = m.listing }) folder
  kept_now e same folder files = has_kept (record { manifest = m.number; listing = m.listing }) folder
      (here (manifest_name m.number) (stays (manifest_name m.number) (keeps_manifest m.number m.listing.floor m.listing.last wanted) read.there))
      (here (seal_name m.number) (stays (seal_name m.number) (keeps_seal m.number m.listing.floor m.listing.last wanted) read.sealed))
      (λ segment above below. here (log_name segment) (checked.live segment above below))
      (λ name is. (
      let has = in_list a names m wanted lists read listed name is in
      here name (stays name (keeps_listed m.number m.listing.floor m.listing.last wanted name has) (checked.there name has))
      ))
      (λ name other. sym (is_here name) ∙ checked.gone name (keeps_is m.number m.listing wanted name (listed.listed name) ∙ other))
    where
      is_here : (name : FileName) → contents c name ≡ get folder name
      is_here name = sym (contents_same c e name same) ∙ ap (λ (o : Option Folder). contents_in o name) files

      here : (name : FileName) → IsThere c name → IsSome (get folder name)
      here name there = subst (λ (o : Option Bytes). IsSome o) (is_here name) (there (told_before Same c e same (ap (λ (o : Option Folder). is_some o) files)))

      stays : (name : FileName) → kept_with m wanted name ≡ true → IsThere a name → IsThere c name
      stays name is there = there_where a c (Deletes (kept_with m wanted)) name checked.deletes (contents_left a c (kept_with m wanted) name is checked.deletes) there

  -- no other file is there
  pub opened_exactly : (e : View) (opened : Opened) → opened.manifest ≡ m → Changes Same c e → HasExactlyBeside e nothing (opened_store opened)
  opened_exactly e opened manifest_is same = rw manifest_is (kept_now e same)

  -- the store can make changes
  pub opened_ready : (e : View) (opened : Opened) (state : ReplayState) → opened.manifest ≡ m → opened.tables.items ≡ state.tables → used_numbers opened.numbers ≡ used_in m.number m.listing → opened.greatest ≡ max time state.max_timestamp
      → opened.log.file ≡ log_name m.listing.last → IsTrue opened.log.usable → Changes Same c e → Reaches e (log_name m.listing.last) (opened.log.at + 1) → IsReplayOf m.listing state → CanChange e (opened_store opened)
  opened_ready e opened state manifest_is tables_are numbers_are greatest_is file_is log_usable same log_room is_replay = rw manifest_is (record {
    consistent = read.consistent;
    definitions = refl;
    tables = rw tables_are (tables_ready m.listing.partitioner m.listing.floor m.listing.last 1 m.listing.tables state.tables is_replay.maps);
    numbered = subst (AreNumbered m) (sym numbers_are) (record {
      manifest_is = refl;
      log_is = refl;
      files = consistent_in_order m.listing _ read.consistent (omega arith);
      indexes = indexes_numbered _ m.listing.tables read.consistent.indexes (omega arith);
      fits = data_fits m.listing.tables read.consistent.files;
    });
    timestamp = omega (arith, greatest_is, checked.tells.limit, is_replay.limit);
    log_file = file_is;
    manifest_room = reaches_where c e Same (manifest_name m.number) (m.at + 1) same (contents_same c e (manifest_name m.number) same)
        (manifest_room a c m.number m.listing wanted checked.deletes (m.at + 1) read.room);
    log_room = subst (λ (f : FileName). Reaches e f (opened.log.at + 1)) (sym file_is) log_room;
    manifest_usable = read.usable;
    log_usable = log_usable;
    stands = λ told. manifest_now e same told;
    aside = nothing;
    aside_are = none_aside _;
    exactly = kept_now e same;
  })
    where
      manifest_now : (e : View) → Changes Same c e → IsTold e → ManifestStands e m.number m.at m.listing
      manifest_now e same told =
          let told_a = told_before (Deletes (kept_with m wanted)) a c checked.deletes (told_before Same c e same told) in
          let folder = told_files a told_a in
          let bytes = bytes_there a folder.0 (manifest_name m.number) folder.1 read.there in
          manifest_stays c e m.number m.at m.listing (λ bytes. file_durable_same c e (manifest_name m.number) bytes same)
          (manifest_stands a c m.number m.listing wanted checked.deletes m.at (read.stands bytes.0 told_a (durable_kept a sound durable (manifest_name m.number) bytes.0 refl (reads_of a folder.0 (manifest_name m.number) bytes.0 folder.1 bytes.1))))

  -- what was read of the folder
  pub opened_opens : (e : View) (state : ReplayState) (folder : Folder) → a.files ≡ Some folder → IsSealed folder m.number → ReadsAll c m.listing state → Opens folder
  opened_opens e state folder files sealed all =
      let now = checked.deletes.seen folder files in
      let read_all = all now.0 now.1 in
      let bytes = bytes_there a folder (manifest_name m.number) files read.there in
      record {
        number = m.number;
        listing = m.listing;
        logs = read_all.logs;
        holds = record {
          sealed = sealed;
          manifest = (bytes.0, bytes.1, read.reads bytes.0 (reads_of a folder (manifest_name m.number) bytes.0 files bytes.1));
          live = read_all.count;
          segments = segments_kept now.0 folder (types_listed m.listing) m.listing.floor read_all.logs
              (λ segment above below. sym
              (unless_kept _ _ _ (keeps_segment m.number m.listing.floor m.listing.last wanted segment above (omega (arith, below, read_all.count)))
              (now.2 (log_name segment))))
              read_all.segments;
        };
        files = λ name is. (
            let has = in_list a names m wanted lists read listed name is in
            let file = bytes_there a folder name files (checked.there name has) in
            (file.0, file.1, checked.ends name has file.0 (reads_of a folder name file.0 files file.1))
            );
      }

-- ---- joins

pub any_then_same : (a b c : View) → Changes AnyFolderChange a b → Changes Same b c → Changes AnyFolderChange a c
any_then_same a b c first second = changes_on a b c AnyFolderChange Same AnyFolderChange first second (λ x y s. tt) (λ x y z s is. tt)

pub same_then_any : (a b c : View) → Changes Same a b → Changes AnyFolderChange b c → Changes AnyFolderChange a c
same_then_any a b c first second = changes_on a b c Same AnyFolderChange AnyFolderChange first second (λ x y is. tt) (λ x y z is s. tt)

-- the names of the files that a manifest lists
pub listed_files : (m : ManifestState) (listing : Listing) (items wanted : List FileName) → listing ≡ m.listing → wanted ≡ items → AreListedFiles listing items → AreListedFiles m.listing wanted
listed_files m listing items wanted listing_is wanted_is are = rw wanted_is (subst (λ (l : Listing). AreListedFiles l items) listing_is are)

-- a manifest that was opened, as the folder reads afterwards
pub manifest_is_read : (a b : View) (m : ManifestState) (number : ℕ) → IsSound a → IsSound b → IsFolderDurable a → Changes Same a b → m.number ≡ number → IsThere a (manifest_name number) → IsThere a (seal_name number) → ReadsListing a number m.listing
    → StandsWhereKept a b number m.at m.listing → IsConsistent m.listing → Reaches b (manifest_name number) (m.at + 1) → IsTrue m.usable → IsManifestRead b m
manifest_is_read a b m number sound_a sound durable same number_is there sealed reads stands known room usable = rw number_is (record {
  there = there_same a b same (manifest_name number) there;
  sealed = there_same a b same (seal_name number) sealed;
  reads = λ bytes is. reads bytes (sym (contents_same a b (manifest_name number) same) ∙ is);
  stands = λ bytes told kept. (
      let f = told_files b told in
      let reads_b : contents b (manifest_name number) ≡ Some bytes = ap (λ (o : Option Folder). contents_in o (manifest_name number)) f.1 ∙ kept f.0 (sound.reads f.0 f.1) in
      let reads_a : contents a (manifest_name number) ≡ Some bytes = sym (contents_same a b (manifest_name number) same) ∙ reads_b in
      stands bytes (told_before Same a b same told) (durable_kept a sound_a durable (manifest_name number) bytes refl reads_a)
      );
  consistent = known;
  room = room;
  usable = usable;
})

-- it reads the same after a call that leaves it
pub files_same : (a b : View) (folder : Folder) → Changes Same a b → a.files ≡ Some folder → b.files ≡ Some folder
files_same a b folder same files = let now = same.seen folder files in now.1 ∙ ap (λ (f : Folder). Some f) now.2

-- what is told of damage, by the number of the manifest
pub no_shape_damage : (f : ReadFault) → OnDamage (λ _. ⊥) f → OnOpenDamage (λ _. ⊥) (open_fault_of f)
no_shape_damage f none = open_damage (λ _. ⊥) f none

-- a manifest isn't damaged where a folder has its shape
pub shape_damage : (v : View) (folder : Folder) (l : Layout) (logs : List (List Mutation)) (number : ℕ) (f : ReadFault) → v.files ≡ Some folder → l.used.manifest ≡ number → HasShape folder l logs → NoFalseManifestDamage v number f → OnDamage (λ _. ⊥) f
shape_damage v folder l logs number read_fault.Failed files is has no_false = tt
shape_damage v folder l logs number read_fault.OutOfMemory files is has no_false = tt
shape_damage v folder l logs number (read_fault.Damaged damage) files is has no_false =
    let there : get folder (manifest_name number) ≡ Some has.manifest.0 = ap (λ n. get folder (manifest_name n)) (sym is) ∙ has.manifest.1 in
    no_false has.manifest.0 (listing_of l) (reads_of v folder (manifest_name number) has.manifest.0 files there) (subst (λ n. IsManifest n has.manifest.0 (listing_of l)) is has.manifest.2)

-- ---- a new folder

pub new_serves : (b c : View) (l new : Layout) (result : Result Opened OpenFault) → l ≡ new → IfOk result (λ opened. IsTold b → Each b IsFresh → Serves c (opened_store opened) new) → IsTold b → Each b IsFresh → IfOk result (λ opened. Serves c (opened_store opened) l)
new_serves b c l new (Ok opened) is serves told fresh = subst (Serves c (opened_store opened)) (sym is) (serves told fresh)
new_serves b c l new (Err f) is serves told fresh = tt

pub new_opens : (v : View) (names : List FileName) (folder : Folder) (result : Result Opened OpenFault) → Lists v names → v.files ≡ Some folder → OnOk result (All (λ name. is_initial name ≡ true) names) → OnOk result (CanOpen folder)
new_opens v names folder (Ok opened) lists files firsts = inl (firsts_fresh v names folder lists files firsts)
new_opens v names folder (Err f) lists files firsts = tt

pub new_moments : (a b c : View) (asked : Option Partitioner) (l : Layout) → l ≡ new_layout (unwrap_or asked Lead8) → Changes Same a b → Changes (IsFreshOrNew (unwrap_or asked Lead8)) b c → Changes (λ x y. (y ≡ x) ⊎ ShapeOf asked y l) a c
new_moments a b c asked l is first second =
    changes_on a b c Same (IsFreshOrNew (unwrap_or asked Lead8)) (λ x y. (y ≡ x) ⊎ ShapeOf asked y l) first second (λ x y same. inl same)
    (λ x y z same new. inr (⊎_elim (λ fresh. inl (fresh, is)) (λ shape. inr (subst (λ (k : Layout). IsOfShape k z) (sym is) shape)) new))

pub new_damage : (v : View) (folder : Folder) (names : List FileName) (files : v.files ≡ Some folder) (lists : Lists v names) (f : OpenFault) → IsHighestSeal names None → OnOpenDamage (ReportsForeign names) f → OnOpenDamage (FolderShows folder) f
new_damage v folder names files lists fault.Failed none foreign = tt
new_damage v folder names files lists fault.OutOfMemory none foreign = tt
new_damage v folder names files lists (fault.Damaged damage) none foreign = foreign_shown v folder files names lists (read_fault.Damaged damage) none foreign
new_damage v folder names files lists (fault.PartitionerDiffers asked kept) none foreign = tt
new_damage v folder names files lists (fault.AnalyzerMissing class) none foreign = tt

pub new_undamaged : (v : View) (folder : Folder) (f : OpenFault) → OnOpenDamage (λ _. NoFalseFreshDamage v) f → v.files ≡ Some folder → IsFresh folder → OnOpenDamage (λ _. ⊥) f
new_undamaged v folder fault.Failed no_false files fresh = tt
new_undamaged v folder fault.OutOfMemory no_false files fresh = tt
new_undamaged v folder (fault.Damaged damage) no_false files fresh = no_false folder files fresh
new_undamaged v folder (fault.PartitionerDiffers asked kept) no_false files fresh = tt
new_undamaged v folder (fault.AnalyzerMissing class) no_false files fresh = tt

pub never_differs : (P : Partitioner → Partitioner → Type 0) (f : OpenFault) → OnDiffers (λ wanted kept. ⊥) f → OnDiffers P f
never_differs P fault.Failed never = tt
never_differs P fault.OutOfMemory never = tt
never_differs P (fault.Damaged damage) never = tt
never_differs P (fault.PartitionerDiffers asked kept) never = absurd never
never_differs P (fault.AnalyzerMissing class) never = tt

-- ---- a sealed one

pub unsealed_keeps : (v : View) (names : List FileName) (folder : Folder) (kept : Partitioner) → Lists v names → v.files ≡ Some folder → IsHighestSeal names None → KeepsPartitioner folder kept → ⊥
unsealed_keeps v names folder kept lists files none keeps = none keeps.0 (held_is_listed v names folder (seal_name keeps.0) lists files keeps.1.there)

pub sealed_keeps : (v : View) (names : List FileName) (folder : Folder) (number : ℕ) (kept : Partitioner) → IsSealed folder number → KeepsPartitioner folder kept → KeepsUnder folder number kept
sealed_keeps v names folder number kept sealed keeps =
    let same : keeps.0 ≡ number = ⊎_elim
    (λ below. absurd (none_is_not (get folder (seal_name number)) (keeps.1.highest number below) sealed.there))
    (λ other. ⊎_elim (λ is. is) (λ above. absurd (none_is_not (get folder (seal_name keeps.0)) (sealed.highest keeps.0 above) keeps.1.there)) other)
    (below_or keeps.0 number) in
    subst (λ n. KeepsUnder folder n kept) same keeps.2

pub sealed_differs : (folder : Folder) (number : ℕ) (asked : Option Partitioner) (f : OpenFault) → IsSealed folder number → OnDiffers (λ wanted kept. (asked ≡ Some wanted) × KeepsUnder folder number kept × (wanted ≢ kept)) f
    → OnDiffers (λ wanted kept. (asked ≡ Some wanted) × KeepsPartitioner folder kept × (wanted ≢ kept)) f
sealed_differs folder number asked fault.Failed sealed differs = tt
sealed_differs folder number asked fault.OutOfMemory sealed differs = tt
sealed_differs folder number asked (fault.Damaged damage) sealed differs = tt
sealed_differs folder number asked (fault.PartitionerDiffers wanted kept) sealed differs = (differs.0, (number, sealed, differs.1), differs.2)
sealed_differs folder number asked (fault.AnalyzerMissing class) sealed differs = tt

-- a missing analyzer
pub never_missing : (P : Class → Type 0) (f : OpenFault) → OnMissing (λ class. ⊥) f → OnMissing P f
never_missing P fault.Failed never = tt
never_missing P fault.OutOfMemory never = tt
never_missing P (fault.Damaged damage) never = tt
never_missing P (fault.PartitionerDiffers asked kept) never = tt
never_missing P (fault.AnalyzerMissing class) never = absurd never

pub unsealed_lacks : (v : View) (names : List FileName) (folder : Folder) (kinds : List Class) (class : Class) → Lists v names → v.files ≡ Some folder → IsHighestSeal names None → LacksClass kinds folder class → ⊥
unsealed_lacks v names folder kinds class lists files none lacks = none lacks.0 (held_is_listed v names folder (seal_name lacks.0) lists files lacks.1.there)

pub sealed_lacks : (folder : Folder) (number : ℕ) (kinds : List Class) (class : Class) → IsSealed folder number → LacksClass kinds folder class → LacksUnder kinds folder number class
sealed_lacks folder number kinds class sealed lacks =
    let same : lacks.0 ≡ number = ⊎_elim
    (λ below. absurd (none_is_not (get folder (seal_name number)) (lacks.1.highest number below) sealed.there))
    (λ other. ⊎_elim (λ is. is) (λ above. absurd (none_is_not (get folder (seal_name lacks.0)) (sealed.highest lacks.0 above) lacks.1.there)) other)
    (below_or lacks.0 number) in
    subst (λ n. LacksUnder kinds folder n class) same lacks.2

pub sealed_missing : (folder : Folder) (number : ℕ) (kinds : List Class) (f : OpenFault) → IsSealed folder number → OnMissing (LacksUnder kinds folder number) f → OnMissing (LacksClass kinds folder) f
sealed_missing folder number kinds fault.Failed sealed lacks = tt
sealed_missing folder number kinds fault.OutOfMemory sealed lacks = tt
sealed_missing folder number kinds (fault.Damaged damage) sealed lacks = tt
sealed_missing folder number kinds (fault.PartitionerDiffers asked kept) sealed lacks = tt
sealed_missing folder number kinds (fault.AnalyzerMissing class) sealed lacks = (number, sealed, lacks)

pub sealed_damage : (folder : Folder) (number : ℕ) (f : OpenFault) → IsSealed folder number → OnOpenDamage (ShowsManifestOrListed folder number) f → OnOpenDamage (FolderShows folder) f
sealed_damage folder number fault.Failed sealed shows = tt
sealed_damage folder number fault.OutOfMemory sealed shows = tt
sealed_damage folder number (fault.Damaged damage) sealed shows = inr (record { number = number; sealed = sealed; shows = shows })
sealed_damage folder number (fault.PartitionerDiffers asked kept) sealed shows = tt
sealed_damage folder number (fault.AnalyzerMissing class) sealed shows = tt

pub sealed_opens : (folder : Folder) (result : Result Opened OpenFault) → OnOk result (Opens folder) → OnOk result (CanOpen folder)
sealed_opens folder (Ok opened) opens = inr opens
sealed_opens folder (Err f) opens = tt

pub sealed_moments : (a b c : View) (asked : Option Partitioner) (l : Layout) (logs : List (List Mutation)) → Changes Same a b → Changes (λ x y. (y ≡ x) ⊎ HasShape y l logs) b c → Changes (λ x y. (y ≡ x) ⊎ ShapeOf asked y l) a c
sealed_moments a b c asked l logs first second =
    changes_on a b c Same (λ x y. (y ≡ x) ⊎ HasShape y l logs) (λ x y. (y ≡ x) ⊎ ShapeOf asked y l) first second (λ x y same. inl same)
    (λ x y z same step. ⊎_elim (λ is. inl (is ∙ same)) (λ shape. inr (inr (logs, shape))) step)

pub moments_on : (a b c : View) (l : Layout) (logs : List (List Mutation)) → Changes Same a b → Changes (λ x y. (y ≡ x) ⊎ HasShape y l logs) b c → Changes (λ x y. (y ≡ x) ⊎ HasShape y l logs) a c
moments_on a b c l logs first second =
    changes_on a b c Same (λ x y. (y ≡ x) ⊎ HasShape y l logs) (λ x y. (y ≡ x) ⊎ HasShape y l logs) first second (λ x y same. inl same)
    (λ x y z same step. ⊎_elim (λ is. inl (is ∙ same)) (λ shape. inr shape) step)

pub same_moments_of : (a b : View) (asked : Option Partitioner) (l : Layout) → Changes Same a b → Changes (λ x y. (y ≡ x) ⊎ ShapeOf asked y l) a b
same_moments_of a b asked l same = changes_as a b Same (λ x y. (y ≡ x) ⊎ ShapeOf asked y l) same (λ x y is. inl is)
