-- Files that are synced, over calls that leave the folder as it is.
use Rattle.std.proofs.Common.{◌≡◌, ℕ, ◌+◌, ◌<◌, List, length, take, get_or, All, Contains, ◌↔◌, Some, IsSome, is_some, Option, None, true, false, refl, arith, sym, ◌∙◌, ap, subst}
use Rattle.std.proofs.lemmas.List.Elements.{All-more, All-weaker, All-contains, All-contains_itself}
use Rattle.std.specs.FinMap.{get}
use Rattle.sasi_host.specs.declared.name.FileName.{FileName}
use Rattle.sasi_host.specs.Names.{Bytes, Folder, log_name, manifest_name, seal_name}
use Rattle.sasi_host.specs.View.{View, IsSound, IsThere, contents, contents_in}
use Rattle.sasi_host.specs.Disk.{Changes, IsFolderSynced, IsFileDurable, IsSynced, Lists, Same, Each}
use Rattle.sasi_host.proofs.ContentLaws.{contents_same, there_where, told_before}
use Rattle.sasi_cells.specs.declared.mutation.Mutation.{Mutation}
use Rattle.sasi_manifest.specs.declared.listing.Listing.{Listing}
use Rattle.sasi_folder.proofs.FolderLaws.{segments_kept}
use Rattle.sasi_folder.specs.FolderContents.{FolderHolds, IsFresh, types_listed}
use Rattle.sasi_recover.specs.Opening.{IsRecordSynced, IsFolderDurable, KeepsStore, has_records}

some_of : (o : Option Bytes) → is_some o ≡ true → (b : Bytes) × (o ≡ Some b)
some_of None is = cc
some_of (Some b) is = (b, refl)

none_of : (o : Option Bytes) → is_some o ≡ false → o ≡ None
none_of None is = refl
none_of (Some b) is = cc

-- ---- where the folder is left as it is

module _ (a b : View) (same : Changes Same a b) where
  pub there_same : (name : FileName) → IsThere a name → IsThere b name
  there_same name there = there_where a b Same name same (contents_same a b name same) there

  pub synced_same : (name : FileName) → IsSynced a name → IsSynced b name
  synced_same name synced x left read now reads has =
      let was = same.image x now in
      synced x left read (subst a.image (sym was.2) was.1) (sym (contents_same a b name same) ∙ reads) has

  pub record_same : (name : FileName) → IsRecordSynced a name → IsRecordSynced b name
  record_same name synced is = synced_same name (synced is)

  pub folder_same : IsFolderSynced a → IsFolderSynced b
  folder_same synced x name told now =
      let was = same.image x now in
      synced x name (told_before Same a b same told) (subst a.image (sym was.2) was.1)
      ∙ ap (λ (o : Option Bytes). is_some o) (sym (contents_same a b name same))

  -- **What is durable stays durable where the folder doesn't change.**
  pub durable_same : IsFolderDurable a → IsFolderDurable b
  durable_same folder_durable = record { names = folder_same folder_durable.names; records = λ name. record_same name (folder_durable.records name) }

  pub lists_same : (names : List FileName) → Lists a names → Lists b names
  lists_same names lists told name = subst (λ (o : Option Bytes). Contains names name ↔ IsSome o) (sym (contents_same a b name same))
      (lists (told_before Same a b same told) name)

  -- one more name
  pub synced_more : (names : List FileName) (i : ℕ) (d : FileName) → i < length names → All (IsRecordSynced a) (take i names)
      → IsRecordSynced b (get_or names i d) → All (IsRecordSynced b) (take (i + 1) names)
  synced_more names i d within done one = All-more (IsRecordSynced b) names i d within
      (All-weaker (IsRecordSynced a) (IsRecordSynced b) record_same (take i names) done) one

-- the listed names are there
pub listed_there : (v : View) (names : List FileName) → Lists v names → All (IsThere v) names
listed_there v names lists k d within told = (lists told (get_or names k d)).0 (All-contains_itself names k d within)

-- all records are synced, where the listed ones are
pub listed_durable : (v : View) (names : List FileName) → IsSound v → Lists v names → IsFolderSynced v → All (IsRecordSynced v) names → IsFolderDurable v
listed_durable v names sound lists folder all = record {
  names = folder;
  records = λ name is x left read now reads has. (
      let there : IsSome (contents v name) = ap (λ (o : Option Bytes). is_some o) reads in
      All-contains (IsRecordSynced v) names name all ((lists (sound.told x now) name).1 there) is x left read now reads has
      );
}

-- ---- what each image has then

module _ (v : View) (sound : IsSound v) (folder_durable : IsFolderDurable v) where
  -- a manifest or a segment that is there is in each image
  pub durable_kept : (name : FileName) (bytes : Bytes) → has_records name.kind ≡ true → contents v name ≡ Some bytes → IsFileDurable v name bytes
  durable_kept name bytes is reads x now =
      let there = some_of (get x name) (folder_durable.names x name (sound.told x now) now ∙ ap (λ (o : Option Bytes). is_some o) reads) in
      there.1 ∙ ap (λ (b : Bytes). Some b) (folder_durable.records name is x there.0 bytes now reads there.1)

  module _ (f : Folder) (files : v.files ≡ Some f) (x : Folder) (now : v.image x) where
    reads : (name : FileName) → contents v name ≡ get f name
    reads name = ap (λ (o : Option Folder). contents_in o name) files

    -- each name is in it, if it is in the folder
    pub durable_name : (name : FileName) → is_some (get x name) ≡ is_some (get f name)
    durable_name name = folder_durable.names x name (sound.told x now) now ∙ ap (λ (o : Option Bytes). is_some o) (reads name)

    pub durable_none : (name : FileName) → get f name ≡ None → get x name ≡ None
    durable_none name none = none_of (get x name) (durable_name name ∙ ap (λ (o : Option Bytes). is_some o) none)

    -- and manifests and segments are alike
    pub durable_record : (name : FileName) → has_records name.kind ≡ true → get x name ≡ get f name
    durable_record name is = from (get f name) refl
      where
        from : (o : Option Bytes) → get f name ≡ o → get x name ≡ get f name
        from None none = durable_none name none ∙ sym none
        from (Some bytes) has = durable_kept name bytes is (reads name ∙ has) x now ∙ sym has

    -- so what a store has there stays
    pub durable_store : (number floor last : ℕ) → KeepsStore number floor last f x
    durable_store number floor last = record {
      seal = durable_name (seal_name number);
      higher = λ other above. durable_none (seal_name other);
      manifest = durable_record (manifest_name number) refl;
      logs = λ segment above below. durable_record (log_name segment) refl;
    }

-- ---- what a folder holds, where it keeps what the store has there

pub holds_where_kept : (x y : Folder) (number : ℕ) (listing : Listing) (logs : List (List Mutation))
    → KeepsStore number listing.floor listing.last x y → FolderHolds x number listing logs → FolderHolds y number listing logs
holds_where_kept x y number listing logs keeps holds = record {
  sealed = record { there = keeps.seal ∙ holds.sealed.there; highest = λ other above. keeps.higher other above (holds.sealed.highest other above) };
  manifest = (holds.manifest.0, keeps.manifest ∙ holds.manifest.1, holds.manifest.2);
  live = holds.live;
  segments = segments_kept x y (types_listed listing) listing.floor logs
      (λ segment above below. keeps.logs segment above (omega (arith, below, holds.live))) holds.segments;
}

-- **Each image of a durable folder holds what the folder holds as it reads.**
pub durable_holds : (v : View) (f : Folder) (number : ℕ) (listing : Listing) (logs : List (List Mutation)) → IsSound v → IsFolderDurable v
    → v.files ≡ Some f → FolderHolds f number listing logs → Each v (λ x. FolderHolds x number listing logs)
durable_holds v f number listing logs sound folder_durable files holds x now = holds_where_kept f x number listing logs
    (durable_store v sound folder_durable f files x now number listing.floor listing.last) holds

-- **Each image of a durable new folder is new.**
pub durable_fresh : (v : View) (f : Folder) → IsSound v → IsFolderDurable v → v.files ≡ Some f → IsFresh f → Each v IsFresh
durable_fresh v f sound folder_durable files fresh x now name other another = durable_none v sound folder_durable f files x now name (fresh name other another)
