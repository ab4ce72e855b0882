-- A folder that holds a store, and what is read of it and deleted from it.
use Rattle.std.proofs.Common.{◌≡◌, ◌⊎◌, ℕ, zero, suc, ◌+◌, ◌≤◌, ◌<◌, Bool, true, List, [], ◌∷◌, length, Contains, Option, None, Some, IsSome, is_some, refl, sym, ◌∙◌, ap, subst, inl, inr, ⊎_elim, arith}
use Rattle.std.specs.FinMap.{get}
use Rattle.sasi_host.specs.declared.damage.Damage.{Damage}
use Rattle.sasi_host.specs.declared.name.FileName.{FileName}
use Rattle.sasi_host.specs.Names.{Bytes, Folder, log_name, manifest_name}
use Rattle.sasi_host.specs.View.{View, IsSound, IsThere, Reaches, contents, contents_in}
use Rattle.sasi_host.specs.Disk.{Changes, Lists, Same, Each}
use Rattle.sasi_host.proofs.ContentLaws.{contents_kept, reaches_where, there_where, told_files}
use Rattle.sasi_host.proofs.ChangeLaws.{at_each_moment, changes_as, changes_on}
use Rattle.sasi_cells.specs.declared.mutation.Mutation.{Mutation}
use Rattle.sasi_commitlog.specs.Format.{Tables}
use Rattle.sasi_manifest.specs.declared.listing.Listing.{Listing}
use Rattle.sasi_manifest.specs.Format.{IsManifest}
use Rattle.sasi_manifest.proofs.Laws.{manifest_same, manifest_stays}
use Rattle.sasi_manifest.specs.Reading.{ReadsListing}
use Rattle.sasi_manifest.specs.OpenManifest.{ManifestStands}
use Rattle.sasi_folder.specs.FolderContents.{FolderHolds, HasSegments, types_listed}
use Rattle.sasi_recover.specs.declared.unlisted_files.Keep.TheVariants.{Store}
use Rattle.sasi_recover.specs.Deletion.{DeletedUnless, Deletes, keeps}
use Rattle.sasi_recover.specs.Replaying.{LiveSegmentsExist}
use Rattle.sasi_recover.specs.SealedFolder.{ReportsMissing, ReportsMissingSegment}
use Rattle.sasi_recover.proofs.DeletedFiles.{deletes_kept, keeps_manifest, keeps_segment, unless_same}
use Rattle.sasi_recover.proofs.SyncedFolder.{there_same}

-- ---- names

-- a listed name is there, and one that is there is listed
pub listed_is_there : (v : View) (names : List FileName) (name : FileName) → Lists v names → Contains names name → IsThere v name
listed_is_there v names name lists has told = (lists told name).0 has

pub held_is_listed : (v : View) (names : List FileName) (folder : Folder) (name : FileName) → Lists v names → v.files ≡ Some folder
    → IsSome (get folder name) → Contains names name
held_is_listed v names folder name lists files has =
    (lists (ap (λ (o : Option Folder). is_some o) files) name).1 (subst (λ (o : Option Folder). IsSome (contents_in o name)) (sym files) has)

-- ---- what a folder that holds a store has

pub reads_of : (v : View) (folder : Folder) (name : FileName) (bytes : Bytes) → v.files ≡ Some folder → get folder name ≡ Some bytes
    → contents v name ≡ Some bytes
reads_of v folder name bytes files has = ap (λ (o : Option Folder). contents_in o name) files ∙ has

some_of : (o : Option Bytes) → IsSome o → (bytes : Bytes) × (o ≡ Some bytes)
some_of None is = cc
some_of (Some bytes) is = (bytes, refl)

pub none_where : (o : Option Bytes) → (IsSome o → ⊥) → o ≡ None
none_where None never = refl
none_where (Some bytes) never = absurd (never refl)

-- a file that is there has bytes
pub bytes_there : (v : View) (folder : Folder) (name : FileName) → v.files ≡ Some folder → IsThere v name → (bytes : Bytes)
    × (get folder name ≡ Some bytes)
bytes_there v folder name files there =
    let is : IsSome (contents_in (Some folder) name) = subst (λ (o : Option Folder). IsSome (contents_in o name)) files
    (there (ap (λ (o : Option Folder). is_some o) files)) in
    some_of (get folder name) is

here_or_later : (n s : ℕ) → n ≤ s → (n ≡ s) ⊎ (suc n ≤ s)
here_or_later zero zero le = inl refl
here_or_later zero (suc s) le = inr (omega arith)
here_or_later (suc n) zero le = absurd (omega (arith, le))
here_or_later (suc n) (suc s) le = ⊎_elim (λ same. inl (ap (λ k. suc k) same)) (λ later. inr (omega (arith, later)))
    (here_or_later n s (omega (arith, le)))

segment_there : (x : Folder) (tables : Tables) (number segment : ℕ) (logs : List (List Mutation)) → HasSegments x tables number logs
    → number ≤ segment → segment < number + length logs → IsSome (get x (log_name segment))
segment_there x tables number segment [] has above below = absurd (omega (arith, above, below))
segment_there x tables number segment (ms ∷ logs) has above below = ⊎_elim
    (λ same. subst (λ n. IsSome (get x (log_name n))) same (ap (λ (o : Option Bytes). is_some o) has.0.1))
    (λ later. segment_there x tables (suc number) segment logs has.1 later (omega (arith, below)))
    (here_or_later number segment above)

-- what is read of its manifest is what it lists
pub listed_same : (v : View) (folder : Folder) (number : ℕ) (listing read : Listing) (logs : List (List Mutation)) → v.files ≡ Some folder
    → FolderHolds folder number listing logs → ReadsListing v number read → read ≡ listing
listed_same v folder number listing read logs files holds reads =
    manifest_same number holds.manifest.0 read listing
    (reads holds.manifest.0 (reads_of v folder (manifest_name number) holds.manifest.0 files holds.manifest.1)) holds.manifest.2

module _ (v : View) (names : List FileName) (number : ℕ) (lists : Lists v names) (folder : Folder) (listing : Listing)
    (logs : List (List Mutation)) (files : v.files ≡ Some folder) (holds : FolderHolds folder number listing logs) where
  pub segments_listed : (read : Listing) (damage : Damage) → ReadsListing v number read → ReportsMissingSegment names read.floor read.last damage → ⊥
  segments_listed read damage reads tells =
      let same : read ≡ listing = listed_same v folder number listing read logs files holds reads in
      let told : ReportsMissingSegment names listing.floor listing.last damage = subst (λ (l : Listing). ReportsMissingSegment names l.floor l.last damage)
      same tells in
      told.missing.absent
      (held_is_listed v names folder (log_name told.segment) lists files
      (segment_there folder (types_listed listing) listing.floor told.segment logs holds.segments told.above
      (omega (arith, told.below, holds.live))))

-- a manifest that isn't among the names isn't there
pub missing_manifest : (v : View) (names : List FileName) (number : ℕ) → Lists v names → (damage : Damage) → ReportsMissing names (manifest_name number) damage
    → (bytes : Bytes) (listing : Listing) → contents v (manifest_name number) ≡ Some bytes → IsManifest number bytes listing → ⊥
missing_manifest v names number lists damage tells bytes listing is lists_it = tells.absent ((lists (told v.files bytes is) (manifest_name number)).1 (ap (λ (o : Option Bytes). is_some o) is))
  where
    told : (o : Option Folder) (bytes : Bytes) → contents_in o (manifest_name number) ≡ Some bytes → IsSome o
    told None bytes is = cc
    told (Some f) bytes is = refl

-- ---- segments in order

pub one_more_listed : (names : List FileName) (floor segment : ℕ) (file : FileName) → file ≡ log_name segment
    → ((number : ℕ) → floor ≤ number → number < segment → Contains names (log_name number)) → Contains names file → (number : ℕ)
    → floor ≤ number → number < segment + 1 → Contains names (log_name number)
one_more_listed names floor segment file is before has number above below = ⊎_elim
    (λ same. subst (Contains names) (is ∙ ap log_name (sym same)) has)
    (λ earlier. before number above earlier)
    (here_or_later number segment (omega (arith, below)))

-- ---- what stays of it

same_deletes : (kept : FileName → Bool) (x y : Folder) → Same x y → Deletes kept x y
same_deletes kept x y same name = unless_same (kept name) (get x name) (get y name) (ap (λ (f : Folder). get f name) same)

pub read_deletes : (a b : View) (kept : FileName → Bool) → Changes Same a b → Changes (Deletes kept) a b
read_deletes a b kept change = changes_as a b Same (Deletes kept) change (same_deletes kept)

-- what is read first, and then deleted
pub then_deletes : (a b c : View) (kept : FileName → Bool) → Changes Same a b → Changes (Deletes kept) b c → Changes (Deletes kept) a c
then_deletes a b c kept first second = changes_on a b c Same (Deletes kept) (Deletes kept) first second (same_deletes kept)
    (λ x y z same deletes. subst (λ w. Deletes kept w z) same deletes)

-- what a file reads stays, where it isn't among those that are deleted
pub contents_left : (a b : View) (kept : FileName → Bool) (name : FileName) → kept name ≡ true → Changes (Deletes kept) a b
    → contents b name ≡ contents a name
contents_left a b kept name is change = contents_kept a b (Deletes kept) name
    (λ x y deletes. subst (λ (k : Bool). DeletedUnless k (get x name) (get y name)) is (deletes name)) change

module _ (a b : View) (number : ℕ) (listing : Listing) (wanted : List FileName) (change : Changes (Deletes (keeps (Store number listing.floor listing.last) wanted)) a b) where
  pub manifest_room : (at : ℕ) → Reaches a (manifest_name number) at → Reaches b (manifest_name number) at
  manifest_room at reaches =
      reaches_where a b (Deletes (keeps (Store number listing.floor listing.last) wanted)) (manifest_name number) at change
      (contents_left a b (keeps (Store number listing.floor listing.last) wanted) (manifest_name number)
      (keeps_manifest number listing.floor listing.last wanted) change) reaches

  pub manifest_stands : (at : ℕ) → ManifestStands a number at listing → ManifestStands b number at listing
  manifest_stands at = manifest_stays a b number at listing
      (λ bytes. deletes_kept a b (keeps (Store number listing.floor listing.last) wanted) (manifest_name number) bytes (keeps_manifest number listing.floor listing.last wanted) change)

  pub segments_live : LiveSegmentsExist a listing → LiveSegmentsExist b listing
  segments_live live segment above below =
      there_where a b (Deletes (keeps (Store number listing.floor listing.last) wanted)) (log_name segment) change
      (contents_left a b (keeps (Store number listing.floor listing.last) wanted) (log_name segment)
      (keeps_segment number listing.floor listing.last wanted segment above below) change) (live segment above below)

-- ---- moments

holds_stay : (number : ℕ) (listing : Listing) (logs : List (List Mutation)) (x y : Folder) → Same x y → FolderHolds x number listing logs
    → FolderHolds y number listing logs
holds_stay number listing logs x y same holds = subst (λ (f : Folder). FolderHolds f number listing logs) (sym same) holds

pub read_moments : (a b : View) (number : ℕ) (listing : Listing) (logs : List (List Mutation)) → IsSound a → Changes Same a b
    → Each a (λ x. FolderHolds x number listing logs) → Changes (λ x y. FolderHolds y number listing logs) a b
read_moments a b number listing logs sound change each = at_each_moment a b Same (λ x. FolderHolds x number listing logs)
    (λ y. FolderHolds y number listing logs) sound change each (λ x y holds same. holds_stay number listing logs x y same holds)

-- each image of a folder that was read holds what was read
pub read_holds : (a : View) (number : ℕ) (listing read : Listing) (logs : List (List Mutation)) → IsSound a → ReadsListing a number read
    → Each a (λ x. FolderHolds x number listing logs) → (x : Folder) → a.image x → read ≡ listing
read_holds a number listing read logs sound reads each x now =
    let files = told_files a (sound.told x now) in
    listed_same a files.0 number listing read logs files.1 (each files.0 (sound.reads files.0 files.1)) reads

pub live_same : (a b : View) (names : List FileName) (listing : Listing) → Lists a names → Changes Same a b
    → ((segment : ℕ) → listing.floor ≤ segment → segment ≤ listing.last → Contains names (log_name segment)) → LiveSegmentsExist b listing
live_same a b names listing lists same all segment above below = there_same a b same (log_name segment)
    (listed_is_there a names (log_name segment) lists (all segment above below))
