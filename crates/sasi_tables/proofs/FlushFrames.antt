-- What each stage of a flush leaves as it is.
use Rattle.std.specs.Prelude.{◌≡◌, ◌≢◌, ◌||◌, ◌≤◌, ℕ, suc, false, List}
use Rattle.std.proofs.Common.{sym, ap, subst, ◌∙◌, arith}
use Rattle.std.specs.FinMap.{get}
use Rattle.std.proofs.lemmas.Bool.Decides.{nat_tests}
use Rattle.sasi_host.specs.declared.name.FileName.{FileName}
use Rattle.sasi_host.specs.Names.{Bytes, Folder, log_name, manifest_name, name_eq, rank, seal_name}
use Rattle.sasi_host.specs.View.{View}
use Rattle.sasi_host.specs.Disk.{AnyChange, Changes, FileChange, IsFileDurable, Relation, Same}
use Rattle.sasi_host.proofs.ChangeLaws.{changes_as, changes_on, stays}
use Rattle.sasi_gated.specs.Handles.{IsAtEnd}
use Rattle.sasi_gated.proofs.HandleLaws.{end_stays}
use Rattle.sasi_manifest.specs.declared.files.ListedFile.{ListedFile}
use Rattle.sasi_manifest.specs.declared.files.PartNumber.{PartNumber}
use Rattle.sasi_manifest.specs.declared.listing.Listing.{Listing}
use Rattle.sasi_manifest.specs.OpenManifest.{ManifestState, ManifestStands}
use Rattle.sasi_manifest.proofs.Laws.{manifest_stays}
use Rattle.sasi_folder.proofs.FolderLaws.{kinds_apart, numbers_apart}
use Rattle.sasi_layout.specs.Layout.{Layout, bare}
use Rattle.sasi_layout.specs.Flushed.{flush_makes}
use Rattle.sasi_manifest.specs.ListedFiles.{is_name_of}
use Rattle.sasi_layout.specs.Frames.{AgreeOn, OthersSame}
use Rattle.sasi_layout.specs.NumbersInOrder.{HasNumbersInOrder}
use Rattle.sasi_layout.proofs.Agreeing.{agree_deleted, tables_others}
use Rattle.sasi_layout.proofs.FileNameLaws.{kind_unnamed, number_unnamed}
use Rattle.sasi_tables.specs.declared.flush.FlushNumbers.{FlushNumbers}
use Rattle.sasi_tables.specs.Flushing.{ChangesInFlush, DeletesSegments, MakesFiles, file_of}

-- ---- what each image has of a file

durable_kept : (a b : View) (S : Relation) (file : FileName) (bytes : Bytes) → ((x y : Folder) → S x y → get y file ≡ get x file) → Changes S a b → IsFileDurable a file bytes → IsFileDurable b file bytes
durable_kept a b S file bytes keeps change kept y now = let was = change.image y now in keeps was.0 y was.2 ∙ kept was.0 was.1

-- the end of a gated file stays, where its bytes do
pub end_kept : (a b : View) (S : Relation) (file : FileName) (at : ℕ) (records : List Bytes) → ((x y : Folder) → S x y → get y file ≡ get x file) → Changes S a b
    → IsAtEnd a file at records → IsAtEnd b file at records
end_kept a b S file at records keeps change = end_stays a b file at records (λ bytes. durable_kept a b S file bytes keeps change)

pub stands_kept : (a b : View) (S : Relation) (number at : ℕ) (listing : Listing) → ((x y : Folder) → S x y → get y (manifest_name number) ≡ get x (manifest_name number)) → Changes S a b
    → ManifestStands a number at listing → ManifestStands b number at listing
stands_kept a b S number at listing keeps change = manifest_stays a b number at listing (λ bytes. durable_kept a b S (manifest_name number) bytes keeps change)

-- ---- the new files

-- a name that is neither the new segment nor one of the new file's
pub unmade : (f : ListedFile) (last : ℕ) (name : FileName) → name_eq name (log_name last) ≡ false → is_name_of f name ≡ false → flush_makes f last name ≡ false
unmade f last name no_log no_file = ap (λ b. b || is_name_of f name) no_log ∙ no_file

module _ (n : FlushNumbers) (parts : List PartNumber) (x y : Folder) (made : MakesFiles n parts x y) where
  pub manifest_unmade : (number : ℕ) → get y (manifest_name number) ≡ get x (manifest_name number)
  manifest_unmade number = made (manifest_name number) (kind_unnamed (manifest_name number) (file_of n parts) (omega arith))

  pub segment_unmade : (segment : ℕ) → segment ≢ n.last → get y (log_name segment) ≡ get x (log_name segment)
  segment_unmade segment apart = made (log_name segment) (unmade (file_of n parts) n.last (log_name segment) (grind (arith, nat_tests, apart)) (kind_unnamed (log_name segment) (file_of n parts) (omega arith)))

  others_unmade : OthersSame x y n.file
  others_unmade name kind apart = made name (unmade (file_of n parts) n.last name (grind (arith, nat_tests, kind)) (number_unnamed name (file_of n parts) apart))

  -- nothing that the layout lists changes while they are made
  pub agree_made : (l : Layout) → HasNumbersInOrder l → n.file ≡ suc l.used.«data» → n.last ≡ suc l.last → AgreeOn (bare l) x y
  agree_made l in_order file last = record {
    seals = λ other. made (seal_name other) (kind_unnamed (seal_name other) (file_of n parts) (omega arith));
    manifest = manifest_unmade l.used.manifest;
    logs = λ segment above below. segment_unmade segment (λ same. omega (arith, last, below, same));
    files = tables_others l x y in_order (subst (OthersSame x y) file others_unmade);
  }

-- ---- the segments that are deleted

-- nothing that the layout lists changes while segments below its floor are deleted
pub agree_dropped : (l : Layout) (first floor : ℕ) (x y : Folder) → floor ≡ l.floor → DeletesSegments first floor x y → AgreeOn (bare l) x y
agree_dropped l first floor x y is step = agree_deleted l x y (λ name other. step name (λ segment above below. other segment (omega (arith, is, below))))

pub manifest_undeleted : (first floor number : ℕ) (x y : Folder) → DeletesSegments first floor x y → get y (manifest_name number) ≡ get x (manifest_name number)
manifest_undeleted first floor number x y step = step (manifest_name number) (λ segment above below. kinds_apart _ _ (omega arith))

pub file_undeleted : (first floor : ℕ) (name : FileName) → 3 ≤ rank name.kind → (x y : Folder) → DeletesSegments first floor x y → get y name ≡ get x name
file_undeleted first floor name kind x y step = step name (λ segment above below. kinds_apart _ _ (omega (arith, kind)))

pub log_undeleted : (first floor number : ℕ) → floor ≤ number → (x y : Folder) → DeletesSegments first floor x y → get y (log_name number) ≡ get x (log_name number)
log_undeleted first floor number le x y step = step (log_name number) (λ segment above below. numbers_apart _ _ (omega (arith, le, below)))

-- ---- the manifest

-- a manifest that stands before a flush stands after it, where the append of its record keeps that
pub stands_on : (n : FlushNumbers) (parts : List PartNumber) (first : ℕ) (a b c d : View) (manifest new : ManifestState) → new.number ≡ manifest.number → Changes (MakesFiles n parts) a b
    → (ManifestStands b manifest.number manifest.at manifest.listing → ManifestStands c manifest.number new.at new.listing) → Changes (DeletesSegments first n.floor) c d
    → ManifestStands a manifest.number manifest.at manifest.listing → ManifestStands d new.number new.at new.listing
stands_on n parts first a b c d manifest new number made appended deleted stands =
    subst (λ k. ManifestStands d k new.at new.listing) (sym number)
    (stands_kept c d (DeletesSegments first n.floor) manifest.number new.at new.listing (λ x y step. manifest_undeleted first n.floor manifest.number x y step) deleted
    (appended (stands_kept a b (MakesFiles n parts) manifest.number manifest.at manifest.listing (λ x y step. manifest_unmade n parts x y step manifest.number) made stands)))

-- ---- the changes of a flush

module _ (manifest first : ℕ) (n : FlushNumbers) (parts : List PartNumber) where
  pub in_flush_none : (v : View) → Changes (ChangesInFlush manifest first n parts) v v
  in_flush_none v = changes_as v v Same (ChangesInFlush manifest first n parts) (stays v) (λ x y same name made m o. ap (λ (f : Folder). get f name) same)

  pub in_flush_made : (a b : View) → Changes (MakesFiles n parts) a b → Changes (ChangesInFlush manifest first n parts) a b
  in_flush_made a b made = changes_as a b (MakesFiles n parts) (ChangesInFlush manifest first n parts) made (λ x y step name unmade m o. step name unmade)

  pub in_flush_listed : (a b c : View) → Changes (MakesFiles n parts) a b → Changes (FileChange (manifest_name manifest) AnyChange) b c → Changes (ChangesInFlush manifest first n parts) a c
  in_flush_listed a b c made listed =
      changes_on a b c (MakesFiles n parts) (FileChange (manifest_name manifest) AnyChange) (ChangesInFlush manifest first n parts) made listed (λ x y step name unmade m o. step name unmade)
      (λ x y z made_one listed_one name unmade m o. listed_one.others name m ∙ made_one name unmade)

  pub in_flush_deleted : (a c d : View) (floor : ℕ) → floor ≡ first → Changes (ChangesInFlush manifest first n parts) a c → Changes (DeletesSegments floor n.floor) c d → Changes (ChangesInFlush manifest first n parts) a d
  in_flush_deleted a c d floor is listed deletes =
      let deleted = subst (λ f. Changes (DeletesSegments f n.floor) c d) is deletes in
      changes_on a c d (ChangesInFlush manifest first n parts) (DeletesSegments first n.floor) (ChangesInFlush manifest first n parts) listed deleted (λ x y step. step)
      (λ x y z listed_one deleted_one name unmade m o. deleted_one name o ∙ listed_one name unmade m o)
