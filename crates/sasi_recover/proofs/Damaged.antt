-- What is told of a damaged folder stands in it.
use Rattle.std.proofs.Common.{◌≡◌, ℕ, List, Option, Some, None, is_some, refl, sym, ◌∙◌, ap, inl, inr}
use Rattle.std.specs.FinMap.{get}
use Rattle.sasi_host.specs.declared.damage.Damage.{Damage}
use Rattle.sasi_host.specs.declared.fault.ReadFault.{ReadFault}
use Rattle.sasi_host.specs.declared.fault.ReadFault.TheVariants.{Damaged, Failed, OutOfMemory}
use Rattle.sasi_host.specs.declared.name.FileName.{FileName}
use Rattle.sasi_host.specs.Damages.{OnDamage}
use Rattle.sasi_host.specs.Names.{Bytes, Folder, log_name, manifest_name, seal_name}
use Rattle.sasi_host.specs.View.{View, IsThere}
use Rattle.sasi_host.specs.Disk.{Changes, Lists}
use Rattle.sasi_manifest.specs.declared.listing.Listing.{Listing}
use Rattle.sasi_manifest.specs.Damages.{IsManifestDamage}
use Rattle.sasi_manifest.specs.Reading.{ReadsListing}
use Rattle.sasi_folder.specs.Damages.{FolderShows, ShowsManifestOrListed, ShowsMissing, broken_log, broken_manifest, no_manifest}
use Rattle.sasi_folder.specs.FolderContents.{IsSealed}
use Rattle.sasi_recover.specs.declared.unlisted_files.Keep.TheVariants.{Store as KeepStore}
use Rattle.sasi_recover.specs.Deletion.{Deletes, keeps}
use Rattle.sasi_recover.specs.NewFolder.{ReportsForeign}
use Rattle.sasi_recover.specs.Opening.{IsHighestSeal}
use Rattle.sasi_recover.specs.Replaying.{LiveSegmentsExist, ReplayShowsDamage}
use Rattle.sasi_recover.specs.SealedFolder.{ReportsMissing, ReportsMissingSegment}
use Rattle.sasi_recover.proofs.Foreign.{apart, foreign_listed}
use Rattle.sasi_recover.proofs.DeletedFiles.{keeps_segment, unless_kept}
use Rattle.sasi_recover.proofs.SealedStore.{bytes_there, held_is_listed, listed_is_there, none_where, reads_of}

module _ (v : View) (folder : Folder) (files : v.files ≡ Some folder) where
  -- ---- a manifest

  -- damage that the manifest shows as it reads
  pub manifest_shown : (number : ℕ) (fault : ReadFault) → IsThere v (manifest_name number) → IsManifestDamage v number fault
      → OnDamage (ShowsManifestOrListed folder number) fault
  manifest_shown number Failed there shown = tt
  manifest_shown number OutOfMemory there shown = tt
  manifest_shown number (Damaged damage) there shown =
      let bytes = bytes_there v folder (manifest_name number) files there in
      broken_manifest bytes.0 bytes.1 (shown bytes.0 (reads_of v folder (manifest_name number) bytes.0 files bytes.1))

  module _ (names : List FileName) (lists : Lists v names) where
    pub missing_from : (file : FileName) (damage : Damage) → ReportsMissing names file damage → ShowsMissing folder file damage
    missing_from file damage tells = record {
      absent = none_where (get folder file) (λ there. tells.absent (held_is_listed v names folder file lists files there));
      named = tells.named;
      rule = tells.rule;
      offset_is = tells.offset_is;
      seen = tells.seen;
    }

    -- it isn't among the names
    pub manifest_missing : (number : ℕ) (damage : Damage) → ReportsMissing names (manifest_name number) damage → ShowsManifestOrListed folder number damage
    manifest_missing number damage tells = no_manifest (missing_from (manifest_name number) damage tells)

    -- a segment that it lists isn't
    pub segment_missing : (number : ℕ) (listing : Listing) (damage : Damage) → IsThere v (manifest_name number)
        → ReadsListing v number listing → ReportsMissingSegment names listing.floor listing.last damage → ShowsManifestOrListed folder number damage
    segment_missing number listing damage there reads tells =
        let bytes = bytes_there v folder (manifest_name number) files there in
        broken_log bytes.0 listing bytes.1 (reads bytes.0 (reads_of v folder (manifest_name number) bytes.0 files bytes.1))
        (record {
          segment = tells.segment;
          above = tells.above;
          below = tells.below;
          shows = inl
              (missing_from (log_name tells.segment) damage tells.missing);
        })

    -- ---- seals

    pub sealed_highest : (number : ℕ) → IsHighestSeal names (Some number) → IsSealed folder number
    sealed_highest number highest = record {
      there = (let bytes = bytes_there v folder (seal_name number) files (listed_is_there v names (seal_name number) lists highest.0) in ap
          (λ (o : Option Bytes). is_some o) bytes.1);
      highest = λ other above. none_where (get folder (seal_name other))
          (λ there. highest.1 other above (held_is_listed v names folder (seal_name other) lists files there));
    }

    -- a file that the making of a store doesn't begin with, where there is no seal
    pub foreign_shown : (fault : ReadFault) → IsHighestSeal names None → OnDamage (ReportsForeign names) fault → OnDamage (FolderShows folder) fault
    foreign_shown Failed none foreign = tt
    foreign_shown OutOfMemory none foreign = tt
    foreign_shown (Damaged damage) none foreign = inl (record {
      unsealed = λ number. none_where (get folder (seal_name number))
          (λ there. none number (held_is_listed v names folder (seal_name number) lists files there));
      there = (let bytes = bytes_there v folder damage.file files
          (listed_is_there v names damage.file lists (foreign_listed names damage foreign)) in ap (λ (o : Option Bytes). is_some o)
          bytes.1);
      no_manifest = apart damage.file (manifest_name 1) refl foreign.other;
      no_log = apart damage.file (log_name 1) refl foreign.other;
      rule = foreign.rule;
      offset_is = foreign.offset_is;
      seen = foreign.seen;
    })

-- ---- a segment of the log

-- damage that a live segment shows as it reads, once other files were deleted
pub segment_shown : (a b : View) (folder : Folder) (number : ℕ) (listing : Listing) (wanted : List FileName) (fault : ReadFault) → a.files ≡ Some folder
    → IsThere a (manifest_name number) → ReadsListing a number listing
    → Changes (Deletes (keeps (KeepStore number listing.floor listing.last) wanted)) a b → LiveSegmentsExist b listing → ReplayShowsDamage b listing fault
    → OnDamage (ShowsManifestOrListed folder number) fault
segment_shown a b folder number listing wanted Failed files there reads deletes live shown = tt
segment_shown a b folder number listing wanted OutOfMemory files there reads deletes live shown = tt
segment_shown a b folder number listing wanted (Damaged damage) files there reads deletes live (segment, above, below, shown) =
    let manifest = bytes_there a folder (manifest_name number) files there in
    let now = deletes.seen folder files in
    let kept = keeps_segment number listing.floor listing.last wanted segment above below in
    let same : get now.0 (log_name segment) ≡ get folder (log_name segment) = unless_kept _ _ _ kept (now.2 (log_name segment)) in
    let bytes = bytes_there b now.0 (log_name segment) now.1 (live segment above below) in
    broken_log manifest.0 listing manifest.1 (reads manifest.0 (reads_of a folder (manifest_name number) manifest.0 files manifest.1))
    (record {
      segment = segment;
      above = above;
      below = below;
      shows = inr
          (bytes.0, sym same ∙ bytes.1, shown bytes.0 (reads_of b now.0 (log_name segment) bytes.0 now.1 bytes.1));
    })

-- ---- the folder

pub sealed_shown : (folder : Folder) (number : ℕ) (fault : ReadFault) → IsSealed folder number → OnDamage (ShowsManifestOrListed folder number) fault
    → OnDamage (FolderShows folder) fault
sealed_shown folder number Failed sealed shows = tt
sealed_shown folder number OutOfMemory sealed shows = tt
sealed_shown folder number (Damaged damage) sealed shows = inr (record { number = number; sealed = sealed; shows = shows })
