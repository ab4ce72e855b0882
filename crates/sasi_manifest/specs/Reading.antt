-- What reading a manifest gives.
use Rattle.std.specs.Prelude.{◌≡◌, ℕ, ◌+◌, ◌/◌, ◌≤◌, ◌^◌, IsTrue, List, Option, Some, None}
use Rattle.sasi_host.specs.declared.damage.Damage.{Damage}
use Rattle.sasi_host.specs.Names.{Bytes, manifest_name}
use Rattle.sasi_host.specs.View.{View, IsThere, IsTold, contents}
use Rattle.sasi_host.specs.Disk.{Changes, Same, IsFileDurable}
use Rattle.sasi_host.specs.Damages.{seen_bytes}
use Rattle.sasi_host.specs.Buffered.{IsBuffered}
use Rattle.sasi_gated.specs.Format.{Closes}
use Rattle.sasi_gated.specs.Gates.{IsAtGate}
use Rattle.sasi_gated.specs.Handles.{Handle}
use Rattle.sasi_gated.specs.ReadCosts.{OpensSequential}
use Rattle.sasi_manifest.specs.declared.listing.Listing.{Listing}
use Rattle.sasi_formats.specs.Reader.{Corruption}
use Rattle.sasi_formats.specs.Failures.{FailsWhole}
use Rattle.sasi_formats.specs.declared.fault.FormatFault.{FormatFault}
use Rattle.sasi_formats.specs.declared.fault.FormatFault.TheVariants as fault
use Rattle.sasi_manifest.specs.Consistent.{ConsistentIf}
use Rattle.sasi_manifest.specs.Listings.{length_of, records_of}
use Rattle.sasi_manifest.specs.Format.{IsManifest, RecordsLeadTo}
use Rattle.sasi_manifest.specs.Abbreviations.{Builds}
use Rattle.sasi_manifest.specs.Edits.{edits}
use Rattle.sasi_manifest.specs.Damages.{IsEditDamage}
use Rattle.sasi_manifest.specs.OpenManifest.{ManifestStands}

-- the damage is a corruption of the record after the gate at this offset
pub record IsDamageOfRecord (number before : ℕ) (from : Option Listing) (payload : Bytes) (damage : Damage) : Type 0 where
  pub named : damage.file ≡ manifest_name number
  pub found : Corruption
  pub fails : FailsWhole (edits from) payload found
  pub told : IsEditDamage before payload found damage.rule damage.at (seen_bytes damage.seen)

-- the offset of the fault is at most this
abbrev pub IsOffsetWithin : ℕ → FormatFault → Type 0
IsOffsetWithin size (fault.Broken broken) = broken.at ≤ size
IsOffsetWithin size _ = Unit {0}

-- the records before the gate at this offset build up this listing
pub record IsReadTo (number : ℕ) (bytes : Bytes) (at : ℕ) (listed : Option Listing) : Type 0 where
  pub done : List Bytes
  pub rest : Bytes
  pub at_gate : IsAtGate (manifest_name number) bytes at done rest
  pub leads : RecordsLeadTo None done listed

-- all records were read, and the closed gate is at this offset
pub record IsReadWhole (number : ℕ) (bytes : Bytes) (at : ℕ) (listing : Listing) : Type 0 where
  pub done : List Bytes
  pub rest : Bytes
  pub at_gate : IsAtGate (manifest_name number) bytes at done rest
  pub closed : Closes rest
  pub builds : Builds done listing

-- the same of the file as it reads
abbrev pub ReadsTo : View → ℕ → ℕ → Option Listing → Type 0
ReadsTo v number at listed = (bytes : Bytes) → contents v (manifest_name number) ≡ Some bytes → IsReadTo number bytes at listed

abbrev pub ReadsWhole : View → ℕ → ℕ → Listing → Type 0
ReadsWhole v number at listing = (bytes : Bytes) → contents v (manifest_name number) ≡ Some bytes → IsReadWhole number bytes at listing

-- the manifest as it reads lists this
abbrev pub ReadsListing : View → ℕ → Listing → Type 0
ReadsListing v number listing = (bytes : Bytes) → contents v (manifest_name number) ≡ Some bytes → IsManifest number bytes listing

-- at most the pages up to the one of this offset were read, each once
abbrev pub ReadsUpTo : View → View → ℕ → Type 0
ReadsUpTo old new at = new.reads ≤ old.reads + (at / 4096 + 1)

-- where the file is durable, the manifest is durable too
abbrev pub StandsWhereKept : View → View → ℕ → ℕ → Listing → Type 0
StandsWhereKept old new number at listing = (bytes : Bytes) → IsTold old → IsFileDurable old (manifest_name number) bytes → ManifestStands new number at listing

-- what holds while a manifest is read
pub record IsReadingManifest (a b : View) (number : ℕ) (gated : Handle) (listed : Option Listing) : Type 0 where
  pub file : gated.file ≡ manifest_name number
  pub usable : IsTrue gated.usable
  pub fits : gated.at ≤ 2 ^ 62
  pub reaches : length_of listed ≡ gated.at + 1
  pub few_records : records_of listed ≤ gated.at
  pub there : IsThere b (manifest_name number)
  pub same : Changes Same a b
  pub disk : b.disk_faults ≡ a.disk_faults
  pub out : b.out_faults ≡ a.out_faults
  pub buffered : IsBuffered gated.buffered b.files
  pub once : OpensSequential a b gated
  pub reads : ReadsTo a number gated.at listed
  pub consistent : ConsistentIf listed
