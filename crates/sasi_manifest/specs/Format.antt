-- The bytes of a manifest.
use Rattle.std.specs.Prelude.{◌≡◌, ℕ, List, [], ◌∷◌, Option, Some, None}
use Rattle.sasi_host.specs.Names.{Bytes, manifest_name}
use Rattle.sasi_gated.specs.Format.{IsGated}
use Rattle.sasi_formats.specs.Encodings.{IsEncoded}
use Rattle.sasi_manifest.specs.declared.edit.Edit.{Edit}
use Rattle.sasi_manifest.specs.declared.listing.Listing.{Listing}
use Rattle.sasi_manifest.specs.Edits.{edits, encoded}
use Rattle.sasi_manifest.specs.Listings.{after_all, with_record_counted, rewrite_edits}

-- the records build the second listing from the first
abbrev pub RecordsLeadTo : Option Listing → List Bytes → Option Listing → Type 0
RecordsLeadTo from [] to = from ≡ to
RecordsLeadTo from (payload ∷ payloads) to = (es : List Edit) × IsEncoded (edits from) es payload × RecordsLeadTo (with_record_counted payload (after_all from es)) payloads to

-- the bytes are the manifest of this number, with this listing
abbrev pub IsManifest : ℕ → Bytes → Listing → Type 0
IsManifest number bytes listing = (records : List Bytes) × IsGated (manifest_name number) bytes records × RecordsLeadTo None records (Some listing)

-- both have the same partitioner and live segments, and the same tables with their files
pub record ListsSame (listing other : Listing) : Type 0 where
  pub partitioner : other.partitioner ≡ listing.partitioner
  pub floor : other.floor ≡ listing.floor
  pub last : other.last ≡ listing.last
  pub tables : other.tables ≡ listing.tables

-- the listing of a manifest that was written anew: the edits that build up this one, in one record
abbrev pub IsRewritten : Listing → Listing → Type 0
IsRewritten listing rewritten = Some rewritten ≡ with_record_counted (encoded (rewrite_edits listing)) (after_all None (rewrite_edits listing))

-- the listing after one more record of these edits
abbrev pub IsNext : Listing → List Edit → Listing → Type 0
IsNext listing es next = Some next ≡ with_record_counted (encoded es) (after_all (Some listing) es)
