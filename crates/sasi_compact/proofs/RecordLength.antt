-- How long the record of a compaction is.
use Rattle.std.proofs.Common.{◌≡◌, ◌+◌, ◌*◌, ℕ, List, [], ◌∷◌, length, ap, append-nil, arith}
use Rattle.sasi_manifest.specs.declared.files.PartNumber.{PartNumber}
use Rattle.sasi_manifest.specs.declared.listing.Listing.{Listing}
use Rattle.sasi_manifest.specs.declared.edit.Edit.TheVariants.{Replace}
use Rattle.sasi_manifest.specs.Edits.{encoded}
use Rattle.sasi_manifest.proofs.EditBytes.{edit_bytes, encoded_length, replace_length}
use Rattle.sasi_compact.specs.Listing.{edits_of, output_file, since_of}
use Rattle.sasi_compact.specs.declared.compaction.Compaction.{Compaction}

pub record_is : (listing : Listing) (table : ℕ) (c : Compaction) (parts : List PartNumber) → length (encoded (edits_of listing table c parts)) ≡ 35 + (4 * length c.sources + 8 * length parts)
record_is listing table c parts =
    let edit = Replace table c.sources (output_file c parts ∷ []) (since_of listing.tables table) listing.floor listing.last in
    omega (
      arith,
      encoded_length (edit ∷ []),
      ap length (append-nil (edit_bytes edit)),
      replace_length table c.sources (output_file c parts ∷ []) (since_of listing.tables table) listing.floor listing.last,
    )
