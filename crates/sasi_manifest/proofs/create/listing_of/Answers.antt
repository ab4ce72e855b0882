use Rattle.std.proofs.Common.{◌≡◌, ◌∙◌, length, None, arith, ap, sym}
use Rattle.sasi_manifest.specs.Edits.{encoded}
use Rattle.sasi_manifest.specs.Listings.{length_of, records_of}
use Rattle.sasi_manifest.proofs.Records.{record_counts, sizes_stay, something_listed}
use Rattle.sasi_manifest.proofs.create.listing_of.Goals as goal

pub unreachable-requires : goal.unreachable-requires
unreachable-requires c = something_listed None c.args.edits.now c.requires.apply c.requires.some (sym c.in_ok-listing.ensures ∙ c.in_default.is)

pub count_record-requires-clause-records : goal.count_record-requires-clause-records
count_record-requires-clause-records c =
    omega (arith, (sizes_stay None c.args.edits.now c.requires.apply).0, ap records_of c.in_ok-listing.ensures, ap records_of c.in-Some.is)

pub count_record-requires-clause-length : goal.count_record-requires-clause-length
count_record-requires-clause-length c =
    omega (arith, (sizes_stay None c.args.edits.now c.requires.apply).1, ap length_of c.in_ok-listing.ensures, ap length_of c.in-Some.is)

pub returns : goal.returns
returns c =
    let size : c.edits_size.result ≡ length (encoded c.args.edits.now) = omega (arith, c.edits_size.ensures, c.requires.short) in
    record_counts None (encoded c.args.edits.now) c.in-Some.listing c.count_record.new.listing c.args.edits.now (sym c.in_ok-listing.ensures ∙ c.in-Some.is) (rw size at c.count_record.ensures)
