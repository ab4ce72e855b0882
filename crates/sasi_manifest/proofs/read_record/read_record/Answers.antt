use Rattle.std.proofs.Common.{arith, ap, ◌∙◌}
use Rattle.sasi_manifest.specs.Listings.{records_of, length_of}
use Rattle.sasi_manifest.proofs.Records.{record_applies, record_counts, sizes_stay, something_listed}
use Rattle.sasi_manifest.proofs.read_record.read_record.Goals as goal

pub unreachable-requires : goal.unreachable-requires
unreachable-requires c =
    let made = c.in_ok-listing.ensures.ok in
    let applied = record_applies c.args.listed made.0 c.args.payload.now made.1 in
    something_listed c.args.listed made.0 applied.apply applied.some (made.2 ∙ c.in_default.is)

pub count_record-requires-clause-records : goal.count_record-requires-clause-records
count_record-requires-clause-records c =
    let made = c.in_ok-listing.ensures.ok in
    let sizes = sizes_stay c.args.listed made.0 (record_applies c.args.listed made.0 c.args.payload.now made.1).apply in
    omega (arith, c.requires.records, sizes.0, ap records_of made.2, ap records_of c.in-Some.is)

pub count_record-requires-clause-length : goal.count_record-requires-clause-length
count_record-requires-clause-length c =
    let made = c.in_ok-listing.ensures.ok in
    let sizes = sizes_stay c.args.listed made.0 (record_applies c.args.listed made.0 c.args.payload.now made.1).apply in
    omega (arith, c.requires.length, sizes.1, ap length_of made.2, ap length_of c.in-Some.is)

pub returns-clause-ok : goal.returns-clause-ok
returns-clause-ok c =
    let made = c.in_ok-listing.ensures.ok in
    (made.0, made.1, record_counts c.args.listed c.args.payload.now c.in-Some.listing c.count_record.new.listing made.0 (made.2 ∙ c.in-Some.is) c.count_record.ensures)
