-- The reading of this many edits of a record, each after those before.
use Rattle.std.specs.Prelude.{ℕ, List, [], Option}
use Rattle.sasi_fields.specs.Reading.{Reading}
use Rattle.sasi_formats.specs.Reader.{Outcome, read, read_items}
use Rattle.sasi_manifest.specs.declared.edit.Edit.{Edit}
use Rattle.sasi_manifest.specs.declared.listing.Listing.{Listing}
use Rattle.sasi_manifest.specs.Edits.{edit}
use Rattle.sasi_manifest.specs.Listings.{after_all}

abbrev pub read_edits : Option Listing → ℕ → Reading → Outcome (List Edit)
read_edits from count s = read_items (λ before. read (edit (after_all from before))) count [] s
