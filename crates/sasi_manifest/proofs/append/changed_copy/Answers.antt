use Rattle.std.proofs.Common.{Some, ap, sym, ◌∙◌}
use Rattle.sasi_manifest.specs.declared.listing.Listing.{Listing}
use Rattle.sasi_manifest.specs.Listings.{after_all}
use Rattle.sasi_manifest.proofs.Records.{something_listed}
use Rattle.sasi_manifest.proofs.append.changed_copy.Goals as goal

pub returns-clause-single : goal.returns-clause-single
returns-clause-single c none =
    absurd (something_listed (Some c.args.listing.now) c.args.edits.now c.requires.apply c.requires.some
    (ap (λ (l : Listing). after_all (Some l) c.args.edits.now) (sym c.in_ok-copy.ensures) ∙ sym c.in_ok-changed.ensures ∙ none))
