-- The segments of the log are numbered from 1, so each table that a manifest lists begins in one of a number from 1 on.
use Rattle.std.specs.Prelude.{◌≤◌, List, [], ◌∷◌, ◌++◌, Option, Some, None}
use Rattle.std.proofs.Common.{subst}
use Rattle.std.specs.List.{AllByRecursion}
use Rattle.sasi_host.specs.Names.{Bytes}
use Rattle.sasi_formats.proofs.EncodingsAgree.{encodes_of}
use Rattle.sasi_manifest.specs.declared.edit.Edit.{Edit}
use Rattle.sasi_manifest.specs.declared.edit.Edit.TheVariants.{Start, CreateTable, CreateIndex, Replace}
use Rattle.sasi_manifest.specs.declared.listing.Listing.{Listing}
use Rattle.sasi_manifest.specs.Edits.{Applies}
use Rattle.sasi_manifest.specs.Edits.{edits as edits_after}
use Rattle.sasi_manifest.specs.Format.{RecordsLeadTo}
use Rattle.sasi_manifest.specs.ListedDefinition.{ListedDefinition}
use Rattle.sasi_manifest.specs.Listings.{after, after_all, listed_with_index, replaced, with_record_counted}
use Rattle.sasi_manifest.proofs.Applying.{applies_create, applies_replace, no_create, no_replace, no_start}
use Rattle.sasi_manifest.proofs.Defining.{no_index}
use Rattle.sasi_manifest.proofs.Records.{ApplyInTurn, in_turn, record_applies}
use Rattle.sasi_manifest.proofs.Replacing.{all_at}

abbrev Begins : ListedDefinition → Type 0
Begins t = 1 ≤ t.since

abbrev BeginIf : Option Listing → Type 0
BeginIf None = Unit {0}
BeginIf (Some listing) = AllByRecursion Begins listing.tables

all_both : (xs ys : List ListedDefinition) → AllByRecursion Begins xs → AllByRecursion Begins ys → AllByRecursion Begins (xs ++ ys)
all_both [] ys first second = second
all_both (x ∷ xs) ys first second = (first.0, all_both xs ys first.1 second)

edit_begins : (from : Option Listing) (edit : Edit) → Applies from edit → BeginIf from → BeginIf (after from edit)
edit_begins None (Start p floor last) applies known = tt
edit_begins None (CreateTable number name columns key since) applies known = absurd (no_create number name columns key since applies)
edit_begins None (CreateIndex def fold) applies known = absurd (no_index def fold applies)
edit_begins None (Replace table removed added since floor last) applies known = absurd (no_replace table removed added since floor last applies)
edit_begins (Some listing) (Start p floor last) applies known = absurd (no_start listing p floor last applies)
edit_begins (Some listing) (CreateTable number name columns key since) applies known = all_both listing.tables _ known ((applies_create listing number name columns key since applies).since_some, tt)
edit_begins (Some listing) (CreateIndex def fold) applies known = all_at Begins Begins (listed_with_index def) (λ t is. is) (λ t is. is) 1 def.table listing.tables known
edit_begins (Some listing) (Replace table removed added since floor last) applies known =
    let can = applies_replace listing table removed added since floor last applies in
    all_at Begins Begins (replaced removed added since) (λ t is. can.since_some) (λ t is. is) 1 table listing.tables known

begins_in_turn : (from : Option Listing) (es : List Edit) → ApplyInTurn from es → BeginIf from → BeginIf (after_all from es)
begins_in_turn from [] apply known = known
begins_in_turn from (e ∷ es) apply known = begins_in_turn (after from e) es apply.1 (edit_begins from e apply.0 known)

counted_begins : (payload : Bytes) (listed : Option Listing) → BeginIf listed → BeginIf (with_record_counted payload listed)
counted_begins payload None known = tt
counted_begins payload (Some listing) known = known

leads_begin : (from : Option Listing) (records : List Bytes) (to : Option Listing) → RecordsLeadTo from records to → BeginIf from → BeginIf to
leads_begin from [] to leads known = subst BeginIf leads known
leads_begin from (payload ∷ payloads) to (edits, is, more) known =
    leads_begin (with_record_counted payload (after_all from edits)) payloads to more
    (counted_begins payload (after_all from edits) (begins_in_turn from edits (in_turn from [] edits (record_applies from edits payload (encodes_of (edits_after from) edits payload is)).apply) known))

-- **Each table that records build begins in a segment.**
pub all_begin : (records : List Bytes) (listing : Listing) → RecordsLeadTo None records (Some listing) → AllByRecursion Begins listing.tables
all_begin records listing builds = leads_begin None records (Some listing) builds tt
