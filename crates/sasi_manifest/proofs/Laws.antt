-- Laws of manifests: a manifest has one listing, and no damage, and stands while its file stays.
use Rattle.std.specs.Prelude.{◌≡◌, ℕ, List, [], ◌∷◌, ◌++◌, Option, Some, None, refl}
use Rattle.std.proofs.Common.{sym, ◌∙◌, ap, subst, ⊎_elim}
use Rattle.sasi_host.specs.Names.{Bytes, manifest_name}
use Rattle.sasi_host.specs.declared.damage.Damage.{Damage}
use Rattle.sasi_host.specs.View.{View}
use Rattle.sasi_host.specs.Disk.{IsFileDurable}
use Rattle.sasi_gated.specs.Format.{Opens, Closes, FromGate}
use Rattle.sasi_gated.proofs.Laws.{records_same, left_at, opens_same, opens_not_closes}
use Rattle.sasi_gated.proofs.Undamaged.{gated_undamaged}
use Rattle.sasi_gated.proofs.HandleLaws.{end_stays}
use Rattle.sasi_formats.specs.Formats.{Encodes}
use Rattle.sasi_formats.specs.Encodings.{IsEncoded}
use Rattle.sasi_formats.specs.Reader.{Corruption}
use Rattle.sasi_formats.specs.Failures.{FailsWhole}
use Rattle.sasi_formats.proofs.Agreement.{one_content, never_both}
use Rattle.sasi_formats.proofs.EncodingsAgree.{encodes_of}
use Rattle.sasi_manifest.specs.declared.edit.Edit.{Edit}
use Rattle.sasi_manifest.specs.declared.listing.Listing.{Listing}
use Rattle.sasi_manifest.specs.Edits.{edits}
use Rattle.sasi_manifest.specs.Listings.{after_all, with_record_counted}
use Rattle.sasi_manifest.specs.Format.{RecordsLeadTo, IsManifest}
use Rattle.sasi_manifest.specs.Abbreviations.{Builds}
use Rattle.sasi_manifest.specs.Damages.{ShowsDamage}
use Rattle.sasi_manifest.specs.OpenManifest.{ManifestStands}

-- ---- records

-- a record builds up one listing
pub record_same : (from : Option Listing) (payload : Bytes) (a b : List Edit) → IsEncoded (edits from) a payload → IsEncoded (edits from) b payload → after_all from a ≡ after_all from b
record_same from payload a b first second = ap (after_all from) (one_content (edits from) a b payload (encodes_of (edits from) a payload first) (encodes_of (edits from) b payload second))

-- records lead to one listing
pub leads_same : (from : Option Listing) (records : List Bytes) (a b : Option Listing) → RecordsLeadTo from records a → RecordsLeadTo from records b → a ≡ b
leads_same from [] a b first second = sym first ∙ second
leads_same from (payload ∷ payloads) a b (x, first, more) (y, second, more') =
    leads_same (with_record_counted payload (after_all from x)) payloads a b more (subst (λ (l : Option Listing). RecordsLeadTo (with_record_counted payload l) payloads b) (sym (record_same from payload x y first second)) more')

-- and build it up through the listing of the first of them
pub leads_on : (from mid to : Option Listing) (front back : List Bytes) → RecordsLeadTo from front mid → RecordsLeadTo mid back to → RecordsLeadTo from (front ++ back) to
leads_on from mid to [] back first second = subst (λ (l : Option Listing). RecordsLeadTo l back to) (sym first) second
leads_on from mid to (payload ∷ payloads) back (es, is, more) second = (es, is, leads_on (with_record_counted payload (after_all from es)) mid to payloads back more second)

pub leads_apart : (from to : Option Listing) (front back : List Bytes) → RecordsLeadTo from (front ++ back) to → (mid : Option Listing) × RecordsLeadTo from front mid × RecordsLeadTo mid back to
leads_apart from to [] back leads = (from, refl, leads)
leads_apart from to (payload ∷ payloads) back (es, is, more) =
    let parts = leads_apart (with_record_counted payload (after_all from es)) to payloads back more in
    (parts.0, (es, is, parts.1), parts.2)

-- ---- whole manifests

-- records build up one listing
pub builds_same : (records : List Bytes) (a b : Listing) → Builds records a → Builds records b → a ≡ b
builds_same records a b first second = let same : Some a ≡ Some b = leads_same None records (Some a) (Some b) first second in cc

-- the bytes of a manifest have one listing
pub manifest_same : (n : ℕ) (bytes : Bytes) (a b : Listing) → IsManifest n bytes a → IsManifest n bytes b → a ≡ b
manifest_same n bytes a b (records, gated, builds) (records', gated', builds') =
    builds_same records a b builds (subst (λ (l : List Bytes). Builds l b) (sym (records_same (manifest_name n) bytes records records' gated gated')) builds')

not_empty : (records left : List Bytes) (listing : Listing) (rest : Bytes) → Builds records listing → records ≡ left → FromGate rest left → Closes rest → ⊥
not_empty records [] listing rest builds is from closed = let none : None ≡ Some listing = subst (λ (l : List Bytes). Builds l listing) is builds in cc
not_empty records (p ∷ left) listing rest builds is (tail, opens, more) closed = opens_not_closes rest p tail opens closed

fits_there : (listing : Listing) (listed : Option Listing) (done left : List Bytes) (rest payload tail : Bytes) (found : Corruption)
    → RecordsLeadTo None (done ++ left) (Some listing) → FromGate rest left → RecordsLeadTo None done listed → Opens rest payload tail → FailsWhole (edits listed) payload found → ⊥
fits_there listing listed done [] rest payload tail found builds from leads opens fails = opens_not_closes rest payload tail opens from
fits_there listing listed done (p ∷ left) rest payload tail found builds (tail', opens', more) leads opens fails =
    let parts = leads_apart None (Some listing) done (p ∷ left) builds in
    let same : parts.0 ≡ listed = leads_same None done parts.0 listed parts.1 leads in
    let es = parts.2.0 in
    let is : Encodes (edits listed) es p = subst (λ (l : Option Listing). Encodes (edits l) es p) same (encodes_of (edits parts.0) es p parts.2.1) in
    let here : p ≡ payload = (opens_same rest p payload tail' tail opens' opens).0 in
    never_both (edits listed) payload es found (subst (λ (l : Bytes). Encodes (edits listed) es l) here is) fails

-- a whole manifest has no damage
pub manifest_undamaged : (n : ℕ) (bytes : Bytes) (damage : Damage) (listing : Listing) → IsManifest n bytes listing → ShowsDamage n bytes damage → ⊥
manifest_undamaged n bytes damage listing (records, gated, builds) shows =
    ⊎_elim (λ outside. gated_undamaged (manifest_name n) bytes damage records gated outside)
    (λ inside. ⊎_elim
    (λ empty. let left = left_at (manifest_name n) bytes 16 [] empty.rest records empty.gate_stands gated in not_empty records left.0 listing empty.rest builds left.1 left.2 empty.closed)
    (λ misfit.
    let left = left_at (manifest_name n) bytes misfit.before misfit.done misfit.rest records misfit.gate_stands gated in
    fits_there listing misfit.listed misfit.done left.0 misfit.rest misfit.payload misfit.tail misfit.found
    (subst (λ (l : List Bytes). Builds l listing) left.1 builds) left.2 misfit.leads misfit.opens misfit.fails)
    inside.1)
    shows

-- ---- a folder that changes

-- a manifest stands where it did, where each image has its bytes as before
pub manifest_stays : (a b : View) (number at : ℕ) (listing : Listing) → ((bytes : Bytes) → IsFileDurable a (manifest_name number) bytes → IsFileDurable b (manifest_name number) bytes)
    → ManifestStands a number at listing → ManifestStands b number at listing
manifest_stays a b number at listing still stands = record { records = stands.records; at_end = end_stays a b (manifest_name number) at stands.records still stands.at_end; builds = stands.builds }
