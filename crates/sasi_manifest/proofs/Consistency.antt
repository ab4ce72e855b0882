-- Edits keep a listing consistent, so that of each manifest is.
use Rattle.std.specs.Prelude.{◌≡◌, ℕ, ◌≤◌, cond, nat_eq, refl, List, [], ◌∷◌, ◌++◌, Option, Some, None}
use Rattle.std.proofs.Common.{sym, subst, arith}
use Rattle.std.proofs.lemmas.List.Sums.{sum_by_push}
use Rattle.std.specs.List.{AllByRecursion, count_by}
use Rattle.sasi_model.specs.Statements.{same}
use Rattle.sasi_host.specs.Names.{Bytes}
use Rattle.sasi_manifest.specs.declared.edit.Edit.{Edit}
use Rattle.sasi_manifest.specs.declared.edit.Edit.TheVariants.{Start, CreateTable, CreateIndex, Replace}
use Rattle.sasi_manifest.specs.declared.listing.Listing.{Listing}
use Rattle.sasi_manifest.specs.Format.{IsManifest, RecordsLeadTo}
use Rattle.sasi_manifest.specs.ListedDefinition.{ListedDefinition}
use Rattle.sasi_manifest.specs.Edits.{AllApply, Applies}
use Rattle.sasi_manifest.specs.Listings.{after, after_all, replaced, with_record_counted}
use Rattle.sasi_manifest.specs.Abbreviations.{created_table}
use Rattle.sasi_manifest.specs.Consistent.{ConsistentIf, FilesRise, HasIndexes, HasParts, IsConsistent}
use Rattle.sasi_manifest.specs.ListedFiles.{has_file}
use Rattle.sasi_manifest.proofs.Applying.{applies_create, applies_replace, applies_start, no_create, no_replace, no_start}
use Rattle.sasi_manifest.proofs.Defining.{applies_index, no_index}
use Rattle.sasi_manifest.proofs.IndexLaws.{define_consistent, names_kept, names_push, parts_push, parts_replaced, parts_same}
use Rattle.sasi_manifest.proofs.Replacing.{all_at, apart_replaced, files_replaced, since_replaced}
use Rattle.sasi_manifest.proofs.Records.{ApplyInTurn, in_turn, record_applies}
use Rattle.sasi_formats.proofs.EncodingsAgree.{encodes_of}
use Rattle.sasi_manifest.specs.Edits.{edits as edits_after}

all_both : {A : Type 0} (P : A → Type 0) (xs ys : List A) → AllByRecursion P xs → AllByRecursion P ys → AllByRecursion P (xs ++ ys)
all_both P [] ys first second = second
all_both P (x ∷ xs) ys first second = (first.0, all_both P xs ys first.1 second)

edit_consistent : (from : Option Listing) (edit : Edit) → Applies from edit → ConsistentIf from → ConsistentIf (after from edit)
edit_consistent None (Start p floor last) applies known = record { start = applies_start p floor last applies; since = tt; files = tt; apart = λ n. omega arith; parts = tt; indexes = tt; numbers = λ n. omega arith; names = λ name. omega arith }
edit_consistent None (CreateTable number name columns key since) applies known = absurd (no_create number name columns key since applies)
edit_consistent None (CreateIndex def fold) applies known = absurd (no_index def fold applies)
edit_consistent (Some listing) (Start p floor last) applies known = absurd (no_start listing p floor last applies)
edit_consistent (Some listing) (CreateTable number name columns key since) applies known =
    let can = applies_create listing number name columns key since applies in
    record {
      start = known.start;
      since = all_both (λ (t : ListedDefinition). t.since ≤ listing.last) listing.tables _ known.since (can.since_within, tt);
      files = all_both (λ (t : ListedDefinition). FilesRise 0 t.files) listing.tables _ known.files (tt, tt);
      apart = λ n. omega (arith, known.apart n, sum_by_push (λ (t : ListedDefinition). cond (has_file t.files n) 1 0) listing.tables (created_table name columns key since));
      parts = all_both HasParts listing.tables _ known.parts (tt, tt);
      indexes = all_both HasIndexes listing.tables _ known.indexes (record { counted = refl; numbered = tt; regular = tt; typed = tt; columns = λ column. omega arith }, tt);
      numbers = λ n. subst (λ (l : List ℕ). count_by (nat_eq n) l ≤ 1) (sym (parts_push (λ t. t.numbers) listing.tables (created_table name columns key since) refl)) (known.numbers n);
      names = λ other. subst (λ (l : List Bytes). count_by (same other) l ≤ 1) (sym (names_push listing.tables (created_table name columns key since) refl)) (known.names other);
    }
edit_consistent (Some listing) (CreateIndex def fold) applies known = define_consistent listing def (applies_index listing def fold applies) known
edit_consistent None (Replace table removed added since floor last) applies known = absurd (no_replace table removed added since floor last applies)
edit_consistent (Some listing) (Replace table removed added since floor last) applies known =
    let can = applies_replace listing table removed added since floor last applies in
    record {
      start = record { floor_some = can.floor_some; ordered = can.floor_within; last_fits = can.last_fits };
      since = since_replaced last table since 1 removed added listing.tables can.others can.since_within;
      files = files_replaced listing.tables table since removed added can.new known.files;
      apart = apart_replaced listing.tables table since removed added can.some can.new can.current known.apart;
      parts = parts_replaced listing.tables table since removed added can.some can.new known.parts;
      indexes = all_at HasIndexes HasIndexes (replaced removed added since) (λ t is. record { counted = is.counted; numbered = is.numbered; regular = is.regular; typed = is.typed; columns = is.columns }) (λ t is. is) 1 table listing.tables known.indexes;
      numbers = λ n. subst (λ (l : List ℕ). count_by (nat_eq n) l ≤ 1) (sym (parts_same (λ t. t.numbers) (replaced removed added since) (λ t. refl) 1 table listing.tables)) (known.numbers n);
      names = λ other. subst (λ (l : List Bytes). count_by (same other) l ≤ 1) (sym (names_kept (replaced removed added since) (λ t. refl) 1 table listing.tables)) (known.names other);
    }

consistent_in_turn : (from : Option Listing) (es : List Edit) → ApplyInTurn from es → ConsistentIf from → ConsistentIf (after_all from es)
consistent_in_turn from [] apply known = known
consistent_in_turn from (e ∷ es) apply known = consistent_in_turn (after from e) es apply.1 (edit_consistent from e apply.0 known)

edits_consistent : (from : Option Listing) (es : List Edit) → AllApply from es → ConsistentIf from → ConsistentIf (after_all from es)
edits_consistent from es apply known = consistent_in_turn from es (in_turn from [] es apply) known

counted_consistent : (payload : Bytes) (listed : Option Listing) → ConsistentIf listed → ConsistentIf (with_record_counted payload listed)
counted_consistent payload None known = tt
counted_consistent payload (Some listing) known = record { start = known.start; since = known.since; files = known.files; apart = known.apart; parts = known.parts; indexes = known.indexes; numbers = known.numbers; names = known.names }

-- a record that applies keeps a listing consistent
pub record_consistent : (from : Option Listing) (payload : Bytes) (edits : List Edit) (next : Listing) → AllApply from edits
    → Some next ≡ with_record_counted payload (after_all from edits) → ConsistentIf from → IsConsistent next
record_consistent from payload edits next apply made known = subst ConsistentIf (sym made) (counted_consistent payload (after_all from edits) (edits_consistent from edits apply known))

leads_consistent : (from : Option Listing) (records : List Bytes) (to : Option Listing) → RecordsLeadTo from records to → ConsistentIf from → ConsistentIf to
leads_consistent from [] to leads known = subst ConsistentIf leads known
leads_consistent from (payload ∷ payloads) to (edits, is, more) known =
    leads_consistent (with_record_counted payload (after_all from edits)) payloads to more
    (counted_consistent payload (after_all from edits) (edits_consistent from edits (record_applies from edits payload (encodes_of (edits_after from) edits payload is)).apply known))

-- the listing of a manifest is consistent
pub manifest_consistent : (number : ℕ) (bytes : Bytes) (listing : Listing) → IsManifest number bytes listing → IsConsistent listing
manifest_consistent number bytes listing (records, gated, builds) = leads_consistent None records (Some listing) builds tt
