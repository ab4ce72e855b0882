-- Records that are read, and those that aren't.
use Rattle.std.proofs.lemmas.Bool.Decides.{nat_tests}
use Rattle.std.specs.Int.{w32}
use Rattle.std.proofs.lemmas.List.{drop_more}
use Rattle.std.specs.List.{AllByRecursion}
use Rattle.std.proofs.Common.{Bool, true, false, ◌==◌, ◌≡◌, ◌≢◌, ◌<◌, ◌≤◌, ◌-◌, ◌+◌, ◌^◌, ℕ, suc, List, [], ◌∷◌, ◌++◌, length, drop, get_or, Option, Some, None, Err, refl, sym, ◌∙◌, ap, subst, arith}
use Rattle.sasi_host.specs.Names.{Bytes}
use Rattle.sasi_fields.specs.Reading.{Reading}
use Rattle.sasi_formats.specs.Formats.{Encodes, fit_items}
use Rattle.sasi_formats.specs.Fields.{in_range}
use Rattle.sasi_formats.specs.Reader.{Outcome, Got, Failed, Corruption, Short, Long, ◌>>=◌, start, ended, closed, read, read_whole}
use Rattle.sasi_formats.specs.Gives.{FailsWith}
use Rattle.sasi_formats.specs.Whole.{IsShownBy}
use Rattle.sasi_formats.specs.declared.fault.FormatFault.{FormatFault}
use Rattle.sasi_formats.specs.declared.fault.FormatFault.TheVariants as fault
use Rattle.sasi_formats.proofs.Agreement.{reads_exactly, reads_whole, is_encoded}
use Rattle.sasi_formats.proofs.Encoding.{fits}
use Rattle.sasi_formats.proofs.Fitting.{fits_range, range_fits}
use Rattle.sasi_formats.proofs.ItemSteps.{SoFar, items_begin, items_more, items_fail, items_end}
use Rattle.sasi_formats.proofs.WholeLaws.{reads_all}
use Rattle.sasi_manifest.specs.declared.edit.Edit.{Edit}
use Rattle.sasi_manifest.specs.declared.edit.Edit.TheVariants.{Start, CreateTable, CreateIndex, Replace}
use Rattle.sasi_manifest.specs.declared.listing.Listing.{Listing}
use Rattle.sasi_manifest.specs.Edits.{edit, edits, encoded, Applies, AllApply}
use Rattle.sasi_manifest.specs.ReadEdits.{read_edits}
use Rattle.sasi_manifest.specs.Abbreviations.{created_table, started, with_defined_index, with_listed_table}
use Rattle.sasi_manifest.specs.Listings.{FitsWidths, after, after_all, at_number, replaced, with_record_counted, records_of, length_of}
use Rattle.sasi_manifest.proofs.Applying.{no_start, no_create, no_replace, writable}
use Rattle.sasi_manifest.proofs.Defining.{no_index}
use Rattle.sasi_manifest.proofs.EditBytes.{edits_few, same_record}

-- ---- edits that apply one after another

-- the first applies to the listing, and the others after it
abbrev pub ApplyInTurn : Option Listing → List Edit → Type 0
ApplyInTurn from [] = Unit {0}
ApplyInTurn from (e ∷ es) = Applies from e × ApplyInTurn (after from e) es

pub after_push : (from : Option Listing) (es : List Edit) (e : Edit) → after_all from (es ++ e ∷ []) ≡ after (after_all from es) e
after_push from [] e = refl
after_push from (x ∷ es) e = after_push (after from x) es e

pub in_turn : (from : Option Listing) (before es : List Edit) → fit_items (λ before. Applies (after_all from before)) before es → ApplyInTurn (after_all from before) es
in_turn from before [] h = tt
in_turn from before (e ∷ es) h = (h.0, subst (λ (l : Option Listing). ApplyInTurn l es) (after_push from before e) (in_turn from (before ++ e ∷ []) es h.1))

writable_in_turn : (from : Option Listing) (es : List Edit) → ApplyInTurn from es → AllByRecursion FitsWidths es
writable_in_turn from [] all = tt
writable_in_turn from (e ∷ es) all = (writable from e all.0, writable_in_turn (after from e) es all.1)

-- they can be written
pub all_writable : (from : Option Listing) (es : List Edit) → AllApply from es → AllByRecursion FitsWidths es
all_writable from es all = writable_in_turn from es (in_turn from [] es all)

-- the turn of a loop
pub record StepsTo (listed : Option Listing) (es : List Edit) (i : ℕ) (e : Edit) : Type 0 where
  pub applies : Applies listed e
  pub rest_apply : ApplyInTurn (after listed e) (drop (i + 1) es)
  pub same : after_all listed (drop i es) ≡ after_all (after listed e) (drop (i + 1) es)

pub steps_to : (listed : Option Listing) (es : List Edit) (i : ℕ) (e : Edit) → i < length es → e ≡ get_or es i e → ApplyInTurn listed (drop i es) → StepsTo listed es i e
steps_to listed es i e within is h =
    let parts : drop i es ≡ e ∷ drop (i + 1) es = drop_more es i e within ∙ ap (λ (x : Edit). x ∷ drop (i + 1) es) (sym is) in
    let all : ApplyInTurn listed (e ∷ drop (i + 1) es) = subst (λ (l : List Edit). ApplyInTurn listed l) parts h in
    record { applies = all.0; rest_apply = all.1; same = ap (λ (l : List Edit). after_all listed l) parts }

-- ---- edits are read

-- these edits were read, and so many are left
pub record IsReading (from : Option Listing) (count : ℕ) (old : Reading) (left : ℕ) (listed : Option Listing) (new : Reading) : Type 0 where
  pub es : List Edit
  pub makes : after_all from es ≡ listed
  pub so_far : SoFar (λ before. read (edit (after_all from before))) count old left es new

-- an edit that is read applies
pub read_applies : (listed : Option Listing) (s t : Reading) (e : Edit) → read (edit listed) s ≡ Got e t → Applies listed e
read_applies listed s t e got = let next = (reads_exactly (edit listed) s t e).0 got in fits (edit listed) e next.field next.is

module _ (from : Option Listing) (count : ℕ) (old : Reading) where
  abbrev item : List Edit → Reading → Outcome Edit
  item before = read (edit (after_all from before))

  pub reading_begins : IsReading from count old count from old
  reading_begins = record { es = []; makes = refl; so_far = items_begin item count old }

  pub reading_next_edit : (left next : ℕ) (listed to : Option Listing) (s t : Reading) (e : Edit) → left ≡ suc next → read (edit listed) s ≡ Got e t → to ≡ after listed e → IsReading from count old left listed s → IsReading from count old next to t
  reading_next_edit left next listed to s t e counted got is on = record {
    es = on.es ++ e ∷ [];
    makes = after_push from on.es e ∙ ap (λ (l : Option Listing). after l e) on.makes ∙ sym is;
    so_far = items_more item count old next on.es s e t (ap (λ (l : Option Listing). read (edit l) s) on.makes ∙ got) (subst (λ (n : ℕ). SoFar item count old n on.es s) counted on.so_far);
  }

  pub reading_fails : (left next : ℕ) (listed : Option Listing) (s : Reading) (f : FormatFault) → left ≡ suc next → FailsWith (read (edit listed) s) f → IsReading from count old left listed s → FailsWith (read_edits from count old) f
  reading_fails left next listed s f counted fails on =
      items_fail item count old next on.es s f (subst (λ (l : Option Listing). FailsWith (read (edit l) s) f) (sym on.makes) fails) (subst (λ (n : ℕ). SoFar item count old n on.es s) counted on.so_far)

  pub reading_ends : (left : ℕ) (listed : Option Listing) (s : Reading) → left ≡ 0 → (on : IsReading from count old left listed s) → read_edits from count old ≡ Got on.es s
  reading_ends left listed s none on = items_end item count old on.es s (subst (λ (n : ℕ). SoFar item count old n on.es s) none on.so_far)

-- ---- a record is read

-- a fault is handed on
fails_as : {A B : Type 0} (f : FormatFault) (a : Outcome A) (b : Outcome B) → ((c : Corruption) → a ≡ Failed c → b ≡ Failed c) → FailsWith a f → FailsWith b f
fails_as fault.OutOfMemory a b hands h = tt
fails_as fault.Short a b hands h = hands Short h
fails_as fault.Long a b hands h = hands Long h
fails_as (fault.Broken broken) a b hands h = hands _ h

shown : (from : Option Listing) (payload : Bytes) (f : FormatFault) → FailsWith (read_whole (edits from) payload) f → IsShownBy (edits from) payload f
shown from payload f h = (reads_all (edits from) payload (Err f) h).shown

-- after the number of edits
abbrev counted_then : Option Listing → Outcome ℕ → Outcome (List Edit)
counted_then from r = ended (r >>= λ n s. read_edits from n s)

-- the number of edits isn't read
pub count_fails : (from : Option Listing) (payload : Bytes) (f : FormatFault) → FailsWith (read (in_range w32 1 (2 ^ 32 - 1)) (start payload)) f → IsShownBy (edits from) payload f
count_fails from payload f h = shown from payload f (fails_as f (read (in_range w32 1 (2 ^ 32 - 1)) (start payload)) (read_whole (edits from) payload) (λ c is. ap (counted_then from) is) h)

whole_is : (from : Option Listing) (payload : Bytes) (count : ℕ) (t : Reading) → read (in_range w32 1 (2 ^ 32 - 1)) (start payload) ≡ Got count t → read_whole (edits from) payload ≡ ended (read_edits from count t)
whole_is from payload count t got = ap (counted_then from) got

-- the edits aren't
pub edits_fail : (from : Option Listing) (payload : Bytes) (count : ℕ) (t : Reading) → read (in_range w32 1 (2 ^ 32 - 1)) (start payload) ≡ Got count t → (f : FormatFault) → FailsWith (read_edits from count t) f → IsShownBy (edits from) payload f
edits_fail from payload count t got f h =
    shown from payload f (fails_as f (read_edits from count t) (read_whole (edits from) payload) (λ c is. whole_is from payload count t got ∙ ap (λ (r : Outcome (List Edit)). ended r) is) h)

closed_long : (es : List Edit) (u : Reading) (left : Bytes) → left ≢ [] → closed es u left ≡ Failed Long
closed_long es u [] more = absurd (more refl)
closed_long es u (b ∷ left) more = refl

-- bytes follow the last edit
pub more_left : (from : Option Listing) (payload : Bytes) (count : ℕ) (t : Reading) → read (in_range w32 1 (2 ^ 32 - 1)) (start payload) ≡ Got count t → (es : List Edit) (u : Reading) → read_edits from count t ≡ Got es u → u.left ≢ [] → IsShownBy (edits from) payload fault.Long
more_left from payload count t got es u is more =
    shown from payload fault.Long (whole_is from payload count t got ∙ ap (λ (r : Outcome (List Edit)). ended r) is ∙ closed_long es u u.left more)

-- the edits are all the bytes
pub all_read : (from : Option Listing) (payload : Bytes) (count : ℕ) (t : Reading) → read (in_range w32 1 (2 ^ 32 - 1)) (start payload) ≡ Got count t → (es : List Edit) (u : Reading) → read_edits from count t ≡ Got es u → u.left ≡ [] → Encodes (edits from) es payload
all_read from payload count t got es u is none =
    reads_whole (edits from) payload es u (whole_is from payload count t got ∙ ap (λ (r : Outcome (List Edit)). ended r) is ∙ ap (λ (l : Bytes). closed es u l) none)

-- ---- a record

-- edits that have bytes apply, and there is one at least
pub record IsApplied (from : Option Listing) (es : List Edit) : Type 0 where
  pub some : 1 ≤ length es
  pub apply : AllApply from es

pub record_applies : (from : Option Listing) (es : List Edit) (payload : Bytes) → Encodes (edits from) es payload → IsApplied from es
record_applies from es payload is =
    let all = fits (edits from) es payload is in
    let range = fits_range w32 1 (2 ^ 32 - 1) (length es) all.0 in
    record { some = range.above; apply = all.1 }

-- edits that apply have bytes
pub record_encodes : (from : Option Listing) (es : List Edit) → AllApply from es → 1 ≤ length es → length (encoded es) ≤ 2 ^ 30 → Encodes (edits from) es (encoded es)
record_encodes from es apply some short =
    let few = edits_few es short in
    is_encoded (edits from) es (encoded es) (range_fits w32 1 (2 ^ 32 - 1) (length es) few some (omega (arith, few)), apply) (sym (same_record from es))

still_listed : (listing : Listing) (es : List Edit) → ApplyInTurn (Some listing) es → after_all (Some listing) es ≡ None → ⊥
still_listed listing [] all none = cc
still_listed listing (Start p floor last ∷ es) all none = absurd (no_start listing p floor last all.0)
still_listed listing (CreateTable n name columns key since ∷ es) all none = still_listed (with_listed_table (created_table name columns key since) listing) es all.1 none
still_listed listing (CreateIndex def fold ∷ es) all none = still_listed (with_defined_index def listing) es all.1 none
still_listed listing (Replace table removed added since floor last ∷ es) all none = still_listed (record listing { floor = floor; last = last; tables = at_number 1 table (replaced removed added since) listing.tables }) es all.1 none

listed_in_turn : (from : Option Listing) (es : List Edit) → ApplyInTurn from es → 1 ≤ length es → after_all from es ≡ None → ⊥
listed_in_turn from [] all some none = omega (arith, some)
listed_in_turn None (Start p floor last ∷ es) all some none = still_listed (started p floor last) es all.1 none
listed_in_turn None (CreateTable n name columns key since ∷ es) all some none = absurd (no_create n name columns key since all.0)
listed_in_turn None (CreateIndex def fold ∷ es) all some none = absurd (no_index def fold all.0)
listed_in_turn None (Replace table removed added since floor last ∷ es) all some none = absurd (no_replace table removed added since floor last all.0)
listed_in_turn (Some listing) (Start p floor last ∷ es) all some none = absurd (no_start listing p floor last all.0)
listed_in_turn (Some listing) (CreateTable n name columns key since ∷ es) all some none = still_listed (with_listed_table (created_table name columns key since) listing) es all.1 none
listed_in_turn (Some listing) (CreateIndex def fold ∷ es) all some none = still_listed (with_defined_index def listing) es all.1 none
listed_in_turn (Some listing) (Replace table removed added since floor last ∷ es) all some none = still_listed (record listing { floor = floor; last = last; tables = at_number 1 table (replaced removed added since) listing.tables }) es all.1 none

-- edits list something
pub something_listed : (from : Option Listing) (es : List Edit) → AllApply from es → 1 ≤ length es → after_all from es ≡ None → ⊥
something_listed from es all some none = listed_in_turn from es (in_turn from [] es all) some none

sizes_in_turn : (from : Option Listing) (es : List Edit) → ApplyInTurn from es → (records_of (after_all from es) ≡ records_of from) × (length_of (after_all from es) ≡ length_of from)
sizes_in_turn from [] all = (refl, refl)
sizes_in_turn None (Start p floor last ∷ es) all = sizes_in_turn (Some (started p floor last)) es all.1
sizes_in_turn None (CreateTable n name columns key since ∷ es) all = absurd (no_create n name columns key since all.0)
sizes_in_turn None (CreateIndex def fold ∷ es) all = absurd (no_index def fold all.0)
sizes_in_turn None (Replace table removed added since floor last ∷ es) all = absurd (no_replace table removed added since floor last all.0)
sizes_in_turn (Some listing) (Start p floor last ∷ es) all = absurd (no_start listing p floor last all.0)
sizes_in_turn (Some listing) (CreateTable n name columns key since ∷ es) all = sizes_in_turn (Some (with_listed_table (created_table name columns key since) listing)) es all.1
sizes_in_turn (Some listing) (CreateIndex def fold ∷ es) all = sizes_in_turn (Some (with_defined_index def listing)) es all.1
sizes_in_turn (Some listing) (Replace table removed added since floor last ∷ es) all = sizes_in_turn (Some (record listing { floor = floor; last = last; tables = at_number 1 table (replaced removed added since) listing.tables })) es all.1

-- edits count no record
pub sizes_stay : (from : Option Listing) (es : List Edit) → AllApply from es → (records_of (after_all from es) ≡ records_of from) × (length_of (after_all from es) ≡ length_of from)
sizes_stay from es all = sizes_in_turn from es (in_turn from [] es all)

-- what is listed then
pub record_counts : (from : Option Listing) (payload : Bytes) (listing made : Listing) (es : List Edit)
    → after_all from es ≡ Some listing → made ≡ record listing
    { records = listing.records + 1; length = listing.length + (5 + length payload) } → Some made ≡ with_record_counted payload (after_all from es)
record_counts from payload listing made es listed is = ap Some is ∙ sym (ap (with_record_counted payload) listed)

-- what a test for no bytes told
pub some_left : (left shown : Bytes) (test : Bool) → shown ≡ left → test ≡ (length shown == 0) → test ≡ false → left ≢ []
some_left [] shown test is tested failed none = let e : length shown ≡ 0 = ap length is in let t : test ≡ true = tested ∙ ap (λ n. n == 0) e in cc
some_left (b ∷ bs) shown test is tested failed none = cc

zero_of : (n : ℕ) → (n == 0) ≡ true → n ≡ 0
zero_of n is = grind (arith, nat_tests)

pub none_left : (left shown : Bytes) (test : Bool) → shown ≡ left → test ≡ (length shown == 0) → test ≡ true → left ≡ []
none_left [] shown test is tested passed = refl
none_left (b ∷ bs) shown test is tested passed = let e : length shown ≡ 0 = zero_of (length shown) (sym tested ∙ passed) in absurd (omega (arith, e, ap length is))
