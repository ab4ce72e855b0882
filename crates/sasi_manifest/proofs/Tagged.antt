-- Edits after their tags.
use Rattle.std.proofs.Common.{◌≡◌, ◌≤◌, ℕ, zero, suc, Bool, true, false, [], None, Some, Result, length, take, refl, ap, ◌∙◌, arith, rules}
use Rattle.std.specs.Int.{w8}
use Rattle.sasi_types.specs.declared.column.ColumnType.{ColumnType}
use Rattle.sasi_types.specs.declared.rule.Rule.TheVariants.{Whole, Words}
use Rattle.sasi_model.specs.Indexes.{is_text}
use Rattle.sasi_fields.specs.Reading.{Reading}
use Rattle.sasi_host.specs.declared.damage.FormatRule.TheVariants as rule
use Rattle.sasi_formats.specs.Codings.{own_tag}
use Rattle.sasi_formats.specs.Formats.{Format}
use Rattle.sasi_formats.specs.Fields.{◌&◌, flag, in_range, number}
use Rattle.sasi_formats.specs.Gives.{FailsWith, Gives}
use Rattle.sasi_formats.specs.Reader.{Corruption, Short, Long, Outcome, Got, Failed, ◌>>=◌, outcome_as, tried, read}
use Rattle.sasi_formats.specs.declared.fault.FormatFault.{FormatFault}
use Rattle.sasi_formats.specs.declared.fault.FormatFault.TheVariants as fault
use Rattle.sasi_formats.proofs.Agreement.{reads_exactly}
use Rattle.sasi_formats.proofs.Encoding.{fits}
use Rattle.sasi_formats.proofs.Fitting.{both_true, fits_checked, fits_range}
use Rattle.sasi_formats.proofs.Tags.{tagged_gives}
use Rattle.sasi_manifest.specs.declared.edit.Edit.{Edit}
use Rattle.sasi_manifest.specs.declared.edit.Edit.TheVariants.{CreateIndex}
use Rattle.sasi_manifest.specs.declared.listing.Listing.{Listing}
use Rattle.sasi_manifest.specs.Edits.{EditFields, RuleFields, analysis, by_tag, create, create_index, create_of, edit, folding, is_later_tag, is_rule_code, later_tag, new_index_def, rule_byte, rule_tag, new_table, partitioner, replace, replace_of, replacement, start, start_of, tag_of}
use Rattle.sasi_manifest.specs.Abbreviations.{segments}
use Rattle.std.specs.Prelude.{◌==◌, ◌||◌, nat_le}

-- a range of one number
one_number : (least n : ℕ) (s t : Reading) → read (in_range w8 least least) s ≡ Got n t → n ≡ least
one_number least n s t got =
    let next = (reads_exactly (in_range w8 least least) s t n).0 got in
    let range = fits_range w8 least least n (fits (in_range w8 least least) n next.field next.is) in
    omega (arith, range.above, range.below)

-- a tag that is another than 2 and 3
other_tag : (n : ℕ) → is_later_tag n ≡ true → (n == 2) ≡ false → (n == 3) ≡ false → n ≡ 5
other_tag n is other more = by (n == 2) (n == 3) (n == 5) is other more (λ five. search (rules, five))
  where
    by : (two three five : Bool) → (two || (three || five)) ≡ true → two ≡ false → three ≡ false → (five ≡ true → n ≡ 5) → n ≡ 5
    by true three five is other more h = (let no : true ≡ false = other in cc)
    by false true five is other more h = (let no : true ≡ false = more in cc)
    by false false five is other more h = h is

the_later : (n : ℕ) (s t : Reading) → read later_tag s ≡ Got n t → is_later_tag n ≡ true
the_later n s t got =
    let next = (reads_exactly later_tag s t n).0 got in
    (fits_checked rule.Number 1 is_later_tag (number w8) n (fits later_tag n next.field next.is)).1

abbrev tried_edit : (ℕ → Format Edit) → Reading → Outcome ℕ → Outcome Edit
tried_edit next s tag = (tag >>= λ n t. outcome_as (λ e. (n, e)) (read (next n) t)) >>= λ both behind. tried (own_tag tag_of both) rule.Number (length s.done) (take 1 s.left) behind

-- the corruption of a tag is that of its edit
first_handed : (s : Reading) (c : Corruption) → read (in_range w8 1 1) s ≡ Failed c → read (edit None) s ≡ Failed c
unfolding edit
first_handed s c is = ap (tried_edit (by_tag [] 0) s) is

later_handed : (listing : Listing) (s : Reading) (c : Corruption) → read later_tag s ≡ Failed c → read (edit (Some listing)) s ≡ Failed c
unfolding edit
later_handed listing s c is = ap (tried_edit (by_tag listing.tables listing.last) s) is

-- no edit is read where its tag isn't
fails_after : (tag : Outcome ℕ) (whole : Outcome Edit) → ((c : Corruption) → tag ≡ Failed c → whole ≡ Failed c) → (f : FormatFault) → FailsWith tag f → FailsWith whole f
fails_after tag whole handed fault.OutOfMemory h = tt
fails_after tag whole handed fault.Short h = handed Short h
fails_after tag whole handed fault.Long h = handed Long h
fails_after tag whole handed (fault.Broken broken) h = handed _ h

pub first_tag_fails : (s : Reading) (f : FormatFault) → FailsWith (read (in_range w8 1 1) s) f → FailsWith (read (edit None) s) f
first_tag_fails s f h = fails_after (read (in_range w8 1 1) s) (read (edit None) s) (first_handed s) f h

pub later_tag_fails : (listing : Listing) (s : Reading) (f : FormatFault) → FailsWith (read later_tag s) f → FailsWith (read (edit (Some listing)) s) f
later_tag_fails listing s f h = fails_after (read later_tag s) (read (edit (Some listing)) s) (later_handed listing s) f h

-- a start after its tag
pub start_gives : (n : ℕ) (s t u : Reading) (result : Result Edit FormatFault) → read (in_range w8 1 1) s ≡ Got n t → Gives (read start t) result u → Gives (read (edit None) s) result u
unfolding edit
start_gives n s t u result got h =
    tagged_gives (in_range w8 1 1) tag_of (by_tag [] 0) 1 s t (got ∙ ap (λ (m : ℕ). Got m t) (one_number 1 n s t got)) start_of (λ _. refl) (read (partitioner & segments) t) refl result u h

-- a new table after its tag
pub create_gives : (listing : Listing) (n : ℕ) (s t u : Reading) (result : Result Edit FormatFault) → n ≡ 2 → read later_tag s ≡ Got n t → Gives (read (create listing.tables listing.last) t) result u → Gives (read (edit (Some listing)) s) result u
unfolding edit
create_gives listing n s t u result is got h =
    tagged_gives later_tag tag_of (by_tag listing.tables listing.last) 2 s t (got ∙ ap (λ (m : ℕ). Got m t) is) create_of (λ _. refl) (read (new_table listing.tables listing.last) t) refl result u h

-- a new index after its tag
pub index_gives : (listing : Listing) (n : ℕ) (s t u : Reading) (result : Result Edit FormatFault) → n ≡ 3 → read later_tag s ≡ Got n t → Gives (read (create_index listing.tables) t) result u → Gives (read (edit (Some listing)) s) result u
unfolding edit create_index
index_gives listing n s t u result is got h =
    tagged_gives later_tag tag_of (by_tag listing.tables listing.last) 3 s t (got ∙ ap (λ (m : ℕ). Got m t) is) (λ (f : EditFields). CreateIndex f.0 f.1) (λ _. refl) (read (new_index_def listing.tables) t) refl result u h

-- files in the place of others after their tag
pub replace_gives : (listing : Listing) (n : ℕ) (s t u : Reading) (result : Result Edit FormatFault) → (n == 2) ≡ false → (n == 3) ≡ false → read later_tag s ≡ Got n t → Gives (read (replace listing.tables) t) result u → Gives (read (edit (Some listing)) s) result u
unfolding edit replace
replace_gives listing n s t u result other more got h =
    tagged_gives later_tag tag_of (by_tag listing.tables listing.last) 5 s t (got ∙ ap (λ (m : ℕ). Got m t) (other_tag n (the_later n s t got) other more)) replace_of (λ _. refl) (read (replacement listing.tables) t) refl result u h

-- ---- how a column is indexed

-- a rule after its byte
pub rule_gives : (type : ColumnType) (n : ℕ) (s t u : Reading) (result : Result RuleFields FormatFault) → read (rule_byte type) s ≡ Got n t → Gives (read (folding n) t) result u → Gives (read (analysis type) s) result u
rule_gives type n s t u result got h = by n (rule_codes (is_text type) n (rule_read type n s t got)) got h
  where
    rule_read : (type : ColumnType) (n : ℕ) (s t : Reading) → read (rule_byte type) s ≡ Got n t → is_rule_code (is_text type) n ≡ true
    rule_read type n s t got =
        let next = (reads_exactly (rule_byte type) s t n).0 got in
        (fits_checked rule.Number 1 (is_rule_code (is_text type)) (number w8) n (fits (rule_byte type) n next.field next.is)).1

    rule_codes : (of_text : Bool) (n : ℕ) → is_rule_code of_text n ≡ true → n ≤ 2
    rule_codes true n is = search (rules, (both_true (nat_le 1 n) (nat_le n 2) is).1)
    rule_codes false n is = (let none : n ≡ 0 = search (rules, is) in omega (arith, none))

    by : (n : ℕ) → n ≤ 2 → read (rule_byte type) s ≡ Got n t → Gives (read (folding n) t) result u → Gives (read (analysis type) s) result u
    by zero few got h = tagged_gives (rule_byte type) rule_tag folding 0 s t got (λ fold. (None, fold)) (λ _. refl) (read flag t) refl result u h
    by (suc zero) few got h = tagged_gives (rule_byte type) rule_tag folding 1 s t got (λ fold. (Some (Whole fold), fold)) (λ _. refl) (read flag t) refl result u h
    by (suc (suc zero)) few got h = tagged_gives (rule_byte type) rule_tag folding 2 s t got (λ fold. (Some (Words fold), fold)) (λ _. refl) (read flag t) refl result u h
    by (suc (suc (suc n))) few got h = absurd (omega (arith, few))
