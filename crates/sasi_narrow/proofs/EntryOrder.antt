-- The order of entries, as a search has it.
use Rattle.std.proofs.Common.{◌≡◌, ◌&&◌, ◌||◌, nat_eq, List, [], ◌∷◌, refl, sym, ◌∙◌, ap}
use Rattle.std.specs.declared.cmp.Ordering.{Ordering}
use Rattle.std.specs.declared.cmp.Ordering.TheVariants.{Less, Equal, Greater}
use Rattle.std.specs.Cmp.{IsTotalOrder, nat_cmp_total, unsigned_ties}
use Rattle.std.specs.List.{AllByRecursion, list_any}
use Rattle.std.specs.List.Sorted.{IsStrictlySortedBy}
use Rattle.std.specs.Ordering.{eq_by_cmp, is_eq, nat_cmp, ordering_then}
use Rattle.std.proofs.lemmas.Cmp.{on_total, then_total}
use Rattle.sasi_ranges.specs.declared.entry.Entry.{Entry}
use Rattle.sasi_ranges.specs.Entries.{Above, Rises, entry_cmp}
use Rattle.sasi_narrow.specs.Narrowing.{has_entry, same_entry}

-- ---- entries that tie

both_tie : (r s : Ordering) → is_eq (ordering_then r s) ≡ (is_eq r && is_eq s)
both_tie Less s = refl
both_tie Equal s = refl
both_tie Greater s = refl

entry_ties : (a b : Entry) → eq_by_cmp entry_cmp a b ≡ same_entry a b
entry_ties a b =
    both_tie (ordering_then (ordering_then (nat_cmp a.token b.token) (nat_cmp a.leaf b.leaf)) (nat_cmp a.part b.part)) (nat_cmp a.place b.place)
    ∙ ap (λ x. x && is_eq (nat_cmp a.place b.place)) (
    both_tie (ordering_then (nat_cmp a.token b.token) (nat_cmp a.leaf b.leaf)) (nat_cmp a.part b.part)
    ∙ ap (λ x. x && is_eq (nat_cmp a.part b.part)) (both_tie (nat_cmp a.token b.token) (nat_cmp a.leaf b.leaf))
    )
    ∙ ap (λ x. ((x && is_eq (nat_cmp a.leaf b.leaf)) && is_eq (nat_cmp a.part b.part)) && is_eq (nat_cmp a.place b.place)) (sym (unsigned_ties a.token b.token))
    ∙ ap (λ x. ((nat_eq a.token b.token && x) && is_eq (nat_cmp a.part b.part)) && is_eq (nat_cmp a.place b.place)) (sym (unsigned_ties a.leaf b.leaf))
    ∙ ap (λ x. ((nat_eq a.token b.token && nat_eq a.leaf b.leaf) && x) && is_eq (nat_cmp a.place b.place)) (sym (unsigned_ties a.part b.part))
    ∙ ap (λ x. ((nat_eq a.token b.token && nat_eq a.leaf b.leaf) && nat_eq a.part b.part) && x) (sym (unsigned_ties a.place b.place))

-- the order that the derive gives
abbrev pub nested_cmp : Entry → Entry → Ordering
nested_cmp a b = ordering_then (nat_cmp a.token b.token) (ordering_then (nat_cmp a.leaf b.leaf) (ordering_then (nat_cmp a.part b.part) (nat_cmp a.place b.place)))

pub nested_total : IsTotalOrder nested_cmp
nested_total =
    then_total (on_total (λ (e : Entry). e.token) nat_cmp_total)
    (then_total (on_total (λ (e : Entry). e.leaf) nat_cmp_total) (then_total (on_total (λ (e : Entry). e.part) nat_cmp_total) (on_total (λ (e : Entry). e.place) nat_cmp_total)))

regrouped : (p q r : Ordering) → ordering_then p (ordering_then q r) ≡ ordering_then (ordering_then p q) r
regrouped Less q r = refl
regrouped Equal q r = refl
regrouped Greater q r = refl

nested_is : (a b : Entry) → nested_cmp a b ≡ entry_cmp a b
nested_is a b =
    regrouped (nat_cmp a.token b.token) (nat_cmp a.leaf b.leaf) (ordering_then (nat_cmp a.part b.part) (nat_cmp a.place b.place))
    ∙ regrouped (ordering_then (nat_cmp a.token b.token) (nat_cmp a.leaf b.leaf)) (nat_cmp a.part b.part) (nat_cmp a.place b.place)

-- an entry is there where one ties with it
pub any_ties : (e : Entry) (es : List Entry) → list_any (λ (y : Entry). eq_by_cmp nested_cmp e y) es ≡ has_entry es e
any_ties e [] = refl
any_ties e (x ∷ es) =
    ap (λ b. b || list_any (λ (y : Entry). eq_by_cmp nested_cmp e y) es) (ap is_eq (nested_is e x) ∙ entry_ties e x)
    ∙ ap (λ b. same_entry e x || b) (any_ties e es)

-- entries that rise are strictly sorted
pub entries_strictly : (es : List Entry) → Rises es → IsStrictlySortedBy (λ a b. nested_cmp a b) es
unfolding IsStrictlySortedBy
entries_strictly [] rises = tt
entries_strictly (e ∷ es) rises = (each es rises.0, entries_strictly es rises.1)
  where
    each : (xs : List Entry) → AllByRecursion (Above e) xs → AllByRecursion (λ y. nested_cmp e y ≡ Less) xs
    each [] all = tt
    each (x ∷ xs) all = (nested_is e x ∙ all.0, each xs all.1)
