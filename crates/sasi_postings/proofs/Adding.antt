-- Laws of postings that come to others in their order.
use Rattle.std.proofs.Common.{◌≡◌, ◌≢◌, ℕ, ◌<◌, ◌≤◌, List, [], ◌∷◌, ◌++◌, sym, ◌∙◌, ap, arith, append_assoc}
use Rattle.std.specs.List.{AllByRecursion}
use Rattle.std.proofs.lemmas.List.{append-nil}
use Rattle.std.proofs.lemmas.List.Sums.{fold-append}
use Rattle.sasi_segments.specs.declared.posting.Posting.{Posting}
use Rattle.sasi_segments.specs.Postings.{in_order, posting_cmp}
use Rattle.sasi_segments.specs.Sorting.{inserted}
use Rattle.sasi_segments.proofs.Order.{posting_exact, posting_total}
use Rattle.sasi_segments.proofs.Sorting as sorting
use Rattle.sasi_indexwrite.specs.TermsSoFar.{AreSortedPostings, IsPosting}
use Rattle.sasi_indexwrite.proofs.Callers.{all_inserted, still_gathered}
use Rattle.sasi_postings.specs.Postings.{with_postings}

-- it doesn't matter whether they are put in order one by one, or all in the end
pub with_in_order : (all added : List Posting) → with_postings (in_order all) added ≡ in_order (all ++ added)
with_in_order all [] = ap in_order (sym (append-nil all))
with_in_order all (p ∷ added) =
    ap (λ (l : List Posting). with_postings l added) (sym (sorting.sort_push posting_total posting_exact all p)) ∙ with_in_order (all ++ p ∷ []) added
    ∙ ap in_order (append_assoc all (p ∷ []) added)

-- some, and then others
pub with_both : (all first second : List Posting) → with_postings (with_postings all first) second ≡ with_postings all (first ++ second)
with_both all first second = sym (fold-append (λ (l : List Posting) (p : Posting). inserted posting_cmp p l) all first second)

-- what all of them have
pub all_with : (P : Posting → Type 0) (all added : List Posting) → AllByRecursion P all → AllByRecursion P added → AllByRecursion P (with_postings all added)
all_with P all [] old new = old
all_with P all (p ∷ added) old new = all_with P (inserted posting_cmp p all) added (all_inserted posting_cmp P p all new.0 old) new.1

-- ---- each once

-- each differs from those behind it
abbrev pub Differ : List Posting → Type 0
Differ [] = Unit {0}
Differ (p ∷ ps) = AllByRecursion (λ q. q ≢ p) ps × Differ ps

-- and none is one of these
abbrev pub AreNew : List Posting → List Posting → Type 0
AreNew all [] = Unit {0}
AreNew all (p ∷ ps) = AllByRecursion (λ q. q ≢ p) all × AreNew all ps

new_with : (p : Posting) (all added : List Posting) → AllByRecursion (λ q. q ≢ p) added → AreNew all added → AreNew (inserted posting_cmp p all) added
new_with p all [] apart new = tt
new_with p all (q ∷ added) apart new =
    (all_inserted posting_cmp (λ r. r ≢ q) p all (λ same. apart.0 (sym same)) new.0, new_with p all added apart.1 new.1)

-- sorted postings stay so
pub sorted_with : (all added : List Posting) → AreSortedPostings all → AllByRecursion IsPosting added → Differ added → AreNew all added → AreSortedPostings (with_postings all added)
sorted_with all [] sorted each differ new = sorted
sorted_with all (p ∷ added) sorted each differ new =
    sorted_with (inserted posting_cmp p all) added (still_gathered p all sorted each.0 new.0) each.1 differ.1 (new_with p all added differ.0 new.1)

-- ---- of a further partition

below_apart : (place : ℕ) (p : Posting) (all : List Posting) → p.pair.place ≡ place → AllByRecursion (λ q. q.pair.place < place) all → AllByRecursion (λ q. q ≢ p) all
below_apart place p [] at below = tt
below_apart place p (q ∷ all) at below = ((λ same. absurd (omega (arith, below.0, at, ap (λ (r : Posting). r.pair.place) same))), below_apart place p all at below.1)

-- no posting of one offset is among those of lower ones
pub new_at : (place : ℕ) (all added : List Posting) → AllByRecursion (λ q. q.pair.place < place) all → AllByRecursion (λ p. p.pair.place ≡ place) added → AreNew all added
new_at place all [] below at = tt
new_at place all (p ∷ added) below at = (below_apart place p all at.0 below, new_at place all added below at.1)

-- what is below an offset is below a higher one
pub below_more : (place next : ℕ) (all : List Posting) → place ≤ next → AllByRecursion (λ q. q.pair.place < place) all → AllByRecursion (λ q. q.pair.place < next) all
below_more place next [] le below = tt
below_more place next (q ∷ all) le below = (omega (arith, below.0), below_more place next all le below.1)

pub below_at : (place next : ℕ) (added : List Posting) → place < next → AllByRecursion (λ p. p.pair.place ≡ place) added → AllByRecursion (λ p. p.pair.place < next) added
below_at place next [] lt at = tt
below_at place next (p ∷ added) lt at = (omega (arith, at.0), below_at place next added lt at.1)
