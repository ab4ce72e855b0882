-- For callers: a gathering stays one of postings in their order, each once, as one is added that isn't there.
use Rattle.std.proofs.Common.{◌≡◌, ◌≢◌, List, [], ◌∷◌, refl, sym, ◌∙◌, ap}
use Rattle.std.specs.Prelude.{if◌then◌else◌}
use Rattle.std.specs.List.{AllByRecursion}
use Rattle.std.specs.List.Sorted.{IsStrictlySortedBy}
use Rattle.std.specs.Ordering.{is_gt, ordering_reverse}
use Rattle.std.specs.declared.cmp.Ordering.{Ordering}
use Rattle.std.specs.declared.cmp.Ordering.TheVariants.{Less, Equal, Greater}
use Rattle.std.specs.Cmp.{IsTotalOrder}
use Rattle.sasi_segments.specs.declared.posting.Posting.{Posting}
use Rattle.sasi_segments.specs.Postings.{posting_cmp}
use Rattle.sasi_segments.specs.Sorting.{inserted}
use Rattle.sasi_segments.proofs.Order.{posting_exact, posting_total}
use Rattle.sasi_indexwrite.specs.TermsSoFar.{AreSortedPostings, IsPosting}

module _ {X : Type 0} (cmp : X → X → Ordering) where
  abbrev place : Ordering → X → X → List X → List X
  place r x y ys = if is_gt r then y ∷ inserted cmp x ys else x ∷ y ∷ ys

  all_by : (P : X → Type 0) (r : Ordering) (x y : X) (ys : List X) → P x → P y → AllByRecursion P ys → AllByRecursion P (inserted cmp x ys) → AllByRecursion P (place r x y ys)
  all_by P Less x y ys here first all rest = (here, (first, all))
  all_by P Equal x y ys here first all rest = (here, (first, all))
  all_by P Greater x y ys here first all rest = (first, rest)

  pub all_inserted : (P : X → Type 0) (x : X) (ys : List X) → P x → AllByRecursion P ys → AllByRecursion P (inserted cmp x ys)
  unfolding inserted
  all_inserted P x [] here all = (here, tt)
  all_inserted P x (y ∷ ys) here all = all_by P (cmp x y) x y ys here all.0 all.1 (all_inserted P x ys here all.1)

  module _ (total : IsTotalOrder cmp) where
    all_above : (x y : X) (ys : List X) → cmp x y ≡ Less → AllByRecursion (λ z. cmp y z ≡ Less) ys → AllByRecursion (λ z. cmp x z ≡ Less) ys
    all_above x y [] less all = tt
    all_above x y (z ∷ ys) less all = (total.trans x y z less all.0, all_above x y ys less all.1)

    sorted_by : (r : Ordering) (x y : X) (ys : List X) → cmp x y ≡ r → r ≢ Equal → IsStrictlySortedBy cmp (y ∷ ys) → IsStrictlySortedBy cmp (inserted cmp x ys) → IsStrictlySortedBy cmp (place r x y ys)
    unfolding IsStrictlySortedBy
    sorted_by Less x y ys is apart sorted rest = ((is, all_above x y ys is sorted.0), sorted)
    sorted_by Equal x y ys is apart sorted rest = absurd (apart refl)
    sorted_by Greater x y ys is apart sorted rest =
        let below : cmp y x ≡ Less = total.antisymm y x ∙ ap ordering_reverse is in
        (all_inserted (λ z. cmp y z ≡ Less) x ys below sorted.0, rest)

    sorted_inserted : (x : X) (ys : List X) → IsStrictlySortedBy cmp ys → AllByRecursion (λ y. cmp x y ≢ Equal) ys → IsStrictlySortedBy cmp (inserted cmp x ys)
    unfolding inserted IsStrictlySortedBy
    sorted_inserted x [] sorted apart = (tt, tt)
    sorted_inserted x (y ∷ ys) sorted apart = sorted_by (cmp x y) x y ys refl apart.0 sorted (sorted_inserted x ys sorted.1 apart.1)

untied : (posting : Posting) (postings : List Posting) → AllByRecursion (λ q. q ≢ posting) postings → AllByRecursion (λ q. posting_cmp posting q ≢ Equal) postings
untied posting [] apart = tt
untied posting (q ∷ postings) apart = (λ tie. apart.0 (sym (posting_exact posting q tie)), untied posting postings apart.1)

-- an empty gathering is one
pub none_gathered : AreSortedPostings []
unfolding IsStrictlySortedBy
none_gathered = record { rising = tt; each = tt }

-- and it stays one
pub still_gathered : (posting : Posting) (postings : List Posting) → AreSortedPostings postings → IsPosting posting → AllByRecursion (λ q. q ≢ posting) postings → AreSortedPostings (inserted posting_cmp posting postings)
still_gathered posting postings valid one apart = record {
  rising = sorted_inserted posting_cmp posting_total posting postings valid.rising (untied posting postings apart);
  each = all_inserted posting_cmp IsPosting posting postings one valid.each;
}
