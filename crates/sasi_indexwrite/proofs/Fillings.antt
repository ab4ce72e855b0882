-- For callers: one more posting of a gathering that is filled in its order.
use Rattle.std.proofs.Common.{◌≡◌, ◌≢◌, true, false, List, [], ◌∷◌, refl, sym, ◌∙◌, ap}
use Rattle.std.specs.List.{AllByRecursion}
use Rattle.std.specs.Ordering.{is_gt, is_lt, ordering_reverse}
use Rattle.std.specs.declared.cmp.Ordering.{Ordering}
use Rattle.std.specs.declared.cmp.Ordering.TheVariants.{Less, Equal, Greater}
use Rattle.std.proofs.lemmas.Cmp.{tied_itself, upto}
use Rattle.sasi_segments.specs.declared.posting.Posting.{Posting}
use Rattle.sasi_segments.specs.Postings.{posting_cmp}
use Rattle.sasi_segments.specs.Sorting.{inserted}
use Rattle.sasi_segments.proofs.Order.{posting_total}
use Rattle.sasi_indexwrite.specs.TermsSoFar.{AreUpTo, IsPosting}
use Rattle.sasi_indexwrite.proofs.Callers.{all_inserted, none_gathered, still_gathered}

pub none_up_to : (last : Posting) → AreUpTo [] last
none_up_to last = record { valid = none_gathered; up_to = tt }

not_above : (r : Ordering) → r ≡ Less → is_gt r ≡ false
not_above Less is = refl
not_above Equal is = absurd cc
not_above Greater is = absurd cc

less_of : (r : Ordering) → is_lt r ≡ true → r ≡ Less
less_of Less is = refl
less_of Equal is = absurd cc
less_of Greater is = absurd cc

module _ (last next : Posting) (below : posting_cmp last next ≡ Less) where
  -- none of those up to the last is the next
  apart : (postings : List Posting) → AllByRecursion (λ q. is_gt (posting_cmp q last) ≡ false) postings → AllByRecursion (λ q. q ≢ next) postings
  apart [] all = tt
  apart (q ∷ postings) all = (
    λ is.
        let above : posting_cmp next last ≡ Greater = posting_total.antisymm next last ∙ ap ordering_reverse below in
        let no : is_gt Greater ≡ false = ap is_gt (sym above) ∙ ap (λ (p : Posting). is_gt (posting_cmp p last)) (sym is) ∙ all.0 in
        cc,
    apart postings all.1,
  )

  up_to_next : (postings : List Posting) → AllByRecursion (λ q. is_gt (posting_cmp q last) ≡ false) postings → AllByRecursion (λ q. is_gt (posting_cmp q next) ≡ false) postings
  up_to_next [] all = tt
  up_to_next (q ∷ postings) all = (upto posting_total q last next all.0 (not_above (posting_cmp last next) below), up_to_next postings all.1)

  pub added_up_to : (postings : List Posting) → AreUpTo postings last → IsPosting next → AreUpTo (inserted posting_cmp next postings) next
  added_up_to postings so_far one = record {
    valid = still_gathered next postings so_far.valid one (apart postings so_far.up_to);
    up_to = all_inserted posting_cmp (λ q. is_gt (posting_cmp q next) ≡ false) next postings (ap is_gt (tied_itself posting_total next)) (up_to_next postings so_far.up_to);
  }

pub filled : (last next : Posting) → is_lt (posting_cmp last next) ≡ true → (postings : List Posting) → AreUpTo postings last → IsPosting next → AreUpTo (inserted posting_cmp next postings) next
filled last next below postings so_far one = added_up_to last next (less_of (posting_cmp last next) below) postings so_far one
