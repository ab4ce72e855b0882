-- The postings of one partition: each is one that can be stored, at the partition's pair, and none is there twice.
use Rattle.std.proofs.Common.{◌≡◌, ◌≢◌, ℕ, zero, suc, ◌+◌, get_or, subst, ◌<◌, ◌≤◌, Bool, true, false, List, [], ◌∷◌, ◌++◌, length, map, refl, sym, ◌∙◌, ap, arith}
use Rattle.std.specs.Prelude.{not, ◌||◌, if◌then◌else◌, drop, Result, Ok, Err, OnOk}
use Rattle.std.specs.List.{AllByRecursion, dedup, dedup_from, filter, list_any}
use Rattle.std.specs.List.Sorted.{IsPermutation, IsSorted, IsStrictlySortedBy}
use Rattle.std.specs.declared.cmp.Ordering.{Ordering}
use Rattle.std.proofs.lemmas.List.{append-nil, drop_all, length-map}
use Rattle.std.proofs.lemmas.List.Sorted.{IsPermutation-map}
use Rattle.std.proofs.lemmas.Map.Lookups.{exact_bytes}
use Rattle.std.specs.Cmp.{unsigned_ties}
use Rattle.std.specs.Cmp.Lexicographic.{lists_ties, nat_list_cmp_total}
use Rattle.std.specs.Ordering.{nat_cmp}
use Rattle.std.specs.declared.cmp.Ordering.TheVariants.{Less, Equal}
use Rattle.std.proofs.lemmas.Bool.{leb-true}
use Rattle.std.proofs.lemmas.Cmp.{tied_itself}
use Rattle.std.proofs.lemmas.List.Kept.{IsStrictlySortedBy-dedup}
use Rattle.sasi_types.specs.declared.list_kind.ListKind.TheVariants.{Stored, Spill}
use Rattle.sasi_types.specs.declared.tree.Pair.{Pair}
use Rattle.sasi_types.specs.Term.{term_cmp, term_eq}
use Rattle.sasi_host.specs.Names.{Bytes}
use Rattle.sasi_segments.specs.declared.posting.Posting.{Posting}
use Rattle.sasi_segments.specs.Gathering.{Gathering}
use Rattle.sasi_segments.specs.Postings.{posting_cmp, posting_of}
use Rattle.sasi_segments.specs.Sorting.{inserted, sort}
use Rattle.sasi_segments.proofs.Sorting as sorting
use Rattle.sasi_indexwrite.specs.TermsSoFar.{IsPosting}
use Rattle.sasi_indexwrite.proofs.Callers.{all_inserted}
use Rattle.sasi_indexwrite.proofs.Lists.{all_join}
use Rattle.sasi_postings.specs.Postings.{AreGathered, distinct, is_short, postings_of, spill_postings, stored_postings, with_postings}
use Rattle.sasi_postings.proofs.Adding.{Differ, all_with, below_at, below_more, new_at, sorted_with, with_both}

-- ---- the terms that are stored

module _ (P : Bytes → Type 0) where
  all_sorted : (terms : List Bytes) → AllByRecursion P terms → AllByRecursion P (sort term_cmp terms)
  unfolding sort
  all_sorted [] all = tt
  all_sorted (term ∷ terms) all = all_inserted term_cmp P term (sort term_cmp terms) all.0 (all_sorted terms all.1)

  all_once_from : (last : Bytes) (terms : List Bytes) → P last → AllByRecursion P terms → AllByRecursion P (dedup_from term_eq last terms)
  all_once_from last [] here all = (here, tt)
  all_once_from last (term ∷ terms) here all =
      elim (term_eq term last) as (λ b. AllByRecursion P (if b then dedup_from term_eq last terms else last ∷ dedup_from term_eq term terms)) [
        | true ↦ all_once_from last terms here all.1
        | false ↦ (here, all_once_from term terms all.0 all.1)
      ]

  all_once : (terms : List Bytes) → AllByRecursion P terms → AllByRecursion P (dedup term_eq terms)
  all_once [] all = tt
  all_once (term ∷ terms) all = all_once_from term terms all.0 all.1

-- each of them is short, where only short ones are kept
module _ (kept : Bytes → Bool) (shorter : (term : Bytes) → kept term ≡ true → is_short term ≡ true) where
  kept_filtered : (terms : List Bytes) → AllByRecursion (λ term. length term ≤ 1024) (filter kept terms)
  kept_filtered [] = tt
  kept_filtered (term ∷ terms) = by (kept term) refl (kept_filtered terms)
    where
      by : (b : Bool) → kept term ≡ b → AllByRecursion (λ t. length t ≤ 1024) (filter kept terms) → AllByRecursion (λ t. length t ≤ 1024) (if b then term ∷ filter kept terms else filter kept terms)
      by true is rest = (leb-true (length term) 1024 (shorter term is), rest)
      by false is rest = rest

  pub kept_distinct : (terms : List Bytes) → AllByRecursion (λ term. length term ≤ 1024) (distinct (filter kept terms))
  kept_distinct terms =
      all_once (λ term. length term ≤ 1024) (sort term_cmp (filter kept terms)) (all_sorted (λ term. length term ≤ 1024) (filter kept terms) (kept_filtered terms))

-- and they rise
pub distinct_rises : (terms : List Bytes) → IsStrictlySortedBy term_cmp (distinct terms)
distinct_rises terms =
    IsStrictlySortedBy-dedup nat_list_cmp_total (lists_ties nat_cmp unsigned_ties) (sort term_cmp terms) (sorting.sort_sorted nat_list_cmp_total terms)

-- ---- views of them

module _ {X : Type 0} (f : X → Bytes) where
  abbrev cmp_at : X → X → Ordering
  cmp_at a b = term_cmp (f a) (f b)

  abbrev eq_at : X → X → Bool
  eq_at a b = term_eq (f a) (f b)

  get_seen : (xs : List X) (k : ℕ) (d : X) (e : Bytes) → k < length xs → get_or (map f xs) k e ≡ f (get_or xs k d)
  get_seen [] k d e lt = absurd (omega arith)
  get_seen (x ∷ xs) zero d e lt = refl
  get_seen (x ∷ xs) (suc k) d e lt = get_seen xs k d e (omega arith)

  seen_sorted : (xs : List X) → IsSorted cmp_at xs → IsSorted term_cmp (map f xs)
  seen_sorted [] sorted = λ k d from within. absurd (omega arith)
  seen_sorted (x ∷ xs) sorted = λ k d from within.
      let long : k + 1 < length (x ∷ xs) = omega (arith, within, length-map (x ∷ xs) f) in
      rw (get_seen (x ∷ xs) (k + 1) x d long, get_seen (x ∷ xs) k x d (omega (arith, long))) (sorted k x from long)

  seen_once_from : (last : X) (xs : List X) → map f (dedup_from eq_at last xs) ≡ dedup_from term_eq (f last) (map f xs)
  seen_once_from last [] = refl
  seen_once_from last (x ∷ xs) =
      elim (term_eq (f x) (f last)) as (λ b. map f (if b then dedup_from eq_at last xs else last ∷ dedup_from eq_at x xs) ≡ (if b then dedup_from term_eq (f last) (map f xs) else f last ∷ dedup_from term_eq (f x) (map f xs))) [
        | true ↦ seen_once_from last xs
        | false ↦ ap (λ (l : List Bytes). f last ∷ l) (seen_once_from x xs)
      ]

  seen_once : (xs : List X) → map f (dedup eq_at xs) ≡ dedup term_eq (map f xs)
  seen_once [] = refl
  seen_once (x ∷ xs) = seen_once_from x xs

  -- what is sorted, and then has no repeats, is these terms once
  pub sorted_once : (old sorted new : List X) (terms : List Bytes) → map f old ≡ terms → IsPermutation old sorted → IsSorted cmp_at sorted → new ≡ dedup eq_at sorted → map f new ≡ distinct terms
  sorted_once old sorted new terms is moved rises kept =
      let moved_too : IsPermutation terms (map f sorted) = subst (λ (l : List Bytes). IsPermutation l (map f sorted)) is (IsPermutation-map f old sorted moved) in
      let ordered : sort term_cmp terms ≡ map f sorted = sorting.sort_is nat_list_cmp_total exact_bytes terms (map f sorted) moved_too (seen_sorted sorted rises) in
      ap (map f) kept ∙ seen_once sorted ∙ ap (dedup term_eq) (sym ordered)

  -- what holds of what is seen
  pub all_seen : (P : Bytes → Type 0) (xs : List X) (terms : List Bytes) → map f xs ≡ terms → AllByRecursion P terms → AllByRecursion (λ x. P (f x)) xs
  all_seen P xs terms is all = from xs (subst (λ (l : List Bytes). AllByRecursion P l) (sym is) all)
    where
      from : (ys : List X) → AllByRecursion P (map f ys) → AllByRecursion (λ x. P (f x)) ys
      from [] all = tt
      from (y ∷ ys) all = (all.0, from ys all.1)

-- where all terms were looked at, the short ones are those that were kept
pub all_kept : (kept terms : List Bytes) (i : ℕ) → length terms ≤ i → kept ++ filter is_short (drop i terms) ≡ filter is_short terms → kept ≡ filter is_short terms
all_kept kept terms i past is = sym (append-nil kept) ∙ ap (λ (l : List Bytes). kept ++ filter is_short l) (sym (drop_all i terms past)) ∙ is

-- ---- their postings

abbrev stored : Pair → List Bytes → List Posting
stored pair terms = map (λ (term : Bytes). posting_of term Stored pair) terms

abbrev spilled : Bool → Pair → List Posting
spilled b pair = if b then posting_of [] Spill pair ∷ [] else []

seen_postings : {X : Type 0} (f : X → Bytes) (pair : Pair) (xs : List X) → map (λ (x : X). posting_of (f x) Stored pair) xs ≡ stored pair (map f xs)
seen_postings f pair [] = refl
seen_postings f pair (x ∷ xs) = ap (λ (l : List Posting). posting_of (f x) Stored pair ∷ l) (seen_postings f pair xs)

-- the stored ones first, and then that of the spill
pub added_both : {X E : Type 0} (f : X → Bytes) (xs : List X) (terms : List Bytes) (pair : Pair) (old mid new : Gathering) (result : Result (Unit {0}) E) → map f xs ≡ distinct (filter is_short terms)
    → mid ≡ record old { postings = with_postings old.postings (map (λ (x : X). posting_of (f x) Stored pair) xs) } → OnOk result (new ≡ record mid { postings = with_postings mid.postings (spill_postings is_short pair terms) })
    → OnOk result (new ≡ record old { postings = with_postings old.postings (postings_of is_short pair terms) })
added_both f xs terms pair old mid new (Err fault) is first second = tt
added_both {X} f xs terms pair old mid new (Ok done) is first second =
    second ∙ ap (λ (g : Gathering). record g { postings = with_postings g.postings (spill_postings is_short pair terms) }) first
    ∙ ap (λ (l : List Posting). record old { postings = l }) (with_both old.postings (map (λ (x : X). posting_of (f x) Stored pair) xs) (spill_postings is_short pair terms)
    ∙ ap (λ (l : List Posting). with_postings old.postings (l ++ spill_postings is_short pair terms)) (seen_postings f pair xs ∙ ap (stored pair) is))

not_less : (a b : Bytes) → term_cmp a b ≡ Less → b ≡ a → ⊥
not_less a b less same =
    let tied : term_cmp a a ≡ Equal = tied_itself nat_list_cmp_total a in
    let here : term_cmp a a ≡ Less = sym (ap (term_cmp a) same) ∙ less in
    cc

differ_stored : (pair : Pair) (term : Bytes) (terms : List Bytes) → AllByRecursion (λ t. term_cmp term t ≡ Less) terms
    → AllByRecursion (λ q. q ≢ posting_of term Stored pair) (stored pair terms)
differ_stored pair term [] all = tt
differ_stored pair term (t ∷ terms) all =
    ((λ same. not_less term t all.0 (ap (λ (p : Posting). p.term) same)), differ_stored pair term terms all.1)

differ_spilled : (b : Bool) (pair : Pair) (term : Bytes) → AllByRecursion (λ q. q ≢ posting_of term Stored pair) (spilled b pair)
differ_spilled true pair term = ((λ same. both_lists (ap (λ (p : Posting). p.list) same)), tt)
  where
    both_lists : Spill ≡ Stored → ⊥
    both_lists e = cc
differ_spilled false pair term = tt

once_spilled : (b : Bool) (pair : Pair) → Differ (spilled b pair)
once_spilled true pair = (tt, tt)
once_spilled false pair = tt

differ : (b : Bool) (pair : Pair) (terms : List Bytes) → IsStrictlySortedBy term_cmp terms → Differ (stored pair terms ++ spilled b pair)
unfolding IsStrictlySortedBy
differ b pair [] rises = once_spilled b pair
differ b pair (term ∷ terms) rises = (
  all_join (λ q. q ≢ posting_of term Stored pair) (stored pair terms) (spilled b pair) (differ_stored pair term terms rises.0) (differ_spilled b pair term),
  differ b pair terms rises.1,
)

-- none is there twice
postings_differ : (kept : Bytes → Bool) (pair : Pair) (terms : List Bytes) → Differ (postings_of kept pair terms)
postings_differ kept pair terms = differ (list_any (λ term. not (kept term)) terms) pair (distinct (filter kept terms)) (distinct_rises (filter kept terms))

stored_posting : (pair : Pair) (terms : List Bytes) → AllByRecursion (λ term. length term ≤ 1024) terms → AllByRecursion IsPosting (stored pair terms)
stored_posting pair [] all = tt
stored_posting pair (term ∷ terms) all = (record { short = all.0; spill = λ is. absurd (cc) }, stored_posting pair terms all.1)

spilled_posting : (b : Bool) (pair : Pair) → AllByRecursion IsPosting (spilled b pair)
spilled_posting true pair = (record { short = omega arith; spill = λ is. refl }, tt)
spilled_posting false pair = tt

stored_at : (pair : Pair) (terms : List Bytes) → AllByRecursion (λ p. p.pair.place ≡ pair.place) (stored pair terms)
stored_at pair [] = tt
stored_at pair (term ∷ terms) = (refl, stored_at pair terms)

spilled_at : (b : Bool) (pair : Pair) → AllByRecursion (λ p. p.pair.place ≡ pair.place) (spilled b pair)
spilled_at true pair = (refl, tt)
spilled_at false pair = tt

-- and each is at the pair's offset
postings_place : (kept : Bytes → Bool) (pair : Pair) (terms : List Bytes) → AllByRecursion (λ p. p.pair.place ≡ pair.place) (postings_of kept pair terms)
postings_place kept pair terms =
    all_join (λ p. p.pair.place ≡ pair.place) (stored_postings kept pair terms) (spill_postings kept pair terms) (stored_at pair (distinct (filter kept terms)))
    (spilled_at (list_any (λ term. not (kept term)) terms) pair)

module _ (kept : Bytes → Bool) (shorter : (term : Bytes) → kept term ≡ true → is_short term ≡ true) where
  -- each can be stored
  postings_each : (pair : Pair) (terms : List Bytes) → AllByRecursion IsPosting (postings_of kept pair terms)
  postings_each pair terms =
      all_join IsPosting (stored_postings kept pair terms) (spill_postings kept pair terms) (stored_posting pair (distinct (filter kept terms)) (kept_distinct kept shorter terms))
      (spilled_posting (list_any (λ term. not (kept term)) terms) pair)

  -- one partition more can be written too
  pub gathered_with : (all : List Posting) (pair : Pair) (terms : List Bytes) (next : ℕ) → pair.place < next → AreGathered all pair.place
      → AreGathered (with_postings all (postings_of kept pair terms)) next
  gathered_with all pair terms next lt old = record {
    sorted = sorted_with all (postings_of kept pair terms) old.sorted (postings_each pair terms) (postings_differ kept pair terms) (new_at pair.place all (postings_of kept pair terms) old.below (postings_place kept pair terms));
    below = all_with (λ p. p.pair.place < next) all (postings_of kept pair terms) (below_more pair.place next all (omega (arith, lt)) old.below) (below_at pair.place next (postings_of kept pair terms) lt (postings_place kept pair terms));
  }

-- ---- the only term of a value

alone : Bool → Pair → Bytes → List Posting
alone true pair term = posting_of term Stored pair ∷ []
alone false pair term = posting_of [] Spill pair ∷ []

-- its one posting
alone_is : (pair : Pair) (term : Bytes) → postings_of is_short pair (term ∷ []) ≡ alone (is_short term) pair term
unfolding alone sort inserted
alone_is pair term = by (is_short term)
  where
    by : (b : Bool) → map (λ t. posting_of t Stored pair) (distinct (if b then term ∷ [] else [])) ++ (if not b || false then posting_of [] Spill pair ∷ [] else []) ≡ alone b pair term
    by true = refl
    by false = refl

pub short_added : {E : Type 0} (pair : Pair) (term bytes : Bytes) (old new : Gathering) (result : Result (Unit {0}) E) → is_short term ≡ true → bytes ≡ term
    → OnOk result (new ≡ record old { postings = inserted posting_cmp (posting_of bytes Stored pair) old.postings })
    → OnOk result (new ≡ record old { postings = with_postings old.postings (postings_of is_short pair (term ∷ [])) })
unfolding alone
short_added pair term bytes old new result short same added =
    subst (λ (l : List Posting). OnOk result (new ≡ record old { postings = with_postings old.postings l })) (sym (alone_is pair term ∙ ap (λ (b : Bool). alone b pair term) short))
    (subst (λ (t : Bytes). OnOk result (new ≡ record old { postings = inserted posting_cmp (posting_of t Stored pair) old.postings })) same added)

pub long_added : {E : Type 0} (pair : Pair) (term : Bytes) (old new : Gathering) (result : Result (Unit {0}) E) → is_short term ≡ false → OnOk result (new ≡ record old { postings = inserted posting_cmp (posting_of [] Spill pair) old.postings })
    → OnOk result (new ≡ record old { postings = with_postings old.postings (postings_of is_short pair (term ∷ [])) })
unfolding alone
long_added pair term old new result long added =
    subst (λ (l : List Posting). OnOk result (new ≡ record old { postings = with_postings old.postings l })) (sym (alone_is pair term ∙ ap (λ (b : Bool). alone b pair term) long)) added
