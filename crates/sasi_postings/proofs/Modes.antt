-- For callers: what an index of a mode keeps of the gathered postings of a data file are the postings of that index.
use Rattle.std.proofs.Common.{◌≡◌, ℕ, Bool, true, false, cond, ◌&&◌, ◌||◌, not, if◌then◌else◌, List, [], ◌∷◌, map, refl, sym, ap, ap₂, ◌∙◌}
use Rattle.std.specs.Prelude.{Option}
use Rattle.std.specs.FinMap as map_
use Rattle.std.specs.Cmp.{IsTotalOrder, both_tied, nat_cmp_total, unsigned_ties}
use Rattle.std.specs.List.{AllByRecursion, filter, flat_map, list_any}
use Rattle.std.specs.List.Sorted.{IsStrictlySortedBy}
use Rattle.std.specs.Ordering.{eq_by_cmp, nat_cmp}
use Rattle.std.proofs.lemmas.Bool.{eqb-true}
use Rattle.std.proofs.lemmas.Cmp.{on_total, then_total}
use Rattle.std.proofs.lemmas.List.Folds.{list_any-append}
use Rattle.std.proofs.lemmas.List.Kept.{IsStrictlySortedBy-dedup, IsStrictlySortedBy-filter}
use Rattle.sasi_types.specs.declared.list_kind.ListKind.{ListKind}
use Rattle.sasi_types.specs.declared.list_kind.ListKind.TheVariants.{Stored, Spill}
use Rattle.sasi_types.specs.declared.mode.Mode.{Mode}
use Rattle.sasi_types.specs.declared.mode.Mode.TheVariants.{Prefix, Contains, Sparse}
use Rattle.sasi_types.specs.declared.partitioner.Partitioner.{Partitioner}
use Rattle.sasi_types.specs.declared.rule.Rule.{Rule}
use Rattle.sasi_types.specs.declared.tree.Pair.{Pair}
use Rattle.sasi_host.specs.Names.{Bytes}
use Rattle.sasi_model.specs.Cells.{Partition}
use Rattle.sasi_model.specs.IndexTerms.{terms_of_cell}
use Rattle.sasi_segments.specs.declared.posting.Posting.{Posting}
use Rattle.sasi_segments.specs.Postings.{in_order, posting_cmp, posting_of}
use Rattle.sasi_segments.specs.Sorting.{sort}
use Rattle.sasi_segments.proofs.Order.{posting_exact, posting_total}
use Rattle.sasi_segments.proofs.Sorting as sorting
use Rattle.sasi_datawrite.specs.Format.{Content}
use Rattle.sasi_sparse.specs.Sparse.{is_stored}
use Rattle.sasi_indexwrite.specs.Stored.{count_under, is_kept_as, sparse_spill, stored}
use Rattle.sasi_indexwrite.specs.Stored as file
use Rattle.sasi_indexwrite.specs.Unions.{pair_cmp, same_pair, union_of}
use Rattle.sasi_postings.specs.Postings.{distinct, gathered_postings, index_postings, is_kept, is_short, keys_with, paired, postings_at, postings_of, spill_postings}
use Rattle.sasi_postings.proofs.Contents.{content_gathered}
use Rattle.sasi_postings.proofs.Counts.{count_is, distinct_any}
use Rattle.sasi_postings.proofs.ListTests.{flat_any, once_any, sorted_any}
use Rattle.sasi_postings.proofs.Rising.{one_list, spill_each, spill_rises, stored_then_spill}

-- ---- tests of a list in two parts

moved : (a l s r : Bool) → (a || (l && s)) ≡ r → (a || s) ≡ (s || r)
moved true l true r is = refl
moved true l false r is = is
moved false l true r is = refl
moved false true false r is = is
moved false false false r is = is

first_of : (x a b r : Bool) → (a || b) ≡ r → ((x || a) || b) ≡ (x || r)
first_of true a b r is = refl
first_of false a b r is = is

second_of : (y a b r : Bool) → (a || b) ≡ r → (a || (y || b)) ≡ (y || r)
second_of true true b r is = refl
second_of true false b r is = refl
second_of false a b r is = is

-- a test of those that are kept, or another of the rest
parts_any : {X : Type 0} (kept first second : X → Bool) (xs : List X) → (list_any first (filter kept xs) || list_any second (filter (λ x. not (kept x)) xs)) ≡ list_any (λ x. if kept x then first x else second x) xs
parts_any kept first second [] = refl
parts_any {X} kept first second (x ∷ xs) = by (kept x) (parts_any kept first second xs)
  where
    by : (b : Bool) → (list_any first (filter kept xs) || list_any second (filter (λ y. not (kept y)) xs)) ≡ list_any (λ y. if kept y then first y else second y) xs
        → (list_any first (cond b (x ∷ filter kept xs) (filter kept xs)) || list_any second (cond (not b) (x ∷ filter (λ y. not (kept y)) xs) (filter (λ y. not (kept y)) xs)))
        ≡ ((if b then first x else second x) || list_any (λ y. if kept y then first y else second y) xs)
    by true rest = first_of (first x) (list_any first (filter kept xs)) (list_any second (filter (λ y. not (kept y)) xs)) _ rest
    by false rest = second_of (second x) (list_any first (filter kept xs)) (list_any second (filter (λ y. not (kept y)) xs)) _ rest

-- the same where the rest passes or fails together
rest_any : {X : Type 0} (kept first : X → Bool) (second : Bool) (xs : List X) → (list_any first (filter kept xs) || (list_any (λ x. not (kept x)) xs && second)) ≡ list_any (λ x. if kept x then first x else second) xs
rest_any kept first second [] = refl
rest_any kept first second (x ∷ xs) = by (kept x) (rest_any kept first second xs)
  where
    by : (b : Bool) → (list_any first (filter kept xs) || (list_any (λ y. not (kept y)) xs && second)) ≡ list_any (λ y. if kept y then first y else second) xs
        → (list_any first (cond b (x ∷ filter kept xs) (filter kept xs)) || ((not b || list_any (λ y. not (kept y)) xs) && second)) ≡ ((if b then first x else second) || list_any (λ y. if kept y then first y else second) xs)
    by true rest = first_of (first x) (list_any first (filter kept xs)) (list_any (λ y. not (kept y)) xs && second) _ rest
    by false rest = moved (list_any first (filter kept xs)) (list_any (λ y. not (kept y)) xs) second _ rest

map_any : {X Y : Type 0} (test : Y → Bool) (f : X → Y) (xs : List X) → list_any test (map f xs) ≡ list_any (λ x. test (f x)) xs
map_any test f [] = refl
map_any test f (x ∷ xs) = ap (λ b. test (f x) || b) (map_any test f xs)

-- ---- unions

first_true : (a b : Bool) → (a && b) ≡ true → a ≡ true
first_true true b is = refl
first_true false b is = is

second_true : (a b : Bool) → (a && b) ≡ true → b ≡ true
second_true true b is = is
second_true false b is = cc

one_pair : (a b : Pair) → same_pair a b ≡ true → a ≡ b
one_pair a b is =
    ap₂ (λ (t p : ℕ). record { token = t; place = p }) (eqb-true a.token b.token (first_true _ _ is)) (eqb-true a.place b.place (second_true _ _ is))

pair_total : IsTotalOrder pair_cmp
pair_total = then_total (on_total (λ (p : Pair). p.token) nat_cmp_total) (on_total (λ (p : Pair). p.place) nat_cmp_total)

pair_ties : (a b : Pair) → same_pair a b ≡ eq_by_cmp pair_cmp a b
pair_ties a b = both_tied _ _ (nat_cmp a.token b.token) (nat_cmp a.place b.place) (unsigned_ties a.token b.token) (unsigned_ties a.place b.place)

union_rises : (pairs : List Pair) → IsStrictlySortedBy pair_cmp (union_of pairs)
union_rises pairs = IsStrictlySortedBy-dedup pair_total pair_ties (sort pair_cmp pairs) (sorting.sort_sorted pair_total pairs)

union_any : (test : Pair → Bool) (pairs : List Pair) → list_any test (union_of pairs) ≡ list_any test pairs
union_any test pairs = once_any same_pair one_pair test (sort pair_cmp pairs) ∙ sorted_any pair_cmp test pairs

-- ---- the postings of one partition

-- a partition is found under a term that is kept, and in the spill for one that isn't
terms_any : (test : Posting → Bool) (kept : Bytes → Bool) (pair : Pair) (terms : List Bytes)
    → list_any test (postings_of kept pair terms) ≡ list_any (λ term. if kept term then test (posting_of term Stored pair) else test (posting_of [] Spill pair)) terms
terms_any test kept pair terms =
    list_any-append test (map (λ (term : Bytes). posting_of term Stored pair) (distinct (filter kept terms))) (spill_postings kept pair terms)
    ∙ ap₂ (λ a b. a || b) (map_any test (λ (term : Bytes). posting_of term Stored pair) (distinct (filter kept terms)) ∙ distinct_any (λ term. test (posting_of term Stored pair)) (filter kept terms)) (spill_any (list_any (λ term. not (kept term)) terms))
    ∙ rest_any kept (λ term. test (posting_of term Stored pair)) (test (posting_of [] Spill pair)) terms
  where
    spill_any : (b : Bool) → list_any test (if b then posting_of [] Spill pair ∷ [] else []) ≡ (b && test (posting_of [] Spill pair))
    spill_any true = by (test (posting_of [] Spill pair))
      where
        by : (s : Bool) → (s || false) ≡ s
        by true = refl
        by false = refl
    spill_any false = refl

-- ---- the mode SPARSE

module _ (partitioner : Partitioner) (column : ℕ) (rule : Option Rule) (content : Content) where
  abbrev gathered : List Posting
  gathered = gathered_postings partitioner column rule content

  abbrev kept : Bytes → Bool
  kept = is_kept Sparse column rule content

  -- the posting as it is kept
  abbrev test_kept : (Posting → Bool) → Posting → Bool
  test_kept test p = if file.is_kept gathered p then test p else test (posting_of [] Spill p.pair)

  stored_any : (test : Posting → Bool) → list_any test (stored Sparse gathered) ≡ list_any (test_kept test) gathered
  stored_any test =
      let others = filter (λ p. not (file.is_kept gathered p)) gathered in
      list_any-append test (filter (file.is_kept gathered) gathered) (sparse_spill gathered)
      ∙ ap (λ b. list_any test (filter (file.is_kept gathered) gathered) || b)
      (map_any test (posting_of [] Spill) (union_of (map (λ (p : Posting). p.pair) others))
      ∙ union_any (λ pair. test (posting_of [] Spill pair)) (map (λ (p : Posting). p.pair) others)
      ∙ map_any (λ pair. test (posting_of [] Spill pair)) (λ (p : Posting). p.pair) others)
      ∙ parts_any (file.is_kept gathered) test (λ p. test (posting_of [] Spill p.pair)) gathered

  -- a term is kept of the gathered postings where no more than five partitions have it
  term_kept : (test : Posting → Bool) (pair : Pair) (term : Bytes)
      → (if is_short term then test_kept test (posting_of term Stored pair) else test_kept test (posting_of [] Spill pair))
      ≡ (if kept term then test (posting_of term Stored pair) else test (posting_of [] Spill pair))
  term_kept test pair term = by (is_short term) refl
    where
      by : (b : Bool) → is_short term ≡ b → (if b then test_kept test (posting_of term Stored pair) else test (posting_of [] Spill pair))
          ≡ (if b && is_stored (keys_with column rule content term) then test (posting_of term Stored pair) else test (posting_of [] Spill pair))
      by true short = ap (λ (n : ℕ). if is_stored n then test (posting_of term Stored pair) else test (posting_of [] Spill pair)) (count_is term short partitioner column rule content)
      by false long = refl

  partition_any : (test : Posting → Bool) (one : Pair × Partition) → list_any (test_kept test) (postings_at is_short column rule one.0 one.1) ≡ list_any test (postings_at kept column rule one.0 one.1)
  partition_any test one =
      let terms = terms_of_cell rule (map_.get one.1.cells column) in
      terms_any (test_kept test) is_short one.0 terms
      ∙ ap (λ (of_term : Bytes → Bool). list_any of_term terms) (λ i term. term_kept test one.0 term i)
      ∙ sym (terms_any test kept one.0 terms)

  -- the same postings
  same_any : (test : Posting → Bool) → list_any test (stored Sparse gathered) ≡ list_any test (index_postings Sparse partitioner column rule content)
  same_any test =
      let items = paired partitioner content in
      stored_any test
      ∙ sorted_any posting_cmp (test_kept test) (flat_map (λ (one : Pair × Partition). postings_at is_short column rule one.0 one.1) items)
      ∙ flat_any (test_kept test) (λ (one : Pair × Partition). postings_at is_short column rule one.0 one.1) items
      ∙ ap (λ (of_one : Pair × Partition → Bool). list_any of_one items) (λ i one. partition_any test one i)
      ∙ sym (flat_any test (λ (one : Pair × Partition). postings_at kept column rule one.0 one.1) items)
      ∙ sym (sorted_any posting_cmp test (flat_map (λ (one : Pair × Partition). postings_at kept column rule one.0 one.1) items))

  -- ---- in their order

  stored_each : (postings : List Posting) → AllByRecursion (λ p. p.list ≡ Stored) (filter (file.is_kept gathered) postings)
  stored_each [] = tt
  stored_each (p ∷ postings) = by (file.is_kept gathered p) refl (stored_each postings)
    where
      in_stored : (list : ListKind) (n : ℕ) → is_kept_as list n ≡ true → list ≡ Stored
      in_stored Stored n is = refl
      in_stored Spill n is = cc

      by : (b : Bool) → file.is_kept gathered p ≡ b → AllByRecursion (λ q. q.list ≡ Stored) (filter (file.is_kept gathered) postings)
          → AllByRecursion (λ q. q.list ≡ Stored) (cond b (p ∷ filter (file.is_kept gathered) postings) (filter (file.is_kept gathered) postings))
      by true is rest = (in_stored p.list (count_under gathered p.term) is, rest)
      by false is rest = rest

  stored_rises : IsStrictlySortedBy posting_cmp (stored Sparse gathered)
  stored_rises =
      let others = map (λ (p : Posting). p.pair) (filter (λ p. not (file.is_kept gathered p)) gathered) in
      let rising : IsStrictlySortedBy posting_cmp gathered = (content_gathered is_short (λ term short. short) partitioner column rule content).sorted.rising in
      stored_then_spill (filter (file.is_kept gathered) gathered) (sparse_spill gathered) (IsStrictlySortedBy-filter posting_cmp (file.is_kept gathered) gathered rising) (spill_rises (union_of others) (union_rises others))
      (stored_each gathered) (spill_each (union_of others))

  kept_short : (term : Bytes) → kept term ≡ true → is_short term ≡ true
  kept_short term is = first_true (is_short term) _ is

  sparse_are : stored Sparse gathered ≡ index_postings Sparse partitioner column rule content
  sparse_are =
      one_list posting_total posting_exact (stored Sparse gathered) (index_postings Sparse partitioner column rule content) stored_rises
      (content_gathered kept kept_short partitioner column rule content).sorted.rising same_any

  -- ---- all modes

  always : (b : Bool) → b ≡ (b && true)
  always true = refl
  always false = refl

  every_short : gathered ≡ in_order (flat_map (λ (one : Pair × Partition). postings_at (λ term. is_short term && true) column rule one.0 one.1) (paired partitioner content))
  every_short =
      ap (λ (those : Bytes → Bool). in_order (flat_map (λ (one : Pair × Partition). postings_at those column rule one.0 one.1) (paired partitioner content))) (λ i term. always (is_short term) i)

  -- **What an index of this mode keeps of the gathered postings are its postings over the data file.**
  pub stored_are : (mode : Mode) → stored mode gathered ≡ index_postings mode partitioner column rule content
  stored_are Prefix = every_short
  stored_are Contains = every_short
  stored_are Sparse = sparse_are
