-- How many of the gathered postings stand under a term: as many as partitions have it.
use Rattle.std.proofs.Common.{◌≡◌, ℕ, ◌+◌, Bool, true, false, cond, ◌||◌, not, if◌then◌else◌, List, [], ◌∷◌, length, map, refl, sym, ap, ap₂, ◌∙◌, arith}
use Rattle.std.specs.Prelude.{Option}
use Rattle.std.specs.FinMap as map_
use Rattle.std.specs.Cmp.{unsigned_ties}
use Rattle.std.specs.Cmp.Lexicographic.{bytes_decides, lists_ties}
use Rattle.std.specs.List.{AllByRecursion, filter, flat_map, list_any, sum_by, zip}
use Rattle.std.specs.List.Sorted.{IsStrictlySortedBy}
use Rattle.std.specs.Ordering.{is_eq, nat_cmp}
use Rattle.std.specs.declared.cmp.Ordering.TheVariants.{Less}
use Rattle.std.proofs.lemmas.List.Sorted.{sum_by-IsPermutation}
use Rattle.std.proofs.lemmas.List.Sums.{length-filter, sum_by-append, sum_by-cons}
use Rattle.std.proofs.lemmas.Map.Views.{any-filter_same}
use Rattle.sasi_types.specs.Term.{term_cmp, term_eq}
use Rattle.sasi_types.specs.declared.list_kind.ListKind.TheVariants.{Stored, Spill}
use Rattle.sasi_types.specs.declared.partitioner.Partitioner.{Partitioner}
use Rattle.sasi_types.specs.declared.rule.Rule.{Rule}
use Rattle.sasi_types.specs.declared.tree.Pair.{Pair}
use Rattle.sasi_host.specs.Names.{Bytes}
use Rattle.sasi_model.specs.Cells.{Partition}
use Rattle.sasi_model.specs.IndexTerms.{terms_of_cell}
use Rattle.sasi_model.specs.Tokens.{same}
use Rattle.sasi_segments.specs.declared.posting.Posting.{Posting}
use Rattle.sasi_segments.specs.Postings.{posting_cmp, posting_of}
use Rattle.sasi_segments.specs.Sorting.{sort}
use Rattle.sasi_segments.proofs.Sorting.{sort_permutation}
use Rattle.sasi_datawrite.specs.Format.{Content, header, pairs_from, partition_bytes}
use Rattle.sasi_indexwrite.specs.Stored.{count_under, is_under}
use Rattle.sasi_postings.specs.Postings.{distinct, gathered_postings, is_short, keys_with, paired, postings_at, postings_of, spill_postings, stored_postings}
use Rattle.sasi_postings.proofs.Contents.{pair_for}
use Rattle.sasi_postings.proofs.ListTests.{once_any, sorted_any}
use Rattle.sasi_postings.proofs.Terms.{distinct_rises}

-- a test of terms finds one among the distinct ones where it finds one among all
pub distinct_any : (test : Bytes → Bool) (terms : List Bytes) → list_any test (distinct terms) ≡ list_any test terms
distinct_any test terms = once_any term_eq (λ a b e. (bytes_decides a b).0 e) test (sort term_cmp terms) ∙ sorted_any term_cmp test terms

module _ (term : Bytes) where
  abbrev under : Posting → ℕ
  under p = cond (is_under term p) 1 0

  -- ---- of one partition

  abbrev stored : Pair → List Bytes → List Posting
  stored pair terms = map (λ (t : Bytes). posting_of t Stored pair) terms

  -- terms above this one aren't the same
  none_above : (t : Bytes) (terms : List Bytes) → term_eq term t ≡ true → AllByRecursion (λ u. term_cmp t u ≡ Less) terms → list_any (term_eq term) terms ≡ false
  none_above t [] is all = refl
  none_above t (u ∷ terms) is all =
      let here : term_eq t u ≡ false = lists_ties nat_cmp unsigned_ties t u ∙ ap is_eq all.0 in
      ap₂ (λ a b. a || b) (ap (λ (w : Bytes). term_eq w u) ((bytes_decides term t).0 is) ∙ here) (none_above t terms is all.1)

  rising_count : (pair : Pair) (terms : List Bytes) → IsStrictlySortedBy term_cmp terms → sum_by under (stored pair terms) ≡ cond (list_any (term_eq term) terms) 1 0
  unfolding IsStrictlySortedBy
  rising_count pair [] rises = refl
  rising_count pair (t ∷ terms) rises = sum_by-cons under (posting_of t Stored pair) (stored pair terms) ∙ by (term_eq term t) refl (rising_count pair terms rises.1)
    where
      by : (b : Bool) → term_eq term t ≡ b → sum_by under (stored pair terms) ≡ cond (list_any (term_eq term) terms) 1 0
          → cond b 1 0 + sum_by under (stored pair terms) ≡ cond (b || list_any (term_eq term) terms) 1 0
      by true is rest = ap (λ n. 1 + n) (rest ∙ ap (λ b. cond b 1 0) (none_above t terms is rises.0))
      by false is rest = omega (arith, rest)

  spill_count : (b : Bool) (pair : Pair) → sum_by under (if b then posting_of [] Spill pair ∷ [] else []) ≡ 0
  spill_count true pair = sum_by-cons under (posting_of [] Spill pair) []
  spill_count false pair = refl

  module _ (short : is_short term ≡ true) where
    partition_count : (pair : Pair) (terms : List Bytes) → sum_by under (postings_of is_short pair terms) ≡ cond (list_any (term_eq term) terms) 1 0
    partition_count pair terms =
        let kept = filter is_short terms in
        let any_kept : list_any (term_eq term) kept ≡ list_any (term_eq term) terms =
        any-filter_same (term_eq term) is_short true (λ t is. ap is_short (sym ((bytes_decides term t).0 is)) ∙ short) terms in
        sum_by-append under (stored_postings is_short pair terms) (spill_postings is_short pair terms)
        ∙ ap₂ (λ a b. a + b) (rising_count pair (distinct kept) (distinct_rises kept)) (spill_count (list_any (λ t. not (is_short t)) terms) pair)
        ∙ plus_none (cond (list_any (term_eq term) (distinct kept)) 1 0)
        ∙ ap (λ b. cond b 1 0) (distinct_any (term_eq term) kept ∙ any_kept)
      where
        plus_none : (n : ℕ) → n + 0 ≡ n
        plus_none n = omega arith

    -- ---- of all of them

    module _ (partitioner : Partitioner) (column : ℕ) (rule : Option Rule) where
      abbrev has : Bytes × Partition → Bool
      has one = list_any (same term) (terms_of_cell rule (map_.get one.1.cells column))

      abbrev of_one : Pair × Partition → List Posting
      of_one one = postings_at is_short column rule one.0 one.1

      count_from : (at : ℕ) (content : Content) → sum_by under (flat_map of_one (zip (pairs_from partitioner at content) (map (λ one. one.1) content))) ≡ length (filter has content)
      count_from at [] = refl
      count_from at (one ∷ content) =
          let next = at + length (partition_bytes one.0 one.1) in
          let pair = pair_for partitioner one.0 at in
          sum_by-append under (of_one (pair, one.1)) (flat_map of_one (zip (pairs_from partitioner next content) (map (λ o. o.1) content)))
          ∙ ap₂ (λ a b. a + b) (partition_count pair (terms_of_cell rule (map_.get one.1.cells column))) (count_from next content)
          ∙ by (has one)
        where
          by : (b : Bool) → cond b 1 0 + length (filter has content) ≡ length (cond b (one ∷ filter has content) (filter has content))
          by true = omega arith
          by false = omega arith

      -- **As many gathered postings stand under a short term as partitions have it.**
      pub count_is : (content : Content) → count_under (gathered_postings partitioner column rule content) term ≡ keys_with column rule content term
      count_is content =
          let all = flat_map of_one (paired partitioner content) in
          length-filter (is_under term) (sort posting_cmp all)
          ∙ sum_by-IsPermutation under all (sort posting_cmp all) (sort_permutation posting_cmp all)
          ∙ count_from (length header) content
