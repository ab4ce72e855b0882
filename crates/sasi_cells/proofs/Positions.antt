-- What a search finds among entries with rising columns, and what an edit at that position does.
use Rattle.std.proofs.Common.{◌≡◌, ℕ, zero, suc, ◌<◌, ◌≤◌, false, cond, T, List, [], ◌∷◌, length, get_or, set, None, Some, Result, Ok, Err, IfOk, IfErr, refl, sym, ap, ◌∙◌, subst, arith}
use Rattle.std.specs.declared.cmp.Ordering.{Ordering}
use Rattle.std.specs.declared.cmp.Ordering.TheVariants.{Less, Equal, Greater}
use Rattle.std.specs.Ordering.{nat_cmp, is_lt, is_eq, eq_by_cmp, ordering_index}
use Rattle.std.specs.Cmp.{nat_cmp_total}
use Rattle.std.specs.List.{insert}
use Rattle.std.specs.List.Sorted.{IsSearchInRange, IsBinarySearchResult, IsNonDecreasingBy}
use Rattle.std.specs.FinMap.{find, put, is_sorted}
use Rattle.std.specs.FinMap.Entries.{below_all, by_order}
use Rattle.std.proofs.lemmas.Cmp.{ranked, tied_itself}
use Rattle.std.proofs.lemmas.Bool.Decides.{nat_tests}
use Rattle.std.proofs.lemmas.List.Sorted.{IsNonDecreasingBy-from_default}
use Rattle.sasi_types.specs.declared.cell.Cell.{Cell}
use Rattle.sasi_cells.specs.Entries.{Entry}
use Rattle.sasi_cells.specs.Positions.{IsColumnAt, IsGapFor}
use Rattle.sasi_cells.proofs.Laws.Sorted.{first, second, find_first}

-- ---- orders of two columns

is_less : (k m : ℕ) → k < m → nat_cmp k m ≡ Less
is_less k m h = grind (arith, nat_tests)

is_greater : (k m : ℕ) → m < k → nat_cmp k m ≡ Greater
is_greater k m h = grind (arith, nat_tests)

less_is : (k m : ℕ) → T (is_lt (nat_cmp k m)) → k < m
less_is k m h = by (nat_cmp k m) refl h
  where
    by : (r : Ordering) → r ≡ nat_cmp k m → T (is_lt r) → k < m
    by Less e h = ranked k m Less e
    by Equal e h = absurd h
    by Greater e h = absurd h

not_equal : (k m : ℕ) → m < k → eq_by_cmp nat_cmp k m ≡ false
not_equal k m h = ap is_eq (is_greater k m h)

-- ---- rising columns

above_first : (k : ℕ) (es : List Entry) (i : ℕ) (d : Entry) → T (below_all nat_cmp k es) → i < length es → k < (get_or es i d).0
above_first k [] i d h inside = absurd (omega arith)
above_first k (e ∷ es) zero d h inside = less_is k e.0 (first _ _ h)
above_first k (e ∷ es) (suc i) d h inside = above_first k es i d (second _ _ h) (omega arith)

rising : (es : List Entry) (i j : ℕ) (d : Entry) → T (is_sorted nat_cmp es) → i < j → j < length es → (get_or es i d).0 < (get_or es j d).0
rising [] i j d h before inside = absurd (omega arith)
rising (e ∷ es) i zero d h before inside = absurd (omega arith)
rising (e ∷ es) zero (suc j) d h before inside = above_first e.0 es j d (first _ _ h) (omega arith)
rising (e ∷ es) (suc i) (suc j) d h before inside = rising es i j d (second _ _ h) (omega arith) (omega arith)

-- ---- the search

comparisons_rise : (es : List Entry) (k : ℕ) (d : Entry) → T (is_sorted nat_cmp es)
    → IsNonDecreasingBy (λ (e : Entry). ordering_index (nat_cmp e.0 k)) es
comparisons_rise es k d h = IsNonDecreasingBy-from_default (λ (e : Entry). ordering_index (nat_cmp e.0 k)) es d (λ i j le inside.
    let columns : (get_or es i d).0 ≤ (get_or es j d).0 = grind (arith, rising es i j d h, λ (same : i ≡ j). ap (λ n. (get_or es n d).0) same) in
    grind (arith, nat_tests))

some_entry : Entry
some_entry = (0, record { time = 0; value = None })

pub searched : (es : List Entry) (k : ℕ) (r : Result ℕ ℕ) → T (is_sorted nat_cmp es) → IsSearchInRange r (length es)
    → IsBinarySearchResult (λ (e : Entry). nat_cmp e.0 k) es r
    → record { found : IfOk r (IsColumnAt es k); absent : IfErr r (IsGapFor es k) }
searched es k (Ok at) h in_range equal = record { found = record { in_range = in_range; is = λ d. ranked _ k Equal (sym (equal d)) }; absent = tt }
searched es k (Err at) h in_range parted =
    let parts = parted (comparisons_rise es k some_entry h) in
    record {
      found = tt;
      absent = record {
        in_range = in_range;
        lower_before = λ j d lt. ranked _ k Less (sym (parts.0 j d (omega arith) lt));
        higher_after = λ j d le lt. ranked _ k Greater (sym (parts.1 j d le lt));
      };
    }

-- ---- what is found there

pub find_at : (es : List Entry) (k at : ℕ) (d : Entry) → T (is_sorted nat_cmp es) → at < length es → (get_or es at d).0 ≡ k
    → find nat_cmp k es ≡ Some (get_or es at d).1
find_at [] k at d h inside is = absurd (omega arith)
find_at (e ∷ es) k zero d h inside is = ap (λ n. find nat_cmp n (e ∷ es)) (sym is) ∙ find_first e es
find_at (e ∷ es) k (suc at) d h inside is =
    let above = above_first e.0 es at d (first _ _ h) (omega arith) in
    ap (λ b. cond b (Some e.1) (find nat_cmp k es)) (not_equal k e.0 (omega arith)) ∙ find_at es k at d (second _ _ h) (omega arith) is

gap_behind : (e : Entry) (es : List Entry) (k at : ℕ) → IsGapFor (e ∷ es) k (suc at) → IsGapFor es k at
gap_behind e es k at gap = record {
  in_range = omega (arith, gap.in_range);
  lower_before = λ j d lt. gap.lower_before (suc j) d (omega arith);
  higher_after = λ j d le lt. gap.higher_after (suc j) d (omega arith) (omega arith);
}

gap_in_front : (e : Entry) (es : List Entry) (k : ℕ) → IsGapFor (e ∷ es) k 0 → IsGapFor es k 0
gap_in_front e es k gap = record {
  in_range = omega arith;
  lower_before = λ j d lt. absurd (omega arith);
  higher_after = λ j d le lt. gap.higher_after (suc j) d (omega arith) (omega arith);
}

pub find_gap : (es : List Entry) (k at : ℕ) → IsGapFor es k at → find nat_cmp k es ≡ None
find_gap [] k at gap = refl
find_gap (e ∷ es) k zero gap =
    ap (λ r. cond (is_eq r) (Some e.1) (find nat_cmp k es)) (is_less k e.0 (gap.higher_after 0 e (omega arith) (omega arith)))
    ∙ find_gap es k 0 (gap_in_front e es k gap)
find_gap (e ∷ es) k (suc at) gap =
    ap (λ b. cond b (Some e.1) (find nat_cmp k es)) (not_equal k e.0 (gap.lower_before 0 e (omega arith)))
    ∙ find_gap es k at (gap_behind e es k at gap)

-- ---- edits

-- a put, by how the column compares with the first
put_by : (e : Entry) (es : List Entry) (k : ℕ) (cell : Cell) (r : Ordering) → nat_cmp k e.0 ≡ r
    → put nat_cmp k cell (e ∷ es) ≡ by_order r ((k, cell) ∷ e ∷ es) ((e.0, cell) ∷ es) (e ∷ put nat_cmp k cell es)
put_by e es k cell r is = ap (λ o. by_order o ((k, cell) ∷ e ∷ es) ((e.0, cell) ∷ es) (e ∷ put nat_cmp k cell es)) is

pub set_is_put : (es : List Entry) (k at : ℕ) (d : Entry) (cell : Cell) → T (is_sorted nat_cmp es) → at < length es → (get_or es at d).0 ≡ k
    → set es at ((get_or es at d).0, cell) ≡ put nat_cmp k cell es
set_is_put [] k at d cell h inside is = absurd (omega arith)
set_is_put (e ∷ es) k zero d cell h inside is = sym (put_by e es k cell Equal (subst (λ n. nat_cmp n e.0 ≡ Equal) is (tied_itself nat_cmp_total e.0)))
set_is_put (e ∷ es) k (suc at) d cell h inside is =
    let above = above_first e.0 es at d (first _ _ h) (omega arith) in
    ap (λ l. e ∷ l) (set_is_put es k at d cell (second _ _ h) (omega arith) is) ∙ sym (put_by e es k cell Greater (is_greater k e.0 (omega arith)))

pub insert_is_put : (es : List Entry) (k at : ℕ) (cell : Cell) → IsGapFor es k at → insert es at (k, cell) ≡ put nat_cmp k cell es
insert_is_put [] k zero cell gap = refl
insert_is_put [] k (suc at) cell gap = refl
insert_is_put (e ∷ es) k zero cell gap = sym (put_by e es k cell Less (is_less k e.0 (gap.higher_after 0 e (omega arith) (omega arith))))
insert_is_put (e ∷ es) k (suc at) cell gap =
    ap (λ l. e ∷ l) (insert_is_put es k at cell (gap_behind e es k at gap)) ∙ sym (put_by e es k cell Greater (is_greater k e.0 (gap.lower_before 0 e (omega arith))))
