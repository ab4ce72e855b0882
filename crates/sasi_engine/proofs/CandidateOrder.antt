-- For callers: the candidates of a token are in the order of their keys.
use Rattle.std.proofs.Common.{◌≡◌, ℕ, Bool, true, false, cond, nat_eq, List, [], ◌∷◌, ◌++◌, map, refl, sym, ap, ap₂, subst, ◌∙◌, arith}
use Rattle.std.proofs.lemmas.Bool.Decides.{nat_tests}
use Rattle.std.proofs.lemmas.Cmp.{tied_itself}
use Rattle.std.specs.Cmp.{nat_cmp_total}
use Rattle.std.specs.Cmp.Lexicographic.{slice_cmp}
use Rattle.std.specs.FinMap as map_
use Rattle.std.specs.List.{AllByRecursion, filter}
use Rattle.std.specs.List.Sorted.{IsStrictlySortedBy}
use Rattle.std.specs.Ordering.{nat_cmp, ordering_then}
use Rattle.std.specs.declared.cmp.Ordering.{Ordering}
use Rattle.std.specs.declared.cmp.Ordering.TheVariants.{Less, Equal}
use Rattle.sasi_types.specs.declared.decorated_key.DecoratedKey.{DecoratedKey}
use Rattle.sasi_types.specs.DecoratedKey.{decorated_cmp}
use Rattle.sasi_types.specs.Key.{key_cmp}
use Rattle.sasi_cells.specs.Maps.{merged}
use Rattle.sasi_model.specs.Abbreviations.{Partitions}
use Rattle.sasi_model.specs.Cells.{Partition}
use Rattle.sasi_model.specs.Filters.{Filter}
use Rattle.sasi_candidates.specs.Candidates.{is_candidate}
use Rattle.sasi_candidates.specs.Groups.{Group, by_token, candidates_in, rows_in}
use Rattle.sasi_candidates.specs.Parts.{Part, maps_of}
use Rattle.sasi_candidates.proofs.GroupLaws.{all_by_token}
use Rattle.sasi_engine.specs.TokenHits.{row_keys}
use Rattle.sasi_engine.proofs.FoundLaws.{keys_rise}
use Rattle.sasi_engine.proofs.GroupTests.{AreGroups, map_groups}

abbrev Row : Type 0
Row = DecoratedKey × Partition

abbrev row_cmp : Row → Row → Ordering
row_cmp a b = decorated_cmp a.0 b.0

all_mapped : (k : DecoratedKey) (es : List Row) → AllByRecursion (λ (y : DecoratedKey). decorated_cmp k y ≡ Less) (map (λ (e : Row). e.0) es) → AllByRecursion (λ (y : Row). decorated_cmp k y.0 ≡ Less) es
all_mapped k [] all = tt
all_mapped k (e ∷ es) all = (all.0, all_mapped k es all.1)

rows_rise : (es : List Row) → IsStrictlySortedBy decorated_cmp (map (λ (e : Row). e.0) es) → IsStrictlySortedBy row_cmp es
unfolding IsStrictlySortedBy
rows_rise [] rise = tt
rows_rise (e ∷ es) rise = (all_mapped e.0 es rise.0, rows_rise es rise.1)

all_first : (P : Row → Type 0) (xs ys : List Row) → AllByRecursion P (xs ++ ys) → AllByRecursion P xs
all_first P [] ys all = tt
all_first P (x ∷ xs) ys all = (all.0, all_first P xs ys all.1)

both_rise : (xs ys : List Row) → IsStrictlySortedBy row_cmp (xs ++ ys) → IsStrictlySortedBy row_cmp xs × IsStrictlySortedBy row_cmp ys
unfolding IsStrictlySortedBy
both_rise [] ys rise = (tt, rise)
both_rise (x ∷ xs) ys rise = let rest = both_rise xs ys rise.1 in ((all_first (λ (y : Row). row_cmp x y ≡ Less) xs ys rise.0, rest.0), rest.1)

groups_rise : (gs : List Group) → IsStrictlySortedBy row_cmp (rows_in gs) → AllByRecursion (λ (g : Group). IsStrictlySortedBy row_cmp g.rows) gs
groups_rise [] rise = tt
groups_rise (g ∷ gs) rise = let both = both_rise g.rows (rows_in gs) rise in (both.0, groups_rise gs both.1)

-- ---- the rows that pass

all_kept : (P : Row → Type 0) (test : Row → Bool) (xs : List Row) → AllByRecursion P xs → AllByRecursion P (filter test xs)
all_kept P test [] all = tt
all_kept P test (x ∷ xs) all = by (test x) (all_kept P test xs all.1)
  where
    by : (b : Bool) → AllByRecursion P (filter test xs) → AllByRecursion P (cond b (x ∷ filter test xs) (filter test xs))
    by true rest = (all.0, rest)
    by false rest = rest

kept_rise : (test : Row → Bool) (xs : List Row) → IsStrictlySortedBy row_cmp xs → IsStrictlySortedBy row_cmp (filter test xs)
unfolding IsStrictlySortedBy
kept_rise test [] rise = tt
kept_rise test (x ∷ xs) rise = by (test x) (kept_rise test xs rise.1) (all_kept (λ (y : Row). row_cmp x y ≡ Less) test xs rise.0)
  where
    by : (b : Bool) → IsStrictlySortedBy row_cmp (filter test xs) → AllByRecursion (λ (y : Row). row_cmp x y ≡ Less) (filter test xs) → IsStrictlySortedBy row_cmp (cond b (x ∷ filter test xs) (filter test xs))
    by true rest above = (above, rest)
    by false rest above = rest

-- ---- keys of one token

equal_numbers : (x y : ℕ) → nat_eq x y ≡ true → x ≡ y
equal_numbers x y e = grind (arith, nat_tests)

key_less : (token : ℕ) (x y : Row) → nat_eq x.0.token token ≡ true → nat_eq y.0.token token ≡ true → row_cmp x y ≡ Less → key_cmp x.0.key y.0.key ≡ Less
key_less token x y first second less =
    sym (ap (λ (o : Ordering). ordering_then o (slice_cmp nat_cmp x.0.key y.0.key))
    (ap₂ nat_cmp (equal_numbers x.0.token token first) (equal_numbers y.0.token token second) ∙ tied_itself nat_cmp_total token))
    ∙ less

all_less : (token : ℕ) (x : Row) (rows : List Row) → nat_eq x.0.token token ≡ true → AllByRecursion (λ (e : Row). nat_eq e.0.token token ≡ true) rows → AllByRecursion (λ (y : Row). row_cmp x y ≡ Less) rows
    → AllByRecursion (λ (k : List ℕ). key_cmp x.0.key k ≡ Less) (map (λ (e : Row). e.0.key) rows)
all_less token x [] own same less = tt
all_less token x (y ∷ rows) own same less = (key_less token x y own same.0 less.0, all_less token x rows own same.1 less.1)

keys_in_order : (token : ℕ) (rows : List Row) → AllByRecursion (λ (e : Row). nat_eq e.0.token token ≡ true) rows → IsStrictlySortedBy row_cmp rows → IsStrictlySortedBy key_cmp (map (λ (e : Row). e.0.key) rows)
unfolding IsStrictlySortedBy
keys_in_order token [] same rise = tt
keys_in_order token (x ∷ rows) same rise = (all_less token x rows same.0 same.1 rise.0, keys_in_order token rows same.1 rise.1)

each_in_order : (parts : List Part) (f : Filter) (gs : List Group) → AreGroups gs → AllByRecursion (λ (g : Group). IsStrictlySortedBy row_cmp g.rows) gs → AllByRecursion (λ (g : Group). IsStrictlySortedBy key_cmp (row_keys (candidates_in parts f g))) gs
each_in_order parts f [] are rise = tt
each_in_order parts f (g ∷ gs) are rise = (
  keys_in_order g.token (filter (λ (e : Row). is_candidate parts f e.0) g.rows) (all_kept (λ (e : Row). nat_eq e.0.token g.token ≡ true) (λ (e : Row). is_candidate parts f e.0) g.rows are.0.same)
      (kept_rise (λ (e : Row). is_candidate parts f e.0) g.rows rise.0),
  each_in_order parts f gs are.2 rise.1,
)

-- **The candidates of each token are in the order of their keys.**
pub candidates_rise : (parts : List Part) (f : Filter) → AllByRecursion (λ (g : Group). IsStrictlySortedBy key_cmp (row_keys (candidates_in parts f g))) (by_token (map_.entries (merged (maps_of parts))))
candidates_rise parts f =
    let m = merged (maps_of parts) in
    each_in_order parts f (by_token (map_.entries m)) (map_groups m)
    (groups_rise (by_token (map_.entries m)) (subst (IsStrictlySortedBy row_cmp) (sym (all_by_token (map_.entries m))) (rows_rise (map_.entries m) (keys_rise m))))
