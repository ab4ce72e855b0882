-- A binary search of sorted keys.
use Rattle.std.proofs.Common.{◌≡◌, ◌⊎◌, ℕ, zero, suc, ◌+◌, ◌<◌, ◌≤◌, Bool, true, false, ◌||◌, List, [], ◌∷◌, length, Ok, Err, get_or, refl, sym, ap, subst, ◌∙◌, arith, ⊎_elim, inl, inr}
use Rattle.std.specs.Prelude.{is_ok}
use Rattle.std.specs.declared.cmp.Ordering.{Ordering}
use Rattle.std.specs.declared.cmp.Ordering.TheVariants.{Less, Equal, Greater}
use Rattle.std.specs.declared.result.Result.{Result}
use Rattle.std.specs.List.{AllByRecursion, list_any}
use Rattle.std.specs.List.Sorted.{IsBinarySearchResult, IsNonDecreasingBy, IsPartitionPoint, IsSearchInRange, IsStrictlySortedBy}
use Rattle.std.specs.Ordering.{eq_by_cmp, is_eq, ordering_index, ordering_reverse}
use Rattle.std.proofs.lemmas.List.Sorted.{IsNonDecreasingBy-from_all_adjacent}
use Rattle.sasi_types.specs.declared.decorated_key.DecoratedKey.{DecoratedKey}
use Rattle.sasi_types.specs.DecoratedKey.{decorated_cmp, decorated_total}
use Rattle.sasi_cells.proofs.Laws.Decorated.{decorated_same}

-- a lower key isn't further behind
lower : (x y key : DecoratedKey) → decorated_cmp x y ≡ Less → ordering_index (decorated_cmp x key) ≤ ordering_index (decorated_cmp y key)
lower x y key below = by (decorated_cmp y key) refl
  where
    at_most : (o : Ordering) → ordering_index o ≤ 2
    at_most Less = omega arith
    at_most Equal = omega arith
    at_most Greater = omega arith

    by : (o : Ordering) → decorated_cmp y key ≡ o → ordering_index (decorated_cmp x key) ≤ ordering_index (decorated_cmp y key)
    by Less is = omega (arith, ap ordering_index (decorated_total.trans x y key below is))
    by Equal is = omega (arith, ap ordering_index (subst (λ (k : DecoratedKey). decorated_cmp x k ≡ Less) (decorated_same y key is) below))
    by Greater is = omega (arith, at_most (decorated_cmp x key), ap ordering_index is)

all_at : (P : DecoratedKey → Type 0) (keys : List DecoratedKey) (i : ℕ) (d : DecoratedKey) → AllByRecursion P keys → i < length keys → P (get_or keys i d)
all_at P [] i d all within = absurd (omega (arith, within))
all_at P (x ∷ keys) zero d all within = all.0
all_at P (x ∷ keys) (suc i) d all within = all_at P keys i d all.1 (omega (arith, within))

next_above : (keys : List DecoratedKey) → IsStrictlySortedBy decorated_cmp keys → (k : ℕ) (d : DecoratedKey) → k + 1 < length keys → decorated_cmp (get_or keys k d) (get_or keys (k + 1) d) ≡ Less
unfolding IsStrictlySortedBy
next_above [] sorted k d within = absurd (omega (arith, within))
next_above (x ∷ keys) sorted zero d within = all_at (λ y. decorated_cmp x y ≡ Less) keys 0 d sorted.0 (omega (arith, within))
next_above (x ∷ keys) sorted (suc k) d within =
    let next : suc (k + 1) ≡ suc k + 1 = omega arith in
    subst (λ n. decorated_cmp (get_or keys k d) (get_or (x ∷ keys) n d) ≡ Less) next (next_above keys sorted.1 k d (omega (arith, within)))

rises : (key : DecoratedKey) (keys : List DecoratedKey) → IsStrictlySortedBy decorated_cmp keys → IsNonDecreasingBy (λ y. ordering_index (decorated_cmp y key)) keys
rises key keys sorted = IsNonDecreasingBy-from_all_adjacent (λ y. ordering_index (decorated_cmp y key)) keys
    (λ k d within. lower (get_or keys k d) (get_or keys (k + 1) d) key (next_above keys sorted k d within))

-- ---- membership

any_of : (test : DecoratedKey → Bool) (keys : List DecoratedKey) (i : ℕ) (d : DecoratedKey) → i < length keys → test (get_or keys i d) ≡ true → list_any test keys ≡ true
any_of test [] i d within is = absurd (omega (arith, within))
any_of test (x ∷ keys) zero d within is = ap (λ b. b || list_any test keys) is
any_of test (x ∷ keys) (suc i) d within is = by (test x) (any_of test keys i d (omega (arith, within)) is)
  where
    by : (b : Bool) → list_any test keys ≡ true → (b || list_any test keys) ≡ true
    by true rest = refl
    by false rest = rest

-- where a key that passes is
record PassesAt (test : DecoratedKey → Bool) (keys : List DecoratedKey) (d : DecoratedKey) : Type 0 where
  pub at : ℕ
  pub within : at < length keys
  pub passes : test (get_or keys at d) ≡ true

of_any : (test : DecoratedKey → Bool) (keys : List DecoratedKey) (d : DecoratedKey) → list_any test keys ≡ true → PassesAt test keys d
of_any test [] d any = cc
of_any test (x ∷ keys) d any = by (test x) refl any (of_any test keys d)
  where
    by : (b : Bool) → test x ≡ b → (b || list_any test keys) ≡ true → (list_any test keys ≡ true → PassesAt test keys d) → PassesAt test (x ∷ keys) d
    by true is some later = record { at = 0; within = omega arith; passes = is }
    by false isnt some later = (let rest = later some in record { at = suc rest.at; within = omega (arith, rest.within); passes = rest.passes })

tied : (o : Ordering) → is_eq o ≡ true → o ≡ Equal
tied Less e = cc
tied Equal e = refl
tied Greater e = cc

other_way : (o : Ordering) → o ≡ Equal → ordering_reverse o ≡ Equal
other_way o is = ap ordering_reverse is

not_both : (b : Bool) → (b ≡ true → ⊥) → b ≡ false
not_both true never = absurd (never refl)
not_both false never = refl

either : (k i : ℕ) → (k < i) ⊎ (i ≤ k)
either k zero = inr (omega arith)
either zero (suc i) = inl (omega arith)
either (suc k) (suc i) = ⊎_elim (λ l. inl (omega (arith, l))) (λ l. inr (omega (arith, l))) (either k i)

nowhere : (keys : List DecoratedKey) (key : DecoratedKey) (i : ℕ) → IsStrictlySortedBy decorated_cmp keys → IsBinarySearchResult (λ y. decorated_cmp y key) keys (Err i) → list_any (eq_by_cmp decorated_cmp key) keys ≡ true → ⊥
nowhere keys key i sorted is any = by (is (rises key keys sorted)) (either found.at i)
  where
    found : PassesAt (eq_by_cmp decorated_cmp key) keys key
    found = of_any (eq_by_cmp decorated_cmp key) keys key any

    same : decorated_cmp (get_or keys found.at key) key ≡ Equal
    same = decorated_total.antisymm (get_or keys found.at key) key ∙ other_way (decorated_cmp key (get_or keys found.at key)) (tied (decorated_cmp key (get_or keys found.at key)) found.passes)

    by : IsPartitionPoint (λ y. decorated_cmp y key ≡ Less) (λ y. decorated_cmp y key ≡ Greater) keys i → (found.at < i) ⊎ (i ≤ found.at) → ⊥
    by ends (inl low) = (let two : Less ≡ Equal = sym (ends.0 found.at key (omega arith) low) ∙ same in cc)
    by ends (inr high) = (let two : Greater ≡ Equal = sym (ends.1 found.at key high found.within) ∙ same in cc)

-- **A search of sorted keys tells whether the key is among them.**
pub found_among : (keys : List DecoratedKey) (key : DecoratedKey) (r : Result ℕ ℕ) → IsStrictlySortedBy decorated_cmp keys → IsSearchInRange r (length keys) → IsBinarySearchResult (λ y. decorated_cmp y key) keys r
    → is_ok r ≡ list_any (eq_by_cmp decorated_cmp key) keys
found_among keys key (Ok i) sorted within is =
    sym (any_of (eq_by_cmp decorated_cmp key) keys i key within (ap is_eq (decorated_total.antisymm key (get_or keys i key) ∙ other_way (decorated_cmp (get_or keys i key) key) (is key))))
found_among keys key (Err i) sorted within is = sym (not_both (list_any (eq_by_cmp decorated_cmp key) keys) (λ any. nowhere keys key i sorted is any))
