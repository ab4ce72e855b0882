-- Lists of references to keys.
use Rattle.std.proofs.Common.{◌≡◌, ℕ, Bool, true, false, cond, ◌&&◌, ◌||◌, List, [], ◌∷◌, map, refl, sym, ◌∙◌, ap, subst}
use Rattle.std.specs.Prelude.{IfOk, Result, Ok, Err}
use Rattle.std.specs.Borrow.{Bor}
use Rattle.std.specs.declared.cmp.Ordering.TheVariants.{Less}
use Rattle.std.specs.Cmp.{IsTotalOrder, unsigned_ties}
use Rattle.std.specs.Cmp.Lexicographic.{lists_ties, nat_list_cmp_total}
use Rattle.std.specs.List.{AllByRecursion, dedup, dedup_from, filter, list_any}
use Rattle.std.specs.List.Sorted.{IsPermutation, IsSorted, IsStrictlySortedBy}
use Rattle.std.specs.Ordering.{eq_by_cmp, nat_cmp}
use Rattle.std.proofs.lemmas.Cmp.{on_total}
use Rattle.std.proofs.lemmas.List.Kept.{IsStrictlySortedBy-dedup, IsStrictlySortedBy-filter}
use Rattle.std.proofs.lemmas.List.Sorted.{list_any-IsPermutation}
use Rattle.std.proofs.lemmas.Map.Lookups.{exact_bytes}
use Rattle.std.proofs.lemmas.Map.Views.{any-filter_same, tells_apart}
use Rattle.sasi_types.specs.Key.{key_cmp, key_eq}
use Rattle.sasi_model.specs.Tokens.{same}
use Rattle.sasi_narrow.specs.inside.KeyRefs.{has_key, ref_cmp}

abbrev pub Ref : Type 0
Ref = Bor (List ℕ)

abbrev pub ref_eq : Ref → Ref → Bool
ref_eq a b = key_eq a.now b.now

pub ref_total : IsTotalOrder ref_cmp
ref_total = on_total (λ (r : Ref). r.now) nat_list_cmp_total

pub equal_bytes : (a b : List ℕ) → same a b ≡ true → a ≡ b
equal_bytes a b e = tells_apart exact_bytes a b (sym (lists_ties nat_cmp unsigned_ties a b) ∙ e)

-- ---- each once

module _ {X : Type 0} (alike : X → X → Bool) (test : X → Bool) (agree : (x y : X) → alike x y ≡ true → test x ≡ test y) where
  twice : (a c : Bool) → (a || c) ≡ (a || (a || c))
  twice true c = refl
  twice false c = refl

  once_from : (last : X) (xs : List X) → list_any test (dedup_from alike last xs) ≡ (test last || list_any test xs)
  once_from last [] = refl
  once_from last (x ∷ xs) = by (alike x last) refl (once_from last xs) (once_from x xs)
    where
      by : (b : Bool) → alike x last ≡ b → list_any test (dedup_from alike last xs) ≡ (test last || list_any test xs) → list_any test (dedup_from alike x xs) ≡ (test x || list_any test xs)
          → list_any test (cond b (dedup_from alike last xs) (last ∷ dedup_from alike x xs)) ≡ (test last || (test x || list_any test xs))
      by true is rest other = rest ∙ twice (test last) (list_any test xs) ∙ ap (λ b. test last || (b || list_any test xs)) (sym (agree x last is))
      by false is rest other = ap (λ b. test last || b) other

  -- what has no repeats has an item that passes where the list had one
  pub once_any : (xs : List X) → list_any test (dedup alike xs) ≡ list_any test xs
  once_any [] = refl
  once_any (x ∷ xs) = once_from x xs

-- sorted and without repeats, references to keys have the same keys, and rise
pub sorted_rise : (sorted new : List Ref) → IsSorted ref_cmp sorted → new ≡ dedup ref_eq sorted → IsStrictlySortedBy ref_cmp new
sorted_rise sorted new rises is =
    subst (λ (l : List Ref). IsStrictlySortedBy ref_cmp l) (sym is)
    (IsStrictlySortedBy-dedup ref_total (λ a b. lists_ties nat_cmp unsigned_ties a.now b.now) sorted rises)

pub sorted_has : (old sorted new : List Ref) → IsPermutation old sorted → new ≡ dedup ref_eq sorted → (bytes : List ℕ) → has_key bytes new ≡ has_key bytes old
sorted_has old sorted new moved is bytes =
    ap (has_key bytes) is
    ∙ once_any ref_eq (λ (r : Ref). same bytes r.now) (λ x y e. ap (same bytes) (equal_bytes x.now y.now e)) sorted
    ∙ sym (list_any-IsPermutation (λ (r : Ref). same bytes r.now) old sorted moved)

-- ---- those that other keys have, too

abbrev pub shared : List Ref → List Ref → List Ref
shared others left = filter (λ (key : Ref). has_key key.now others) left

pub shared_has : (others left : List Ref) (bytes : List ℕ) → has_key bytes (shared others left) ≡ (has_key bytes others && has_key bytes left)
shared_has others left bytes =
    any-filter_same (λ (key : Ref). same bytes key.now) (λ (key : Ref). has_key key.now others) (has_key bytes others)
    (λ key e. ap (λ k. has_key k others) (sym (equal_bytes bytes key.now e))) left

pub shared_rise : (others left : List Ref) → IsStrictlySortedBy ref_cmp left → IsStrictlySortedBy ref_cmp (shared others left)
shared_rise others left rise = IsStrictlySortedBy-filter ref_cmp (λ (key : Ref). has_key key.now others) left rise

-- ---- their bytes

abbrev pub bytes_of : List Ref → List (List ℕ)
bytes_of keys = map (λ (key : Ref). key.now) keys

all_seen : (P : List ℕ → Type 0) (keys : List Ref) → AllByRecursion (λ key. P key.now) keys → AllByRecursion P (bytes_of keys)
all_seen P [] all = tt
all_seen P (key ∷ keys) all = (all.0, all_seen P keys all.1)

pub bytes_rise : (keys : List Ref) → IsStrictlySortedBy ref_cmp keys → IsStrictlySortedBy key_cmp (bytes_of keys)
unfolding IsStrictlySortedBy
bytes_rise [] rise = tt
bytes_rise (key ∷ keys) rise = (all_seen (λ k. key_cmp key.now k ≡ Less) keys rise.0, bytes_rise keys rise.1)

pub bytes_has : (keys : List Ref) (bytes : List ℕ) → list_any (same bytes) (bytes_of keys) ≡ has_key bytes keys
bytes_has [] bytes = refl
bytes_has (key ∷ keys) bytes = ap (λ b. same bytes key.now || b) (bytes_has keys bytes)

-- ---- a search

pub any_tied : (bytes : List ℕ) (keys : List Ref) → list_any (λ (key : Ref). eq_by_cmp key_cmp bytes key.now) keys ≡ has_key bytes keys
any_tied bytes [] = refl
any_tied bytes (key ∷ keys) =
    ap (λ b. b || list_any (λ (k : Ref). eq_by_cmp key_cmp bytes k.now) keys) (sym (lists_ties nat_cmp unsigned_ties bytes key.now)) ∙ ap (λ b. same bytes key.now || b) (any_tied bytes keys)

-- ---- copies

-- what holds of the keys holds of their copies
pub copies_rise : {V E : Type 0} (r : Result V E) (items : V → List (List ℕ)) (left : List Ref) → IfOk r (λ v. items v ≡ bytes_of left) → IsStrictlySortedBy ref_cmp left
    → IfOk r (λ v. IsStrictlySortedBy key_cmp (items v))
copies_rise (Ok v) items left are rise = subst (λ (l : List (List ℕ)). IsStrictlySortedBy key_cmp l) (sym are) (bytes_rise left rise)
copies_rise (Err e) items left are rise = tt

pub copies_have : {V E : Type 0} (r : Result V E) (items : V → List (List ℕ)) (left : List Ref) (wanted : List ℕ → Bool) → IfOk r (λ v. items v ≡ bytes_of left)
    → ((bytes : List ℕ) → has_key bytes left ≡ wanted bytes) → IfOk r (λ v. (bytes : List ℕ) → list_any (same bytes) (items v) ≡ wanted bytes)
copies_have (Ok v) items left wanted are has = λ bytes. ap (list_any (same bytes)) are ∙ bytes_has left bytes ∙ has bytes
copies_have (Err e) items left wanted are has = tt
