-- A test of a list: whether some item passes it, however the list was made.
use Rattle.std.proofs.Common.{◌≡◌, Bool, true, false, cond, ◌||◌, List, [], ◌∷◌, refl, sym, ap, ◌∙◌}
use Rattle.std.proofs.lemmas.List.Folds.{list_any-append}
use Rattle.std.specs.List.{AllByRecursion, dedup, dedup_from, filter, flat_map, list_any}
use Rattle.std.specs.Ordering.{is_gt}
use Rattle.std.specs.declared.cmp.Ordering.{Ordering}
use Rattle.sasi_segments.specs.Sorting.{inserted, sort}

-- ---- a sorted list

module _ {X : Type 0} (cmp : X → X → Ordering) (test : X → Bool) where
  turned : (a b c : Bool) → (a || (b || c)) ≡ (b || (a || c))
  turned true true c = refl
  turned true false c = refl
  turned false b c = refl

  inserted_any : (x : X) (xs : List X) → list_any test (inserted cmp x xs) ≡ (test x || list_any test xs)
  unfolding inserted
  inserted_any x [] = refl
  inserted_any x (y ∷ ys) = by (is_gt (cmp x y)) (inserted_any x ys)
    where
      by : (b : Bool) → list_any test (inserted cmp x ys) ≡ (test x || list_any test ys) → list_any test (cond b (y ∷ inserted cmp x ys) (x ∷ y ∷ ys)) ≡ (test x || (test y || list_any test ys))
      by true rest = ap (λ b. test y || b) rest ∙ turned (test y) (test x) (list_any test ys)
      by false rest = refl

  pub sorted_any : (xs : List X) → list_any test (sort cmp xs) ≡ list_any test xs
  unfolding sort
  sorted_any [] = refl
  sorted_any (x ∷ xs) = inserted_any x (sort cmp xs) ∙ ap (λ b. test x || b) (sorted_any xs)

-- ---- a list without repeats

module _ {X : Type 0} (same : X → X → Bool) (equal : (x y : X) → same x y ≡ true → x ≡ y) (test : X → Bool) where
  twice : (a c : Bool) → (a || c) ≡ (a || (a || c))
  twice true c = refl
  twice false c = refl

  once_from : (last : X) (xs : List X) → list_any test (dedup_from same last xs) ≡ (test last || list_any test xs)
  once_from last [] = refl
  once_from last (x ∷ xs) = by (same x last) refl (once_from last xs) (once_from x xs)
    where
      by : (b : Bool) → same x last ≡ b → list_any test (dedup_from same last xs) ≡ (test last || list_any test xs) → list_any test (dedup_from same x xs) ≡ (test x || list_any test xs)
          → list_any test (cond b (dedup_from same last xs) (last ∷ dedup_from same x xs)) ≡ (test last || (test x || list_any test xs))
      by true is rest other = rest ∙ twice (test last) (list_any test xs) ∙ ap (λ (y : X). test last || (test y || list_any test xs)) (sym (equal x last is))
      by false is rest other = ap (λ b. test last || b) other

  pub once_any : (xs : List X) → list_any test (dedup same xs) ≡ list_any test xs
  once_any [] = refl
  once_any (x ∷ xs) = once_from x xs

-- ---- lists that are joined

pub flat_any : {A X : Type 0} (test : X → Bool) (f : A → List X) (items : List A) → list_any test (flat_map f items) ≡ list_any (λ a. list_any test (f a)) items
flat_any test f [] = refl
flat_any test f (a ∷ items) = list_any-append test (f a) (flat_map f items) ∙ ap (λ b. list_any test (f a) || b) (flat_any test f items)

-- ---- tests that are equal

pub same_any : {X : Type 0} (test other : X → Bool) (xs : List X) → AllByRecursion (λ x. test x ≡ other x) xs → list_any test xs ≡ list_any other xs
same_any test other [] all = refl
same_any test other (x ∷ xs) all = ap (λ b. b || list_any test xs) all.0 ∙ ap (λ b. other x || b) (same_any test other xs all.1)

pub all_filtered : {X : Type 0} (P : X → Type 0) (keep : X → Bool) (xs : List X) → AllByRecursion P xs → AllByRecursion P (filter keep xs)
all_filtered P keep [] all = tt
all_filtered P keep (x ∷ xs) all = by (keep x) (all_filtered P keep xs all.1)
  where
    by : (b : Bool) → AllByRecursion P (filter keep xs) → AllByRecursion P (cond b (x ∷ filter keep xs) (filter keep xs))
    by true rest = (all.0, rest)
    by false rest = rest
