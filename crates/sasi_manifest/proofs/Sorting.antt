-- Definitions of indexes, sorted by their numbers.
use Rattle.std.proofs.Common.{◌≡◌, ◌⊎◌, inl, inr, ⊎_elim, ◌<◌, ◌≤◌, ℕ, zero, suc, Bool, true, false, not, ◌&&◌, if◌then◌else◌, List, [], ◌∷◌, length, get_or, Result, Ok, Err, OnOk, refl, sym, ap, ◌∙◌, arith}
use Rattle.std.specs.Prelude.{nat_eq, nat_le}
use Rattle.std.specs.Borrow.{Bor}
use Rattle.std.specs.Fn.{Called, Mut}
use Rattle.std.specs.List.{AllByRecursion, filter}
use Rattle.std.specs.List.Sorted.{IsNonDecreasingBy, IsSortedByKey, IsSortedByKeyClosure, IsStableByKey, IsStableByKeyClosure}
use Rattle.std.specs.Ordering.{is_lt, nat_cmp}
use Rattle.std.proofs.lemmas.Bool.Decides.{nat_tests}
use Rattle.std.proofs.lemmas.Fn.{always_returns_same}
use Rattle.std.proofs.lemmas.List.Sorted.{IsNonDecreasingBy-from_sort}
use Rattle.sasi_types.specs.declared.index_def.IndexDef.{IndexDef}
use Rattle.sasi_manifest.specs.Listings.{by_number, with_def}

-- ---- ties

-- neither has the lower number
abbrev tie : IndexDef → IndexDef → Bool
tie x y = not (is_lt (nat_cmp x.number y.number)) && not (is_lt (nat_cmp y.number x.number))

ties_equal : (m n : ℕ) → (not (is_lt (nat_cmp m n)) && not (is_lt (nat_cmp n m))) ≡ nat_eq m n
ties_equal m n = grind (arith, nat_tests)

tied : (x y : IndexDef) → tie x y ≡ true → x.number ≡ y.number
tied x y is = (let equal : nat_eq x.number y.number ≡ true = sym (ties_equal x.number y.number) ∙ is in grind (arith, nat_tests, equal))

same_ties : (x y : IndexDef) → x.number ≡ y.number → tie x y ≡ true
same_ties x y is = ties_equal x.number y.number ∙ grind (arith, nat_tests, is)

apart : (x y : IndexDef) → x.number < y.number → tie x y ≡ false
apart x y less = ties_equal x.number y.number ∙ grind (arith, nat_tests, less)

abbrev those : IndexDef → List IndexDef → List IndexDef
those z defs = filter (tie z) defs

-- ---- sorted by number

-- no number is below this one
abbrev FromOn : ℕ → List IndexDef → Type 0
FromOn n defs = AllByRecursion (λ (x : IndexDef). n ≤ x.number) defs

abbrev Ascends : List IndexDef → Type 0
Ascends [] = Unit {0}
Ascends (x ∷ defs) = FromOn x.number defs × Ascends defs

from_lower : (m n : ℕ) (defs : List IndexDef) → m ≤ n → FromOn n defs → FromOn m defs
from_lower m n [] le all = tt
from_lower m n (x ∷ defs) le all = (omega (arith, le, all.0), from_lower m n defs le all.1)

from_with : (n : ℕ) (def : IndexDef) (defs : List IndexDef) → n ≤ def.number → FromOn n defs → FromOn n (with_def def defs)
from_with n def [] le all = (le, tt)
from_with n def (x ∷ defs) le all =
    let rest = from_with n def defs le all.1 in
    elim (nat_le def.number x.number) as (λ b. FromOn n (if b then def ∷ x ∷ defs else x ∷ with_def def defs)) [
      | true ↦ (le, all)
      | false ↦ (all.0, rest)
    ]

ascends_with : (def : IndexDef) (defs : List IndexDef) → Ascends defs → Ascends (with_def def defs)
ascends_with def [] up = (tt, tt)
ascends_with def (x ∷ defs) up = by (nat_le def.number x.number) refl (ascends_with def defs up.1)
  where
    by : (b : Bool) → nat_le def.number x.number ≡ b → Ascends (with_def def defs) → Ascends (if b then def ∷ x ∷ defs else x ∷ with_def def defs)
    by true le rest =
        let low : def.number ≤ x.number = grind (arith, nat_tests, le) in
        ((low, from_lower def.number x.number defs low up.0), up)
    by false above rest =
        let low : x.number ≤ def.number = grind (arith, nat_tests, above) in
        (from_with x.number def defs low up.0, rest)

ascends : (defs : List IndexDef) → Ascends (by_number defs)
ascends [] = tt
ascends (x ∷ defs) = ascends_with x (by_number defs) (ascends defs)

-- ---- ties keep their order

swapped : (z x y : IndexDef) (rest : List IndexDef) → y.number < x.number → (if tie z y then y ∷ (if tie z x then x ∷ rest else rest) else (if tie z x then x ∷ rest else rest))
    ≡ (if tie z x then x ∷ (if tie z y then y ∷ rest else rest) else (if tie z y then y ∷ rest else rest))
swapped z x y rest less = by (tie z x) refl (tie z y) refl
  where
    by : (a : Bool) → tie z x ≡ a → (b : Bool) → tie z y ≡ b → (if b then y ∷ (if a then x ∷ rest else rest) else (if a then x ∷ rest else rest)) ≡ (if a then x ∷ (if b then y ∷ rest else rest) else (if b then y ∷ rest else rest))
    by true first true second = absurd (omega (arith, less, tied z x first, tied z y second))
    by true first false second = refl
    by false first true second = refl
    by false first false second = refl

those_with : (z def : IndexDef) (defs : List IndexDef) → those z (with_def def defs) ≡ those z (def ∷ defs)
those_with z def [] = refl
those_with z def (x ∷ defs) = by (nat_le def.number x.number) refl (those_with z def defs)
  where
    by : (b : Bool) → nat_le def.number x.number ≡ b → those z (with_def def defs) ≡ those z (def ∷ defs) → those z (if b then def ∷ x ∷ defs else x ∷ with_def def defs) ≡ those z (def ∷ x ∷ defs)
    by true le rest = refl
    by false above rest =
        let less : x.number < def.number = grind (arith, nat_tests, above) in
        ap (λ l. if tie z x then x ∷ l else l) rest ∙ swapped z def x (those z defs) less

those_sorted : (z : IndexDef) (defs : List IndexDef) → those z (by_number defs) ≡ those z defs
those_sorted z [] = refl
those_sorted z (x ∷ defs) = those_with z x (by_number defs) ∙ ap (λ l. if tie z x then x ∷ l else l) (those_sorted z defs)

-- ---- there is one such list

none_tied : (z : IndexDef) (n : ℕ) (defs : List IndexDef) → z.number < n → FromOn n defs → those z defs ≡ []
none_tied z n [] less all = refl
none_tied z n (x ∷ defs) less all = ap (λ b. if b then x ∷ those z defs else those z defs) (apart z x (omega (arith, less, all.0))) ∙ none_tied z n defs less all.1

itself : (x : IndexDef) (defs : List IndexDef) → those x (x ∷ defs) ≡ x ∷ those x defs
itself x defs = ap (λ b. if b then x ∷ those x defs else those x defs) (same_ties x x refl)

no_item : {A : Type 0} (x : A) (xs : List A) → x ∷ xs ≡ [] → ⊥
no_item x xs is = cc

first_of : {A : Type 0} (x y : A) (xs ys : List A) → x ∷ xs ≡ y ∷ ys → x ≡ y
first_of x y xs ys is = cc

rest_of : (b : Bool) (x y : IndexDef) (xs ys : List IndexDef) → (if b then x ∷ xs else xs) ≡ (if b then y ∷ ys else ys) → xs ≡ ys
rest_of true x y xs ys is = cc
rest_of false x y xs ys is = is

compared : (m n : ℕ) → (m < n) ⊎ ((n < m) ⊎ (m ≡ n))
compared zero zero = inr (inr refl)
compared zero (suc n) = inl (omega arith)
compared (suc m) zero = inr (inl (omega arith))
compared (suc m) (suc n) = ⊎_elim (λ l. inl (omega (arith, l))) (λ more. ⊎_elim (λ g. inr (inl (omega (arith, g)))) (λ e. inr (inr (ap (λ k. suc k) e))) more) (compared m n)

unique : (xs ys : List IndexDef) → Ascends xs → Ascends ys → ((z : IndexDef) → those z xs ≡ those z ys) → xs ≡ ys
unique [] [] up down same = refl
unique [] (y ∷ ys) up down same = absurd (no_item y (those y ys) (sym (itself y ys) ∙ sym (same y)))
unique (x ∷ xs) [] up down same = absurd (no_item x (those x xs) (sym (itself x xs) ∙ same x))
unique (x ∷ xs) (y ∷ ys) up down same = by (compared x.number y.number) (unique xs ys up.1 down.1)
  where
    by : (x.number < y.number) ⊎ ((y.number < x.number) ⊎ (x.number ≡ y.number)) → (((z : IndexDef) → those z xs ≡ those z ys) → xs ≡ ys) → x ∷ xs ≡ y ∷ ys
    by (inl less) rest = absurd (no_item x (those x xs) (sym (itself x xs) ∙ same x ∙ none_tied x y.number (y ∷ ys) less (omega arith, down.0)))
    by (inr (inl more)) rest = absurd (no_item y (those y ys) (sym (itself y ys) ∙ sym (same y) ∙ none_tied y x.number (x ∷ xs) more (omega arith, up.0)))
    by (inr (inr equal)) rest =
        let here : those x (y ∷ ys) ≡ y ∷ those x ys = ap (λ b. if b then y ∷ those x ys else those x ys) (same_ties x y equal) in
        let first : x ≡ y = first_of x y (those x xs) (those x ys) (sym (itself x xs) ∙ same x ∙ here) in
        let others : xs ≡ ys = rest (λ z. rest_of (tie z x) x y (those z xs) (those z ys) (same z ∙ ap (λ b. if b then y ∷ those z ys else those z ys) (sym (ap (tie z) first)))) in
        (λ i. first i ∷ others i)

-- ---- what a stable sort leaves

all_from : (n : ℕ) (defs : List IndexDef) → ((j : ℕ) (d : IndexDef) → j < length defs → n ≤ (get_or defs j d).number) → FromOn n defs
all_from n [] above = tt
all_from n (x ∷ defs) above = (above 0 x (omega arith), all_from n defs (λ j d less. above (suc j) d (omega (arith, less))))

ascends_from : (defs : List IndexDef) → IsNonDecreasingBy (λ (d : IndexDef). d.number) defs → Ascends defs
ascends_from [] up = tt
ascends_from (x ∷ defs) up = (all_from x.number defs (λ j d less. up 0 (suc j) d (omega arith) (omega (arith, less))), ascends_from defs (λ i j d le less. up (suc i) (suc j) d (omega (arith, le)) (omega (arith, less))))

stable_is : (old new : List IndexDef) → IsSortedByKey (λ (d : IndexDef). d.number) nat_cmp new → IsStableByKey (λ (d : IndexDef). d.number) nat_cmp old new → new ≡ by_number old
stable_is old new sorted stable = unique new (by_number old) (ascends_from new (IsNonDecreasingBy-from_sort (λ (d : IndexDef). d.number) new sorted)) (ascends old) (λ z. stable z ∙ sym (those_sorted z old))

-- a sort by the numbers
pub sorted_by_number : {F A E : Type 0} {g : Mut F (Bor IndexDef × Unit {0}) ℕ} {f : F} (old new : List IndexDef) (result : Result A E) → OnOk result (IsSortedByKeyClosure g nat_cmp f new) → IsStableByKeyClosure g nat_cmp f old new
    → ((a : Bor IndexDef × Unit {0}) (r : ℕ) (f' : F) → Called g f a r f' → (r ≡ a.0.now.number) × (f' ≡ f)) → OnOk result (new ≡ by_number old)
sorted_by_number {g = g} {f = f} old new (Ok a) sorted stable calls =
    let key : IndexDef → ℕ = λ (d : IndexDef). d.number in
    let computes = always_returns_same g (λ a r. r ≡ a.0.now.number) f calls in
    stable_is old new (sorted key computes) (stable key computes)
sorted_by_number old new (Err e) sorted stable calls = tt
