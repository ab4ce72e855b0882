-- The items of a list that pass a test, where they stand side by side.
use Rattle.std.proofs.Common.{◌≡◌, ℕ, zero, suc, ◌≤◌, Bool, true, false, cond, List, [], ◌∷◌, length, take, drop, refl, sym, ◌∙◌, ap, arith}
use Rattle.std.specs.List.{AllWithin, filter}

module _ {X : Type 0} (test : X → Bool) where
  -- the items before an index don't pass
  past : (xs : List X) (n : ℕ) → AllWithin (λ y. test y ≡ false) xs 0 n → n ≤ length xs → filter test (drop n xs) ≡ filter test xs
  past xs zero none within = refl
  past [] (suc n) none within = refl
  past (x ∷ xs) (suc n) none within =
      past xs n (λ k d from below. none (suc k) d (omega arith) (omega (arith, below))) (omega (arith, within))
      ∙ sym (ap (λ b. cond b (x ∷ filter test xs) (filter test xs)) (none 0 x (omega arith) (omega arith)))

  none_kept : (xs : List X) → AllWithin (λ y. test y ≡ false) xs 0 (length xs) → filter test xs ≡ []
  none_kept [] none = refl
  none_kept (x ∷ xs) none =
      ap (λ b. cond b (x ∷ filter test xs) (filter test xs)) (none 0 x (omega arith) (omega arith))
      ∙ none_kept xs (λ k d from below. none (suc k) d (omega arith) (omega (arith, below)))

  -- those before an index pass, and those from it on don't
  front : (xs : List X) (n : ℕ) → AllWithin (λ y. test y ≡ true) xs 0 n → AllWithin (λ y. test y ≡ false) xs n (length xs) → n ≤ length xs → filter test xs ≡ take n xs
  front xs zero all none within = none_kept xs none
  front [] (suc n) all none within = refl
  front (x ∷ xs) (suc n) all none within =
      ap (λ b. cond b (x ∷ filter test xs) (filter test xs)) (all 0 x (omega arith) (omega arith))
      ∙ ap (λ (l : List X). x ∷ l) (front xs n
      (λ k d from below. all (suc k) d (omega arith) (omega (arith, below)))
      (λ k d from below. none (suc k) d (omega (arith, from)) (omega (arith, below)))
      (omega (arith, within)))

  -- **A span**: those before the first index don't pass, those of the span do, and those behind it don't.
  pub span_is : (xs : List X) (first end : ℕ) → first ≤ length xs → end ≤ length (drop first xs) → AllWithin (λ y. test y ≡ false) xs 0 first → AllWithin (λ y. test y ≡ true) (drop first xs) 0 end
      → AllWithin (λ y. test y ≡ false) (drop first xs) end (length (drop first xs)) → take end (drop first xs) ≡ filter test xs
  span_is xs first end within ends before inside behind = sym (front (drop first xs) end inside behind ends) ∙ past xs first before within
