-- A list in which the item at one position is replaced.
use Rattle.std.proofs.Common.{◌≡◌, ℕ, zero, suc, ◌+◌, ◌<◌, ◌≤◌, ◌⊎◌, inl, inr, List, [], ◌∷◌, length, get_or, slice_get, slice_set, Option, Some, refl, sym, ap, subst, ◌∙◌, arith}
use Rattle.std.proofs.lemmas.Bool.{cases_eq}

module _ {A : Type 0} where
  pub item_or : (xs : List A) (at : ℕ) (d : A) → at < length xs → slice_get xs at ≡ Some (get_or xs at d)
  item_or [] at d within = absurd (omega arith)
  item_or (y ∷ ys) zero d within = refl
  item_or (y ∷ ys) (suc at) d within = item_or ys at d (omega arith)

  set_get : (xs : List A) (at : ℕ) (y : A) (position : ℕ) (i : A) → slice_get (slice_set xs at y) position ≡ Some i → (position ≡ at → i ≡ y) × ((position ≡ at → ⊥) → slice_get xs position ≡ Some i)
  set_get [] at y position i e = absurd cc
  set_get (x ∷ xs) zero y zero i e = (λ h. cc, λ other. absurd (other refl))
  set_get (x ∷ xs) zero y (suc position) i e = (λ h. absurd (omega (arith, h)), λ other. e)
  set_get (x ∷ xs) (suc at) y zero i e = (λ h. absurd (omega (arith, h)), λ other. e)
  set_get (x ∷ xs) (suc at) y (suc position) i e =
      let rest = set_get xs at y position i e in
      (λ h. rest.0 (omega (arith, h)), λ other. rest.1 (λ h. other (ap suc h)))

  -- what holds of each item before a position and of the new one there holds of each before the next
  pub done_more : (P : A → Type 0) (xs : List A) (at : ℕ) (y : A) → P y → ((position : ℕ) (i : A) → position < at → slice_get xs position ≡ Some i → P i)
      → (position : ℕ) (i : A) → position < at + 1 → slice_get (slice_set xs at y) position ≡ Some i → P i
  done_more P xs at y new done position i before e = by (cases_eq position at)
    where
      by : (position ≡ at) ⊎ (position ≡ at → ⊥) → P i
      by (inl same) = subst P (sym ((set_get xs at y position i e).0 same)) new
      by (inr other) = done position i (omega (arith, before, other)) ((set_get xs at y position i e).1 other)

  -- and the items behind it are as they were
  pub left_less : (all xs : List A) (at : ℕ) (y : A) → ((position : ℕ) (i : A) → at ≤ position → slice_get xs position ≡ Some i → slice_get all position ≡ Some i)
      → (position : ℕ) (i : A) → at + 1 ≤ position → slice_get (slice_set xs at y) position ≡ Some i → slice_get all position ≡ Some i
  left_less all xs at y left position i behind e = left position i (omega (arith, behind)) ((set_get xs at y position i e).1 (λ h. omega (arith, h, behind)))
