-- A map with one more index, for callers: each of its indexes is kept.
use Rattle.std.proofs.Common.{◌≡◌, ℕ, zero, suc, List, [], ◌∷◌, ◌++◌, slice_get, Option, Some, subst, sym, ap, ◌∙◌}
use Rattle.sasi_model.specs.Abbreviations.{Partitions}
use Rattle.sasi_memindex.specs.Book.{AreKept, IsKept}
use Rattle.sasi_memindex.specs.MemIndexView.{MemIndexView, Numbered}

-- what holds of each item and of one more
each_with : (P : ℕ × MemIndexView → Type 0) (xs : Numbered) (one : ℕ × MemIndexView) → ((position : ℕ) (i : ℕ × MemIndexView) → slice_get xs position ≡ Some i → P i) → P one
    → (position : ℕ) (i : ℕ × MemIndexView) → slice_get (xs ++ one ∷ []) position ≡ Some i → P i
each_with P [] one each new zero i e = let same : one ≡ i = cc in subst P same new
each_with P [] one each new (suc position) i e = absurd cc
each_with P (x ∷ xs) one each new zero i e = each zero i e
each_with P (x ∷ xs) one each new (suc position) i e = each_with P xs one (λ p j found. each (suc p) j found) new position i e

pub added_kept : (m : Partitions) (indexes : Numbered) (number : ℕ) (added : MemIndexView) → AreKept m indexes → IsKept m added → AreKept m (indexes ++ (number, added) ∷ [])
added_kept m indexes number added kept new = each_with (λ i. IsKept m i.1) indexes (number, added) kept new
