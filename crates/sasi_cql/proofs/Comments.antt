-- Comments: where they end, and how many bytes they have.
use Rattle.std.proofs.Common.{◌≡◌, ℕ, zero, suc, Bool, true, false, ◌&&◌, ◌||◌, ◌==◌, List, [], ◌∷◌, drop, refl, ◌∙◌}
use Rattle.sasi_model.specs.Pieces.{starts, to_close, closes}
use Rattle.sasi_model.specs.Abbreviations.{behind_first}

-- a `*/` is in both or in neither, and the same comes after the first
pub record SameClose (bytes left : List ℕ) : Type 0 where
  pub closes_is : closes bytes ≡ closes left
  pub behind_is : drop (to_close bytes) bytes ≡ drop (to_close left) left

pub close_begun : (bytes : List ℕ) → SameClose bytes bytes
close_begun bytes = record { closes_is = refl; behind_is = refl }

pub close_more : (bytes left : List ℕ) (b : ℕ) (behind : List ℕ) → left ≡ b ∷ behind → (b == 42 && starts 47 behind) ≡ false → SameClose bytes left → SameClose bytes behind
close_more bytes left b behind is other s = record {
  closes_is = s.closes_is ∙ rw (is, other) refl;
  behind_is = s.behind_is ∙ rw (is, other) refl;
}

pub not_closed : (n : ℕ) (bytes : List ℕ) → closes bytes ≡ false → closes (drop n bytes) ≡ false
not_closed zero bytes h = h
not_closed (suc n) [] h = refl
not_closed (suc n) (b ∷ bs) h = not_closed n bs (other (b == 42 && starts 47 bs) (closes bs) h) where
  other : (a c : Bool) → (a || c) ≡ false → c ≡ false
  other true c h = absurd cc
  other false c h = h

pub not_closed_behind : (n : ℕ) (bytes : List ℕ) → closes (behind_first bytes) ≡ false → closes (behind_first (drop n bytes)) ≡ false
not_closed_behind zero bytes h = h
not_closed_behind (suc n) [] h = refl
not_closed_behind (suc zero) (b ∷ bs) h = not_closed_first bs h where
  not_closed_first : (bs : List ℕ) → closes bs ≡ false → closes (behind_first bs) ≡ false
  not_closed_first [] h = refl
  not_closed_first (c ∷ cs) h = not_closed 1 (c ∷ cs) h
not_closed_behind (suc (suc n)) (b ∷ bs) h = behind (drop (suc n) bs) (not_closed (suc n) bs h) where
  behind : (cs : List ℕ) → closes cs ≡ false → closes (behind_first cs) ≡ false
  behind [] h = refl
  behind (c ∷ cs) h = not_closed 1 (c ∷ cs) h
