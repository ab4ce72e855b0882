-- Two lists side by side.
use Rattle.std.proofs.Common.{◌≡◌, List, [], ◌∷◌, ◌++◌, length, refl, ap, arith}
use Rattle.std.specs.List.{zip}

-- one more at the end of both
pub zip_more : {A B : Type 0} (xs : List A) (ys : List B) (x : A) (y : B) → length xs ≡ length ys → zip (xs ++ x ∷ []) (ys ++ y ∷ []) ≡ zip xs ys ++ (x, y) ∷ []
zip_more [] [] x y same = refl
zip_more [] (b ∷ ys) x y same = absurd (omega arith)
zip_more (a ∷ xs) [] x y same = absurd (omega arith)
zip_more (a ∷ xs) (b ∷ ys) x y same = ap (λ l. (a, b) ∷ l) (zip_more xs ys x y (omega arith))
