-- Lists that rise, and what holds of each item.
use Rattle.std.proofs.Common.{◌≡◌, ℕ, ◌+◌, ◌<◌, List, [], ◌∷◌, ◌++◌, length, get_or, zero, suc, sym, subst, arith, ⊎_elim}
use Rattle.std.proofs.lemmas.Bool.Decides.{leb_tells}
use Rattle.std.proofs.lemmas.List.{get_or_append_left, get_or_push, length_push}
use Rattle.std.specs.List.{AllByRecursion}

module _ {X : Type 0} (P : X → Type 0) where
  pub all_join : (xs ys : List X) → AllByRecursion P xs → AllByRecursion P ys → AllByRecursion P (xs ++ ys)
  all_join [] ys first second = second
  all_join (x ∷ xs) ys first second = (first.0, all_join xs ys first.1 second)

  pub all_first : (xs ys : List X) → AllByRecursion P (xs ++ ys) → AllByRecursion P xs
  all_first [] ys all = tt
  all_first (x ∷ xs) ys all = (all.0, all_first xs ys all.1)

  pub all_second : (xs ys : List X) → AllByRecursion P (xs ++ ys) → AllByRecursion P ys
  all_second [] ys all = all
  all_second (x ∷ xs) ys all = all_second xs ys all.1

  pub all_at : (xs : List X) (d : X) (k : ℕ) → k < length xs → AllByRecursion P xs → P (get_or xs k d)
  all_at [] d k lt all = absurd (omega arith)
  all_at (x ∷ xs) d zero lt all = all.0
  all_at (x ∷ xs) d (suc k) lt all = all_at xs d k (omega arith) all.1

-- each item is related to the next
abbrev pub Rises : {X : Type 0} → (X → X → Type 0) → X → List X → Type 0
Rises R d xs = (index : ℕ) → index + 1 < length xs → R (get_or xs index d) (get_or xs (index + 1) d)

-- one more at the end
pub rises_push : {X : Type 0} (R : X → X → Type 0) (d : X) (xs : List X) (x : X) → Rises R d xs → ((n : ℕ) → n + 1 ≡ length xs → R (get_or xs n d) x) → Rises R d (xs ++ x ∷ [])
rises_push {X} R d xs x rises last index lt = ⊎_elim
    (λ end.
    let here : index + 1 ≡ length xs = omega (arith, end.1, lt, length_push xs x) in
    subst (λ (y : X). R y (get_or (xs ++ x ∷ []) (index + 1) d)) (sym (get_or_append_left xs (x ∷ []) d index (omega (arith, here))))
    (subst (λ (y : X). R (get_or xs index d) y) (sym (get_or_push xs x d (index + 1) (sym here))) (last index here)))
    (λ before.
    subst (λ (y : X). R y (get_or (xs ++ x ∷ []) (index + 1) d)) (sym (get_or_append_left xs (x ∷ []) d index (omega (arith, before.1))))
    (subst (λ (y : X). R (get_or xs index d) y) (sym (get_or_append_left xs (x ∷ []) d (index + 1) before.1)) (rises index before.1)))
    (leb_tells (length xs) (index + 1))
