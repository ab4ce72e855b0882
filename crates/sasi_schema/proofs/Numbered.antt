-- The list with the item of one number changed.
use Rattle.std.proofs.Common.{◌≡◌, ℕ, zero, suc, ◌+◌, ◌-◌, ◌<◌, ◌≤◌, true, false, nat_eq, List, [], ◌∷◌, length, map, set, get_or, if◌then◌else◌, Result, Ok, Err, OnOk, sym, ap, ◌∙◌, refl, arith}
use Rattle.std.proofs.lemmas.Bool.Decides.{nat_tests}
use Rattle.sasi_model.specs.Changes.{at_number}

-- a number below all of them names none
pub unchanged : {A : Type 0} (n number : ℕ) (f : A → A) (xs : List A) → number < n → at_number n number f xs ≡ xs
unchanged n number f [] below = refl
unchanged n number f (x ∷ xs) below =
    let other : nat_eq n number ≡ false = grind (arith, nat_tests) in
    ap (λ b. (if b then f x else x) ∷ at_number (suc n) number f xs) other ∙ ap (λ l. x ∷ l) (unchanged (suc n) number f xs (omega arith))

-- what is seen of the items, where one of them is another that is seen as changed
pub seen_changed : {A B : Type 0} (seen : A → B) (change : B → B) (n i number : ℕ) (xs : List A) (x new : A) → number ≡ n + i → i < length xs → x ≡ get_or xs i x
    → seen new ≡ change (seen x) → map seen (set xs i new) ≡ at_number n number change (map seen xs)
seen_changed seen change n i number [] x new is inside at made = absurd (omega arith)
seen_changed seen change n zero number (y ∷ ys) x new is inside at made =
    let here : nat_eq n number ≡ true = grind (arith, nat_tests) in
    ap (λ z. z ∷ map seen ys) (made ∙ ap (λ z. change (seen z)) at)
    ∙ sym (ap (λ b. (if b then change (seen y) else seen y) ∷ at_number (suc n) number change (map seen ys)) here
    ∙ ap (λ l. change (seen y) ∷ l) (unchanged (suc n) number change (map seen ys) (omega arith)))
seen_changed seen change n (suc i) number (y ∷ ys) x new is inside at made =
    let other : nat_eq n number ≡ false = grind (arith, nat_tests) in
    ap (λ l. seen y ∷ l) (seen_changed seen change (suc n) i number ys x new (omega arith) (omega arith) at made)
    ∙ sym (ap (λ b. (if b then change (seen y) else seen y) ∷ at_number (suc n) number change (map seen ys)) other)

-- the same by a clause of the call that changes the item
pub seen_on_ok : {A B C F : Type 0} (result : Result C F) (seen : A → B) (change : B → B) (number : ℕ) (xs : List A) (x new : A) → 1 ≤ number → number - 1 < length xs → x ≡ get_or xs (number - 1) x
    → OnOk result (seen new ≡ change (seen (get_or xs (number - 1) x))) → OnOk result (map seen (set xs (number - 1) new) ≡ at_number 1 number change (map seen xs))
seen_on_ok (Ok _) seen change number xs x new some inside at made =
    seen_changed seen change 1 (number - 1) number xs x new (omega arith) inside at (made ∙ ap (λ z. change (seen z)) (sym at))
seen_on_ok (Err _) seen change number xs x new some inside at made = tt
