-- Laws of a list after a change of the item with one number.
use Rattle.std.specs.Prelude.{◌≡◌, ◌<◌, ℕ, suc, true, false, cond, nat_eq, List, [], ◌∷◌, map, refl}
use Rattle.std.proofs.Common.{ap, arith}
use Rattle.std.proofs.lemmas.Bool.Decides.{nat_tests}
use Rattle.std.specs.List.{AllByRecursion}
use Rattle.sasi_manifest.specs.Listings.{at_number}
use Rattle.sasi_manifest.proofs.Replacing.{At}

module _ {A B : Type 0} (g : A → B) (f : A → A) where
  -- what is seen of the items, where the changed one is seen changed by h
  pub seen_at : (h : B → B) → ((x : A) → g (f x) ≡ h (g x)) → (n number : ℕ) (xs : List A) → map g (at_number n number f xs) ≡ at_number n number h (map g xs)
  seen_at h same n number [] = refl
  seen_at h same n number (x ∷ xs) =
      let rest = seen_at h same (suc n) number xs in
      elim (nat_eq n number) as (λ b. g (cond b (f x) x) ∷ map g (at_number (suc n) number f xs) ≡ cond b (h (g x)) (g x) ∷ at_number (suc n) number h (map g xs)) [
        | true ↦ λ i. same x i ∷ rest i
        | false ↦ ap (λ (l : List B). g x ∷ l) rest
      ]

  -- where it is seen as before
  pub unseen_at : ((x : A) → g (f x) ≡ g x) → (n number : ℕ) (xs : List A) → map g (at_number n number f xs) ≡ map g xs
  unseen_at same n number [] = refl
  unseen_at same n number (x ∷ xs) =
      let rest = unseen_at same (suc n) number xs in
      elim (nat_eq n number) as (λ b. g (cond b (f x) x) ∷ map g (at_number (suc n) number f xs) ≡ g x ∷ map g xs) [
        | true ↦ λ i. same x i ∷ rest i
        | false ↦ ap (λ (l : List B). g x ∷ l) rest
      ]

  -- the same where the change of an item needs P, which all items have
  pub seen_where : (P : B → Type 0) (h : B → B) → ((x : A) → P (g x) → g (f x) ≡ h (g x)) → (n number : ℕ) (xs : List A) → AllByRecursion P (map g xs) → map g (at_number n number f xs) ≡ at_number n number h (map g xs)
  seen_where P h same n number [] all = refl
  seen_where P h same n number (x ∷ xs) all =
      let rest = seen_where P h same (suc n) number xs all.1 in
      elim (nat_eq n number) as (λ b. g (cond b (f x) x) ∷ map g (at_number (suc n) number f xs) ≡ cond b (h (g x)) (g x) ∷ at_number (suc n) number h (map g xs)) [
        | true ↦ λ i. same x all.0 i ∷ rest i
        | false ↦ λ i. g x ∷ rest i
      ]

  -- or which the changed item alone has
  pub seen_of_it : (P : A → Type 0) (h : B → B) → ((x : A) → P x → g (f x) ≡ h (g x)) → (n number : ℕ) (xs : List A) → At n number P xs → map g (at_number n number f xs) ≡ at_number n number h (map g xs)
  seen_of_it P h same n number [] all = refl
  seen_of_it P h same n number (x ∷ xs) all =
      let rest = seen_of_it P h same (suc n) number xs all.1 in
      elim (nat_eq n number) as (λ b. (b ≡ true → P x) → g (cond b (f x) x) ∷ map g (at_number (suc n) number f xs) ≡ cond b (h (g x)) (g x) ∷ at_number (suc n) number h (map g xs)) [
        | true ↦ λ is i. same x (is refl) i ∷ rest i
        | false ↦ λ is i. g x ∷ rest i
      ] all.0

pub seen_twice : {A B : Type 0} (f : A → A) (g : A → B) → ((x : A) → g (f x) ≡ g x) → (xs : List A) → map g (map f xs) ≡ map g xs
seen_twice f g same [] = refl
seen_twice f g same (x ∷ xs) = λ i. same x i ∷ seen_twice f g same xs i

-- what all items have, all have after a change that keeps it
pub all_changed : {A : Type 0} (P Q : A → Type 0) (f : A → A) → ((x : A) → P x → Q (f x)) → ((x : A) → P x → Q x) → (n number : ℕ) (xs : List A) → AllByRecursion P xs → AllByRecursion Q (at_number n number f xs)
all_changed P Q f changed kept n number [] all = tt
all_changed P Q f changed kept n number (x ∷ xs) all =
    let rest = all_changed P Q f changed kept (suc n) number xs all.1 in
    elim (nat_eq n number) as (λ b. Q (cond b (f x) x) × AllByRecursion Q (at_number (suc n) number f xs)) [
      | true ↦ (changed x all.0, rest)
      | false ↦ (kept x all.0, rest)
    ]

-- behind the number there is no item of it
pub at_past : {A : Type 0} (n number : ℕ) (P : A → Type 0) (xs : List A) → number < n → At n number P xs
at_past n number P [] past = tt
at_past n number P (x ∷ xs) past = (λ own. (let same : n ≡ number = grind (arith, nat_tests, own) in absurd (omega (arith, same, past))), at_past (suc n) number P xs (omega (arith, past)))
