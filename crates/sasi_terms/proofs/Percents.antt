-- A `%` at the end of a text.
use Rattle.std.proofs.Common.{◌≡◌, ◌≢◌, ◌-◌, ℕ, Bool, true, false, ◌==◌, List, [], ◌∷◌, ◌++◌, length, Option, None, Some, refl, sym, ap, arith, length-append}
use Rattle.std.proofs.lemmas.List.{take_at}
use Rattle.std.specs.Borrow.{Bor}
use Rattle.std.specs.Option.{MatchOption}
use Rattle.sasi_terms.specs.Patterns.{ends_with_percent, without_last_percent}
use Rattle.sasi_terms.specs.Percents.{IsBeforePercent}

is_percent : (b : ℕ) → (b == 37) ≡ true → b ≡ 37
is_percent b h = grind arith

-- a text that ends with a `%` has a front
front_of : (text : List ℕ) → ends_with_percent text ≡ true → (front : List ℕ) × (text ≡ front ++ 37 ∷ [])
front_of [] h = absurd cc
front_of (b ∷ []) h = ([], rw (is_percent b h) refl)
front_of (b ∷ c ∷ bs) h =
    let rest = front_of (c ∷ bs) h in
    (b ∷ rest.0, ap (λ (l : List ℕ). b ∷ l) rest.1)

-- what a suffix that is stripped says
pub before : (text : List ℕ) (result : Option (Bor (List ℕ))) → MatchOption result ((front : List ℕ) → text ≢ (front ++ 37 ∷ [])) (λ body. text ≡ body.now ++ 37 ∷ []) → IsBeforePercent text result
before text (Some body) h = h
before text None h = by_test (ends_with_percent text) refl where
  by_test : (b : Bool) → ends_with_percent text ≡ b → ends_with_percent text ≡ false
  by_test false p = p
  by_test true p = let there = front_of text p in absurd (h there.0 there.1)

ends_there : (body : List ℕ) → ends_with_percent (body ++ 37 ∷ []) ≡ true
ends_there [] = refl
ends_there (b ∷ []) = refl
ends_there (b ∷ c ∷ bs) = ends_there (c ∷ bs)

-- a text without its last `%`
pub without : (text body : List ℕ) → text ≡ body ++ 37 ∷ [] → (true ≡ ends_with_percent text) × (body ≡ without_last_percent text)
without text body is =
    let ends : ends_with_percent text ≡ true = rw is (ends_there body) in
    let size : length text - 1 ≡ length body = omega (arith, ap length is, length-append body (37 ∷ [])) in
    (sym ends, rw (ends, size, is) (sym (take_at body (37 ∷ []) (length body) refl)))
