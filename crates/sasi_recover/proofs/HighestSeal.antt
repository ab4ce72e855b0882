-- The highest seal of one name more.
use Rattle.std.proofs.Common.{◌≡◌, ◌≢◌, ℕ, ◌<◌, ◌≤◌, List, [], ◌∷◌, ◌++◌, Option, Some, None, Contains, sym, ap, subst, ◌∙◌, ⊎_elim, arith}
use Rattle.std.proofs.lemmas.List.Elements.{Contains-append_left, Contains-push, Contains-push_cases}
use Rattle.sasi_host.specs.declared.name.FileName.{FileName}
use Rattle.sasi_host.specs.Names.{seal_name}
use Rattle.sasi_recover.specs.Opening.{IsHighestSeal}

-- the numbers of seals are apart
same_number : (a b : ℕ) → seal_name a ≡ seal_name b → a ≡ b
same_number a b same = ap (λ (n : FileName). n.number) same

-- no seal comes with a name that isn't it
not_more : (names : List FileName) (name : FileName) (number : ℕ) → ¬ Contains names (seal_name number) → name ≢ seal_name number
    → ¬ Contains (names ++ name ∷ []) (seal_name number)
not_more names name number none other has = ⊎_elim (λ old. none old) (λ same. other same) (Contains-push_cases names name (seal_name number) has)

pub other_name : (names : List FileName) (name : FileName) (highest : Option ℕ) → ((number : ℕ) → name ≢ seal_name number)
    → IsHighestSeal names highest → IsHighestSeal (names ++ name ∷ []) highest
other_name names name None other none = λ number. not_more names name number (none number) (other number)
other_name names name (Some n) other
    highest = (
      Contains-append_left names (name ∷ []) (seal_name n) highest.0,
      λ number above. not_more names name number
          (highest.1 number above) (other number),
    )

seal_there : (names : List FileName) (name : FileName) (n : ℕ) → name ≡ seal_name n → Contains (names ++ name ∷ []) (seal_name n)
seal_there names name n is = subst (λ (l : FileName). Contains (names ++ l ∷ []) (seal_name n)) (sym is) (Contains-push names (seal_name n))

pub first_seal : (names : List FileName) (name : FileName) (n : ℕ) → name ≡ seal_name n → IsHighestSeal names None
    → IsHighestSeal (names ++ name ∷ []) (Some n)
first_seal names name n is none = (
  seal_there names name n is,
  λ number above. not_more names name number (none number)
      (λ same. let e : n ≡ number = same_number n number (sym is ∙ same) in absurd (omega (arith, e, above))),
)

pub higher_seal : (names : List FileName) (name : FileName) (n m : ℕ) → name ≡ seal_name n → m < n → IsHighestSeal names (Some m)
    → IsHighestSeal (names ++ name ∷ []) (Some n)
higher_seal names name n m is more highest = (
  seal_there names name n is,
  λ number above. not_more names name number (highest.1 number (omega (arith, more, above)))
      (λ same. let e : n ≡ number = same_number n number (sym is ∙ same) in absurd (omega (arith, e, above))),
)

pub lower_seal : (names : List FileName) (name : FileName) (n m : ℕ) → name ≡ seal_name n → n ≤ m → IsHighestSeal names (Some m)
    → IsHighestSeal (names ++ name ∷ []) (Some m)
lower_seal names name n m is less highest = (
  Contains-append_left names (name ∷ []) (seal_name m) highest.0,
  λ number above. not_more names name number (highest.1 number above)
      (λ same. let e : n ≡ number = same_number n number (sym is ∙ same) in absurd (omega (arith, e, above, less))),
)
