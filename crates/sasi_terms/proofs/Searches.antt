-- A search for a needle finds one exactly where the body stands in the term.
use Rattle.std.proofs.Common.{◌≡◌, ℕ, zero, suc, ◌+◌, ◌<◌, ◌≤◌, Bool, true, false, ◌&&◌, ◌||◌, nat_eq, List, [], ◌∷◌, length, slice_index, Option, None, Some, refl, sym, ap, ◌∙◌, arith}
use Rattle.std.specs.List.{starts_with}
use Rattle.std.specs.Option.{is_some}
use Rattle.memchr.specs.Find.{FindsNeedle, OccursAt}
use Rattle.sasi_terms.specs.Holds.{contains}

both : (p q : Bool) → (p && q) ≡ true → (p ≡ true) × (q ≡ true)
both true q h = (refl, h)
both false q h = absurd cc

or_first : (p q : Bool) → p ≡ true → (p || q) ≡ true
or_first true q h = refl
or_first false q h = absurd cc

or_second : (p q : Bool) → q ≡ true → (p || q) ≡ true
or_second true q h = refl
or_second false q h = h

only_second : (p q : Bool) → p ≡ false → (p || q) ≡ true → q ≡ true
only_second true q other h = absurd cc
only_second false q other h = h

-- the needle's bytes are the first ones
pub record Fronts (hay needle : List ℕ) : Type 0 where
  pub fits : length needle ≤ length hay
  pub reads : (j : ℕ) → j < length needle → slice_index hay j ≡ slice_index needle j

fronts_occur : (hay needle : List ℕ) → Fronts hay needle → OccursAt hay needle 0
fronts_occur hay needle is = record {
  fits = omega (arith, is.fits);
  reads = λ j lt. ap (slice_index hay) (let same : 0 + j ≡ j = omega arith in same) ∙ is.reads j lt;
}

occur_fronts : (hay needle : List ℕ) → OccursAt hay needle 0 → Fronts hay needle
occur_fronts hay needle is = record {
  fits = omega (arith, is.fits);
  reads = λ j lt. ap (slice_index hay) (let same : j ≡ 0 + j = omega arith in same) ∙ is.reads j lt;
}

begins_read : (b n : ℕ) (bs ns : List ℕ) → b ≡ n → Fronts bs ns → (j : ℕ) → j < length (n ∷ ns) → slice_index (b ∷ bs) j ≡ slice_index (n ∷ ns) j
begins_read b n bs ns same rest zero lt = same
begins_read b n bs ns same rest (suc j) lt = rest.reads j (omega (arith, lt))

-- what begins with the needle has it in front
begins : (hay needle : List ℕ) → starts_with nat_eq hay needle ≡ true → Fronts hay needle
begins hay [] h = record { fits = omega arith; reads = λ j lt. absurd (omega (arith, lt)) }
begins [] (n ∷ ns) h = absurd cc
begins (b ∷ bs) (n ∷ ns) h =
    let parts = both (nat_eq n b) (starts_with nat_eq bs ns) h in
    let rest = begins bs ns parts.1 in
    record { fits = omega (arith, rest.fits); reads = begins_read b n bs ns (grind (arith, parts.0)) rest }

begun : (hay needle : List ℕ) → Fronts hay needle → starts_with nat_eq hay needle ≡ true
begun [] [] is = refl
begun (b ∷ bs) [] is = refl
begun [] (n ∷ ns) is = absurd (omega (arith, is.fits))
begun (b ∷ bs) (n ∷ ns) is =
    let rest : Fronts bs ns = record { fits = omega (arith, is.fits); reads = λ j lt. is.reads (suc j) (omega (arith, lt)) } in
    let first : b ≡ n = is.reads 0 (omega arith) in
    let same : nat_eq n n ≡ true = grind arith in
    rw (first, same, begun bs ns rest) refl

-- the needle occurs one byte later in a longer text
one_later : (b : ℕ) (bs needle : List ℕ) (k : ℕ) → OccursAt bs needle k → OccursAt (b ∷ bs) needle (suc k)
one_later b bs needle k is = record {
  fits = omega (arith, is.fits);
  reads = λ j lt. ap (slice_index (b ∷ bs)) (let next : suc k + j ≡ suc (k + j) = omega arith in next) ∙ is.reads j lt;
}

one_earlier : (b : ℕ) (bs needle : List ℕ) (k : ℕ) → OccursAt (b ∷ bs) needle (suc k) → OccursAt bs needle k
one_earlier b bs needle k is = record {
  fits = omega (arith, is.fits);
  reads = λ j lt. ap (slice_index (b ∷ bs)) (let next : suc (k + j) ≡ suc k + j = omega arith in next) ∙ is.reads j lt;
}

none_past : (needle : List ℕ) (k : ℕ) → OccursAt [] needle k → OccursAt [] needle 0
none_past needle k is = record { fits = omega (arith, is.fits); reads = λ j lt. absurd (omega (arith, is.fits, lt)) }

-- the needle occurs, and so the body stands in the term
occurs : (hay needle : List ℕ) (k : ℕ) → OccursAt hay needle k → contains hay needle ≡ true
occurs [] needle k is = begun [] needle (occur_fronts [] needle (none_past needle k is))
occurs (b ∷ bs) needle zero is = or_first (starts_with nat_eq (b ∷ bs) needle) (contains bs needle) (begun (b ∷ bs) needle (occur_fronts (b ∷ bs) needle is))
occurs (b ∷ bs) needle (suc k) is = or_second (starts_with nat_eq (b ∷ bs) needle) (contains bs needle) (occurs bs needle k (one_earlier b bs needle k is))

pub record Occurs (hay needle : List ℕ) : Type 0 where
  pub at : ℕ
  pub within : at ≤ length hay
  pub is : OccursAt hay needle at

occurs_here : (hay needle : List ℕ) → starts_with nat_eq hay needle ≡ true → Occurs hay needle
occurs_here hay needle h = record { at = 0; within = omega arith; is = fronts_occur hay needle (begins hay needle h) }

occurs_later : (b : ℕ) (bs needle : List ℕ) → (contains bs needle ≡ true → Occurs bs needle) → (p : Bool) → starts_with nat_eq (b ∷ bs) needle ≡ p → contains (b ∷ bs) needle ≡ true → Occurs (b ∷ bs) needle
occurs_later b bs needle later true p h = occurs_here (b ∷ bs) needle p
occurs_later b bs needle later false p h =
    let rest = later (only_second (starts_with nat_eq (b ∷ bs) needle) (contains bs needle) p h) in
    record { at = suc rest.at; within = omega (arith, rest.within); is = one_later b bs needle rest.at rest.is }

stands : (hay needle : List ℕ) → contains hay needle ≡ true → Occurs hay needle
stands [] needle h = occurs_here [] needle h
stands (b ∷ bs) needle h = occurs_later b bs needle (stands bs needle) (starts_with nat_eq (b ∷ bs) needle) refl h

-- what a search gives
pub searched : (hay needle : List ℕ) (found : Option ℕ) → FindsNeedle hay needle 0 found → is_some found ≡ contains hay needle
searched hay needle (Some k) is = sym (occurs hay needle k is.1)
searched hay needle None nowhere = by_test (contains hay needle) refl where
  by_test : (b : Bool) → contains hay needle ≡ b → false ≡ contains hay needle
  by_test false p = sym p
  by_test true p = let there = stands hay needle p in absurd (nowhere there.at (omega arith) (omega (arith, there.within)) there.is)
