-- The steps of an intersection.
use Rattle.std.proofs.Common.{◌≡◌, ◌||◌, ◌≤◌, ℕ, Bool, true, false, cond, nat_eq, nat_lt, List, [], ◌∷◌, map, Option, None, Some, refl, sym, ap, ◌∙◌, inl, inr, ⊎_elim, arith}
use Rattle.std.proofs.lemmas.Bool.Decides.{nat_tests}
use Rattle.std.specs.List.{filter, AllByRecursion}
use Rattle.std.specs.Ordering.{is_eq, is_lt, ordering_reverse}
use Rattle.sasi_ranges.specs.declared.entry.Entry.{Entry}
use Rattle.sasi_ranges.specs.Entries.{Above, Rises, entry_cmp, entry_total, from_token, has_token}
use Rattle.sasi_ranges.specs.inside.Meets.{Fewer, IsMonotone, Meets, had, is_current, is_met}
use Rattle.sasi_ranges.specs.inside.Unions.{IsLeast, drop_if}
use Rattle.sasi_ranges.proofs.Least.{same_entry, token_above, unites_least, unites_skip}
use Rattle.sasi_ranges.proofs.Sets.{Has, SomeHas, unites_from, of_all, tie_is, unites_rises}

-- ---- tests

filter_none : {A : Type 0} (test : A → Bool) (xs : List A) → ((x : A) → test x ≡ false) → filter test xs ≡ []
filter_none test [] none = refl
filter_none test (x ∷ xs) none = ap (λ b. cond b (x ∷ filter test xs) (filter test xs)) (none x) ∙ filter_none test xs none

-- two tests that agree on the entries of a list
pub filter_same : (test other : Entry → Bool) (xs : List Entry) → ((x : Entry) → Has x xs → test x ≡ other x) → filter test xs ≡ filter other xs
filter_same test other [] same = refl
filter_same test other (x ∷ xs) same =
    ap (λ b. cond b (x ∷ filter test xs) (filter test xs)) (same x (inl refl))
    ∙ ap (λ l. cond (other x) (x ∷ l) l) (filter_same test other xs (λ y has. same y (inr has)))

other_token : (t : ℕ) (e : Entry) (token : ℕ) (l : List Entry) → e.token ≡ t → nat_eq t token ≡ false → has_token token (drop_if e l) ≡ has_token token l
other_token t e token [] is other = refl
other_token t e token (x ∷ xs) is other = by (is_eq (entry_cmp x e)) refl
  where
    by : (b : Bool) → is_eq (entry_cmp x e) ≡ b → has_token token (cond b xs (x ∷ xs)) ≡ has_token token (x ∷ xs)
    by true tie = (
        let same : x.token ≡ t = ap (λ (y : Entry). y.token) (same_entry x e (tie_is _ tie)) ∙ is in
        sym (ap (λ k. nat_eq k token || has_token token xs) same ∙ ap (λ b. b || has_token token xs) other)
        )
    by false apart = refl

all_other : (t : ℕ) (e : Entry) (token : ℕ) (ls : List (List Entry)) → e.token ≡ t → nat_eq t token ≡ false → had (map (drop_if e) ls) token ≡ had ls token
all_other t e token [] is other = refl
all_other t e token (l ∷ ls) is other = ap (λ b. b ∷ had (map (drop_if e) ls) token) (other_token t e token l is other) ∙ ap (λ bs. has_token token l ∷ bs) (all_other t e token ls is other)

kept_token : (t token : ℕ) (l : List Entry) → nat_lt token t ≡ false → has_token token (from_token t l) ≡ has_token token l
kept_token t token [] above = refl
kept_token t token (x ∷ xs) above = by (nat_lt x.token t) refl (kept_token t token xs above)
  where
    by : (b : Bool) → nat_lt x.token t ≡ b → has_token token (from_token t xs) ≡ has_token token xs
        → has_token token (cond b (from_token t xs) (x ∷ xs)) ≡ has_token token (x ∷ xs)
    by true below later = (let other : nat_eq x.token token ≡ false = grind (arith, nat_tests) in later ∙ sym (ap (λ b. b || has_token token xs) other))
    by false over later = refl

all_kept : (t token : ℕ) (ls : List (List Entry)) → nat_lt token t ≡ false → had (map (from_token t) ls) token ≡ had ls token
all_kept t token [] above = refl
all_kept t token (l ∷ ls) above = ap (λ b. b ∷ had (map (from_token t) ls) token) (kept_token t token l above) ∙ ap (λ bs. has_token token l ∷ bs) (all_kept t token ls above)

fewer : (t token : ℕ) (l : List Entry) → has_token token l ≡ false → has_token token (from_token t l) ≡ false
fewer t token [] none = refl
fewer t token (x ∷ xs) none = by (nat_lt x.token t) (nat_eq x.token token) none (λ n. fewer t token xs n)
  where
    by : (b c : Bool) → (c || has_token token xs) ≡ false → (has_token token xs ≡ false → has_token token (from_token t xs) ≡ false)
        → has_token token (cond b (from_token t xs) (x ∷ xs)) ≡ false
    by true true n later = cc
    by true false n later = later n
    by false c n later = none

all_fewer : (t token : ℕ) (ls : List (List Entry)) → Fewer (had (map (from_token t) ls) token) (had ls token)
all_fewer t token [] = tt
all_fewer t token (l ∷ ls) = (fewer t token l, all_fewer t token ls)

-- **The steps hold for any test that is monotone**: all streams, a stream of each set, a tree of both.
module _ (met : List Bool → Bool) where
  -- ---- **the end**: no token is met any more

  pub meets_none : (ls : List (List Entry)) (es : List Entry) → ((token : ℕ) → met (had ls token) ≡ false) → Meets met None ls es → es ≡ []
  meets_none ls es none is = is.2 ∙ filter_none (is_met met None ls) is.0 (λ x. none x.token)

  -- ---- **an entry of the current token**

  met_still : (t : ℕ) (e : Entry) (ls : List (List Entry)) (x : Entry) → e.token ≡ t → is_met met (Some t) ls x ≡ is_met met (Some t) (map (drop_if e) ls) x
  met_still t e ls x is = by (nat_eq t x.token) refl
    where
      by : (b : Bool) → nat_eq t x.token ≡ b → (b || met (had ls x.token)) ≡ (b || met (had (map (drop_if e) ls) x.token))
      by true same = refl
      by false other = sym (ap met (all_other t e x.token ls is other))

  pub meets_given : (t : ℕ) (e : Entry) (ls : List (List Entry)) (es : List Entry) → IsLeast e ls → e.token ≡ t → Meets met (Some t) ls es
      → (rest : List Entry) × (es ≡ e ∷ rest) × Meets met (Some t) (map (drop_if e) ls) rest
  meets_given t e ls es least at is =
      let one = unites_least e ls is.0 least is.1 in
      let current : nat_eq t e.token ≡ true = grind (arith, nat_tests) in (
        filter (is_met met (Some t) ls) one.0,
        is.2 ∙ ap (filter (is_met met (Some t) ls)) one.1 ∙ ap (λ b. cond (b || met (had ls e.token)) (e ∷ filter (is_met met (Some t) ls) one.0) (filter (is_met met (Some t) ls) one.0)) current,
        (one.0, one.2, filter_same (is_met met (Some t) ls) (is_met met (Some t) (map (drop_if e) ls)) one.0 (λ x has. met_still t e ls x at)),
      )

  -- ---- **a token that is met**

  pub meets_agreed : (t : ℕ) (ls : List (List Entry)) (es : List Entry) → met (had ls t) ≡ true → Meets met None ls es → Meets met (Some t) ls es
  meets_agreed t ls es all is = (is.0, is.1, is.2 ∙ filter_same (is_met met None ls) (is_met met (Some t) ls) is.0 (λ x has. by x (nat_eq t x.token) refl))
    where
      by : (x : Entry) (b : Bool) → nat_eq t x.token ≡ b → met (had ls x.token) ≡ (b || met (had ls x.token))
      by x true same = (let at : x.token ≡ t = grind (arith, nat_tests) in ap (λ k. met (had ls k)) at ∙ all)
      by x false other = refl

  -- ---- **the current token is done**

  pub meets_done : (t : ℕ) (ls : List (List Entry)) (es : List Entry) → ((x : Entry) → SomeHas x ls → nat_eq t x.token ≡ false) → Meets met (Some t) ls es
      → Meets met None ls es
  meets_done t ls es none is = (is.0, is.1, is.2 ∙ filter_same (is_met met (Some t) ls) (is_met met None ls) is.0 (λ x has. ap (λ b. b || met (had ls x.token)) (none x (unites_from ls is.0 x is.1 has))))

  -- ---- **to a token below which none is met**

  module _ (monotone : IsMonotone met) where
    still_none : (t token : ℕ) (ls : List (List Entry)) → met (had ls token) ≡ false → met (had (map (from_token t) ls) token) ≡ false
    still_none t token ls none = monotone (had (map (from_token t) ls) token) (had ls token) (all_fewer t token ls) none

    same_test : (t : ℕ) (ls : List (List Entry)) (x : Entry) → ((token : ℕ) → nat_lt token t ≡ true → met (had ls token) ≡ false)
        → is_met met None ls x ≡ is_met met None (map (from_token t) ls) x
    same_test t ls x low = by (nat_lt x.token t) refl
      where
        by : (b : Bool) → nat_lt x.token t ≡ b → met (had ls x.token) ≡ met (had (map (from_token t) ls) x.token)
        by true below = low x.token below ∙ sym (still_none t x.token ls (low x.token below))
        by false above = sym (ap met (all_kept t x.token ls above))

    skipped : (t : ℕ) (ls : List (List Entry)) (us : List Entry) → ((token : ℕ) → nat_lt token t ≡ true → met (had ls token) ≡ false)
        → filter (is_met met None ls) us ≡ filter (is_met met None ls) (from_token t us)
    skipped t ls [] low = refl
    skipped t ls (x ∷ us) low = by (nat_lt x.token t) refl (skipped t ls us low)
      where
        by : (b : Bool) → nat_lt x.token t ≡ b → filter (is_met met None ls) us ≡ filter (is_met met None ls) (from_token t us)
            → filter (is_met met None ls) (x ∷ us) ≡ filter (is_met met None ls) (cond b (from_token t us) (x ∷ us))
        by true below later = ap (λ b. cond b (x ∷ filter (is_met met None ls) us) (filter (is_met met None ls) us)) (low x.token below) ∙ later
        by false above later = refl

    pub meets_skip : (t : ℕ) (ls : List (List Entry)) (es : List Entry) → ((token : ℕ) → nat_lt token t ≡ true → met (had ls token) ≡ false)
        → Meets met None ls es → Meets met None (map (from_token t) ls) es
    meets_skip t ls es low is = (
      from_token t is.0,
      unites_skip t ls is.0 is.1,
      is.2 ∙ skipped t ls is.0 low ∙ filter_same (is_met met None ls) (is_met met None (map (from_token t) ls)) (from_token t is.0) (λ x has. same_test t ls x low),
    )

-- ---- without what is below a token, where the lists rise

pub above_token : (x y : Entry) → Above x y → x.token ≤ y.token
above_token x y above = token_above y x (ap is_lt (entry_total.antisymm y x ∙ ap ordering_reverse above))

from_above : (t : ℕ) (x : Entry) (xs : List Entry) → nat_lt x.token t ≡ false → from_token t (x ∷ xs) ≡ x ∷ xs
from_above t x xs above = ap (λ b. cond b (from_token t xs) (x ∷ xs)) above

-- in a rising list those from a token on are the ones that aren't below it
rest_above : (t : ℕ) (x : Entry) (xs : List Entry) → Rises (x ∷ xs) → nat_lt x.token t ≡ false → (test : Entry → Bool)
    → from_token t (filter test xs) ≡ filter test xs
rest_above t x [] rises above test = refl
rest_above t x (y ∷ ys) rises above test = by (test y) (rest_above t y ys rises.1 next test)
  where
    next : nat_lt y.token t ≡ false
    next = (let le = above_token x y rises.0.0 in grind (arith, nat_tests))

    by : (b : Bool) → from_token t (filter test ys) ≡ filter test ys
        → from_token t (cond b (y ∷ filter test ys) (filter test ys)) ≡ cond b (y ∷ filter test ys) (filter test ys)
    by true later = from_above t y (filter test ys) next
    by false later = later

pub from_filter : (t : ℕ) (test : Entry → Bool) (us : List Entry) → Rises us → from_token t (filter test us) ≡ filter test (from_token t us)
from_filter t test [] rises = refl
from_filter t test (x ∷ us) rises = by (test x) refl (nat_lt x.token t) refl (from_filter t test us rises.1)
  where
    by : (b : Bool) → test x ≡ b → (c : Bool) → nat_lt x.token t ≡ c → from_token t (filter test us) ≡ filter test (from_token t us)
        → from_token t (cond b (x ∷ filter test us) (filter test us)) ≡ filter test (cond c (from_token t us) (x ∷ us))
    by true is true below later = ap (λ k. cond k (from_token t (filter test us)) (x ∷ filter test us)) below ∙ later
    by true is false above later = from_above t x (filter test us) above ∙ sym (ap (λ k. cond k (x ∷ filter test us) (filter test us)) is)
    by false is true below later = later
    by false is false above later = rest_above t x us rises above test ∙ sym (ap (λ k. cond k (x ∷ filter test us) (filter test us)) is)

has_above : (t : ℕ) (us : List Entry) → Rises us → (x : Entry) → Has x (from_token t us) → nat_lt x.token t ≡ false
has_above t [] rises x has = absurd has
has_above t (y ∷ us) rises x has = by (nat_lt y.token t) refl (has_above t us rises.1 x) has
  where
    by : (b : Bool) → nat_lt y.token t ≡ b → (Has x (from_token t us) → nat_lt x.token t ≡ false) → Has x (cond b (from_token t us) (y ∷ us))
        → nat_lt x.token t ≡ false
    by true below later has = later has
    by false above later has = ⊎_elim
        (λ here. ap (λ (z : Entry). nat_lt z.token t) (sym here) ∙ above)
        (λ in_rest. (let le = above_token y x (of_all y x us rises.0 in_rest) in grind (arith, nat_tests)))
        has

module _ (met : List Bool → Bool) where
  -- the entries from a token on, by what the lists have from it on
  pub meets_from : (t : ℕ) (current : Option ℕ) (ls : List (List Entry)) (es : List Entry) → AllByRecursion Rises ls → Meets met current ls es
      → Meets met current (map (from_token t) ls) (from_token t es)
  meets_from t current ls es rise is =
      let us = is.0 in
      let rises = unites_rises ls us rise is.1 in (
        from_token t us,
        unites_skip t ls us is.1,
        ap (from_token t) is.2 ∙ from_filter t (is_met met current ls) us rises
            ∙ filter_same (is_met met current ls) (is_met met current (map (from_token t) ls)) (from_token t us)
            (λ x has. (let above = has_above t us rises x has in ap (λ b. is_current current x.token || b) (sym (ap met (all_kept t x.token ls above))))),
      )
