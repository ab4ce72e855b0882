-- Look-ups in lists of entries with rising columns.
use Rattle.std.specs.Prelude.{◌≡◌, ℕ, Bool, true, false, cond, ◌&&◌, T, List, [], ◌∷◌, None, Some}
use Rattle.std.specs.declared.cmp.Ordering.{Ordering}
use Rattle.std.specs.declared.cmp.Ordering.TheVariants.{Less, Equal, Greater}
use Rattle.std.specs.Ordering.{nat_cmp, eq_by_cmp, is_eq, is_lt}
use Rattle.std.specs.Cmp.{nat_cmp_total}
use Rattle.std.specs.FinMap.{find}
use Rattle.std.specs.FinMap.Entries.{below_all}
use Rattle.std.proofs.Common.{refl, ap, ◌∙◌, arith}
use Rattle.std.proofs.lemmas.Bool.Decides.{nat_tests}
use Rattle.std.proofs.lemmas.Cmp.{tied_itself}

pub both : (a b : Bool) → T a → T b → T (a && b)
both true b p q = q
both false b p q = p

pub first : (a b : Bool) → T (a && b) → T a
first true b p = tt
first false b p = p

pub second : (a b : Bool) → T (a && b) → T b
second true b p = p
second false b p = absurd p

less_not_equal : (r : Ordering) → T (is_lt r) → is_eq r ≡ false
less_not_equal Less p = refl
less_not_equal Equal p = absurd p
less_not_equal Greater p = absurd p

pub equal_columns : (c column : ℕ) → eq_by_cmp nat_cmp c column ≡ true → c ≡ column
equal_columns c column e = grind (arith, nat_tests)

module _ {X : Type 0} where
  -- a column below all is not found
  pub find_below : (k : ℕ) (es : List (ℕ × X)) → T (below_all nat_cmp k es) → find nat_cmp k es ≡ None
  find_below k [] h = refl
  find_below k (e ∷ es) h =
      ap (λ b. cond b (Some e.1) (find nat_cmp k es)) (less_not_equal (nat_cmp k e.0) (first _ _ h)) ∙ find_below k es (second _ _ h)

  -- the first is found
  pub find_first : (e : ℕ × X) (es : List (ℕ × X)) → find nat_cmp e.0 (e ∷ es) ≡ Some e.1
  find_first e es = ap (λ r. cond (is_eq r) (Some e.1) (find nat_cmp e.0 es)) (tied_itself nat_cmp_total e.0)

  -- what is found behind the first is found in the whole
  pub find_behind : (e : ℕ × X) (es : List (ℕ × X)) (k : ℕ) (x : X) → T (below_all nat_cmp e.0 es) → find nat_cmp k es ≡ Some x
      → find nat_cmp k (e ∷ es) ≡ Some x
  find_behind e es k x h found =
      elim (eq_by_cmp nat_cmp k e.0) as (λ b. eq_by_cmp nat_cmp k e.0 ≡ b → cond b (Some e.1) (find nat_cmp k es) ≡ Some x) [
        | true ↦ λ same. let none : find nat_cmp k es ≡ None = ap (λ c. find nat_cmp c es) (equal_columns k e.0 same) ∙ find_below e.0 es h in cc
        | false ↦ λ _. found
      ] refl
