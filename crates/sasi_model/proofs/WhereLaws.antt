-- What the definitions of a WHERE come to, in plainer words.
use Rattle.std.proofs.Common.{◌≡◌, ℕ, ℤ, pos, ◌+ℤ◌, ◌-ℤ◌, ◌≤ℤ◌, int_le, int_lt, Bool, true, false, ◌&&◌, ◌||◌, if◌then◌else◌, nat_eq, List, [], ◌∷◌, Option, Some, FitsSigned, refl, sym, ap, ◌∙◌, arith, cond}
use Rattle.std.specs.Int.{w32, w64}
use Rattle.std.specs.Cmp.Lexicographic.{pointwise}
use Rattle.std.specs.List.{filter}
use Rattle.std.specs.Ordering.{int_eq}
use Rattle.std.proofs.lemmas.Bool.Decides.{Decides-int_eq}
use Rattle.std.proofs.lemmas.Int.{ints}
use Rattle.sasi_types.specs.declared.column.ColumnType.{ColumnType}
use Rattle.sasi_types.specs.declared.decorated_key.DecoratedKey.{DecoratedKey}
use Rattle.sasi_types.specs.declared.relation.Test.{Test}
use Rattle.sasi_types.specs.declared.relation.Test.TheVariants as tests
use Rattle.sasi_types.specs.declared.rule.Rule.{Rule}
use Rattle.sasi_types.specs.declared.rule.Rule.TheVariants.{Whole}
use Rattle.sasi_types.specs.declared.value.Value.TheVariants as values
use Rattle.sasi_terms.specs.Holds.{is_between}
use Rattle.sasi_terms.specs.Numbers.{bigint_term, int_term, number_of}
use Rattle.sasi_terms.specs.Terms.{folded}
use Rattle.sasi_terms.proofs.NumberOrder.{bigint_back, int_back}
use Rattle.sasi_model.specs.Cells.{Partition, is_live}
use Rattle.sasi_model.specs.Conditions.{bounds, finds, greatest_of, least_of, number_search, text_search}
use Rattle.sasi_model.specs.Filters.{filter_of, rows}
use Rattle.sasi_model.specs.State.{Definition}

-- one word and one term
one : (b : Bool) → ((b || false) && true) ≡ b
one true = refl
one false = refl

-- ---- numbers

-- how one number compares with another; LIKE has no number
abbrev pub compares_as : Test → ℤ → ℤ → Bool
compares_as tests.Lt a b = int_lt a b
compares_as tests.Le a b = int_le a b
compares_as tests.Gt a b = int_lt b a
compares_as tests.Ge a b = int_le b a
compares_as test a b = int_eq a b

-- the number is one of the type
pub record IsOf (type : ColumnType) (n : ℤ) : Type 0 where
  pub least : least_of type ≤ℤ n
  pub greatest : n ≤ℤ greatest_of type

le_true : (x y : ℤ) → x ≤ℤ y → int_le x y ≡ true
le_true x y le = sym (omega (arith, ints, le))

both_true : (x y : Bool) → x ≡ true → y ≡ true → (x && y) ≡ true
both_true x y p q = rw (p, q) refl

both_are : (x y : Bool) → (x && y) ≡ true → (x ≡ true) × (y ≡ true)
both_are true true e = (refl, refl)
both_are true false e = cc
both_are false y e = cc

truth : (p q : Bool) → (p ≡ true → q ≡ true) → (q ≡ true → p ≡ true) → p ≡ q
truth true q there back = sym (there refl)
truth false true there back = back refl
truth false false there back = refl

alone : (m n : ℤ) → int_le m n && int_le n m ≡ int_eq n m
alone m n = truth _ _ (λ e. let parts = both_are (int_le m n) (int_le n m) e in (Decides-int_eq n m).1 (omega (arith, ints, parts.0, parts.1)))
    (λ e. let is : n ≡ m = (Decides-int_eq n m).0 e in both_true (int_le m n) (int_le n m) (le_true m n (omega (arith, ints, is))) (le_true n m (omega (arith, ints, is))))

abbrev pub is_in : ℤ × ℤ → ℤ → Bool
is_in range n = is_between range.0 range.1 (Some n)

none_nowhere : (n : ℤ) → is_in (pos 1, pos 0) n ≡ true → ⊥
none_nowhere n e = let parts = both_are (int_le (pos 1) n) (int_le n (pos 0)) e in omega (arith, ints, parts.0, parts.1)

-- **The bounds hold exactly the numbers that compare so.**
pub bounded : (type : ColumnType) (test : Test) (m n : ℤ) → IsOf type m → IsOf type n → is_in (bounds type test m) n ≡ compares_as test n m
bounded type tests.Lt m n known given = by (int_le m (least_of type)) refl
  where
    by : (t : Bool) → int_le m (least_of type) ≡ t → is_in (if t then (pos 1, pos 0) else (least_of type, m -ℤ pos 1)) n ≡ int_lt n m
    by true is = truth _ _ (λ e. absurd (none_nowhere n e)) (λ e. absurd (omega (arith, ints, e, is, given.least)))
    by false is = truth _ _ (λ e. let parts = both_are (int_le (least_of type) n) (int_le n (m -ℤ pos 1)) e in sym (omega (arith, ints, parts.0, parts.1)))
        (λ e. both_true (int_le (least_of type) n) (int_le n (m -ℤ pos 1)) (le_true (least_of type) n given.least) (le_true n (m -ℤ pos 1) (omega (arith, ints, e))))
bounded type tests.Le m n known given = truth _ _ (λ e. (both_are (int_le (least_of type) n) (int_le n m) e).1) (λ e. both_true (int_le (least_of type) n) (int_le n m) (le_true (least_of type) n given.least) e)
bounded type tests.Gt m n known given = by (int_le (greatest_of type) m) refl
  where
    by : (t : Bool) → int_le (greatest_of type) m ≡ t → is_in (if t then (pos 1, pos 0) else (m +ℤ pos 1, greatest_of type)) n ≡ int_lt m n
    by true is = truth _ _ (λ e. absurd (none_nowhere n e)) (λ e. absurd (omega (arith, ints, e, is, given.greatest)))
    by false is = truth _ _ (λ e. let parts = both_are (int_le (m +ℤ pos 1) n) (int_le n (greatest_of type)) e in sym (omega (arith, ints, parts.0, parts.1)))
        (λ e. both_true (int_le (m +ℤ pos 1) n) (int_le n (greatest_of type)) (le_true (m +ℤ pos 1) n (omega (arith, ints, e))) (le_true n (greatest_of type) given.greatest))
bounded type tests.Ge m n known given = truth _ _ (λ e. (both_are (int_le m n) (int_le n (greatest_of type)) e).0) (λ e. both_true (int_le m n) (int_le n (greatest_of type)) e (le_true n (greatest_of type) given.greatest))
bounded type tests.Eq m n known given = alone m n
bounded type tests.Like m n known given = alone m n

-- **An index asks the same of a number.**
pub ranged_int : (rule : Option Rule) (range : ℤ × ℤ) (n : ℤ) → FitsSigned w32 n → finds rule (number_search range) (Some (values.Int n)) ≡ is_in range n
ranged_int rule range n fits = one (is_between range.0 range.1 (number_of (int_term n))) ∙ ap (λ (m : ℤ). is_in range m) (int_back n fits)

pub ranged_bigint : (rule : Option Rule) (range : ℤ × ℤ) (n : ℤ) → FitsSigned w64 n → finds rule (number_search range) (Some (values.BigInt n)) ≡ is_in range n
ranged_bigint rule range n fits = one (is_between range.0 range.1 (number_of (bigint_term n))) ∙ ap (λ (m : ℤ). is_in range m) (bigint_back n fits)

-- ---- texts

-- **`=` on an indexed text says that the terms are equal**: a text that is kept whole has one.
pub equal_terms : (fold : Bool) (text value : List ℕ) → finds (Some (Whole fold)) (text_search (Whole fold) tests.Eq text) (Some (values.Text value)) ≡ pointwise nat_eq (folded fold value) (folded fold text)
equal_terms fold text value = one (pointwise nat_eq (folded fold value) (folded fold text))

-- ---- rows

-- **Without a WHERE the rows are those that are there.**
pub all_rows : (d : Definition) (entries : List (DecoratedKey × Partition)) → rows (filter_of d []) entries ≡ filter (λ e. is_live e.1) entries
all_rows d [] = refl
all_rows d (e ∷ es) = by (is_live e.1) (all_rows d es)
  where
    by : (b : Bool) → rows (filter_of d []) es ≡ filter (λ e. is_live e.1) es → cond (b && true) (e ∷ rows (filter_of d []) es) (rows (filter_of d []) es) ≡ cond b (e ∷ filter (λ e. is_live e.1) es) (filter (λ e. is_live e.1) es)
    by true rest = ap (λ (l : List (DecoratedKey × Partition)). e ∷ l) rest
    by false rest = rest
