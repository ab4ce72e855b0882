-- Laws of an index in which the terms of one key are replaced.
use Rattle.std.proofs.Common.{◌≡◌, ℕ, Bool, true, false, not, ◌&&◌, ◌||◌, if◌then◌else◌, List, [], ◌∷◌, Option, None, Some, IfSome, refl, sym, ap, subst, ◌∙◌}
use Rattle.std.specs.Cmp.Lexicographic.{bytes_decides}
use Rattle.std.specs.FinSet as set
use Rattle.std.specs.List.{list_any}
use Rattle.std.specs.Ordering.{eq_by_cmp}
use Rattle.sasi_types.specs.declared.cell.Cell.{Cell}
use Rattle.sasi_types.specs.declared.column.ColumnType.{ColumnType}
use Rattle.sasi_types.specs.declared.decorated_key.DecoratedKey.{DecoratedKey}
use Rattle.sasi_types.specs.declared.rule.Rule.{Rule}
use Rattle.sasi_types.specs.declared.value.Value.{Value}
use Rattle.sasi_types.specs.declared.value.Value.TheVariants.{Text, Int, BigInt, Uuid}
use Rattle.sasi_types.specs.DecoratedKey.{decorated_cmp}
use Rattle.sasi_types.specs.Value.{type_of}
use Rattle.sasi_terms.specs.Numbers.{bigint_term, int_term}
use Rattle.sasi_terms.proofs.NumberOrder.{bigint_bytes, int_bytes}
use Rattle.sasi_cells.proofs.Laws.Decorated.{equal_keys}
use Rattle.sasi_model.specs.IndexTerms.{terms_of_cell, terms_of_value}
use Rattle.sasi_model.specs.Tokens.{same}
use Rattle.sasi_memindex.specs.declared.posting.Posting.{Posting}
use Rattle.sasi_memindex.specs.IndexedValues.{IsValueOf, live_value}
use Rattle.sasi_memindex.specs.IndexOf.{HasPut, HasTermsAt}
use Rattle.sasi_memindex.specs.Kept.{AreTermsOf, IsTermOf, is_among}
use Rattle.sasi_memindex.specs.MemIndexView.{MemIndexView, has}
use Rattle.sasi_memindex.specs.Postings.{Postings, posting}

-- ---- the terms of a value

pub of_cell : (rule : Option Rule) (cell : Option Cell) → terms_of_cell rule cell ≡ terms_of_value rule (live_value cell)
of_cell rule None = refl
of_cell rule (Some cell) = refl

only_one : (term one : List ℕ) → list_any (same term) (one ∷ []) ≡ true → one ≡ term
only_one term one h = sym ((bytes_decides term one).0 (alone (same term one) h))
  where
    alone : (b : Bool) → (b || false) ≡ true → b ≡ true
    alone true e = refl
    alone false e = e

-- they are terms of its type
pub value_terms : (type : ColumnType) (rule : Option Rule) (value : Option Value) → IfSome value (IsValueOf type) → AreTermsOf type (terms_of_value rule value)
value_terms type rule None is term h = absurd cc
value_terms type rule (Some (Text text)) is term h = subst (λ (t : ColumnType). IsTermOf t term) is.is tt
value_terms type None (Some (Int number)) is term h =
    subst (λ (t : ColumnType). IsTermOf t term) is.is (subst (IsTermOf (type_of (Int number))) (only_one term (int_term number) h) (refl, int_bytes number))
value_terms type (Some rule) (Some (Int number)) is term h =
    subst (λ (t : ColumnType). IsTermOf t term) is.is (subst (IsTermOf (type_of (Int number))) (only_one term (int_term number) h) (refl, int_bytes number))
value_terms type None (Some (BigInt number)) is term h =
    subst (λ (t : ColumnType). IsTermOf t term) is.is (subst (IsTermOf (type_of (BigInt number))) (only_one term (bigint_term number) h) (refl, bigint_bytes number))
value_terms type (Some rule) (Some (BigInt number)) is term h =
    subst (λ (t : ColumnType). IsTermOf t term) is.is (subst (IsTermOf (type_of (BigInt number))) (only_one term (bigint_term number) h) (refl, bigint_bytes number))
value_terms type rule (Some (Uuid bytes)) is term h = subst (λ (t : ColumnType). IsTermOf t term) is.is tt

-- ---- a key

replaced : (a w : Bool) → ((a && not a) || w) ≡ w
replaced true w = refl
replaced false w = refl

kept : (x : Bool) → ((x && true) || false) ≡ x
kept true = refl
kept false = refl

pub put_has : (s n : Postings) (key : DecoratedKey) (olds news : List (List ℕ))
    → ((term : List ℕ) → set.contains s (posting term key) ≡ list_any (same term) olds)
    → ((p : Posting) → set.contains n p ≡ ((set.contains s p && not (is_among key olds p)) || is_among key news p))
    → (term : List ℕ) (other : DecoratedKey) → set.contains n (posting term other) ≡ (if eq_by_cmp decorated_cmp other key then list_any (same term) news else set.contains s (posting term other))
put_has s n key olds news current new term other = new (posting term other) ∙ by (eq_by_cmp decorated_cmp other key) refl
  where
    by : (b : Bool) → eq_by_cmp decorated_cmp other key ≡ b
        → ((set.contains s (posting term other) && not (b && list_any (same term) olds)) || (b && list_any (same term) news)) ≡ (if b then list_any (same term) news else set.contains s (posting term other))
    by true e =
        ap (λ x. (x && not (list_any (same term) olds)) || list_any (same term) news) (ap (λ (k : DecoratedKey). set.contains s (posting term k)) (equal_keys other key e) ∙ current term)
        ∙ replaced (list_any (same term) olds) (list_any (same term) news)
    by false e = kept (set.contains s (posting term other))

-- an index that has these terms of the key already may stay
pub nothing_put : (index : MemIndexView) (key : DecoratedKey) (terms : List (List ℕ)) → HasTermsAt index key terms → HasPut index key terms index
nothing_put index key terms current term other = by (eq_by_cmp decorated_cmp other key) refl
  where
    by : (b : Bool) → eq_by_cmp decorated_cmp other key ≡ b → has index term other ≡ (if b then list_any (same term) terms else has index term other)
    by true e = ap (λ (k : DecoratedKey). has index term k) (equal_keys other key e) ∙ current term
    by false e = refl
