-- The index of a map, as it is made key by key.
use Rattle.std.proofs.Common.{◌≡◌, ℕ, Bool, true, false, ◌&&◌, cond, List, [], ◌∷◌, Option, None, Some, IfSome, is_some, refl, sym, ap, subst, ◌∙◌}
use Rattle.std.specs.Prelude.{T}
use Rattle.std.proofs.lemmas.Cmp.{tied_itself}
use Rattle.std.specs.FinMap as map_
use Rattle.std.specs.FinMap.{find, is_sorted}
use Rattle.std.specs.FinMap.Entries.{below_all}
use Rattle.std.specs.FinSet as set
use Rattle.std.specs.List.{list_any}
use Rattle.std.specs.Option.{option_and_then}
use Rattle.std.specs.Ordering.{eq_by_cmp, is_eq}
use Rattle.sasi_types.specs.declared.column.ColumnType.{ColumnType}
use Rattle.sasi_types.specs.declared.decorated_key.DecoratedKey.{DecoratedKey}
use Rattle.sasi_types.specs.declared.rule.Rule.{Rule}
use Rattle.sasi_types.specs.declared.value.Value.{Value}
use Rattle.sasi_types.specs.DecoratedKey.{decorated_cmp, decorated_total}
use Rattle.sasi_cells.proofs.Laws.Decorated.{equal_keys, none_below}
use Rattle.sasi_model.specs.Abbreviations.{Partitions}
use Rattle.sasi_model.specs.Cells.{Partition, value_at}
use Rattle.sasi_model.specs.IndexTerms.{terms_at, terms_of_cell, terms_of_value}
use Rattle.sasi_model.specs.Tokens.{same}
use Rattle.sasi_memindex.specs.Book.{AreValuesOf, IsKept}
use Rattle.sasi_memindex.specs.IndexedValues.{IsValueOf}
use Rattle.sasi_memindex.specs.IndexOf.{HasPut, HasTermsAt}
use Rattle.sasi_memindex.specs.MemIndexView.{MemIndexView, empty_index, has, subject}
use Rattle.sasi_memindex.specs.Postings.{posting, posting_cmp}
use Rattle.sasi_memindex.proofs.PutLaws.{of_cell}

-- entries of the map, in order
pub record IsRestOf (m : Partitions) (rest : List (DecoratedKey × Partition)) : Type 0 where
  pub sorted : T (is_sorted decorated_cmp rest)
  pub found : (key : DecoratedKey) (p : Partition) → find decorated_cmp key rest ≡ Some p → map_.get m key ≡ Some p

-- the index has the terms of all keys but these, and of these none
abbrev pub IsIndexBefore : Partitions → List (DecoratedKey × Partition) → MemIndexView → Type 0
IsIndexBefore m rest index = (key : DecoratedKey) (term : List ℕ) → has index term key ≡ cond (is_some (find decorated_cmp key rest)) false (list_any (same term) (terms_at index.rule index.column m key))

first_true : (a b : Bool) → T (a && b) → T a
first_true true b h = tt
first_true false b h = absurd h

second_true : (a b : Bool) → T (a && b) → T b
second_true true b h = h
second_true false b h = absurd h

-- ---- the start

pub all_of : (m : Partitions) → IsRestOf m (map_.entries m)
all_of m = record {
  sorted = map_.entries_sorted m;
  found = λ key p h. map_.get-entries m key ∙ h;
}

pub none_yet : (m : Partitions) (column : ℕ) (type : ColumnType) (rule : Option Rule) → IsIndexBefore m (map_.entries m) (empty_index column type rule)
none_yet m column type rule key term = set.contains-empty posting_cmp (posting term key) ∙ by (find decorated_cmp key (map_.entries m)) refl
  where
    by : (found : Option Partition) → find decorated_cmp key (map_.entries m) ≡ found → false ≡ cond (is_some found) false (list_any (same term) (terms_at rule column m key))
    by (Some p) e = refl
    by None e = sym (ap (λ (p : Option Partition). list_any (same term) (terms_of_cell rule (option_and_then (λ (q : Partition). map_.get q.cells column) p))) (map_.get-entries m key ∙ e))

-- ---- one key

module _ (m : Partitions) (key : DecoratedKey) (p : Partition) (rest : List (DecoratedKey × Partition)) (is : IsRestOf m ((key, p) ∷ rest)) where
  found_first : find decorated_cmp key ((key, p) ∷ rest) ≡ Some p
  found_first = ap (λ r. cond (is_eq r) (Some p) (find decorated_cmp key rest)) (tied_itself decorated_total key)

  pub at_first : map_.get m key ≡ Some p
  at_first = is.found key p found_first

  none_behind : (k : DecoratedKey) → eq_by_cmp decorated_cmp k key ≡ true → find decorated_cmp k rest ≡ None
  none_behind k e = ap (λ (d : DecoratedKey). find decorated_cmp d rest) (equal_keys k key e) ∙ none_below key rest (first_true _ _ is.sorted)

  pub rest_of : IsRestOf m rest
  rest_of = record {
    sorted = second_true _ _ is.sorted;
    found = λ k q h. is.found k q (by k q (eq_by_cmp decorated_cmp k key) refl h);
  }
    where
      by : (k : DecoratedKey) (q : Partition) (b : Bool) → eq_by_cmp decorated_cmp k key ≡ b → find decorated_cmp k rest ≡ Some q → find decorated_cmp k ((key, p) ∷ rest) ≡ Some q
      by k q true e h =
          let no : None ≡ Some q = sym (none_behind k e) ∙ h in
          absurd cc
      by k q false e h = ap (λ b. cond b (Some p) (find decorated_cmp k rest)) e ∙ h

  -- the index has nothing at the key yet
  pub nothing_at : (index : MemIndexView) → IsIndexBefore m ((key, p) ∷ rest) index → HasTermsAt index key []
  nothing_at index before term = before key term ∙ ap (λ (f : Option Partition). cond (is_some f) false (list_any (same term) (terms_at index.rule index.column m key))) found_first

  pub value_is : (column : ℕ) (type : ColumnType) → AreValuesOf column type m → IfSome (value_at p column) (IsValueOf type)
  value_is column type values = subst (λ (f : Option Partition). IfSome (option_and_then (λ c. c.value) (option_and_then (λ (q : Partition). map_.get q.cells column) f)) (IsValueOf type)) at_first (values key)

  pub one_less : (index new : MemIndexView) → IsIndexBefore m ((key, p) ∷ rest) index → HasPut index key (terms_of_value index.rule (value_at p index.column)) new → subject new ≡ subject index → IsIndexBefore m rest new
  one_less index new before has_put alike k term =
      has_put term k ∙ by (eq_by_cmp decorated_cmp k key) refl
      ∙ ap (λ (r : Option Rule). cond (is_some (find decorated_cmp k rest)) false (list_any (same term) (terms_at r index.column m k))) (sym rule)
      ∙ ap (λ c. cond (is_some (find decorated_cmp k rest)) false (list_any (same term) (terms_at new.rule c m k))) (sym column)
    where
      column : new.column ≡ index.column
      column = ap (λ (s : ℕ × (ColumnType × Option Rule)). s.0) alike

      rule : new.rule ≡ index.rule
      rule = ap (λ (s : ℕ × (ColumnType × Option Rule)). s.1.1) alike

      here : eq_by_cmp decorated_cmp k key ≡ true → terms_at index.rule index.column m k ≡ terms_of_value index.rule (value_at p index.column)
      here e =
          ap (λ (f : Option Partition). terms_of_cell index.rule (option_and_then (λ (q : Partition). map_.get q.cells index.column) f)) (ap (λ (d : DecoratedKey). map_.get m d) (equal_keys k key e) ∙ at_first)
          ∙ of_cell index.rule (map_.get p.cells index.column)

      by : (b : Bool) → eq_by_cmp decorated_cmp k key ≡ b
          → cond b (list_any (same term) (terms_of_value index.rule (value_at p index.column))) (has index term k)
          ≡ cond (is_some (find decorated_cmp k rest)) false (list_any (same term) (terms_at index.rule index.column m k))
      by true e =
          ap (list_any (same term)) (sym (here e))
          ∙ sym (ap (λ (f : Option Partition). cond (is_some f) false (list_any (same term) (terms_at index.rule index.column m k))) (none_behind k e))
      by false e =
          before k term
          ∙ ap (λ b. cond (is_some (cond b (Some p) (find decorated_cmp k rest))) false (list_any (same term) (terms_at index.rule index.column m k))) e

-- ---- the end

pub whole : (m : Partitions) (rest : List (DecoratedKey × Partition)) (index : MemIndexView) → rest ≡ [] → IsIndexBefore m rest index → (column : ℕ) (type : ColumnType) (rule : Option Rule) → subject index ≡ (column, (type, rule)) → AreValuesOf column type m → IsKept m index
whole m rest index none before column type rule of values = record {
  is = λ key term. before key term ∙ ap (λ (es : List (DecoratedKey × Partition)). cond (is_some (find decorated_cmp key es)) false (list_any (same term) (terms_at index.rule index.column m key))) none;
  values = subst (λ (s : ℕ × (ColumnType × Option Rule)). AreValuesOf s.0 s.1.0 m) (sym of) values;
}
