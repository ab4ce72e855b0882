-- The relations of a SELECT that isn't refused can be asked of the indexes of their columns.
use Rattle.std.proofs.Common.{◌≡◌, ℕ, zero, suc, ◌==◌, Bool, true, false, not, cond, List, [], ◌∷◌, map, slice_get, Option, None, Some, unwrap_or, refl, sym, ap, subst, ◌∙◌, arith}
use Rattle.std.proofs.lemmas.Bool.Decides.{nat_tests}
use Rattle.std.specs.List.{AllByRecursion, find}
use Rattle.std.specs.Option.{option_and_then, option_map, option_map_or}
use Rattle.sasi_types.specs.declared.column.ColumnType.{ColumnType}
use Rattle.sasi_types.specs.declared.column.ColumnType.TheVariants as types
use Rattle.sasi_types.specs.declared.literal.Literal.{Literal}
use Rattle.sasi_types.specs.declared.literal.Literal.TheVariants as literals
use Rattle.sasi_types.specs.declared.literal.Number.TheVariants.{Fits, Wide}
use Rattle.sasi_types.specs.declared.relation.Relation.{Relation}
use Rattle.sasi_types.specs.declared.relation.Test.{Test}
use Rattle.sasi_types.specs.declared.relation.Test.TheVariants as tests
use Rattle.sasi_types.specs.declared.statement.Select.{Select}
use Rattle.sasi_model.specs.Abbreviations.{kind_of}
use Rattle.sasi_model.specs.Conditions.{Condition, Indexed, OfKey, Plain, comparison_of, condition_at, condition_of, search_of}
use Rattle.sasi_model.specs.Indexes.{index_on}
use Rattle.sasi_model.specs.Refusals.{is_taken, tests_number, type_of_column}
use Rattle.sasi_model.specs.Relations.{asks_nothing, column_takes, is_empty_like}
use Rattle.sasi_model.specs.State.{Column, Definition, Index, number_at, number_of_column, position_in}
use Rattle.sasi_model.specs.Values.{value_given}
use Rattle.sasi_schema.proofs.IndexColumns.{numbered_type}
use Rattle.sasi_candidates.proofs.Asking.{AsksSome, IsAskable, relation_asks}
use Rattle.sasi_machine.specs.Operands.{CanAsk, CanSelect, IsOperand}
use Rattle.sasi_machine.proofs.Asking.{can_ask, operand}
use Rattle.sasi_engine.specs.Asked.{Asked, asked_of}
use Rattle.sasi_plan.specs.Plans.{IsAskedOf}

-- ---- a column

-- its type is the one at its number
type_numbered : (d : Definition) (name : List ℕ) (number : ℕ) (type : ColumnType) → number_of_column d name ≡ Some (suc number) → type_of_column d name ≡ Some type → type ≡ kind_of d (suc number)
type_numbered d name number type numbered typed = by (position_in name d.columns) refl numbered typed
  where
    column_type : (p : ℕ) (found : Option Column) → slice_get d.columns p ≡ found → number_at d.key p ≡ suc number → option_map (λ column. column.1) found ≡ Some type → type ≡ kind_of d (suc number)
    column_type p None got at typed = cc
    column_type p (Some column) got at typed =
        let is : column.1 ≡ type = cc in
        sym (ap (λ o. unwrap_or o types.Text) (numbered_type d p number column got at) ∙ is)

    by : (position : Option ℕ) → position_in name d.columns ≡ position → option_map (number_at d.key) position ≡ Some (suc number)
        → option_and_then (λ p. option_map (λ column. column.1) (slice_get d.columns p)) position ≡ Some type → type ≡ kind_of d (suc number)
    by None is numbered typed = cc
    by (Some p) is numbered typed = column_type p (slice_get d.columns p) refl (let at : number_at d.key p ≡ suc number = cc in at) typed

-- the index that is found on a column is of that column
of_column : (column : ℕ) (indexes : List Index) (index : Index) → index_on column indexes ≡ Some index → index.column ≡ column
of_column column [] index found = cc
of_column column (i ∷ indexes) index found = by (i.column == column) refl found (of_column column indexes index)
  where
    by : (b : Bool) → (i.column == column) ≡ b → cond b (Some i) (find (λ (one : Index). one.column == column) indexes) ≡ Some index
        → (find (λ (one : Index). one.column == column) indexes ≡ Some index → index.column ≡ column) → index.column ≡ column
    by true is found later = let it : i ≡ index = cc in ap (λ (one : Index). one.column) (sym it) ∙ grind (arith, nat_tests)
    by false is found later = later found

-- ---- a relation

-- a literal of the type gives a value
gives_value : (type : ColumnType) (literal : Literal) → IsOperand type literal → value_given type literal ≡ None → ⊥
gives_value types.Text (literals.Text text) is none = cc
gives_value types.Int (literals.Number (Fits number)) is none = cc
gives_value types.BigInt (literals.Number (Fits number)) is none = cc
gives_value types.Uuid (literals.Uuid bytes) is none = cc
gives_value types.Int (literals.Number Wide) is none = let e = is.within in cc
gives_value types.BigInt (literals.Number Wide) is none = let e = is.within in cc
gives_value types.Text (literals.Number number) is none = let e = is.typed in cc
gives_value types.Text (literals.Uuid bytes) is none = let e = is.typed in cc
gives_value types.Text literals.Null is none = let e = is.there in cc
gives_value types.Int (literals.Text text) is none = let e = is.typed in cc
gives_value types.Int (literals.Uuid bytes) is none = let e = is.typed in cc
gives_value types.Int literals.Null is none = let e = is.there in cc
gives_value types.BigInt (literals.Text text) is none = let e = is.typed in cc
gives_value types.BigInt (literals.Uuid bytes) is none = let e = is.typed in cc
gives_value types.BigInt literals.Null is none = let e = is.there in cc
gives_value types.Uuid (literals.Text text) is none = let e = is.typed in cc
gives_value types.Uuid (literals.Number number) is none = let e = is.typed in cc
gives_value types.Uuid literals.Null is none = let e = is.there in cc

asks_some : (d : Definition) (number : ℕ) (index : Index) (test : Test) (literal : Literal) → index_on number d.indexes ≡ Some index → is_empty_like d number test literal ≡ false → AsksSome index.rule test literal
asks_some d number index tests.Like (literals.Text text) found full = subst (λ (o : Option Index). asks_nothing (option_and_then (λ (i : Index). i.rule) o) text ≡ false) found full
asks_some d number index tests.Like (literals.Number n) found full = tt
asks_some d number index tests.Like (literals.Uuid bytes) found full = tt
asks_some d number index tests.Like literals.Null found full = tt
asks_some d number index tests.Eq literal found full = tt
asks_some d number index tests.Lt literal found full = tt
asks_some d number index tests.Le literal found full = tt
asks_some d number index tests.Gt literal found full = tt
asks_some d number index tests.Ge literal found full = tt

taken : (b : Bool) → not b ≡ false → b ≡ true
taken true is = refl
taken false is = cc

-- what a relation asks of an index can be asked of it
module _ (d : Definition) (r : Relation) (can : CanAsk d r) (number : ℕ) (type : ColumnType) (numbered : number_of_column d r.column ≡ Some (suc number)) (typed : type_of_column d r.column ≡ Some type) where
  takes_it : column_takes type (index_on (suc number) d.indexes) r.test r.value ≡ true
  takes_it = subst (λ (o : Option ColumnType). is_taken d r (Some (suc number)) o ≡ true) typed (subst (λ (o : Option ℕ). is_taken d r o (type_of_column d r.column) ≡ true) numbered (taken _ can.takes))

  full : is_empty_like d (suc number) r.test r.value ≡ false
  full = subst (λ (o : Option ℕ). tests_number (λ n. is_empty_like d n r.test r.value) o ≡ false) numbered can.asks

  index_asked : (index : Index) → index_on (suc number) d.indexes ≡ Some index → IsAskedOf d (record { index = index; search = search_of type index.rule r.test r.value })
  index_asked index found =
      let column = of_column (suc number) d.indexes index found in
      record {
        defined = subst (λ (n : ℕ). index_on n d.indexes ≡ Some index) (sym column) found;
        askable = subst (λ (kind : ColumnType). IsAskable kind (search_of type index.rule r.test r.value)) (type_numbered d r.column number type numbered typed ∙ ap (kind_of d) (sym column))
            (relation_asks type index r.test r.value (subst (λ (o : Option Index). column_takes type o r.test r.value ≡ true) found takes_it) (gives_value type r.value (operand d r type can typed))
            (asks_some d (suc number) index r.test r.value found full));
      }

  at_index : (found : Option Index) → index_on (suc number) d.indexes ≡ found
      → AllByRecursion (IsAskedOf d) (asked_of (option_map_or (λ index. Indexed index (search_of type index.rule r.test r.value)) found (Plain (suc number) (comparison_of type r.test r.value)) ∷ []))
  at_index None is = tt
  at_index (Some index) is = (index_asked index is, tt)

asked_relation : (d : Definition) (r : Relation) → CanAsk d r → AllByRecursion (IsAskedOf d) (asked_of (condition_of d r ∷ []))
asked_relation d r can = by (number_of_column d r.column) (type_of_column d r.column) refl refl
  where
    by : (number : Option ℕ) (type : Option ColumnType) → number_of_column d r.column ≡ number → type_of_column d r.column ≡ type → AllByRecursion (IsAskedOf d) (asked_of (condition_at d r number type ∷ []))
    by None type numbered typed = tt
    by (Some number) None numbered typed = tt
    by (Some zero) (Some type) numbered typed = tt
    by (Some (suc number)) (Some type) numbered typed = at_index d r can number type numbered typed (index_on (suc number) d.indexes) refl

one_more : (P : Asked → Type 0) (c : Condition) (cs : List Condition) → AllByRecursion P (asked_of (c ∷ [])) → AllByRecursion P (asked_of cs) → AllByRecursion P (asked_of (c ∷ cs))
one_more P (OfKey bytes) cs first rest = rest
one_more P (Indexed i search) cs first rest = (first.0, rest)
one_more P (Plain column comparison) cs first rest = rest

each_asked : (d : Definition) (rs : List Relation) → AllByRecursion (CanAsk d) rs → AllByRecursion (IsAskedOf d) (asked_of (map (condition_of d) rs))
each_asked d [] can = tt
each_asked d (r ∷ rs) can = one_more (IsAskedOf d) (condition_of d r) (map (condition_of d) rs) (asked_relation d r can.0) (each_asked d rs can.1)

-- **Each relation on an indexed column can be asked of its index.**
pub all_asked : (d : Definition) (select : Select) → CanSelect d select → AllByRecursion (IsAskedOf d) (asked_of (map (condition_of d) select.relations))
all_asked d select can = each_asked d select.relations (can_ask d select can)
