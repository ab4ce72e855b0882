-- Where a class that is missing comes from: conditions, indexes and tables.
use Rattle.std.proofs.Common.{◌≡◌, ℕ, zero, suc, ◌<◌, ◌==◌, true, false, cond, List, [], ◌∷◌, map, length, Option, None, Some, Result, Ok, Err, IfErr, refl, sym, subst, arith}
use Rattle.std.specs.Prelude.{Contains, slice_index_or}
use Rattle.std.specs.Option.{option_and_then, option_map_or}
use Rattle.std.specs.Result.{IsErrAnd}
use Rattle.sasi_types.specs.declared.class.Class.{Class}
use Rattle.sasi_types.specs.declared.column.ColumnType.{ColumnType}
use Rattle.sasi_types.specs.declared.kit_fault.KitFault.{KitFault}
use Rattle.sasi_types.specs.declared.kit_fault.KitFault.TheVariants.{Missing, OutOfMemory}
use Rattle.sasi_types.specs.declared.literal.Literal.{Literal}
use Rattle.sasi_types.specs.declared.relation.Relation.{Relation}
use Rattle.sasi_types.specs.declared.relation.Test.{Test}
use Rattle.sasi_model.specs.Conditions.{Condition, Indexed, condition_at, condition_of, condition_on, search_of}
use Rattle.sasi_model.specs.Indexes.{index_on}
use Rattle.sasi_model.specs.Refusals.{type_of_column}
use Rattle.sasi_model.specs.Relations.{rule_on}
use Rattle.sasi_model.specs.State.{Definition, Index, definition_of, number_of_column}
use Rattle.sasi_model.specs.Tokens.{same}
use Rattle.sasi_machine.specs.Classes.{ConditionLacks, OnMissing, RuleLacks, TableLacks, WhereLacks}

-- ---- lists

there_behind : {X : Type 0} (y : X) (xs : List X) (x : X) → Contains xs x → Contains (y ∷ xs) x
there_behind y xs x there = (suc there.0, omega (arith, there.1), there.2)

index_there : (column : ℕ) (indexes : List Index) (index : Index) → index_on column indexes ≡ Some index → Contains indexes index
index_there column [] index found = cc
index_there column (i ∷ indexes) index found =
    elim (i.column == column) as (λ b. cond b (Some i) (index_on column indexes) ≡ Some index → Contains (i ∷ indexes) index) [
      | true ↦ λ is. (let same_index : i ≡ index = cc in (0, omega arith, same_index))
      | false ↦ λ is. there_behind i indexes index (index_there column indexes index is)
    ] found

pub definition_there : (name : List ℕ) (ds : List Definition) (d : Definition) → definition_of name ds ≡ Some d → Contains ds d
definition_there name [] d found = cc
definition_there name (x ∷ ds) d found =
    elim (same x.name name) as (λ b. cond b (Some x) (definition_of name ds) ≡ Some d → Contains (x ∷ ds) d) [
      | true ↦ λ is. (let same_table : x ≡ d = cc in (0, omega arith, same_table))
      | false ↦ λ is. there_behind x ds d (definition_there name ds d is)
    ] found

-- ---- the index of a column

index_of_rule : (d : Definition) (found : Option Index) (number : ℕ) (kinds : List Class) (class : Class) → index_on number d.indexes ≡ found → RuleLacks kinds (option_and_then (λ (i : Index). i.rule) found) class → TableLacks kinds d class
index_of_rule d None number kinds class is lacks = let needs = lacks.needs in cc
index_of_rule d (Some index) number kinds class is lacks = record { index = index; listed = index_there number d.indexes index is; lacks = lacks }

pub rule_lacks : (d : Definition) (number : ℕ) (kinds : List Class) (class : Class) → RuleLacks kinds (rule_on d number) class → TableLacks kinds d class
rule_lacks d number kinds class lacks = index_of_rule d (index_on number d.indexes) number kinds class refl lacks

-- ---- a condition

module _ (d : Definition) (kinds : List Class) (class : Class) where
  on_lacks : (number : ℕ) (type : ColumnType) (test : Test) (literal : Literal) → ConditionLacks kinds (condition_on d number type test literal) class → TableLacks kinds d class
  on_lacks zero type test literal lacks = absurd lacks
  on_lacks (suc n) type test literal lacks = by (index_on (suc n) d.indexes) refl lacks
    where
      by : (found : Option Index) → index_on (suc n) d.indexes ≡ found
          → ConditionLacks kinds (option_map_or (λ index. Indexed index (search_of type index.rule test literal)) found (condition_on (record d { indexes = [] }) (suc n) type test literal)) class → TableLacks kinds d class
      by None is lacks = absurd lacks
      by (Some index) is lacks = record { index = index; listed = index_there (suc n) d.indexes index is; lacks = lacks }

  at_lacks : (r : Relation) (number : Option ℕ) (type : Option ColumnType) → ConditionLacks kinds (condition_at d r number type) class → TableLacks kinds d class
  at_lacks r None type lacks = absurd lacks
  at_lacks r (Some number) None lacks = absurd lacks
  at_lacks r (Some number) (Some type) lacks = on_lacks number type r.test r.value lacks

  pub condition_lacks : (r : Relation) → ConditionLacks kinds (condition_of d r) class → TableLacks kinds d class
  condition_lacks r lacks = at_lacks r (number_of_column d r.column) (type_of_column d r.column) lacks

  among : (rs : List Relation) (k : ℕ) (c : Condition) → k < length (map (condition_of d) rs) → slice_index_or (map (condition_of d) rs) k c ≡ c → ConditionLacks kinds c class → TableLacks kinds d class
  among [] k c inside is lacks = absurd (omega arith)
  among (r ∷ rs) zero c inside is lacks = condition_lacks r (subst (λ (x : Condition). ConditionLacks kinds x class) (sym is) lacks)
  among (r ∷ rs) (suc k) c inside is lacks = among rs k c (omega arith) is lacks

  -- **The conditions of a SELECT need the classes of the table's indexes alone.**
  pub where_lacks : (conditions : List Condition) (rs : List Relation) → conditions ≡ map (condition_of d) rs → WhereLacks kinds conditions class → TableLacks kinds d class
  where_lacks conditions rs are lacks =
      let listed : Contains (map (condition_of d) rs) lacks.condition = subst (λ (cs : List Condition). Contains cs lacks.condition) are lacks.listed in
      among rs listed.0 lacks.condition listed.1 listed.2 lacks.lacks

-- ---- results

-- a fault that is handed on
pub missing_exit : {A : Type 0} (P : Class → Type 0) (result : Result A KitFault) (fault : KitFault) → IsErrAnd result (λ e. e ≡ fault) → OnMissing P fault → IfErr result (OnMissing P)
missing_exit P (Ok x) fault is on = tt
missing_exit P (Err e) fault is on = subst (OnMissing P) (sym is) on

-- what is said of the class changes
pub missing_as : (P Q : Class → Type 0) (fault : KitFault) → ((class : Class) → P class → Q class) → OnMissing P fault → OnMissing Q fault
missing_as P Q (Missing class) turn on = turn class on
missing_as P Q OutOfMemory turn on = tt

pub missing_result : {A : Type 0} (P Q : Class → Type 0) (result : Result A KitFault) → ((class : Class) → P class → Q class) → IfErr result (OnMissing P) → IfErr result (OnMissing Q)
missing_result P Q (Ok x) turn on = tt
missing_result P Q (Err fault) turn on = missing_as P Q fault turn on

-- out of memory says nothing of a class
pub memory_alone : {A : Type 0} (P : Class → Type 0) (result : Result A KitFault) → IfErr result (λ fault. fault ≡ OutOfMemory) → IfErr result (OnMissing P)
memory_alone P (Ok x) is = tt
memory_alone P (Err fault) is = subst (OnMissing P) (sym is) tt
