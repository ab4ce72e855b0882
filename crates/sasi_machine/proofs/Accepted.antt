-- Writes that no rule refuses.
use Rattle.std.proofs.Common.{◌≡◌, ℕ, Bool, true, false, not, ◌&&◌, ◌||◌, cond, List, [], ◌∷◌, map, ◌++◌, Option, None, Some, unwrap_or, refl, sym, subst, ◌∙◌}
use Rattle.std.specs.Cmp.Lexicographic.{same_text}
use Rattle.std.specs.List.{find}
use Rattle.std.specs.Option.{option_map}
use Rattle.sasi_types.specs.declared.literal.Literal.{Literal}
use Rattle.sasi_types.specs.declared.literal.Literal.TheVariants.{Null}
use Rattle.sasi_types.specs.declared.literal.Number.{Number}
use Rattle.sasi_model.specs.State.{Definition}
use Rattle.sasi_model.specs.Refusals.{RefusalRule, delete_rules, each, is_column, is_key, is_key_value, is_null, is_of, key_empty, no_column, no_regular_column, number_range, repeat_rules, tests, time_rules, type_of_column, update_rules, value_too_long, wrong_type, wrong_where}
use Rattle.sasi_model.specs.Abbreviations.{first_refusal, gives_key, is_empty_text, key_literal, key_name, key_type}
use Rattle.sasi_schema.proofs.Keys.{is_key_by_name}
use Rattle.sasi_schema.proofs.RuleLaws.{none_first, none_parts}
use Rattle.sasi_schema.specs.Numbers.{IsKeyAt}
use Rattle.sasi_machine.specs.declared.relation.KeyRelation.{KeyRelation}
use Rattle.sasi_machine.specs.Checks.{given_key_rules, given_rules, kind_rules, length_rules, missing_rule, other_key_rule, range_rules, where_rules}
use Rattle.sasi_machine.specs.KeyLiteral.{IsKeyLiteral}
use Rattle.sasi_machine.proofs.ColumnTypes.{position_inside}
use Rattle.sasi_machine.proofs.KeyRules.{delete_rules_are, update_rules_are}

-- ---- tests

and_parts : (a b : Bool) → (a && b) ≡ true → (a ≡ true) × (b ≡ true)
and_parts true true e = (refl, refl)
and_parts true false e = cc
and_parts false b e = cc

or_parts : (a b : Bool) → (a || b) ≡ false → (a ≡ false) × (b ≡ false)
or_parts false false e = (refl, refl)
or_parts false true e = cc
or_parts true b e = cc

not_false : (a : Bool) → not a ≡ false → a ≡ true
not_false true e = refl
not_false false e = cc

not_true : (a : Bool) → not a ≡ true → a ≡ false
not_true true e = cc
not_true false e = refl

other_true : (a b : Bool) → (a && b) ≡ false → a ≡ true → b ≡ false
other_true true b e is = e
other_true false b e is = cc

-- ---- the key

-- the type of the key's column
key_typed : (d : Definition) (name : List ℕ) → IsKeyAt d.key d.columns → is_key d name ≡ true → type_of_column d name ≡ Some (key_type d)
key_typed d name at is =
    let named : name ≡ key_name d = same_text name (key_name d) (sym (is_key_by_name d name at ∙ is)) in
    let there = position_inside (key_name d) d.columns d.key at in
    rw (named, at, there.1) refl

-- what the rules say of the key's literal
key_passes : (d : Definition) (name : List ℕ) (literal : Literal) → IsKeyAt d.key d.columns → is_key d name ≡ true → is_null literal ≡ false
    → (wrong_type d name literal).0 ≡ false → (number_range d name literal).0 ≡ false
    → (key_empty d name literal).0 ≡ false → (value_too_long d name literal).0 ≡ false → IsKeyLiteral (key_type d) literal
key_passes d name literal at is there wrong range empty long =
    let typed = key_typed d name at is in
    record {
      typed = not_false (is_of (key_type d) literal) (rw typed at wrong);
      there = there;
      within = rw typed at range;
      some = rw typed at (other_true (is_key d name) (tests is_empty_text (type_of_column d name) literal) empty is);
      short = rw typed at long;
    }

-- that which is given the key
pub key_accepted : (d : Definition) (given : List (List ℕ × Literal)) → IsKeyAt d.key d.columns → gives_key d given ≡ true → first_refusal
    (each (wrong_type d) given) ≡ None → first_refusal (each (number_range d) given) ≡ None
    → first_refusal (each (key_empty d) given) ≡ None → first_refusal (each (value_too_long d) given) ≡ None → IsKeyLiteral (key_type d) (key_literal d given)
key_accepted d [] at gives wrong range empty long = cc
key_accepted d (g ∷ given) at gives wrong range empty long =
    let wrongs = none_first (wrong_type d g.0 g.1) (each (wrong_type d) given) wrong in
    let ranges = none_first (number_range d g.0 g.1) (each (number_range d) given) range in
    let empties = none_first (key_empty d g.0 g.1) (each (key_empty d) given) empty in
    let longs = none_first (value_too_long d g.0 g.1) (each (value_too_long d) given) long in
    elim (is_key_value d g.0 g.1) as (λ b. is_key_value d g.0 g.1 ≡ b → (b || gives_key d given) ≡ true → IsKeyLiteral (key_type d) (unwrap_or (option_map (λ g. g.1) (cond b (Some g) (find (λ g. is_key_value d g.0 g.1) given))) Null)) [
      | true ↦ λ is _.
          let parts = and_parts (is_key d g.0) (not (is_null g.1)) is in
          key_passes d g.0 g.1 at parts.0 (not_true (is_null g.1) parts.1) wrongs.0 ranges.0 empties.0 longs.0
      | false ↦ λ _ later. key_accepted d given at later wrongs.1 ranges.1 empties.1 longs.1
    ] refl gives

-- ---- INSERT

pub record IsAccepted (d : Definition) (sets : List (List ℕ × Literal)) (literal : Literal) : Type 0 where
  pub ranges : first_refusal (each (number_range d) sets) ≡ None
  pub key : IsKeyLiteral (key_type d) literal

pub insert_accepted : (d : Definition) (max_timestamp : ℕ) (given : List (List ℕ × Literal)) (time : Option Number) → IsKeyAt d.key d.columns
    → first_refusal (given_rules d max_timestamp given time) ≡ None → IsAccepted d given (key_literal d given)
insert_accepted d max_timestamp given time at none =
    let wrong = none_parts (each (wrong_type d) given) (each (number_range d) given ++ given_key_rules d max_timestamp given time) none in
    let range = none_parts (each (number_range d) given) (given_key_rules d max_timestamp given time) wrong.1 in
    let missing = none_first (missing_rule d given) (each (key_empty d) given ++ (each (value_too_long d) given ++ time_rules max_timestamp time)) range.1 in
    let empty = none_parts (each (key_empty d) given) (each (value_too_long d) given ++ time_rules max_timestamp time) missing.1 in
    let long = none_parts (each (value_too_long d) given) (time_rules max_timestamp time) empty.1 in
    record { ranges = range.0; key = key_accepted d given at (not_false (gives_key d given) missing.0) wrong.0 range.0 empty.0 long.0 }

-- ---- UPDATE and DELETE

where_tests : (d : Definition) (name : List ℕ) (literal : Literal) → IsKeyAt d.key d.columns → is_key d name ≡ true
    → (wrong_where d name literal).0 ≡ false → ((wrong_type d name literal).0 ≡ false) × (is_null literal ≡ false)
where_tests d name literal at is wrong =
    let typed = key_typed d name at is in
    let parts = or_parts (not (is_of (key_type d) literal)) (is_null literal) (rw typed at wrong) in
    (rw typed parts.0, parts.1)

pub where_accepted : (d : Definition) (max_timestamp : ℕ) (sets : List (List ℕ × Literal)) (relation : KeyRelation) (time : Option Number)
    → IsKeyAt d.key d.columns → is_column d relation.column ≡ true → first_refusal (kind_rules d max_timestamp sets relation time) ≡ None
    → IsAccepted d sets relation.value
where_accepted d max_timestamp sets relation time at column none =
    let wrong = none_parts (each (wrong_type d) sets) (wrong_where d relation.column relation.value ∷ range_rules d max_timestamp sets relation time) none in
    let wrong_key = none_first (wrong_where d relation.column relation.value) (range_rules d max_timestamp sets relation time) wrong.1 in
    let range = none_parts (each (number_range d) sets) (number_range d relation.column relation.value ∷ where_rules d max_timestamp sets relation time) wrong_key.1 in
    let range_key = none_first (number_range d relation.column relation.value) (where_rules d max_timestamp sets relation time) range.1 in
    let other = none_first (other_key_rule d relation.column) (key_empty d relation.column relation.value ∷ length_rules d max_timestamp sets relation time) range_key.1 in
    let empty = none_first (key_empty d relation.column relation.value) (length_rules d max_timestamp sets relation time) other.1 in
    let long = none_parts (each (value_too_long d) sets) (value_too_long d relation.column relation.value ∷ time_rules max_timestamp time) empty.1 in
    let long_key = none_first (value_too_long d relation.column relation.value) (time_rules max_timestamp time) long.1 in
    let is : is_key d relation.column ≡ true = not_false (is_key d relation.column) (other_true (is_column d relation.column) (not (is_key d relation.column)) other.0 column) in
    let tested = where_tests d relation.column relation.value at is wrong_key.0 in
    record { ranges = range.0; key = key_passes d relation.column relation.value at is tested.1 tested.0 range_key.0 empty.0 long_key.0 }

pub update_accepted : (d : Definition) (max_timestamp : ℕ) (table : List ℕ) (sets : List (List ℕ × Literal)) (relation : KeyRelation)
    (time : Option Number) → IsKeyAt d.key d.columns → first_refusal
    (update_rules max_timestamp table sets relation.column relation.value time (Some d)) ≡ None → IsAccepted d sets relation.value
update_accepted d max_timestamp table sets relation time at none =
    let known = subst (λ (rules : List RefusalRule). first_refusal rules ≡ None) (update_rules_are d max_timestamp table sets relation time at) none in
    let kinds = kind_rules d max_timestamp sets relation time in
    let repeats = repeat_rules [] (map (λ set. set.0) sets) in
    let regular = none_parts (map (λ set. no_regular_column d set.0) sets) (no_column d relation.column ∷ (repeats ++ kinds)) known in
    let column = none_first (no_column d relation.column) (repeats ++ kinds) regular.1 in
    let once = none_parts repeats kinds column.1 in
    where_accepted d max_timestamp sets relation time at (not_false (is_column d relation.column) column.0) once.1

pub delete_accepted : (d : Definition) (max_timestamp : ℕ) (table : List ℕ) (columns : List (List ℕ)) (relation : KeyRelation) (time : Option Number)
    → IsKeyAt d.key d.columns → first_refusal (delete_rules max_timestamp table columns relation.column relation.value time (Some d)) ≡ None
    → IsAccepted d [] relation.value
delete_accepted d max_timestamp table columns relation time at none =
    let known = subst (λ (rules : List RefusalRule). first_refusal rules ≡ None) (delete_rules_are d max_timestamp table columns relation time at) none in
    let kinds = kind_rules d max_timestamp [] relation time in
    let repeats = repeat_rules [] columns in
    let regular = none_parts (map (no_regular_column d) columns) (no_column d relation.column ∷ (repeats ++ kinds)) known in
    let column = none_first (no_column d relation.column) (repeats ++ kinds) regular.1 in
    let once = none_parts repeats kinds column.1 in
    where_accepted d max_timestamp [] relation time at (not_false (is_column d relation.column) column.0) once.1
