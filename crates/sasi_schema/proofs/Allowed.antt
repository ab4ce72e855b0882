-- A table that no rule refuses.
use Rattle.std.proofs.Common.{◌≡◌, ℕ, ◌<◌, ◌≤◌, ◌==◌, false, nat_le, nat_lt, List, [], ◌++◌, ◌∷◌, length, None, Some, arith}
use Rattle.std.proofs.lemmas.List.{length-map}
use Rattle.std.proofs.lemmas.Bool.Decides.{nat_tests}
use Rattle.sasi_model.specs.State.{Column, Definition}
use Rattle.sasi_model.specs.Refusals.{create_rules, repeat_rules, names_in}
use Rattle.sasi_model.specs.Abbreviations.{first_refusal, KeyMissing, TooManyTables, TooManyColumns, TABLE_LIMIT, COLUMN_LIMIT, key_position}
use Rattle.sasi_model.specs.Step.{primary_key}
use Rattle.sasi_schema.specs.declared.table.Table.{Table}
use Rattle.sasi_schema.proofs.RuleLaws.{none_first, none_parts}
use Rattle.sasi_schema.specs.Checks.{name_rules, key_rules, count_rules}
use Rattle.sasi_schema.specs.Defined.{definition, definitions}
use Rattle.sasi_schema.specs.Numbers.{IsKeyAt}
use Rattle.sasi_schema.proofs.Keys.{made_key}

-- what the rules say of it
pub record IsAllowed (tables : List Definition) (columns : List Column) (keys : List (List ℕ)) : Type 0 where
  pub room : length tables < TABLE_LIMIT
  pub few : length columns ≤ COLUMN_LIMIT
  pub key_found : primary_key columns keys ≡ Some (key_position columns keys)
  pub key : IsKeyAt (key_position columns keys) columns

below : (a b : ℕ) → nat_le a b ≡ false → b < a
below a b above = grind (arith, nat_tests)

at_most : (a b : ℕ) → nat_lt a b ≡ false → b ≤ a
at_most a b above = grind (arith, nat_tests)

pub allowed : (tables : List Definition) (table : List ℕ) (columns : List Column) (keys : List (List ℕ)) → first_refusal (create_rules tables table columns keys) ≡ None → IsAllowed tables columns keys
allowed tables table columns keys none =
    let counts = count_rules tables table columns keys in
    let find_table = none_parts (name_rules tables table) (key_rules columns keys ++ (repeat_rules [] (names_in columns) ++ counts)) none in
    let keyed = none_parts (key_rules columns keys) (repeat_rules [] (names_in columns) ++ counts) find_table.1 in
    let counted = none_parts (repeat_rules [] (names_in columns)) counts keyed.1 in
    let some = none_first (length keys == 0, KeyMissing table) ((nat_le TABLE_LIMIT (length tables), TooManyTables) ∷ (nat_lt COLUMN_LIMIT (length columns), TooManyColumns) ∷ []) counted.1 in
    let key = made_key columns keys keyed.0 some.0 in
    let few_before = none_first (nat_le TABLE_LIMIT (length tables), TooManyTables) ((nat_lt COLUMN_LIMIT (length columns), TooManyColumns) ∷ []) some.1 in
    let few = none_first (nat_lt COLUMN_LIMIT (length columns), TooManyColumns) [] few_before.1 in
    record {
      room = below TABLE_LIMIT (length tables) few_before.0;
      few = at_most COLUMN_LIMIT (length columns) few.0;
      key_found = key.0;
      key = key.1;
    }

-- there are few tables before another
pub few_tables : {columns : List Column} {keys : List (List ℕ)} (tables : List Table) (count : ℕ) → count ≡ length tables → IsAllowed (definitions tables) columns keys → count < 256
few_tables tables count is allowed = let e : length (definitions tables) ≡ length tables = length-map tables definition in omega (arith, allowed.room)
