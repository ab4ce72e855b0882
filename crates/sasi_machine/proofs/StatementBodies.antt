-- What an INSERT, an UPDATE or a DELETE writes can be stored: its key and its change have a body in the table.
use Rattle.std.proofs.Common.{◌≡◌, ℕ, ◌<◌, ◌≤◌, true, false, cond, List, [], ◌∷◌, ◌++◌, length, drop, map, Option, None, Some, unwrap_or, refl, subst, arith}
use Rattle.std.specs.Cmp.{nat_cmp_total}
use Rattle.std.specs.FinMap as fin
use Rattle.sasi_types.specs.declared.literal.Number.{Number}
use Rattle.sasi_types.specs.declared.statement.Statement.{Statement}
use Rattle.sasi_types.specs.declared.statement.Statement.TheVariants.{Insert, Update, Delete}
use Rattle.sasi_machine.specs.declared.relation.KeyRelation.{KeyRelation}
use Rattle.sasi_machine.specs.Checks.{given_key_rules, given_rules, kind_rules, length_rules, missing_rule, other_key_rule, range_rules, where_rules}
use Rattle.sasi_machine.specs.Writes.{IsWriting, change_in, key_in}
use Rattle.sasi_machine.proofs.Accepted.{delete_accepted, insert_accepted, update_accepted}
use Rattle.sasi_schema.specs.Numbers.{IsKeyAt}
use Rattle.std.specs.List.{AllByRecursion, find, zip}
use Rattle.std.specs.Option.{option_map}
use Rattle.sasi_types.specs.declared.column.ColumnType.{ColumnType}
use Rattle.sasi_types.specs.declared.column.ColumnType.TheVariants as types
use Rattle.sasi_types.specs.declared.literal.Literal.{Literal}
use Rattle.sasi_types.specs.declared.literal.Literal.TheVariants as literals
use Rattle.sasi_model.specs.State.{Definition}
use Rattle.sasi_model.specs.Refusals.{RefusalRule, delete_rules, each, insert_rules, is_key_value, is_of, is_out_of_range, key_empty, no_column, no_regular_column, number_range, repeat_rules, time_rules, type_of_column, update_rules, value_too_long, wrong_type, wrong_where}
use Rattle.sasi_model.specs.Abbreviations.{first_refusal, TIME_LIMIT, is_long_text, key_literal, marker, stored_of, update_change, key_type, types_of}
use Rattle.sasi_model.specs.Step.{cells_set, delete_change, insert_change, value_given}
use Rattle.sasi_model.specs.Stored.{IsBodyOf}
use Rattle.sasi_model.specs.WellFormed.{IsWellFormed, IsWellFormedLiteral, IsWellFormedSet}
use Rattle.sasi_schema.proofs.RuleLaws.{none_first, none_parts}
use Rattle.sasi_machine.proofs.WriteCells.{IsGood, goods}
use Rattle.sasi_machine.proofs.CellCounts.{some_cell}
use Rattle.sasi_machine.proofs.ChangeBodies.{deletion_fits, marked_cells, part_fits, set_cells}
use Rattle.sasi_machine.proofs.KeyBytes.{key_fits}
use Rattle.sasi_machine.proofs.KeyRules.{insert_rules_are, update_rules_are}
use Rattle.sasi_machine.proofs.TableColumns.{first_cell, small}

-- the literals that are given
zip_written : (columns : List (List ℕ)) (values : List Literal) → AllByRecursion IsWellFormedLiteral values → AllByRecursion (λ (s : List ℕ × Literal). IsWellFormedLiteral s.1) (zip columns values)
zip_written [] values all = tt
zip_written (c ∷ columns) [] all = tt
zip_written (c ∷ columns) (v ∷ values) all = (all.0, zip_written columns values all.1)

sets_written : (sets : List (List ℕ × Literal)) → AllByRecursion IsWellFormedSet sets → AllByRecursion (λ (s : List ℕ × Literal). IsWellFormedLiteral s.1) sets
sets_written [] all = tt
sets_written (s ∷ sets) all = (all.0.1, sets_written sets all.1)

key_literal_written : (d : Definition) (given : List (List ℕ × Literal)) → AllByRecursion (λ (s : List ℕ × Literal). IsWellFormedLiteral s.1) given → IsWellFormedLiteral (key_literal d given)
key_literal_written d [] all = tt
key_literal_written d (g ∷ given) all =
    elim (is_key_value d g.0 g.1) as (λ b. IsWellFormedLiteral (unwrap_or (option_map (λ g. g.1) (cond b (Some g) (find (λ g. is_key_value d g.0 g.1) given))) literals.Null)) [ true ↦ all.0 | false ↦ key_literal_written d given all.1 ]

-- what an INSERT writes
pub insert_fits : (d : Definition) (g : ℕ) (table : List ℕ) (columns : List (List ℕ)) (values : List Literal) (time : Option Number) (t : ℕ)
    → IsKeyAt d.key d.columns → length d.columns ≤ 64 → 0 < t → t ≤ TIME_LIMIT → AllByRecursion IsWellFormedLiteral values
    → first_refusal (insert_rules g table columns (zip columns values) time (Some d)) ≡ None → IsBodyOf (types_of d)
    (stored_of (value_given (key_type d) (key_literal d (zip columns values)))) (insert_change d t (zip columns values))
insert_fits d g table columns values time t at few above limit written none =
    let given = zip columns values in
    let all = zip_written columns values written in
    let known = subst (λ (rules : List RefusalRule). first_refusal rules ≡ None) (insert_rules_are d g table columns given time at) none in
    let named = none_parts (map (no_column d) columns) (repeat_rules [] columns ++ given_rules d g given time) known in
    let once = none_parts (repeat_rules [] columns) (given_rules d g given time) named.1 in
    let wrong = none_parts (each (wrong_type d) given) (each (number_range d) given ++ given_key_rules d g given time) once.1 in
    let range = none_parts (each (number_range d) given) (given_key_rules d g given time) wrong.1 in
    let missing = none_first (missing_rule d given) (each (key_empty d) given ++ (each (value_too_long d) given ++ time_rules g time)) range.1 in
    let empty = none_parts (each (key_empty d) given) (each (value_too_long d) given ++ time_rules g time) missing.1 in
    let long = none_parts (each (value_too_long d) given) (time_rules g time) empty.1 in
    let key = key_fits d (key_literal d given) (insert_accepted d g given time at once.1).key (key_literal_written d given all) in
    let good = goods d given wrong.0 range.0 long.0 all in
    let s = small d at few in
    part_fits d _ (fin.insert (cells_set d t given) 0 (marker t)) s key.typed key.some key.short
    (some_cell (fin.insert (cells_set d t given) 0 (marker t)) 0 (marker t) (fin.get-insert nat_cmp_total (cells_set d t given) 0 (marker t) 0))
    (marked_cells d t given s above limit good)

-- what an UPDATE writes
pub update_fits : (d : Definition) (g : ℕ) (table : List ℕ) (sets : List (List ℕ × Literal)) (relation : KeyRelation) (time : Option Number)
    (t : ℕ) → IsKeyAt d.key d.columns → length d.columns ≤ 64 → 0 < t → t ≤ TIME_LIMIT → AllByRecursion IsWellFormedSet sets
    → IsWellFormedLiteral relation.value → 1 ≤ length sets
    → first_refusal (update_rules g table sets relation.column relation.value time (Some d)) ≡ None → IsBodyOf (types_of d) (stored_of (value_given (key_type d) relation.value)) (update_change d t sets)
update_fits d g table [] relation time t at few above limit written key_written some none = absurd (omega arith)
update_fits d g table (set ∷ others) relation time t at few above limit written key_written some none =
    let sets = set ∷ others in
    let kinds = kind_rules d g sets relation time in
    let repeats = repeat_rules [] (map (λ set. set.0) sets) in
    let known = subst (λ (rules : List RefusalRule). first_refusal rules ≡ None) (update_rules_are d g table sets relation time at) none in
    let named = none_parts (map (λ set. no_regular_column d set.0) sets) (no_column d relation.column ∷ (repeats ++ kinds)) known in
    let column = none_first (no_column d relation.column) (repeats ++ kinds) named.1 in
    let once = none_parts repeats kinds column.1 in
    let wrong = none_parts (each (wrong_type d) sets) (wrong_where d relation.column relation.value ∷ range_rules d g sets relation time) once.1 in
    let wrong_key = none_first (wrong_where d relation.column relation.value) (range_rules d g sets relation time) wrong.1 in
    let range = none_parts (each (number_range d) sets) (number_range d relation.column relation.value ∷ where_rules d g sets relation time) wrong_key.1 in
    let range_key = none_first (number_range d relation.column relation.value) (where_rules d g sets relation time) range.1 in
    let other = none_first (other_key_rule d relation.column) (key_empty d relation.column relation.value ∷ length_rules d g sets relation time) range_key.1 in
    let empty = none_first (key_empty d relation.column relation.value) (length_rules d g sets relation time) other.1 in
    let long = none_parts (each (value_too_long d) sets) (value_too_long d relation.column relation.value ∷ time_rules g time) empty.1 in
    let first_named = none_first (no_regular_column d set.0) (map (λ set. no_regular_column d set.0) others) named.0 in
    let key = key_fits d relation.value (update_accepted d g table sets relation time at none).key key_written in
    let good = goods d sets wrong.0 range.0 long.0 (sets_written sets written) in
    let s = small d at few in
    part_fits d _ (cells_set d t sets) s key.typed key.some key.short (first_cell d t set others first_named.0) (set_cells d t sets s above limit good)

-- NULL is of every type
null_good : (d : Definition) (name : List ℕ) → IsGood d (name, literals.Null)
null_good d name = by (type_of_column d name) refl
  where
    of_all : (type : ColumnType) → (is_of type literals.Null ≡ true) × (is_out_of_range type literals.Null ≡ false) × (is_long_text type literals.Null ≡ false)
    of_all types.Text = (refl, refl, refl)
    of_all types.Int = (refl, refl, refl)
    of_all types.BigInt = (refl, refl, refl)
    of_all types.Uuid = (refl, refl, refl)

    by : (o : Option ColumnType) → type_of_column d name ≡ o → IsGood d (name, literals.Null)
    by None is = record { typed = rw is refl; within = rw is refl; short = rw is refl; written = tt }
    by (Some type) is = let all = of_all type in record { typed = rw (is, all.0) refl; within = rw (is, all.1) refl; short = rw (is, all.2) refl; written = tt }

nulls_good : (d : Definition) (names : List (List ℕ)) → AllByRecursion (IsGood d) (map (λ name. (name, literals.Null)) names)
nulls_good d [] = tt
nulls_good d (name ∷ names) = (null_good d name, nulls_good d names)

-- what a DELETE writes
pub delete_fits : (d : Definition) (g : ℕ) (table : List ℕ) (columns : List (List ℕ)) (relation : KeyRelation) (time : Option Number) (t : ℕ)
    → IsKeyAt d.key d.columns → length d.columns ≤ 64 → 0 < t → t ≤ TIME_LIMIT → IsWellFormedLiteral relation.value
    → first_refusal (delete_rules g table columns relation.column relation.value time (Some d)) ≡ None → IsBodyOf (types_of d) (stored_of (value_given (key_type d) relation.value)) (delete_change d t columns)
delete_fits d g table [] relation time t at few above limit key_written none =
    let key = key_fits d relation.value (delete_accepted d g table [] relation time at none).key key_written in
    deletion_fits d _ t key.typed key.some key.short above limit
delete_fits d g table (column ∷ others) relation time t at few above limit key_written none =
    let columns = column ∷ others in
    let sets : List (List ℕ × Literal) = map (λ name. (name, literals.Null)) columns in
    let key = key_fits d relation.value (delete_accepted d g table columns relation time at none).key key_written in
    let first_named = none_first (no_regular_column d column) (drop 1 (delete_rules g table columns relation.column relation.value time (Some d))) none in
    let s = small d at few in
    part_fits d _ (cells_set d t sets) s key.typed key.some key.short
    (first_cell d t (column, literals.Null) (map (λ name. (name, literals.Null)) others) first_named.0)
    (set_cells d t sets s above limit (nulls_good d columns))

-- the rules of a write of this table
abbrev pub write_rules : ℕ → Statement → Definition → List RefusalRule
write_rules g (Insert table columns values time) d = insert_rules g table columns (zip columns values) time (Some d)
write_rules g (Update table time sets key value) d = update_rules g table sets key value time (Some d)
write_rules g (Delete table columns time key value) d = delete_rules g table columns key value time (Some d)
write_rules g statement d = []

-- what a write holds
pub change_fits : (d : Definition) (g : ℕ) (statement : Statement) (t : ℕ) → IsWriting statement → IsWellFormed statement
    → IsKeyAt d.key d.columns → length d.columns ≤ 64 → 0 < t → t ≤ TIME_LIMIT → first_refusal (write_rules g statement d) ≡ None
    → IsBodyOf (types_of d) (stored_of (value_given (key_type d) (key_in d statement))) (change_in d t statement)
change_fits d g (Insert table columns values time) t writing written at few above limit none = insert_fits d g table columns values time t at few above limit written.2 none
change_fits d g (Update table time sets key value) t writing written at few above limit none =
    update_fits d g table sets (record { column = key; value = value }) time t at few above limit written.1 written.2.1 written.3 none
change_fits d g (Delete table columns time key value) t writing written at few above limit none =
    delete_fits d g table columns (record { column = key; value = value }) time t at few above limit written.2.1 none
change_fits d g statement t writing written at few above limit none = absurd writing
