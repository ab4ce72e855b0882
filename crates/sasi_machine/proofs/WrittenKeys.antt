-- The key of a write that no rule refuses.
use Rattle.std.proofs.Common.{◌≡◌, ℕ, List, [], ◌++◌, map, Option, None, Some, unwrap_or, refl, ap, subst, ◌∙◌}
use Rattle.std.specs.List.{zip}
use Rattle.std.specs.Option.{option_and_then, option_map}
use Rattle.sasi_types.specs.declared.column.ColumnType.{ColumnType}
use Rattle.sasi_types.specs.declared.literal.Literal.{Literal}
use Rattle.sasi_types.specs.declared.literal.Literal.TheVariants.{Null}
use Rattle.sasi_types.specs.declared.partitioner.Partitioner.{Partitioner}
use Rattle.sasi_types.specs.declared.statement.Statement.{Statement}
use Rattle.sasi_types.specs.declared.statement.Statement.TheVariants.{Insert, Update, Delete}
use Rattle.sasi_types.specs.declared.value.Value.{Value}
use Rattle.sasi_types.specs.Value.{stored}
use Rattle.sasi_model.specs.Asked as asked
use Rattle.sasi_model.specs.State.{Column, Definition, decorated, definition_of}
use Rattle.sasi_model.specs.Refusals.{Known, RefusalRule, no_column, repeat_rules, rules}
use Rattle.sasi_model.specs.Abbreviations.{first_refusal, stored_of, key_type}
use Rattle.sasi_model.specs.Step.{decorated_given, given_key, value_given}
use Rattle.sasi_schema.specs.Numbers.{IsKeyAt}
use Rattle.sasi_schema.proofs.Keys.{key_is}
use Rattle.sasi_schema.proofs.RuleLaws.{none_parts}
use Rattle.sasi_machine.specs.Checks.{given_rules}
use Rattle.sasi_machine.specs.KeyLiteral.{IsKeyLiteral}
use Rattle.sasi_machine.specs.Writes.{IsWriting, key_in, table_named}
use Rattle.sasi_machine.proofs.Accepted.{delete_accepted, insert_accepted, update_accepted}
use Rattle.sasi_machine.proofs.KeyLiterals.{key_given}
use Rattle.sasi_machine.proofs.KeyRules.{insert_rules_are}
use Rattle.sasi_machine.proofs.StatementBodies.{write_rules}

-- the rules of the write are those of its table
pub found_rules : (known : Known) (statement : Statement) (d : Definition) → IsWriting statement → definition_of
    (table_named statement) known.tables ≡ Some d → first_refusal (rules known statement) ≡ None → first_refusal (write_rules known.max_timestamp statement d) ≡ None
found_rules known (Insert table columns values time) d writing found none = rw found at none
found_rules known (Update table time sets key value) d writing found none = rw found at none
found_rules known (Delete table columns time key value) d writing found none = rw found at none
found_rules known statement d writing found none = absurd writing

pub key_in_accepted : (d : Definition) (g : ℕ) (statement : Statement) → IsWriting statement → IsKeyAt d.key d.columns → first_refusal
    (write_rules g statement d) ≡ None → IsKeyLiteral (key_type d) (key_in d statement)
key_in_accepted d g (Insert table columns values time) writing at none =
    let given = zip columns values in
    let known = subst (λ (rules : List RefusalRule). first_refusal rules ≡ None) (insert_rules_are d g table columns given time at) none in
    let named = none_parts (map (no_column d) columns) (repeat_rules [] columns ++ given_rules d g given time) known in
    (insert_accepted d g given time at (none_parts (repeat_rules [] columns) (given_rules d g given time) named.1).1).key
key_in_accepted d g (Update table time sets key value) writing at none = (update_accepted d g table sets (record { column = key; value = value }) time at none).key
key_in_accepted d g (Delete table columns time key value) writing at none = (delete_accepted d g table columns (record { column = key; value = value }) time at none).key
key_in_accepted d g statement writing at none = absurd writing

-- ---- the literal

-- the literal that the statement gives the key
abbrev pub given_in : Definition → Statement → Option Literal
given_in d (Insert table columns values time) = given_key d (zip columns values)
given_in d (Update table time sets key value) = Some value
given_in d (Delete table columns time key value) = Some value
given_in d statement = None

given_by : (type : ColumnType) (given : Option Literal) → IsKeyLiteral type (unwrap_or given Null) → given ≡ Some (unwrap_or given Null)
given_by type None is = let e = is.there in cc
given_by type (Some literal) is = refl

given_is : (d : Definition) (type : ColumnType) (statement : Statement) → IsWriting statement → IsKeyLiteral type (key_in d statement) → given_in d statement ≡ Some (key_in d statement)
given_is d type (Insert table columns values time) writing is = given_by type (given_key d (zip columns values)) is
given_is d type (Update table time sets key value) writing is = refl
given_is d type (Delete table columns time key value) writing is = refl
given_is d type statement writing is = absurd writing

-- ---- the decorated key

decorated_by : (p : Partitioner) (given : Option Value) (value : Value) → given ≡ Some value → option_map (λ value. decorated p (stored value)) given ≡ Some (decorated p (stored_of given))
decorated_by p None value is = cc
decorated_by p (Some v) value is = refl

decorated_is : (p : Partitioner) (d : Definition) (literal : Literal) → IsKeyAt d.key d.columns → IsKeyLiteral (key_type d) literal
    → decorated_given p d literal ≡ Some (decorated p (stored_of (value_given (key_type d) literal)))
decorated_is p d literal at is =
    let given = key_given (key_type d) literal is in
    ap (λ (o : Option Column). option_map (λ value. decorated p (stored value)) (option_and_then (λ column. value_given column.1 literal) o)) (key_is d at)
    ∙ decorated_by p (value_given (key_type d) literal) given.value given.is

pub decorated_in : (p : Partitioner) (d : Definition) (statement : Statement) → IsWriting statement → IsKeyAt d.key d.columns
    → IsKeyLiteral (key_type d) (key_in d statement)
    → option_and_then (decorated_given p d) (given_in d statement) ≡ Some (decorated p (stored_of (value_given (key_type d) (key_in d statement))))
decorated_in p d statement writing at is =
    ap (option_and_then (decorated_given p d)) (given_is d (key_type d) statement writing is) ∙ decorated_is p d (key_in d statement) at is

-- ---- the key that is asked

stored_by : (given : Option Value) (value : Value) → given ≡ Some value → option_map stored given ≡ Some (stored_of given)
stored_by None value is = cc
stored_by (Some v) value is = refl

pub key_asked : (d : Definition) (statement : Statement) → IsWriting statement → IsKeyAt d.key d.columns → IsKeyLiteral (key_type d) (key_in d statement)
    → option_and_then (asked.key_given d) (given_in d statement) ≡ Some (stored_of (value_given (key_type d) (key_in d statement)))
key_asked d statement writing at is =
    let literal = key_in d statement in
    let given = key_given (key_type d) literal is in
    ap (option_and_then (asked.key_given d)) (given_is d (key_type d) statement writing is)
    ∙ ap (λ (o : Option Column). option_map stored (option_and_then (λ column. value_given column.1 literal) o)) (key_is d at)
    ∙ stored_by (value_given (key_type d) literal) given.value given.is
