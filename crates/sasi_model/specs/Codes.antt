-- Codes of values, by which proofs tell values apart. Nothing here says what a script means.
use Rattle.std.specs.Prelude.{◌≡◌, Bool, ℕ, ℤ, pos, zero, suc, List, [], Option, refl}
use Rattle.std.specs.FinMap as map_
use Rattle.std.specs.Coded.{Coded, code_by, coded×, coded_ℕ, coded_ℤ, coded_bool, coded_list, coded_option}
use Rattle.sasi_types.specs.declared.cell.Cell.{Cell}
use Rattle.sasi_types.specs.declared.column.ColumnType.{ColumnType}
use Rattle.sasi_types.specs.declared.column.ColumnType.TheVariants as types
use Rattle.sasi_types.specs.declared.partitioner.Partitioner.{Partitioner}
use Rattle.sasi_types.specs.declared.partitioner.Partitioner.TheVariants.{Lead8, Murmur3}
use Rattle.sasi_types.specs.declared.decorated_key.DecoratedKey.{DecoratedKey}
use Rattle.sasi_types.specs.declared.value.Value.{Value}
use Rattle.sasi_types.specs.declared.value.Value.TheVariants as values
use Rattle.sasi_model.specs.Cells.{Cells, Partition}
use Rattle.sasi_types.specs.Codes.{mode_code}
use Rattle.sasi_types.specs.declared.mode.Mode.{Mode}
use Rattle.sasi_types.specs.declared.mode.Mode.TheVariants as modes
use Rattle.sasi_types.specs.declared.rule.Rule.{Rule}
use Rattle.sasi_types.specs.declared.rule.Rule.TheVariants as rules
use Rattle.sasi_model.specs.State.{Column, Definition, Index, Table, State}
use Rattle.sasi_model.specs.Abbreviations.{Partitions}

abbrev pub ValueCode : Type 0
ValueCode = ℕ × (ℤ × List ℕ)

abbrev pub value_code : Value → ValueCode
value_code (values.Text text) = (0, (pos 0, text))
value_code (values.Int number) = (1, (number, []))
value_code (values.BigInt number) = (2, (number, []))
value_code (values.Uuid bytes) = (3, (pos 0, bytes))

abbrev pub value_from : ℕ → ℤ → List ℕ → Value
value_from zero number bytes = values.Text bytes
value_from (suc zero) number bytes = values.Int number
value_from (suc (suc zero)) number bytes = values.BigInt number
value_from (suc (suc (suc n))) number bytes = values.Uuid bytes

abbrev pub value_again : (value : Value) → value_from (value_code value).0 (value_code value).1.0 (value_code value).1.1 ≡ value
value_again (values.Text text) = refl
value_again (values.Int number) = refl
value_again (values.BigInt number) = refl
value_again (values.Uuid bytes) = refl

abbrev pub coded_value : Coded Value
coded_value = code_by ValueCode (coded× coded_ℕ (coded× coded_ℤ (coded_list coded_ℕ))) value_code (λ c. value_from c.0 c.1.0 c.1.1) value_again

abbrev pub coded_cell : Coded Cell
coded_cell = code_by (ℕ × Option Value) (coded× coded_ℕ (coded_option coded_value)) (λ c. (c.time, c.value)) (λ p. record { time = p.0; value = p.1 }) (λ _. refl)

abbrev pub coded_entry : Coded (ℕ × Cell)
coded_entry = coded× coded_ℕ coded_cell

abbrev pub coded_partition : Coded Partition
coded_partition = code_by (ℕ × Cells) (coded× coded_ℕ (map_.code coded_ℕ coded_cell)) (λ p. (p.deleted, p.cells)) (λ c. record { deleted = c.0; cells = c.1 }) (λ _. refl)

abbrev pub coded_bytes : Coded (List ℕ)
coded_bytes = coded_list coded_ℕ

abbrev pub coded_decorated : Coded DecoratedKey
coded_decorated = code_by (ℕ × List ℕ) (coded× coded_ℕ coded_bytes) (λ p. (p.token, p.key)) (λ c. record { token = c.0; key = c.1 }) (λ _. refl)

abbrev pub coded_partitions : Coded Partitions
coded_partitions = map_.code coded_decorated coded_partition

abbrev pub column_type_number : ColumnType → ℕ
column_type_number types.Text = 0
column_type_number types.Int = 1
column_type_number types.BigInt = 2
column_type_number types.Uuid = 3

abbrev pub column_type_of : ℕ → ColumnType
column_type_of zero = types.Text
column_type_of (suc zero) = types.Int
column_type_of (suc (suc zero)) = types.BigInt
column_type_of (suc (suc (suc n))) = types.Uuid

abbrev pub column_type_again : (type : ColumnType) → column_type_of (column_type_number type) ≡ type
column_type_again types.Text = refl
column_type_again types.Int = refl
column_type_again types.BigInt = refl
column_type_again types.Uuid = refl

abbrev pub coded_column_type : Coded ColumnType
coded_column_type = code_by ℕ coded_ℕ column_type_number column_type_of column_type_again

abbrev pub coded_columns : Coded (List Column)
coded_columns = coded_list (coded× coded_bytes coded_column_type)

abbrev pub mode_of : ℕ → Mode
mode_of zero = modes.Prefix
mode_of (suc zero) = modes.Contains
mode_of (suc (suc n)) = modes.Sparse

abbrev pub mode_again : (mode : Mode) → mode_of (mode_code mode) ≡ mode
mode_again modes.Prefix = refl
mode_again modes.Contains = refl
mode_again modes.Sparse = refl

abbrev pub rule_code : Rule → ℕ × Bool
rule_code (rules.Whole fold) = (0, fold)
rule_code (rules.Words fold) = (1, fold)

abbrev pub rule_of : ℕ → Bool → Rule
rule_of zero fold = rules.Whole fold
rule_of (suc n) fold = rules.Words fold

abbrev pub rule_again : (rule : Rule) → rule_of (rule_code rule).0 (rule_code rule).1 ≡ rule
rule_again (rules.Whole fold) = refl
rule_again (rules.Words fold) = refl

abbrev pub coded_mode : Coded Mode
coded_mode = code_by ℕ coded_ℕ mode_code mode_of mode_again

abbrev pub coded_rule : Coded Rule
coded_rule = code_by (ℕ × Bool) (coded× coded_ℕ coded_bool) rule_code (λ c. rule_of c.0 c.1) rule_again

abbrev pub coded_index : Coded Index
coded_index =
    code_by (List ℕ × (ℕ × (Mode × Option Rule))) (coded× coded_bytes (coded× coded_ℕ (coded× coded_mode (coded_option coded_rule))))
    (λ i. (i.name, (i.column, (i.mode, i.rule)))) (λ c. record { name = c.0; column = c.1.0; mode = c.1.1.0; rule = c.1.1.1 }) (λ _. refl)

abbrev pub coded_definition : Coded Definition
coded_definition =
    code_by (List ℕ × (List Column × (ℕ × List Index))) (coded× coded_bytes (coded× coded_columns (coded× coded_ℕ (coded_list coded_index))))
    (λ d. (d.name, (d.columns, (d.key, d.indexes)))) (λ c. record { name = c.0; columns = c.1.0; key = c.1.1.0; indexes = c.1.1.1 }) (λ _. refl)

abbrev pub coded_table : Coded Table
coded_table =
    code_by (Definition × Partitions) (coded× coded_definition coded_partitions)
    (λ t. (t.definition, t.partitions)) (λ c. record { definition = c.0; partitions = c.1 }) (λ _. refl)

abbrev pub partitioner_number : Partitioner → ℕ
partitioner_number Lead8 = 0
partitioner_number Murmur3 = 1

abbrev pub partitioner_of : ℕ → Partitioner
partitioner_of zero = Lead8
partitioner_of _ = Murmur3

abbrev pub partitioner_again : (p : Partitioner) → partitioner_of (partitioner_number p) ≡ p
partitioner_again Lead8 = refl
partitioner_again Murmur3 = refl

abbrev pub coded_partitioner : Coded Partitioner
coded_partitioner = code_by ℕ coded_ℕ partitioner_number partitioner_of partitioner_again

abbrev pub coded_state : Coded State
coded_state =
    code_by (Partitioner × List Table) (coded× coded_partitioner (coded_list coded_table))
    (λ s. (s.partitioner, s.tables)) (λ c. record { partitioner = c.0; tables = c.1 }) (λ _. refl)
