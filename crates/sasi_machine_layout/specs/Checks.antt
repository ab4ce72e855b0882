-- How many candidates a SELECT checks in a layout.
use Rattle.std.specs.Prelude.{ℕ, ◌-◌, ◌^◌, min, map, slice_get}
use Rattle.std.specs.Option.{option_map_or}
use Rattle.sasi_types.specs.declared.statement.Select.{Select}
use Rattle.sasi_types.specs.declared.statement.Statement.TheVariants.{Query}
use Rattle.sasi_candidates.specs.Checks.{checked}
use Rattle.sasi_candidates.specs.LayoutParts.{parts_of}
use Rattle.sasi_layout.specs.Layout.{Layout, TableParts, state_of}
use Rattle.sasi_layout.specs.Statements.{definitions_of}
use Rattle.sasi_model.specs.Conditions.{condition_of}
use Rattle.sasi_model.specs.Filters.{row_limit, where_of}
use Rattle.sasi_model.specs.Refusals.{refusal}
use Rattle.sasi_schema.specs.Numbers.{number_of_table}

-- in a table: the count stays at 2^64 - 1
abbrev pub table_checks : TableParts → Select → ℕ
table_checks t select = min (checked (row_limit select.limit) (where_of (map (condition_of t.definition) select.relations)) (parts_of t)) (2 ^ 64 - 1)

-- **How many candidates a SELECT checks**, in the table that it names
abbrev pub select_checks : Layout → Select → ℕ
select_checks l select =
    option_map_or (λ number. option_map_or (λ (t : TableParts). table_checks t select) (slice_get l.tables (number - 1)) 0) (number_of_table select.table (definitions_of l)) 0

-- none where it is refused
abbrev pub answered_checks : Layout → Select → ℕ
answered_checks l select = option_map_or (λ r. 0) (refusal (state_of l) (Query select)) (select_checks l select)
