-- The key and the cells of columns with their literals, from the last to the first.
use Rattle.std.specs.Prelude.{ℕ, List, [], ◌∷◌, if◌then◌else◌}
use Rattle.sasi_types.specs.declared.literal.Literal.{Literal}
use Rattle.sasi_model.specs.Cells.{Cells}
use Rattle.sasi_model.specs.State.{Definition, number_of_column}
use Rattle.sasi_model.specs.Refusals.{is_key_value, type_of_column}
use Rattle.sasi_model.specs.Step.{with_column_cell}
use Rattle.sasi_model.specs.Abbreviations.{value_set}

-- the cells with that of one more column
abbrev pub with_set : Definition → ℕ → List ℕ → Literal → Cells → Cells
with_set d time name literal = with_column_cell (number_of_column d name) (record { time = time; value = value_set (type_of_column d name) literal })

-- the cells that are set, added to these
abbrev pub cells_over : Definition → ℕ → List (List ℕ × Literal) → Cells → Cells
cells_over d time [] cells = cells
cells_over d time (set ∷ sets) cells = with_set d time set.0 set.1 (cells_over d time sets cells)

-- the key's literal, or else another
abbrev pub key_or : Definition → List (List ℕ × Literal) → Literal → Literal
key_or d [] other = other
key_or d (given ∷ others) other = if is_key_value d given.0 given.1 then given.1 else key_or d others other
