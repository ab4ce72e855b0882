-- How much partitions hold: the number of their cells, and the bytes of their keys and values.
use Rattle.std.specs.Prelude.{ℕ, ◌+◌, ◌-◌, ◌^◌, ◌==◌, min, length, if◌then◌else◌}
use Rattle.std.specs.List.{sum_by}
use Rattle.std.specs.Option.{option_map_or}
use Rattle.std.specs.FinMap as map_
use Rattle.sasi_types.specs.declared.cell.Cell.{Cell}
use Rattle.sasi_types.specs.declared.decorated_key.DecoratedKey.{DecoratedKey}
use Rattle.sasi_types.specs.Value.{stored}
use Rattle.sasi_model.specs.Cells.{Partition}
use Rattle.sasi_model.specs.Abbreviations.{Partitions}

-- the cells of a partition; the marker is one of them, and a deletion counts as one
abbrev pub cells_in : Partition → ℕ
cells_in p = length (map_.entries p.cells) + (if p.deleted == 0 then 0 else 1)

-- the bytes of a cell's value, none for a tombstone
abbrev pub value_bytes : ℕ × Cell → ℕ
value_bytes cell = option_map_or (λ value. length (stored value)) cell.1.value 0

-- the bytes of a key and of the values of its partition
abbrev pub bytes_in : DecoratedKey × Partition → ℕ
bytes_in e = length e.0.key + sum_by value_bytes (map_.entries e.1.cells)

-- all cells, and all bytes
abbrev pub cell_count : Partitions → ℕ
cell_count m = sum_by (λ e. cells_in e.1) (map_.entries m)

abbrev pub byte_count : Partitions → ℕ
byte_count m = sum_by bytes_in (map_.entries m)

-- a count of 64 bits saturates
abbrev pub saturated : ℕ → ℕ
saturated n = min n (2 ^ 64 - 1)
