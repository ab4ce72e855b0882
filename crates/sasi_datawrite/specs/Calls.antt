-- The calls of an observer of a flush.
use Rattle.std.specs.Prelude.{ℕ, ◌+◌, List, [], ◌∷◌, ◌++◌, length, map}
use Rattle.sasi_types.specs.declared.cell.Cell.{Cell}
use Rattle.sasi_types.specs.declared.partitioner.Partitioner.{Partitioner}
use Rattle.sasi_types.specs.Token.{token_of}
use Rattle.sasi_model.specs.Cells.{Partition}
use Rattle.sasi_model.specs.Stored.{Entry, cells_of}
use Rattle.sasi_datawrite.specs.Format.{Content, partition_bytes}

-- a call, with what was given
pub data Call : Type 0 where
  start_partition : (token place : ℕ) → Call
  cell : (column : ℕ) (written : Cell) → Call
  complete : Call

-- the call for a cell, with its column
abbrev pub cell_call : Entry → Call
cell_call entry = cell entry.0 entry.1

-- the calls for a partition: its token and offset, and then each of its cells
abbrev pub partition_calls : ℕ → ℕ → Partition → List Call
partition_calls token place part = start_partition token place ∷ map cell_call (cells_of part)

-- the calls for a content whose first partition begins at this offset
abbrev pub calls_from : Partitioner → ℕ → Content → List Call
calls_from partitioner at [] = []
calls_from partitioner at (one ∷ others) = partition_calls (token_of partitioner one.0) at one.1 ++ calls_from partitioner (at + length (partition_bytes one.0 one.1)) others
