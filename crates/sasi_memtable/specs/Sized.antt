-- The sizes of partitions and memtables in the code.
use Rattle.std.specs.Prelude.{◌≡◌, ℕ, ◌+◌, ◌-◌, ◌^◌, ◌==◌, Option, None, Some, unwrap_or, if◌then◌else◌}
use Rattle.std.specs.Option.{option_map_or}
use Rattle.std.specs.FinMap as map_
use Rattle.sasi_types.specs.declared.decorated_key.DecoratedKey.{DecoratedKey}
use Rattle.sasi_types.specs.declared.partitioner.Partitioner.{Partitioner}
use Rattle.sasi_model.specs.Cells.{Partition, empty_partition, merge}
use Rattle.sasi_model.specs.Abbreviations.{Partitions}
use Rattle.sasi_memtable.specs.declared.size.SizeChange.{SizeChange}
use Rattle.sasi_memtable.specs.declared.size.Size.{Size}
use Rattle.sasi_memtable.specs.MemtableView.{AreDecorated}
use Rattle.sasi_memtable.specs.Sizes.{byte_count, bytes_in, cell_count, cells_in, saturated}

-- the size of so many cells and bytes
pub record IsSizeOf (cells bytes : ℕ) (size : Size) : Type 0 where
  pub cells_are : size.cells ≡ saturated cells
  pub bytes_are : size.bytes ≡ saturated bytes

-- the size of what a key has, none where it has nothing
abbrev pub IsSizeAt : DecoratedKey → Option Partition → Size → Type 0
IsSizeAt key found = IsSizeOf (option_map_or cells_in found 0) (option_map_or (λ p. bytes_in (key, p)) found 0)

-- the size of all partitions
abbrev pub IsTotal : Partitions → Size → Type 0
IsTotal m = IsSizeOf (cell_count m) (byte_count m)

-- a count once one part of it is replaced by another; none where it has saturated, so that what it counts isn't known
abbrev pub replaced : ℕ → ℕ → ℕ → Option ℕ
replaced count before after = if count == 2 ^ 64 - 1 then None else Some (saturated ((count - before) + after))

-- these are the sizes of the key's partition before a change and after it
pub record IsGrowth (old : Partitions) (key : DecoratedKey) (change : Partition) (growth : SizeChange) : Type 0 where
  pub before : IsSizeAt key (map_.get old key) growth.before
  pub after : IsSizeAt key (Some (merge (unwrap_or (map_.get old key) empty_partition) change)) growth.after

-- all partitions but one are as they were, and the growth has that one's size before and after
pub record IsResized (new : Partitions) (was : Size) (growth : SizeChange) : Type 0 where
  pub cells : ℕ
  pub cells_before : ℕ
  pub cells_after : ℕ
  pub bytes : ℕ
  pub bytes_before : ℕ
  pub bytes_after : ℕ
  pub was_is : IsSizeOf (cells + cells_before) (bytes + bytes_before) was
  pub before_is : IsSizeOf cells_before bytes_before growth.before
  pub after_is : IsSizeOf cells_after bytes_after growth.after
  pub cells_are : cell_count new ≡ cells + cells_after
  pub bytes_are : byte_count new ≡ bytes + bytes_after

-- what is true of the fields of a memtable
pub record IsMemtable (partitioner : Partitioner) (m : Partitions) (size : Size) : Type 0 where
  pub decorated : AreDecorated partitioner m
  pub total : IsTotal m size
