use Rattle.std.proofs.Common.{◌≡◌, take}
use Rattle.std.specs.List.{sum_by}
use Rattle.sasi_memtable.specs.Sizes.{byte_count, cell_count, saturated}
use Rattle.sasi_tables.specs.Held.{maps_with}
use Rattle.sasi_tables.proofs.table_maps.sizes_of.Given as goal

-- the counts so far
abbrev pub invariant-loop-number : goal.invariant-loop-number
invariant-loop-number l = record {
  cells_are : l.cells ≡ saturated (sum_by cell_count (maps_with l.maps (take l.number-index l.numbers)));
  bytes_are : l.bytes ≡ saturated (sum_by byte_count (maps_with l.maps (take l.number-index l.numbers)));
}
