use Rattle.std.proofs.Common.{◌≡◌, ◌+◌, ◌-◌, ◌^◌, ◌≤◌}
use Rattle.std.specs.List.{sum_by}
use Rattle.sasi_memtable.specs.Sizes.{bytes_in, cells_in, saturated}
use Rattle.sasi_memtable.proofs.total.total.Given as goal

abbrev pub invariant-loop-key : goal.invariant-loop-key
invariant-loop-key l = record {
  cells_fit : l.size.cells ≤ 2 ^ 64 - 1;
  bytes_fit : l.size.bytes ≤ 2 ^ 64 - 1;
  cells : saturated (l.size.cells + sum_by (λ e. cells_in e.1) l.key-iterator) ≡ saturated (sum_by (λ e. cells_in e.1) l.partitions.entries);
  bytes : saturated (l.size.bytes + sum_by bytes_in l.key-iterator) ≡ saturated (sum_by bytes_in l.partitions.entries);
}
