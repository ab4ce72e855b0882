use Rattle.std.proofs.Common.{◌≡◌, ◌+◌, ◌-◌, ◌^◌, ◌≤◌, drop}
use Rattle.std.specs.List.{sum_by}
use Rattle.sasi_memtable.specs.Sizes.{saturated, value_bytes}
use Rattle.sasi_memtable.proofs.size.bytes_of_values.Given as goal

abbrev pub invariant-loop-entry : goal.invariant-loop-entry
invariant-loop-entry l = record {
  fits : l.bytes ≤ 2 ^ 64 - 1;
  counted : saturated (l.bytes + sum_by value_bytes (drop l.entry-index l.cells)) ≡ saturated (sum_by value_bytes l.cells);
}
