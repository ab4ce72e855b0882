use Rattle.std.proofs.Common.{◌≡◌}
use Rattle.std.specs.FinMap as map_
use Rattle.std.specs.List.{AllByRecursion}
use Rattle.sasi_model.specs.Cells.{Partition}
use Rattle.sasi_model.specs.State.{decorated}
use Rattle.sasi_types.specs.declared.decorated_key.DecoratedKey.{DecoratedKey}
use Rattle.sasi_machine_layout.proofs.PuttingAll.{puts}
use Rattle.sasi_machine_layout.proofs.merging.merge_into.Given as goal

-- the entries that are left are still to be put
abbrev pub invariant-loop-key : goal.invariant-loop-key
invariant-loop-key l = record {
  left : puts l.all.partitions l.key-iterator ≡ puts l.fn.all.partitions (map_.entries l.later.partitions);
  partitioner : l.all.partitioner ≡ l.fn.all.partitioner;
  under : AllByRecursion (λ (e : DecoratedKey × Partition). e.0 ≡ decorated l.fn.all.partitioner e.0.key) l.key-iterator;
}
