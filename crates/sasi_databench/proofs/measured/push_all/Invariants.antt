use Rattle.std.proofs.Common.{◌≡◌, ◌≤◌, length}
use Rattle.std.specs.Prelude.{IsTrue}
use Rattle.sasi_types.specs.declared.partitioner.Partitioner.TheVariants.{Lead8}
use Rattle.sasi_datawrite.specs.Writing.{last_pair}
use Rattle.sasi_databench.proofs.measured.push_all.Given as goal

abbrev pub invariant-loop-number : goal.invariant-loop-number
invariant-loop-number l = record {
  last : (last_pair l.writer.pairs).token ≤ l.last;
  partitioner : l.writer.partitioner ≡ Lead8;
  usable : IsTrue l.writer.usable;
  some : 1 ≤ length l.writer.pairs;
}
