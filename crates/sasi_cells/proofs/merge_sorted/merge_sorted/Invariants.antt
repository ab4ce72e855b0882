use Rattle.std.proofs.Common.{◌≡◌, ◌+◌, ◌≤◌, ◌++◌}
use Rattle.std.specs.Vec.{vec_len, vec_capacity}
use Rattle.std.specs.VecDeque.{deque_len}
use Rattle.sasi_cells.specs.Entries.{merged_sorted, unshadowed_entries}
use Rattle.sasi_cells.proofs.merge_sorted.merge_sorted.Given as goal

abbrev pub invariant-entries : goal.invariant-entries
invariant-entries l = record {
  room : vec_len l.cells + (deque_len l.mine + deque_len l.theirs) ≤ vec_capacity l.cells;
  same : unshadowed_entries l.deleted (merged_sorted l.initial.mine.items l.initial.theirs.items) ≡ l.cells.items ++ unshadowed_entries l.deleted (merged_sorted l.mine.items l.theirs.items);
}

abbrev pub decreases-entries : goal.decreases-entries
decreases-entries l = deque_len l.mine + deque_len l.theirs
