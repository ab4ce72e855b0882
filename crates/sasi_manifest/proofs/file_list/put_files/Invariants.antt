use Rattle.std.proofs.Common.{◌≡◌, ◌+◌, ◌≤◌}
use Rattle.std.specs.Vec.{vec_len, vec_capacity}
use Rattle.std.specs.VecDeque.{deque_len}
use Rattle.sasi_manifest.specs.ListedFiles.{AreInOrder, with_files}
use Rattle.sasi_manifest.proofs.file_list.put_files.Given as goal

abbrev pub invariant-files : goal.invariant-files
invariant-files l = record {
  order : AreInOrder 0 l.files.items;
  room : vec_len l.files + deque_len l.added ≤ vec_capacity l.files;
  done : with_files l.added.items l.files.items ≡ with_files l.initial.added.items l.initial.files.items;
}

abbrev pub decreases-files : goal.decreases-files
decreases-files l = deque_len l.added
