use Rattle.std.proofs.Common.{◌≡◌, ◌+◌, ◌≤◌, ◌++◌, length, take}
use Rattle.std.specs.Int.{to_be_bytes, w16}
use Rattle.std.specs.List.{flat_map}
use Rattle.sasi_termblocks.proofs.block_encode.put_offsets.Given as goal

abbrev pub invariant-loop-start : goal.invariant-loop-start
invariant-loop-start l = record {
  put : l.out.items ≡ l.fn.out.items ++ flat_map (λ start. to_be_bytes w16 (l.table + start)) (take l.start-index l.starts);
  grows : length l.fn.out.items ≤ length l.out.items;
}
