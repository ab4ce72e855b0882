use Rattle.std.proofs.Common.{◌≡◌, ◌++◌, length, drop}
use Rattle.std.specs.List.{flat_map}
use Rattle.std.specs.Int.{to_be_bytes, w32}
use Rattle.sasi_manifest.proofs.put.put_numbers.Given as goal

abbrev pub invariant-loop-number : goal.invariant-loop-number
invariant-loop-number l = l.out.items ++ flat_map (to_be_bytes w32) (drop l.number-index l.numbers) ≡ l.fn.out.items ++ (to_be_bytes w32 (length l.numbers) ++ flat_map (to_be_bytes w32) l.numbers)
