use Rattle.std.proofs.Common.{◌≡◌, ◌++◌, take}
use Rattle.std.specs.List.{flat_map}
use Rattle.sasi_formats.specs.Formats.{encoded}
use Rattle.sasi_termblocks.specs.Entries.{tree}
use Rattle.sasi_indexwrite.proofs.trailer.put_table.Given as goal

abbrev pub invariant-loop-each : goal.invariant-loop-each
invariant-loop-each l = l.out.items ≡ l.fn.out.items ++ flat_map (encoded tree) (take l.each-index l.table)
