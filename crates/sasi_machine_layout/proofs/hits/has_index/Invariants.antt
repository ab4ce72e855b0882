use Rattle.std.proofs.Common.{◌≡◌, drop}
use Rattle.std.specs.Prelude.{nat_eq}
use Rattle.std.specs.List.{list_any}
use Rattle.sasi_machine_layout.specs.Hits.{columns_in}
use Rattle.sasi_machine_layout.proofs.hits.has_index.Given as goal

abbrev pub invariant-loop-part : goal.invariant-loop-part
invariant-loop-part l = list_any (nat_eq l.column) (columns_in l.indexes l.parts) ≡ list_any (nat_eq l.column) (columns_in l.indexes (drop l.part-index l.parts))
