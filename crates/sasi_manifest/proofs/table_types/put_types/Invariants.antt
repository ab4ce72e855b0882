use Rattle.std.proofs.Common.{◌≡◌, ◌++◌, drop, map}
use Rattle.sasi_manifest.proofs.table_types.put_types.Given as goal

abbrev pub invariant-loop-column : goal.invariant-loop-column
invariant-loop-column l = l.types ++ map (λ c. c.1) (drop l.column-index l.columns) ≡ l.fn.types ++ map (λ c. c.1) l.columns
