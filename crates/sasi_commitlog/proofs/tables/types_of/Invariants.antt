use Rattle.std.proofs.Common.{◌≡◌, drop}
use Rattle.sasi_commitlog.specs.Format.{types_in}
use Rattle.sasi_commitlog.proofs.tables.types_of.Given as goal

abbrev pub invariant-loop-entry : goal.invariant-loop-entry
invariant-loop-entry l = types_in l.tables l.table ≡ types_in (drop l.entry-index l.tables) l.table
