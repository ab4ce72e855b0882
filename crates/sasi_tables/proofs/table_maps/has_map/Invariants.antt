use Rattle.sasi_tables.proofs.EachMap.{HaveNot}
use Rattle.sasi_tables.proofs.table_maps.has_map.Given as goal

-- no table so far has it
abbrev pub invariant-loop-table : goal.invariant-loop-table
invariant-loop-table l = HaveNot l.tables l.number l.table-index
