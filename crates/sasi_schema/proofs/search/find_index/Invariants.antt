use Rattle.std.proofs.Common.{◌≡◌, drop}
use Rattle.sasi_model.specs.Indexes.{index_named}
use Rattle.sasi_schema.specs.Defined.{definitions}
use Rattle.sasi_schema.proofs.search.find_index.Given as goal

-- the tables so far have no index of that name
abbrev pub invariant-loop-table : goal.invariant-loop-table
invariant-loop-table l = index_named l.name (definitions l.tables) ≡ index_named l.name (definitions (drop l.table-index l.tables))
