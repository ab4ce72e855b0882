use Rattle.std.proofs.Common.{◌≡◌, drop}
use Rattle.sasi_model.specs.State.{definition_of}
use Rattle.sasi_schema.specs.Defined.{definitions}
use Rattle.sasi_schema.specs.Numbers.{number_of_table}
use Rattle.sasi_schema.proofs.Positions.{from_position}
use Rattle.sasi_schema.proofs.search.find_table.Given as goal

-- the tables so far have other names
abbrev pub invariant-loop-table : goal.invariant-loop-table
invariant-loop-table l = record {
  definition : definition_of l.name (definitions l.tables) ≡ definition_of l.name (definitions (drop l.table-index l.tables));
  number : number_of_table l.name (definitions l.tables) ≡ from_position l.table-index (number_of_table l.name (definitions (drop l.table-index l.tables)));
}
