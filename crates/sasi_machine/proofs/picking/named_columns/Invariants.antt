use Rattle.std.proofs.Common.{◌≡◌, ◌++◌, map, drop}
use Rattle.sasi_model.specs.Abbreviations.{numbers_of}
use Rattle.sasi_schema.specs.Defined.{definition}
use Rattle.sasi_machine.specs.Picks.{pick}
use Rattle.sasi_machine.proofs.picking.named_columns.Given as goal

-- the names so far, and those that are left
abbrev pub invariant-loop-name : goal.invariant-loop-name
invariant-loop-name l =
    let d = definition l.table in
    l.list ++ map pick (numbers_of d (drop l.name-index l.names)) ≡ map pick (numbers_of d l.names)
