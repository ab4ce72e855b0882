use Rattle.std.proofs.Common.{◌≡◌, drop}
use Rattle.sasi_model.specs.State.{position_in}
use Rattle.sasi_schema.proofs.Positions.{from_position}
use Rattle.sasi_schema.proofs.search.position_in.Given as goal

-- the columns so far have other names
abbrev pub invariant-loop-i : goal.invariant-loop-i
invariant-loop-i l = position_in l.name l.columns ≡ from_position l.i (position_in l.name (drop l.i l.columns))
