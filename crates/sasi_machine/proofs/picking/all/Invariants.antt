use Rattle.std.proofs.Common.{◌≡◌, map}
use Rattle.sasi_model.specs.Abbreviations.{count_up}
use Rattle.sasi_machine.specs.Picks.{pick}
use Rattle.sasi_machine.proofs.picking.all.Given as goal

-- the numbers so far
abbrev pub invariant-loop-number : goal.invariant-loop-number
invariant-loop-number l = l.list ≡ map pick (count_up 0 l.number)
