use Rattle.std.proofs.Common.{◌≡◌, map}
use Rattle.sasi_types.specs.declared.literal.Literal.TheVariants.{Null}
use Rattle.sasi_machine.proofs.assign.nulls.Given as goal

-- the names so far
abbrev pub invariant-loop-column : goal.invariant-loop-column
invariant-loop-column l = l.sets ≡ map (λ name. (name, Null)) l.yielded
