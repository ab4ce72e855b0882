use Rattle.std.proofs.Common.{◌≡◌, drop}
use Rattle.sasi_model.specs.Abbreviations as model
use Rattle.sasi_schema.specs.Defined.{definition}
use Rattle.sasi_machine.proofs.check.gives_key.Given as goal

-- what is given so far isn't the key's
abbrev pub invariant-loop-column : goal.invariant-loop-column
invariant-loop-column l = model.gives_key (definition l.table) l.given ≡ model.gives_key (definition l.table) (drop l.column-index l.given)
