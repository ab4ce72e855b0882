use Rattle.std.proofs.Common.{◌≡◌, ◌++◌, take, codes}
use Rattle.std.specs.List.{flat_map}
use Rattle.sasi_model.specs.Lines.{printed}
use Rattle.sasi_print.proofs.row_values.push_others.Given as goal

-- the values so far are printed
abbrev pub invariant-loop-value : goal.invariant-loop-value
invariant-loop-value l = l.reply.items ≡ l.fn.reply.items ++ flat_map (λ value. codes " | " ++ printed value) (take l.value-index l.values)
