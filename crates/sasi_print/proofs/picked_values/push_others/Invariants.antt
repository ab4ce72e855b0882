use Rattle.std.proofs.Common.{◌≡◌, ◌++◌, take, codes}
use Rattle.std.specs.List.{flat_map}
use Rattle.sasi_cells.specs.Rows.{picked_value}
use Rattle.sasi_model.specs.Lines.{printed}
use Rattle.sasi_print.proofs.picked_values.push_others.Given as goal

-- the values so far are printed
abbrev pub invariant-loop-column : goal.invariant-loop-column
invariant-loop-column l = l.reply.items ≡ l.fn.reply.items ++ flat_map (λ column. codes " | " ++ printed (picked_value l.kind l.key l.part column)) (take l.column-index l.columns)
