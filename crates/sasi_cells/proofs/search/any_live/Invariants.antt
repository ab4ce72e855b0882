use Rattle.std.proofs.Common.{◌≡◌, map, drop}
use Rattle.sasi_model.specs.Abbreviations.{any_live}
use Rattle.sasi_cells.proofs.search.any_live.Given as goal

abbrev pub invariant-loop-entry : goal.invariant-loop-entry
invariant-loop-entry l = any_live (map (λ e. e.1) l.cells) ≡ any_live (map (λ e. e.1) (drop l.entry-index l.cells))
