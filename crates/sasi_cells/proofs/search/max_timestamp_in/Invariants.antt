use Rattle.std.proofs.Common.{◌≡◌, map, max, drop}
use Rattle.sasi_model.specs.Abbreviations.{max_timestamp_in}
use Rattle.sasi_cells.proofs.search.max_timestamp_in.Given as goal

abbrev pub invariant-loop-entry : goal.invariant-loop-entry
invariant-loop-entry l =
    max l.other (max_timestamp_in (map (λ e. e.1) l.cells)) ≡ max l.max_timestamp (max_timestamp_in (map (λ e. e.1) (drop l.entry-index l.cells)))
