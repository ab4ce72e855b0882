use Rattle.std.proofs.Common.{◌≡◌, ◌∙◌, ap}
use Rattle.sasi_types.specs.declared.cell.Cell.{Cell}
use Rattle.sasi_cells.specs.Changes.{with_column}
use Rattle.sasi_model.specs.Cells.{Partition, value_at}
use Rattle.sasi_terms_tests.proofs.IndexedMapLaws.{value_written}
use Rattle.sasi_terms_tests.proofs.mem_indexes.change_of.Goals as goal

pub returns : goal.returns
returns g c =
    let cell : Cell = record { time = c.args.time; value = c.args.value } in
    let is : c.put.new.self ≡ with_column c.new-change.result 1 cell = rw c.expect.ensures at c.put.ensures.ok in
    ap (λ (p : Partition). value_at p 1) (is ∙ ap (λ (p : Partition). with_column p 1 cell) c.new-change.ensures) ∙ value_written cell
