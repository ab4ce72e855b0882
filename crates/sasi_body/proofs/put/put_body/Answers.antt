use Rattle.std.proofs.Common.{subst, sym, arith, ap, List, length, ◌∙◌, ◌++◌, ℕ}
use Rattle.std.specs.Int.{to_be_bytes, w64}
use Rattle.std.proofs.lemmas.List.Elements.{All-from_recursion}
use Rattle.std.specs.List.{All}
use Rattle.sasi_cells.specs.Entries.{Entry}
use Rattle.sasi_model.specs.Stored.{HasCellBytes}
use Rattle.sasi_body.specs.Body.{cells_of}
use Rattle.sasi_body.proofs.BodyBytes.{body_put, values_have_bytes}
use Rattle.sasi_body.proofs.put.put_body.Goals as goal

pub put_cells-requires-clause-few : goal.put_cells-requires-clause-few
put_cells-requires-clause-few c = omega (arith, c.requires.count.few, ap length c.cells.ensures.entries)

pub put_cells-requires-clause-each : goal.put_cells-requires-clause-each
put_cells-requires-clause-each c =
    subst (λ (l : List Entry). All HasCellBytes l) (sym c.cells.ensures.entries)
    (All-from_recursion HasCellBytes (cells_of c.args.part.now) (values_have_bytes c.args.part.now.deleted (cells_of c.args.part.now) c.requires.cells))

pub returns : goal.returns
returns c =
    body_put c.put_cells.result c.args.key.now c.args.part.now c.cells.result.now c.args.out.now.items c.put_key.new.out.items c.put_u64.new.out.items c.put_cells.new.out.items c.in_ok-put_key.ensures
    (c.in_ok-put_u64.ensures.ok ∙ ap (λ (n : ℕ). c.put_key.new.out.items ++ to_be_bytes w64 n) c.deleted.ensures) c.cells.ensures.entries c.put_cells.ensures
