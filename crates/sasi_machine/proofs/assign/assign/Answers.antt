use Rattle.std.proofs.Common.{ℕ, List, sym, ap, ◌∙◌, refl}
use Rattle.sasi_types.specs.declared.literal.Literal.{Literal}
use Rattle.sasi_model.specs.Cells.{Partition}
use Rattle.sasi_model.specs.Refusals.{number_range}
use Rattle.sasi_model.specs.Abbreviations.{update_change}
use Rattle.sasi_schema.specs.Defined.{definition}
use Rattle.sasi_machine.specs.Assignment.{cells_over, key_or}
use Rattle.sasi_machine.proofs.Assigning.{cells_first, cells_push, key_first, key_push, none_pop, same_partition}
use Rattle.sasi_machine.proofs.assign.assign.Goals as goal

pub loop-column-init : goal.loop-column-init
loop-column-init c =
    let d = definition c.args.table.now in
    record {
      cells = ap (λ (p : Partition). cells_over d c.args.time c.args.given p.cells) c.new.ensures ∙ cells_first d c.args.time c.args.given;
      deleted = ap (λ (p : Partition). p.deleted) c.new.ensures;
      key = key_first d c.args.given;
      ranges = c.requires.ranges;
    }

pub assign_one-requires-clause-range : goal.assign_one-requires-clause-range
assign_one-requires-clause-range c =
    (none_pop (number_range (definition c.args.table.now)) c.pop.new.self (c.in-Some.column, c.in-Some.literal) (rw c.in-Some.ensures.items at c.loop-column.invariant.ranges)).1

pub loop-column-preserved : goal.loop-column-preserved
loop-column-preserved c =
    let d = definition c.args.table.now in
    let sets = c.pop.new.self in
    let set : List ℕ × Literal = (c.in-Some.column, c.in-Some.literal) in
    record {
      cells =
          ap (cells_over d c.args.time sets) c.in_ok-assign_one.ensures.cells ∙ sym (cells_push d c.args.time sets set c.loop-column.assignment.change.cells)
          ∙ rw c.in-Some.ensures.items at c.loop-column.invariant.cells;
      deleted = c.in_ok-assign_one.ensures.deleted ∙ c.loop-column.invariant.deleted;
      key =
          ap (key_or d sets) c.in_ok-assign_one.ensures.key ∙ sym (key_push d sets set c.loop-column.assignment.key)
          ∙ rw c.in-Some.ensures.items at c.loop-column.invariant.key;
      ranges = (none_pop (number_range d) sets set (rw c.in-Some.ensures.items at c.loop-column.invariant.ranges)).0;
    }

pub returns-clause-key : goal.returns-clause-key
returns-clause-key c = rw (c.in_default.ensures.end refl) at c.loop-column.invariant.key

pub returns-clause-change : goal.returns-clause-change
returns-clause-change c =
    let change = c.loop-column.assignment.change in
    let cells = rw (c.in_default.ensures.end refl) at c.loop-column.invariant.cells in
    same_partition change (update_change (definition c.args.table.now) c.args.time c.args.given) c.loop-column.invariant.deleted cells
