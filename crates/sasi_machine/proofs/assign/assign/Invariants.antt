use Rattle.std.proofs.Common.{◌≡◌, None, length}
use Rattle.sasi_model.specs.Refusals.{each, number_range}
use Rattle.sasi_model.specs.Abbreviations.{first_refusal, key_literal}
use Rattle.sasi_model.specs.Step.{cells_set}
use Rattle.sasi_schema.specs.Defined.{definition}
use Rattle.sasi_machine.specs.Assignment.{cells_over, key_or}
use Rattle.sasi_machine.proofs.assign.assign.Given as goal

-- what is left, over what was collected, gives what all give
abbrev pub invariant-loop-column : goal.invariant-loop-column
invariant-loop-column l =
    let d = definition l.table in
    record {
      cells : cells_over d l.time l.given l.assignment.change.cells ≡ cells_set d l.time l.fn.given;
      deleted : l.assignment.change.deleted ≡ 0;
      key : key_or d l.given l.assignment.key ≡ key_literal d l.fn.given;
      ranges : first_refusal (each (number_range d) l.given) ≡ None;
    }

abbrev pub decreases-loop-column : goal.decreases-loop-column
decreases-loop-column l = length l.given
