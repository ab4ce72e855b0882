use Rattle.sasi_schema.specs.Defined.{definition}
use Rattle.sasi_machine.proofs.Assigning.{nulls_in_range}
use Rattle.sasi_machine.proofs.change.deletion.Goals as goal

pub assign-requires-clause-ranges : goal.assign-requires-clause-ranges
assign-requires-clause-ranges c = rw c.in_ok-sets.ensures (nulls_in_range (definition c.args.table.now) c.args.columns.items)
