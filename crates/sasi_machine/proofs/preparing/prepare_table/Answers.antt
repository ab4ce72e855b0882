use Rattle.sasi_machine.proofs.preparing.prepare_table.Goals as goal

pub returns : goal.returns
returns c = rw (c.as_slice.ensures.value, c.in_ok-keys.ensures, c.in_ok-columns.ensures) at c.prepare_definition.ensures
