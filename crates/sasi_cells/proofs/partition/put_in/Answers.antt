use Rattle.std.proofs.Common.{◌∙◌}
use Rattle.sasi_cells.proofs.Partitions.{set_at, inserted_at}
use Rattle.sasi_cells.proofs.partition.put_in.Goals as goal

pub returns-in-Ok-clause-ok : goal.returns-in-Ok-clause-ok
returns-in-Ok-clause-ok c =
    set_at _ _ c.args.column c.in-Ok.at c.new.result c.args.cell c.requires c.deref.ensures.value c.in-Ok.ensures.found c.new.ensures

pub returns-in_ok-insert-in-Err-clause-ok : goal.returns-in_ok-insert-in-Err-clause-ok
returns-in_ok-insert-in-Err-clause-ok c =
    c.in_ok-insert-in-Err.ensures.items
    ∙ inserted_at _ _ c.args.column c.in-Err.at c.new-in-Err.result c.args.cell c.deref.ensures.value c.in-Err.ensures.absent c.new-in-Err.ensures
