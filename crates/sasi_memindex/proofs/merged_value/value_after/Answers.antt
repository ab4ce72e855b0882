use Rattle.std.proofs.Common.{◌∙◌, arith}
use Rattle.std.specs.Option.{option_copied, option_map}
use Rattle.sasi_memindex.proofs.MergedValues.{after_is}
use Rattle.sasi_memindex.proofs.merged_value.value_after.Goals as goal

pub returns : goal.returns
returns c =
    c.unshadowed.ensures
    ∙ after_is (option_copied c.args.old) c.args.change.now c.args.column (option_copied c.cell_in.result) (option_copied c.cell.result) (option_map (λ e. e.1) (option_copied c.newest_of-newest.result)) c.max.result
    c.cell_in.ensures c.cell.ensures c.newest_of-newest.ensures (omega (arith, c.max.ensures, c.deleted_in.ensures, c.deleted.ensures))
