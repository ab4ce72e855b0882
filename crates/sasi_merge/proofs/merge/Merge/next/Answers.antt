use Rattle.std.proofs.Common.{None, ap, sym, ◌∙◌}
use Rattle.sasi_merge.specs.Least.{least_from}
use Rattle.sasi_merge.proofs.LeastKeys.{none_left, none_mapped, some_mapped}
use Rattle.sasi_merge.proofs.merge.Merge.next.Goals as goal

pub returns-in-None : goal.returns-in-None
returns-in-None c = none_left c.args.heads.now (ap (least_from None) (sym c.as_slice-heads.ensures) ∙ none_mapped _ _ _ c.in-None.is c.least.ensures)

pub merge_of-requires : goal.merge_of-requires
merge_of-requires c = some_mapped _ _ _ _ c.in-Some.is c.least.ensures
