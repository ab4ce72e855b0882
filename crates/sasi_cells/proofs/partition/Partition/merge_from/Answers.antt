use Rattle.std.proofs.Common.{ap, refl, subst, sym, ◌∙◌}
use Rattle.sasi_model.specs.Cells.{IsNormal, Partition as Written, merge}
use Rattle.sasi_cells.proofs.Laws.Maps.{nothing_behind, nothing_first}
use Rattle.sasi_cells.proofs.Partitions.{ordered_is_normal}
use Rattle.sasi_cells.proofs.partition.Partition.merge_from.Goals as goal

pub returns-then-is_unwritten-clause-ok : goal.returns-then-is_unwritten-clause-ok
returns-then-is_unwritten-clause-ok c =
    let normal : IsNormal c.args.other = subst IsNormal c.other.view_is (ordered_is_normal _ _ c.other.invariant) in
    sym (ap (λ (p : Written). merge p c.args.other) (c.if-is_unwritten.ensures refl) ∙ nothing_first c.args.other ∙ nothing_behind c.args.other normal)
