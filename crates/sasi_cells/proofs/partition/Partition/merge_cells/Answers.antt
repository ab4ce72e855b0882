use Rattle.std.proofs.Common.{ap, ◌∙◌}
use Rattle.sasi_cells.proofs.Partitions.{merged_is_ordered, merged_is_merge}
use Rattle.sasi_cells.proofs.partition.Partition.merge_cells.Goals as goal

pub invariant_of-self : goal.invariant_of-self
invariant_of-self c =
    merged_is_ordered _ c.self.inside.deleted c.other.inside.deleted c.self.inside.cells.items c.other.inside.cells.items c.replace-cells.result.items _ c.self.invariant c.other.invariant
    c.max-self-inside.ensures (ap (λ v. v.items) c.replace-cells.ensures.value) (c.shrink_to_fit.ensures.items ∙ c.merge_sorted.ensures)

pub returns-clause-ok : goal.returns-clause-ok
returns-clause-ok c =
    merged_is_merge _ c.self.inside.deleted c.other.inside.deleted c.self.inside.cells.items c.other.inside.cells.items c.replace-cells.result.items
    _ c.args.self.now c.args.other c.self.invariant c.other.invariant
    c.max-self-inside.ensures (ap (λ v. v.items) c.replace-cells.ensures.value) (c.shrink_to_fit.ensures.items ∙ c.merge_sorted.ensures) c.self.view_is c.other.view_is
