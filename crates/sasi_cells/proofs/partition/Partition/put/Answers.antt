use Rattle.std.proofs.Common.{◌<◌, ap, ◌∙◌, sym, subst}
use Rattle.std.proofs.lemmas.Result.{on_ok_weaker}
use Rattle.sasi_model.specs.Cells.{Partition}
use Rattle.sasi_cells.specs.Changes.{with_column}
use Rattle.sasi_cells.specs.Entries.{partition_of}
use Rattle.sasi_cells.proofs.Partitions.{put_is_insert, ordered_after_put}
use Rattle.sasi_cells.proofs.partition.Partition.put.Goals as goal

pub invariant_of-self : goal.invariant_of-self
invariant_of-self c =
    ordered_after_put c.put_in.result c.self.inside.deleted _ _ c.args.column c.args.cell c.self.invariant
    (subst (λ (p : Partition). p.deleted < c.args.cell.time) (sym c.self.view_is) c.requires) c.put_in.ensures.ok c.put_in.ensures.err

pub returns-clause-ok : goal.returns-clause-ok
returns-clause-ok c =
    on_ok_weaker c.put_in.result (λ e. ap (partition_of c.self.inside.deleted) e
    ∙ put_is_insert _ _ c.args.column c.args.cell c.self.invariant.rising ∙ ap (λ p. with_column p c.args.column c.args.cell) c.self.view_is)
    c.put_in.ensures.ok
