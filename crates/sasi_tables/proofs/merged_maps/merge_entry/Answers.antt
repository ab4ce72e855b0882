use Rattle.std.proofs.Common.{◌≡◌, OnOk, subst, sym, ◌∙◌}
use Rattle.sasi_model.specs.Cells.{Partition}
use Rattle.sasi_tables.proofs.MergedMaps.{at_key}
use Rattle.sasi_tables.proofs.merged_maps.merge_entry.Goals as goal

pub returns-then-is_same : goal.returns-then-is_same
returns-then-is_same c =
    subst (λ (p : Partition). OnOk c.merge.result (c.merge.new.self ≡ p)) (sym (at_key c.args.part.now c.args.key.now c.args.other.now c.args.later.now _ (sym c.is_same.ensures ∙ c.if-is_same.true))) c.merge.ensures.ok

pub returns-else-is_same : goal.returns-else-is_same
returns-else-is_same c = sym (at_key c.args.part.now c.args.key.now c.args.other.now c.args.later.now _ (sym c.is_same.ensures ∙ c.if-is_same.false))
