use Rattle.std.proofs.Common.{◌∙◌, ap, map, List}
use Rattle.sasi_manifest.specs.declared.listed.ListedTable.{ListedTable}
use Rattle.sasi_manifest.specs.ListedTables.{listed}
use Rattle.sasi_manifest.proofs.Additions.{in_order_same}
use Rattle.sasi_manifest.proofs.listed.ListedTables.copy.Goals as goal

pub invariant_of-result : goal.invariant_of-result
invariant_of-result c =
    in_order_same c.self.inside.items.items c.in_ok-items.items.items c.self.invariant (c.in_ok-items.ensures.same ∙ ap (λ (l : List ListedTable). map listed l) c.deref.ensures.value)
    (c.in_ok-items.ensures.numbers ∙ ap (λ (l : List ListedTable). map (λ t. t.table.number) l) c.deref.ensures.value)
