use Rattle.std.proofs.Common.{◌+◌, ◌<◌, length, List, ap, sym, ◌∙◌, subst}
use Rattle.sasi_manifest.specs.ListedDefinition.{ListedDefinition}
use Rattle.sasi_manifest.specs.Abbreviations.{listed_names}
use Rattle.sasi_manifest.specs.Naming.{IsFree}
use Rattle.sasi_manifest.proofs.Additions.{in_order_push}
use Rattle.sasi_manifest.proofs.listed.ListedTables.push.Goals as goal

pub invariant_of-self-2 : goal.invariant_of-self-2
invariant_of-self-2 c =
    in_order_push c.self.inside.items.items c.push.new.self.items _ c.self.invariant (c.requires.number ∙ ap (λ (l : List ListedDefinition). length l + 1) (sym c.self.view_is))
    (subst (λ (l : List ListedDefinition). length l < 256) (sym c.self.view_is) c.requires.few)
    (subst (λ (l : List ListedDefinition). IsFree (listed_names l) c.args.table.name) (sym c.self.view_is) c.requires.free) c.new-files.ensures c.in_ok-push.ensures.items
