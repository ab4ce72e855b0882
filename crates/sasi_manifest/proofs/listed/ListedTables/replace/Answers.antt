use Rattle.std.proofs.Common.{◌≤◌, List, length, sym, subst}
use Rattle.sasi_manifest.specs.ListedDefinition.{ListedDefinition}
use Rattle.sasi_manifest.proofs.Additions.{in_order_replaced, listed_replaced}
use Rattle.sasi_manifest.proofs.listed.ListedTables.replace.Goals as goal

pub invariant_of-self : goal.invariant_of-self
invariant_of-self c =
    in_order_replaced c.args.table c.args.removed.now c.args.added.now c.args.since c.self.inside.items.items c.replace_at.new.tables.items c.replace_at.result c.self.invariant c.requires.some
    (subst (λ (l : List ListedDefinition). c.args.table ≤ length l) (sym c.self.view_is) c.requires.within) c.replace_at.ensures.ok c.replace_at.ensures.err

pub returns-clause-ok : goal.returns-clause-ok
returns-clause-ok c =
    listed_replaced c.args.table c.args.removed.now c.args.added.now c.args.since c.self.inside.items.items c.replace_at.new.tables.items c.args.self.now c.replace_at.result c.self.view_is c.requires.some c.requires.within c.replace_at.ensures.ok
