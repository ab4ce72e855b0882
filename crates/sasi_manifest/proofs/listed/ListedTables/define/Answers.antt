use Rattle.std.proofs.Common.{List, subst, sym}
use Rattle.sasi_schema.specs.IndexFacts.{IsIndexIn}
use Rattle.sasi_manifest.specs.ListedDefinition.{ListedDefinition}
use Rattle.sasi_manifest.specs.Listings.{listed_definitions}
use Rattle.sasi_manifest.proofs.Additions.{in_order_defined, listed_defined}
use Rattle.sasi_manifest.proofs.listed.ListedTables.define.Goals as goal

pub define_at-requires-clause-index : goal.define_at-requires-clause-index
define_at-requires-clause-index c = subst (λ (l : List ListedDefinition). IsIndexIn (listed_definitions l) c.args.def) (sym c.self.view_is) c.requires

pub invariant_of-self : goal.invariant_of-self
invariant_of-self c =
    in_order_defined c.args.def c.self.inside.items.items c.define_at.new.tables.items c.define_at.result c.self.invariant
    (subst (λ (l : List ListedDefinition). IsIndexIn (listed_definitions l) c.args.def) (sym c.self.view_is) c.requires) c.define_at.ensures.ok c.define_at.ensures.err

pub returns-clause-ok : goal.returns-clause-ok
returns-clause-ok c =
    listed_defined c.args.def c.self.inside.items.items c.define_at.new.tables.items c.args.self.now c.define_at.result c.self.view_is
    (subst (λ (l : List ListedDefinition). IsIndexIn (listed_definitions l) c.args.def) (sym c.self.view_is) c.requires) c.define_at.ensures.ok
