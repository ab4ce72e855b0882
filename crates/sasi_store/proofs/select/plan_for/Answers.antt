use Rattle.std.proofs.Common.{map, ap, sym, subst, ◌∙◌}
use Rattle.std.proofs.lemmas.Result.{err_from_is_err_and}
use Rattle.sasi_manifest.specs.declared.listed.ListedTable.{ListedTable}
use Rattle.sasi_manifest.specs.declared.listing.Listing.{Listing}
use Rattle.sasi_schema.specs.Defined.{definition}
use Rattle.sasi_machine.specs.Classes.{TableLacks}
use Rattle.sasi_machine.specs.Operands.{CanSelect}
use Rattle.sasi_store.proofs.Selecting.{can_ask, none_lacks, only_memory, planned}
use Rattle.sasi_store.proofs.select.plan_for.Goals as goal

pub new-requires : goal.new-requires
new-requires g c =
    let seen = c.as_slice.ensures.tables ∙ ap (λ (l : Listing). l.tables) c.listing-listing.ensures.listing in
    subst (λ (row : ListedTable). CanSelect (definition row.table) c.args.rows.now.select) c.index-as_slice-index.is
    (can_ask (g.H.Host.view c.args.host.now) c.args.parts.now c.requires.ready c.args.rows.now c.requires.there c.as_slice.result.now seen c.index-as_slice-index.result c.index-as_slice-index.is)

pub returns-in_err-plan-clause-memory : goal.returns-in_err-plan-clause-memory
returns-in_err-plan-clause-memory g c =
    let seen = c.as_slice.ensures.tables ∙ ap (λ (l : Listing). l.tables) c.listing-listing.ensures.listing in
    let p = err_from_is_err_and c.from_residual.result c.from_residual.ensures.1 in
    rw (p.1, p.2) (only_memory _ c.in_err-plan.field-0.0 c.in_err-plan.ensures.missing (λ class lacks.
    none_lacks (g.H.Host.view c.args.host.now) c.args.parts.now c.requires.ready c.args.rows.now c.requires.there c.as_slice.result.now seen c.index-as_slice-index.result c.index-as_slice-index.is _ c.requires.classes class
    (subst (λ (row : ListedTable). TableLacks (map (λ b. (goal.Analyzer-dyn g (b.vtable, b.value)).kind b.value) c.args.kit.now.objects.items) (definition row.table) class) (sym c.index-as_slice-index.is) lacks)))

pub returns-clause-plan : goal.returns-clause-plan
returns-clause-plan g c =
    let e = c.in_ok-plan.ensures in
    let seen = c.as_slice.ensures.tables ∙ ap (λ (l : Listing). l.tables) c.listing-listing.ensures.listing in
    planned (g.H.Host.view c.args.host.now) c.args.parts.now c.requires.ready c.args.rows.now c.requires.there c.as_slice.result.now seen c.index-as_slice-index.result c.index-as_slice-index.is c.in_ok-plan.plan _ c.index-as_slice-index.is
    e.key e.columns e.limit e.conditions e.types _ (ap (λ (l : Listing). l.partitioner) c.listing-listing.ensures.listing) e.source e.asked

pub returns-clause-known : goal.returns-clause-known
returns-clause-known g c class lacks =
    let seen = c.as_slice.ensures.tables ∙ ap (λ (l : Listing). l.tables) c.listing-listing.ensures.listing in
    none_lacks (g.H.Host.view c.args.host.now) c.args.parts.now c.requires.ready c.args.rows.now c.requires.there c.as_slice.result.now seen c.index-as_slice-index.result c.index-as_slice-index.is _ c.requires.classes class
    (subst (λ (row : ListedTable). TableLacks (map (λ b. (goal.Analyzer-dyn g (b.vtable, b.value)).kind b.value) c.args.kit.now.objects.items) (definition row.table) class) (sym c.index-as_slice-index.is) (c.in_ok-plan.ensures.classes _ class lacks))
