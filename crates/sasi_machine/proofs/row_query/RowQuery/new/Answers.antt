use Rattle.std.proofs.Common.{List, sym, subst, ◌∙◌}
use Rattle.std.specs.List.{AllByRecursion}
use Rattle.sasi_types.specs.declared.relation.Relation.{Relation}
use Rattle.sasi_schema.specs.Defined.{definition}
use Rattle.sasi_machine.specs.Operands.{CanAsk}
use Rattle.sasi_machine.proofs.Asking.{can_ask, limit_within}
use Rattle.sasi_machine.proofs.Lacking.{where_lacks}
use Rattle.sasi_machine.proofs.Picked.{selected_by_numbers}
use Rattle.sasi_machine.proofs.row_query.RowQuery.new.Goals as goal

pub conditions_of-requires : goal.conditions_of-requires
conditions_of-requires g c =
    let d = definition c.args.table.now in
    subst (λ (rs : List Relation). AllByRecursion (CanAsk d) rs) (sym (c.deref.ensures.value ∙ c.in_ok-relations.ensures)) (can_ask d c.args.select.now c.requires)

pub returns-clause-rows : goal.returns-clause-rows
returns-clause-rows g c entries =
    let t = c.args.table.now in
    selected_by_numbers (definition t) c.args.select.now c.in_ok-picked.picked.key c.in_ok-picked.picked.columns c.new.result c.row_limit.result entries t.key_is_there c.in_ok-picked.ensures.key c.in_ok-picked.ensures.columns
    (c.new.ensures ∙ rw (c.deref.ensures.value, c.in_ok-relations.ensures) at c.in_ok-conditions.ensures.conditions) c.row_limit.ensures

pub returns-clause-classes : goal.returns-clause-classes
returns-clause-classes g c kinds class lacks =
    where_lacks (definition c.args.table.now) kinds class c.new.result c.args.select.now.relations (c.new.ensures ∙ rw (c.deref.ensures.value, c.in_ok-relations.ensures) at c.in_ok-conditions.ensures.conditions) lacks

pub row_limit-requires : goal.row_limit-requires
row_limit-requires g c = limit_within (definition c.args.table.now) c.args.select.now c.requires
