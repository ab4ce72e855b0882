use Rattle.std.proofs.Common.{◌≡◌, List, [], IfOk, map, unwrap_or, ap, sym, subst, ◌∙◌}
use Rattle.std.specs.Option.{option_map}
use Rattle.sasi_types.specs.declared.relation.Relation.{Relation}
use Rattle.sasi_model.specs.Abbreviations.{first_refusal}
use Rattle.sasi_model.specs.Refusals.{no_column}
use Rattle.sasi_schema.proofs.RuleLaws.{first_before}
use Rattle.sasi_schema.specs.Defined.{definition}
use Rattle.sasi_machine.specs.Checks.{after_columns_rules}
use Rattle.sasi_machine.specs.Refusal.{refusal_of}
use Rattle.sasi_machine.proofs.Passed.{refusal_behind}
use Rattle.sasi_machine.proofs.select_refusal.answer_refusal.Goals as goal

pub returns-in-Some-clause-refusal : goal.returns-in-Some-clause-refusal
returns-in-Some-clause-refusal g c =
    let d = definition c.args.table.now in
    let select = c.args.select.now in
    sym (first_before (map (no_column d) (unwrap_or select.columns [])) (after_columns_rules d select.limit select.filtering select.relations) (refusal_of c.in-Some.refusal) (sym c.in_ok-refusal.ensures ∙ ap (option_map refusal_of) c.in-Some.is))

pub returns-clause-refusal : goal.returns-clause-refusal
returns-clause-refusal g c =
    let d = definition c.args.table.now in
    let select = c.args.select.now in
    refusal_behind (map (no_column d) (unwrap_or select.columns [])) (after_columns_rules d select.limit select.filtering select.relations) c.where_refusal.result (sym c.in_ok-refusal.ensures ∙ ap (option_map refusal_of) c.in_default.is)
    (subst (λ (rs : List Relation). IfOk c.where_refusal.result (λ refusal. option_map refusal_of refusal ≡ first_refusal (after_columns_rules d select.limit select.filtering rs))) (c.deref.ensures.value ∙ c.in_ok-relations.ensures) c.where_refusal.ensures.refusal)
