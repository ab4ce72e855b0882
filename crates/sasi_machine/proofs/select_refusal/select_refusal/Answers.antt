use Rattle.std.proofs.Common.{[], Some, ◌∷◌, ap, sym, ◌∙◌}
use Rattle.std.specs.Option.{option_map}
use Rattle.sasi_model.specs.Refusals.{answer_rules, too_many_relations}
use Rattle.sasi_schema.proofs.RuleLaws.{first_before, first_behind}
use Rattle.sasi_schema.specs.Defined.{definition}
use Rattle.sasi_machine.specs.Refusal.{refusal_of}
use Rattle.sasi_machine.proofs.select_refusal.select_refusal.Goals as goal

pub returns-in-Some-clause-refusal : goal.returns-in-Some-clause-refusal
returns-in-Some-clause-refusal g c =
    let select = c.args.select.now in
    sym (first_before (answer_rules select (Some (definition c.args.table.now))) (too_many_relations select ∷ []) (refusal_of c.in-Some.refusal) (sym c.in_ok-refusal.ensures.refusal ∙ ap (option_map refusal_of) c.in-Some.is))

pub returns-in-None-clause-refusal : goal.returns-in-None-clause-refusal
returns-in-None-clause-refusal g c =
    let select = c.args.select.now in
    c.relations_refusal.ensures ∙ sym (first_behind (answer_rules select (Some (definition c.args.table.now))) (too_many_relations select ∷ []) (sym c.in_ok-refusal.ensures.refusal ∙ ap (option_map refusal_of) c.in-None.is))
