use Rattle.std.proofs.Common.{ap, sym, ◌∙◌}
use Rattle.std.specs.Option.{option_map}
use Rattle.sasi_model.specs.Refusals.{operand_rules, relation_rules}
use Rattle.sasi_schema.proofs.RuleLaws.{first_before}
use Rattle.sasi_schema.specs.Defined.{definition}
use Rattle.sasi_machine.specs.Checks.{after_operands_rules}
use Rattle.sasi_machine.specs.Refusal.{refusal_of}
use Rattle.sasi_machine.proofs.Passed.{refusal_behind}
use Rattle.sasi_machine.proofs.select_refusal.where_refusal.Goals as goal

pub returns-in-Some-clause-refusal : goal.returns-in-Some-clause-refusal
returns-in-Some-clause-refusal g c =
    let d = definition c.args.table.now in
    sym (first_before (relation_rules operand_rules d c.args.relations.now) (after_operands_rules d c.args.limit c.args.filtering c.args.relations.now) (refusal_of c.in-Some.refusal)
    (sym c.in_ok-refusal.ensures.refusal ∙ ap (option_map refusal_of) c.in-Some.is))

pub returns-in-None-clause-refusal : goal.returns-in-None-clause-refusal
returns-in-None-clause-refusal g c =
    let d = definition c.args.table.now in
    refusal_behind (relation_rules operand_rules d c.args.relations.now) (after_operands_rules d c.args.limit c.args.filtering c.args.relations.now) c.limit_refusal.result
    (sym c.in_ok-refusal.ensures.refusal ∙ ap (option_map refusal_of) c.in-None.is) c.limit_refusal.ensures.refusal
