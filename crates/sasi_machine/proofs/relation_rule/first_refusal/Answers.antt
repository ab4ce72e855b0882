use Rattle.std.proofs.Common.{List, map, sym, ap, ◌∙◌}
use Rattle.std.specs.Option.{option_map}
use Rattle.sasi_model.specs.Refusals.{RefusalRule}
use Rattle.sasi_schema.specs.Defined.{definition}
use Rattle.sasi_machine.specs.Refusal.{refusal_of}
use Rattle.sasi_machine.specs.Rules.{relation_rule}
use Rattle.sasi_machine.specs.declared.relation_rule.RelationRule.{RelationRule}
use Rattle.sasi_machine.proofs.Passed.{group_passes, group_refuses}
use Rattle.sasi_machine.proofs.relation_rule.first_refusal.Goals as goal

pub returns-in-Some-clause-refusal : goal.returns-in-Some-clause-refusal
returns-in-Some-clause-refusal g c =
    let tried : RelationRule → List RefusalRule = λ rule. map (relation_rule rule (definition c.args.table.now)) c.args.relations.now in
    sym (group_refuses tried c.args.rules.now c.loop-rule.rule-index _ (refusal_of c.in-Some.refusal) c.loop-rule-test.true c.loop-rule.invariant.passed
    (sym c.in_ok-refusal.ensures.refusal ∙ ap (option_map refusal_of) c.in-Some.is))

pub loop-rule-preserved : goal.loop-rule-preserved
loop-rule-preserved g c =
    let tried : RelationRule → List RefusalRule = λ rule. map (relation_rule rule (definition c.args.table.now)) c.args.relations.now in
    record {
      passed = group_passes tried c.args.rules.now c.loop-rule.rule-index _ c.loop-rule-test.true c.loop-rule.invariant.passed (sym c.in_ok-refusal.ensures.refusal ∙ ap (option_map refusal_of) c.in_default.is);
      kinds = c.refusal.ensures.kinds ∙ c.loop-rule.invariant.kinds;
    }
