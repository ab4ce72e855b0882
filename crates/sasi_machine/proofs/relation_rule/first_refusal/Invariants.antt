use Rattle.std.proofs.Common.{◌≡◌, List, map, drop}
use Rattle.std.specs.List.{flat_map}
use Rattle.sasi_model.specs.Abbreviations as model
use Rattle.sasi_model.specs.Refusals.{RefusalRule}
use Rattle.sasi_schema.specs.Defined.{definition}
use Rattle.sasi_machine.specs.Rules.{relation_rule}
use Rattle.sasi_machine.specs.declared.relation_rule.RelationRule.{RelationRule}
use Rattle.sasi_machine.proofs.relation_rule.first_refusal.Given as goal

-- the rules so far pass all relations
abbrev pub invariant-loop-rule : goal.invariant-loop-rule
invariant-loop-rule g l =
    let tried : List RelationRule → List RefusalRule = λ rules. flat_map (λ rule. map (relation_rule rule (definition l.table)) l.relations) rules in
    record {
      passed : model.first_refusal (tried l.rules) ≡ model.first_refusal (tried (drop l.rule-index l.rules));
      kinds : map (λ b. (goal.Analyzer-dyn g (b.vtable, b.value)).kind b.value) l.kit.objects.items ≡ map (λ b. (goal.Analyzer-dyn g (b.vtable, b.value)).kind b.value) l.fn.kit.objects.items;
    }
