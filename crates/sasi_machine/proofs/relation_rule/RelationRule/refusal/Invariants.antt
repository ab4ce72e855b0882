use Rattle.std.proofs.Common.{◌≡◌, map, drop}
use Rattle.std.specs.List.{AllByRecursion}
use Rattle.sasi_model.specs.Abbreviations.{first_refusal}
use Rattle.sasi_model.specs.WellFormed.{IsWellFormedRelation}
use Rattle.sasi_schema.specs.Defined.{definition}
use Rattle.sasi_machine.specs.Rules.{relation_rule}
use Rattle.sasi_machine.proofs.relation_rule.RelationRule.refusal.Given as goal

-- the rule passes the relations so far
abbrev pub invariant-loop-relation : goal.invariant-loop-relation
invariant-loop-relation g l =
    let rule = relation_rule l.self (definition l.table) in
    record {
      passed : first_refusal (map rule l.relations) ≡ first_refusal (map rule (drop l.relation-index l.relations));
      written : AllByRecursion IsWellFormedRelation (drop l.relation-index l.relations);
      kinds : map (λ b. (goal.Analyzer-dyn g (b.vtable, b.value)).kind b.value) l.kit.objects.items ≡ map (λ b. (goal.Analyzer-dyn g (b.vtable, b.value)).kind b.value) l.fn.kit.objects.items;
    }
