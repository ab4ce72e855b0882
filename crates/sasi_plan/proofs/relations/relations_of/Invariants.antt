use Rattle.std.proofs.Common.{◌≡◌, ◌++◌, map, drop}
use Rattle.std.specs.List.{AllByRecursion}
use Rattle.sasi_machine.specs.Where.{model_condition}
use Rattle.sasi_engine.specs.Asked.{asked_of}
use Rattle.sasi_plan.specs.Plans.{IsNumbered, relation_of}
use Rattle.sasi_plan.proofs.relations.relations_of.Given as goal

-- the relations so far, and those that are left
abbrev pub invariant-loop-condition : goal.invariant-loop-condition
invariant-loop-condition l = record {
  relations_are : l.relations.items ++ map (relation_of l.indexes) (asked_of (map model_condition (drop l.condition-index l.conditions))) ≡ map (relation_of l.indexes) (asked_of (map model_condition l.conditions));
  numbered : AllByRecursion (IsNumbered l.indexes) (asked_of (map model_condition (drop l.condition-index l.conditions)));
}
