use Rattle.std.proofs.Common.{◌≡◌, map, drop}
use Rattle.sasi_machine.specs.Where.{model_condition}
use Rattle.sasi_engine.specs.KeyedHits.{agree}
use Rattle.sasi_plan.proofs.plan.agree.Given as goal

-- the conditions so far agree
abbrev pub invariant-loop-condition : goal.invariant-loop-condition
invariant-loop-condition l = agree l.key (map model_condition (drop l.condition-index l.conditions)) ≡ agree l.key (map model_condition l.conditions)
