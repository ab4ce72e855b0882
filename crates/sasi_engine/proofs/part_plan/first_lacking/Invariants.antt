use Rattle.std.proofs.Common.{◌≡◌, drop, map}
use Rattle.sasi_engine.specs.Asked.{first_lacking}
use Rattle.sasi_engine.specs.inside.Sources.{has_part}
use Rattle.sasi_engine.proofs.part_plan.first_lacking.Given as goal

abbrev pub invariant-loop-relation : goal.invariant-loop-relation
invariant-loop-relation l = record {
  leaf_is : l.leaf ≡ l.relation-index;
  rest : first_lacking l.leaf (map (has_part l.parts) (drop l.relation-index l.relations)) ≡ first_lacking 0 (map (has_part l.parts) l.relations);
}
