use Rattle.sasi_engine.proofs.Adding.{InMapLoop}
use Rattle.sasi_engine.proofs.part_plan.add_map.Given as goal

abbrev pub invariant-loop-relation : goal.invariant-loop-relation
invariant-loop-relation l = InMapLoop l.relations l.table_map l.at l.relation-index l.found.items l.positions.items l.fn.streams l.streams
