use Rattle.sasi_engine.proofs.Adding.{InFileLoop}
use Rattle.sasi_engine.proofs.part_plan.add_indexes.Given as goal

abbrev pub invariant-loop-relation : goal.invariant-loop-relation
invariant-loop-relation l = InFileLoop l.relations l.number l.parts l.at l.keys l.relation-index l.indexed.items l.positions.items l.fn.streams l.streams
