use Rattle.sasi_engine.proofs.Adding.{InPartsLoop}
use Rattle.sasi_engine.proofs.plan.part_streams.Given as goal

abbrev pub invariant-loop-part : goal.invariant-loop-part
invariant-loop-part l = InPartsLoop l.relations l.parts l.types l.maps l.part-index l.files l.hits.items l.rows.items l.streams
