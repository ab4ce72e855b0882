use Rattle.std.proofs.Common.{arith}
use Rattle.sasi_engine.proofs.Adding.{all_streams, one_part}
use Rattle.sasi_engine.proofs.plan.part_streams.Goals as goal

pub loop-part-preserved : goal.loop-part-preserved
loop-part-preserved c =
    one_part c.args.relations.now c.args.parts.now c.args.types.now c.args.maps.now c.loop-part.part-index c.loop-part.files c.loop-part.hits.items c.loop-part.rows.items c.loop-part.streams c.loop-part.invariant
    c.part-item.result c.loop-part-test.true c.part-item.is _ _ c.push.new.self.items c.push-in-loop-part.new.self.items c.add_part.new.streams
    c.in_ok-plan.ensures.hits c.in_ok-plan.ensures.positions _ (omega (arith, c.len-at.ensures, c.loop-part.rows.ok.0)) c.in_ok-plan.ensures.adds c.in_ok-push.ensures.items c.in_ok-push-2.ensures.items _ c.files_with-files.ensures

pub returns-clause-streams : goal.returns-clause-streams
returns-clause-streams c =
    all_streams c.args.relations.now c.args.parts.now c.args.types.now c.args.maps.now c.loop-part.part-index c.loop-part.files c.loop-part.hits.items c.loop-part.rows.items c.loop-part.streams c.loop-part.invariant (omega (arith, c.loop-part-test.false))
