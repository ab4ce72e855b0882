use Rattle.std.proofs.Common.{◌<◌, length, arith}
use Rattle.sasi_scan.proofs.Openings.{map_next_head, map_next_source, maps_end_heads, maps_end_sources}
use Rattle.sasi_scan.proofs.sources.add_maps.Goals as goal

pub loop-position-preserved : goal.loop-position-preserved
loop-position-preserved c =
    let on = c.loop-position.invariant in
    let inside : c.loop-position.position < length c.args.maps.now = omega (arith, on.end, c.loop-position-test.true) in
    record {
      heads = map_next_head c.args.maps.now c.loop-position.position inside c.in_ok-head.head c.loop-position.heads c.push.new.heads _ c.in_ok-head.ensures c.in_ok-push.ensures.heads on.heads;
      sources = map_next_source c.args.maps.now c.loop-position.position inside c.loop-position.sources.items c.push.new.sources.items _ c.in_ok-push.ensures.sources on.sources;
      end = on.end;
    }

pub returns-clause-heads : goal.returns-clause-heads
returns-clause-heads c = maps_end_heads c.args.maps.now c.loop-position.position c.loop-position.heads _ (omega (arith, c.loop-position.invariant.end, c.loop-position-test.false)) c.loop-position.invariant.heads

pub returns-clause-sources : goal.returns-clause-sources
returns-clause-sources c = maps_end_sources c.args.maps.now c.loop-position.position c.loop-position.sources.items _ (omega (arith, c.loop-position.invariant.end, c.loop-position-test.false)) c.loop-position.invariant.sources
