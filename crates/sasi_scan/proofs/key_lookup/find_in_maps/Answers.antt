use Rattle.std.proofs.Common.{ap, ◌∙◌, arith}
use Rattle.sasi_cells.specs.Maps.{joined}
use Rattle.sasi_scan.proofs.KeyLookups.{maps_end, maps_next}
use Rattle.sasi_scan.proofs.key_lookup.find_in_maps.Goals as goal

pub loop-position-preserved : goal.loop-position-preserved
loop-position-preserved c =
    let on = c.loop-position.invariant in
    record {
      found = maps_next c.args.key.now c.args.maps.now c.loop-position.position c.loop-position.all c.join.new.found _ (omega (arith, on.end, c.loop-position-test.true)) (c.in_ok-join.ensures ∙ ap (joined c.loop-position.all) c.in_ok-part.ensures) on.found;
      end = on.end;
    }

pub returns : goal.returns
returns c = maps_end c.args.key.now c.args.maps.now c.loop-position.position c.loop-position.all _ (omega (arith, c.loop-position.invariant.end, c.loop-position-test.false)) c.loop-position.invariant.found
