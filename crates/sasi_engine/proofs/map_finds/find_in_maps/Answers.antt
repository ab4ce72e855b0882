use Rattle.std.proofs.Common.{refl, ap, ◌∙◌, arith}
use Rattle.sasi_cells.specs.Maps.{joined}
use Rattle.sasi_engine.proofs.MapFinding.{numbers_end, numbers_next}
use Rattle.sasi_engine.proofs.map_finds.find_in_maps.Goals as goal

pub loop-number-init : goal.loop-number-init
loop-number-init c = refl

pub loop-number-preserved : goal.loop-number-preserved
loop-number-preserved c =
    numbers_next c.args.key.now c.args.maps.now c.args.numbers.now c.loop-number.number-index _ c.loop-number.all c.join.new.found _ c.loop-number-test.true (c.in_ok-join.ensures ∙ ap (joined c.loop-number.all) c.in_ok-part.ensures) c.loop-number.invariant

pub returns : goal.returns
returns c = numbers_end c.args.key.now c.args.maps.now c.args.numbers.now c.loop-number.number-index c.loop-number.all _ (omega (arith, c.loop-number-test.false)) c.loop-number.invariant
