use Rattle.std.proofs.Common.{get_or}
use Rattle.std.proofs.lemmas.Option.{slice_get-get_or}
use Rattle.sasi_tables.proofs.MergedMaps.{merged_more}
use Rattle.sasi_tables.proofs.merged_maps.merged_at.Goals as goal

pub loop-number-preserved : goal.loop-number-preserved
loop-number-preserved c =
    let at = c.loop-number in
    let n = get_or c.args.numbers.now at.number-index 0 in
    let there = slice_get-get_or c.args.numbers.now at.number-index 0 c.loop-number-test.true in
    merged_more c.args.maps.now c.args.numbers.now at.number-index n _ c.args.key.now there c.map_with.result.now c.map_with.ensures _ c.after.ensures at.part c.merge_found.new.part at.invariant c.in_ok-merge_found.ensures
