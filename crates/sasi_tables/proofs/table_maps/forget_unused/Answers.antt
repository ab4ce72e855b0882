use Rattle.std.proofs.Common.{get_or, subst, sym}
use Rattle.std.proofs.lemmas.Option.{slice_get-get_or}
use Rattle.sasi_tables.specs.Held.{AreForgottenBut}
use Rattle.sasi_tables.proofs.EachMap.{take_next, unused_none, unused_push}
use Rattle.sasi_tables.proofs.table_maps.forget_unused.Goals as goal

pub loop-number-init : goal.loop-number-init
loop-number-init c = unused_none c.args.tables.now c.args.views.now c.args.maps.now

pub loop-number-preserved : goal.loop-number-preserved
loop-number-preserved c =
    let at = c.loop-number in
    let n = get_or c.args.numbers.now at.number-index 0 in
    let there = slice_get-get_or c.args.numbers.now at.number-index 0 c.loop-number-test.true in
    subst (λ ns. AreForgottenBut c.args.tables.now c.args.views.now ns c.args.maps.now c.forget_one_unused.new.maps) (sym (take_next c.args.numbers.now at.number-index n there))
    (unused_push c.args.tables.now c.args.views.now _ n c.args.maps.now at.maps at.invariant c.forget_one_unused.new.maps c.forget_one_unused.ensures)
