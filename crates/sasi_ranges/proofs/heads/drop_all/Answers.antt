use Rattle.std.proofs.Common.{◌+◌, ◌∙◌, List, ap, slice_index_or, slice_set, arith}
use Rattle.sasi_ranges.specs.inside.Heads.{dropped}
use Rattle.sasi_ranges.proofs.Least.{mapped_all, mapped_one}
use Rattle.sasi_ranges.proofs.heads.drop_all.Goals as goal

pub loop-head-preserved : goal.loop-head-preserved
loop-head-preserved g c =
    let i = c.loop-head.head-index in
    let d = c.head-item.result in
    let new = c.drop_head.new.head in
    let f = dropped c.args.least in
    ap (λ (k : List _). slice_set k i new) c.loop-head.invariant
    ∙ mapped_one d i (i + 1) f c.args.streams.now new c.loop-head-test.true (omega arith) (c.drop_head.ensures ∙ ap (λ (k : List _). f (slice_index_or k i d)) c.loop-head.invariant)

pub returns : goal.returns
returns g c = c.loop-head.invariant ∙ mapped_all c.loop-head.head-index (dropped c.args.least) c.args.streams.now (omega (arith, c.loop-head-test.false, c.loop-head.auto.head-index-end))
