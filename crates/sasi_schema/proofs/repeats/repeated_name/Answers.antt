use Rattle.std.proofs.Common.{◌∙◌}
use Rattle.sasi_schema.proofs.Repeated.{repeat_past, seen_more, was_new}
use Rattle.sasi_schema.proofs.repeats.repeated_name.Goals as goal

pub loop-name-preserved : goal.loop-name-preserved
loop-name-preserved c =
    let names = c.args.names.now in
    let i = c.loop-name.name-index in
    let name = c.name-item.result in
    let copy = c.in_ok-copy.field-0 in
    record {
      seen = λ q. seen_more names i name copy q _ _ c.loop-name-test.true c.name-item.is c.in_ok-copy.ensures (c.loop-name.invariant.seen q) (c.in_ok-insert.ensures.updates.0 q);
      once = c.loop-name.invariant.once ∙ repeat_past names i name c.loop-name-test.true c.name-item.is
          (was_new names i name copy _ _ c.in_ok-copy.ensures (c.loop-name.invariant.seen copy) c.in_ok-insert.ensures.added c.if-not-branch.false);
    }
