use Rattle.std.proofs.Common.{ℕ, ◌+◌, ◌-◌, ◌*◌, ◌<◌, ◌∙◌, ap, arith, drop, sym}
use Rattle.sasi_segments.specs.Prefixes.{joined}
use Rattle.sasi_segments.proofs.Prefixes.{all_joined, has_room, joins_at, stays_below}
use Rattle.sasi_segments.proofs.gathered.prefix_of.Goals as goal

pub overflow_mul-prefix : goal.overflow_mul-prefix
overflow_mul-prefix c = omega (arith, has_room c.loop-i.i c.loop-i.prefix 0 c.loop-i-test.true c.loop-i.invariant.0 (omega arith))

pub overflow_add-prefix : goal.overflow_add-prefix
overflow_add-prefix c =
    let byte : c.from.result < 256 = omega (arith, c.from.ensures, c.byte_or_zero.type_inv) in
    omega (arith, has_room c.loop-i.i c.loop-i.prefix c.from.result c.loop-i-test.true c.loop-i.invariant.0 byte)

pub loop-i-preserved : goal.loop-i-preserved
loop-i-preserved c =
    let byte : c.from.result < 256 = omega (arith, c.from.ensures, c.byte_or_zero.type_inv) in
    let next = λ (b : ℕ). joined (c.loop-i.prefix * 256 + b) (8 - (c.loop-i.i + 1)) (drop (c.loop-i.i + 1) c.args.bytes.now) in (
      stays_below c.loop-i.i c.loop-i.prefix c.from.result c.loop-i.invariant.0 byte,
      ap next (c.from.ensures ∙ c.byte_or_zero.ensures) ∙ sym (joins_at c.loop-i.i c.loop-i.prefix c.args.bytes.now c.loop-i-test.true) ∙ c.loop-i.invariant.1,
    )

pub returns : goal.returns
returns c = all_joined c.loop-i.i c.loop-i.prefix c.args.bytes.now c.loop-i-test.false c.loop-i.auto.i-end c.loop-i.invariant.1
