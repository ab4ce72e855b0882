use Rattle.std.proofs.Common.{◌≡◌, ℕ, length, arith, subst}
use Rattle.sasi_cql.proofs.Placing.{Counted, counted_all}
use Rattle.sasi_cql.proofs.offset.count_tokens.Goals as goal

pub returns : goal.returns
returns c =
    let all : c.tokens.count ≡ length c.args.text.now = omega (arith, c.tokens.auto.count-end, c.tokens-test.false) in
    counted_all c.args.text.now c.tokens.left.now c.tokens.unclosed (subst (λ (n : ℕ). Counted c.args.text.now n c.tokens.left.now c.tokens.unclosed) all c.tokens.invariant)
