use Rattle.std.proofs.Common.{◌≡◌, ℕ, ◌+◌, ◌-◌, ◌*◌, take, drop, ap, ◌∙◌, arith}
use Rattle.sasi_tokentree.proofs.NodeParts.{entry_at, entry_reads}
use Rattle.sasi_tokentree.proofs.node_decode.entry_in.Goals as goal

pub returns-clause-stands : goal.returns-clause-stands
returns-clause-stands c = entry_at c.args.bytes.now (8 + 16 * c.args.index) _ _ _ _ (omega arith) (omega arith) (omega (arith, c.requires)) c.number_in.ensures c.number_in-2.ensures

pub returns-clause-is : goal.returns-clause-is
returns-clause-is c level entries fit is =
    let at = 8 + 16 * c.args.index in
    let one : at + 8 - at ≡ 8 = omega arith in
    let two : at + 16 - (at + 8) ≡ 8 = omega arith in
    entry_reads c.args.bytes.now level entries c.args.index _ _ fit is c.requires c.number_in.type_inv c.number_in-2.type_inv
    (c.number_in.ensures ∙ ap (λ (n : ℕ). take n (drop at c.args.bytes.now)) one) (c.number_in-2.ensures ∙ ap (λ (n : ℕ). take n (drop (at + 8) c.args.bytes.now)) two)
