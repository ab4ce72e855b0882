use Rattle.std.proofs.Common.{◌≡◌, ℕ, List, length, take, drop, refl, sym, ◌∙◌, subst, lit≤}
use Rattle.std.proofs.lemmas.Result.{err_from_is_err_and}
use Rattle.sasi_tokentree.specs.Damages.IsHeaderPart.{the_level, a_zero, the_count, four_zeros}
use Rattle.sasi_tokentree.proofs.NodeParts.{head_in, head_part, head_level, head_zero, head_count, head_zeros, head_is}
use Rattle.sasi_tokentree.proofs.node_decode.check_header.Goals as goal

pub returns-in_err-check_part-clause-differs : goal.returns-in_err-check_part-clause-differs
returns-in_err-check_part-clause-differs c =
    let p = err_from_is_err_and c.from_residual.result c.from_residual.ensures.1 in
    rw p.1 (λ is. c.in_err-check_part.ensures.differs (head_part c.args.bytes.now c.args.level c.args.count 0 1 (lit≤ tt) is ∙ head_level c.args.level c.args.count))

pub returns-in_err-check_part-2-clause-differs : goal.returns-in_err-check_part-2-clause-differs
returns-in_err-check_part-2-clause-differs c =
    let p = err_from_is_err_and c.from_residual-in_err-check_part-2.result c.from_residual-in_err-check_part-2.ensures.1 in
    rw p.1 (λ is. c.in_err-check_part-2.ensures.differs (head_part c.args.bytes.now c.args.level c.args.count 1 1 (lit≤ tt) is ∙ head_zero c.args.level c.args.count))

pub returns-in_err-check_part-3-clause-differs : goal.returns-in_err-check_part-3-clause-differs
returns-in_err-check_part-3-clause-differs c =
    let p = err_from_is_err_and c.from_residual-in_err-check_part-3.result c.from_residual-in_err-check_part-3.ensures.1 in
    rw p.1 (λ is. c.in_err-check_part-3.ensures.differs (subst (λ (w : List ℕ). take (length w) (drop 2 c.args.bytes.now) ≡ w)
    (sym c.to_be_bytes.ensures) (head_part c.args.bytes.now c.args.level c.args.count 2 2 (lit≤ tt) is ∙ head_count c.args.level c.args.count)))

pub returns-in_err-check_part-4-clause-differs : goal.returns-in_err-check_part-4-clause-differs
returns-in_err-check_part-4-clause-differs c =
    let p = err_from_is_err_and c.from_residual-in_err-check_part-4.result c.from_residual-in_err-check_part-4.ensures.1 in
    rw p.1 (λ is. c.in_err-check_part-4.ensures.differs (head_part c.args.bytes.now c.args.level c.args.count 4 4 (lit≤ tt) is ∙ head_zeros c.args.level c.args.count))

pub returns-in_err-check_part-clause-seen : goal.returns-in_err-check_part-clause-seen
returns-in_err-check_part-clause-seen c =
    let p = err_from_is_err_and c.from_residual.result c.from_residual.ensures.1 in
    rw (p.1, p.2) (head_in c.args.file c.args.at c.args.bytes.now c.args.level c.args.count 0 _ c.in_err-check_part.field-0.0 (the_level refl refl) c.in_err-check_part.ensures.seen)

pub returns-in_err-check_part-2-clause-seen : goal.returns-in_err-check_part-2-clause-seen
returns-in_err-check_part-2-clause-seen c =
    let p = err_from_is_err_and c.from_residual-in_err-check_part-2.result c.from_residual-in_err-check_part-2.ensures.1 in
    rw (p.1, p.2) (head_in c.args.file c.args.at c.args.bytes.now c.args.level c.args.count 1 _ c.in_err-check_part-2.field-0.0 (a_zero refl refl) c.in_err-check_part-2.ensures.seen)

pub returns-in_err-check_part-3-clause-seen : goal.returns-in_err-check_part-3-clause-seen
returns-in_err-check_part-3-clause-seen c =
    let p = err_from_is_err_and c.from_residual-in_err-check_part-3.result c.from_residual-in_err-check_part-3.ensures.1 in
    rw (p.1, p.2) (head_in c.args.file c.args.at c.args.bytes.now c.args.level c.args.count 2 _ c.in_err-check_part-3.field-0.0
    (the_count refl c.to_be_bytes.ensures) c.in_err-check_part-3.ensures.seen)

pub returns-in_err-check_part-4-clause-seen : goal.returns-in_err-check_part-4-clause-seen
returns-in_err-check_part-4-clause-seen c =
    let p = err_from_is_err_and c.from_residual-in_err-check_part-4.result c.from_residual-in_err-check_part-4.ensures.1 in
    rw (p.1, p.2) (head_in c.args.file c.args.at c.args.bytes.now c.args.level c.args.count 4 _ c.in_err-check_part-4.field-0.0 (four_zeros refl refl) c.in_err-check_part-4.ensures.seen)

pub returns-clause-ok : goal.returns-clause-ok
returns-clause-ok c = head_is c.args.bytes.now c.args.level c.args.count c.in_ok-check_part.ensures.ok c.in_ok-check_part-2.ensures.ok
    (subst (λ (w : List ℕ). take (length w) (drop 2 c.args.bytes.now) ≡ w) c.to_be_bytes.ensures c.in_ok-check_part-3.ensures.ok)
    c.in_ok-check_part-4.ensures.ok
