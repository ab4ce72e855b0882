use Rattle.std.proofs.Common.{◌≡◌, ℕ, ◌+◌, ◌*◌, ◌-◌, min, subst, refl, arith}
use Rattle.std.proofs.lemmas.Result.{err_from_is_err_and}
use Rattle.sasi_host.specs.Damages.{HasAt}
use Rattle.sasi_tokentree.specs.Format.{node_header}
use Rattle.sasi_tokentree.specs.Damages.{IsNodeFrom}
use Rattle.sasi_tokentree.specs.declared.node_read.Node.{Node}
use Rattle.sasi_tokentree.proofs.NodeReads.{end_or_more, node_of_level}
use Rattle.sasi_tokentree.proofs.Seeks.{no_false_part}
use Rattle.sasi_tokentree.proofs.pair_scan.read_first.Goals as goal

pub returns-in_err-pair-clause-damaged : goal.returns-in_err-pair-clause-damaged
returns-in_err-pair-clause-damaged g c =
    let p = err_from_is_err_and c.from_residual.result c.from_residual.ensures.1 in
    let place = c.args.at + 4088 * c.args.leaf in
    let node : Node = record { level = 0; at = place; count = c.min-left.result } in
    rw (p.1, p.2) (end_or_more (λ n. n ≡ node) (λ n. IsNodeFrom n 0 c.args.at c.args.pairs) (g.H.Host.view c.args.host.now) c.args.buffered.now.file (place + 24) (place + 24)
    c.in_err-pair.field-0.0 refl (node_of_level 0 c.args.at c.args.pairs c.args.leaf c.min-left.result c.requires.within (omega arith)) c.in_err-pair.ensures.damaged)

pub returns-in_err-pair-clause-undamaged : goal.returns-in_err-pair-clause-undamaged
returns-in_err-pair-clause-undamaged g c =
    let p = err_from_is_err_and c.from_residual.result c.from_residual.ensures.1 in
    rw (p.1, p.2) (no_false_part (g.H.Host.view c.args.host.now) c.args.buffered.now.file 0 c.args.at c.args.pairs c.args.leaf c.min-left.result
    c.in_err-pair.field-0.0 c.requires.within (omega arith) c.in_err-pair.ensures.undamaged)

pub returns-clause-header : goal.returns-clause-header
returns-clause-header g c bytes is =
    let here : c.min-left.result ≡ min (c.args.pairs - 255 * c.args.leaf) 255 = omega arith in
    subst (λ (n : ℕ). HasAt bytes (c.args.at + 4088 * c.args.leaf) (node_header 0 n)) here (c.in_ok-pair.ensures.header bytes is)
