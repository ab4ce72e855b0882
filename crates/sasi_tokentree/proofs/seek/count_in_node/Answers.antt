use Rattle.std.proofs.Common.{◌≡◌, ℕ, ◌+◌, ◌-◌, ◌*◌, min, subst, arith}
use Rattle.std.proofs.lemmas.Result.{err_from_is_err_and}
use Rattle.sasi_tokentree.specs.Format.{entries_of_node}
use Rattle.sasi_tokentree.specs.Damages.{IsNodeFrom}
use Rattle.sasi_tokentree.specs.Reads.{CountsInNode}
use Rattle.sasi_tokentree.proofs.NodeReads.{shown_more, node_of_level}
use Rattle.sasi_tokentree.proofs.StoredLevels.{stands_node}
use Rattle.sasi_tokentree.proofs.Seeks.{part_size, no_false_part, reached_in_node}
use Rattle.sasi_tokentree.proofs.seek.count_in_node.Goals as goal

pub returns-in_err-below-clause-undamaged : goal.returns-in_err-below-clause-undamaged
returns-in_err-below-clause-undamaged g c =
    let p = err_from_is_err_and c.from_residual.result c.from_residual.ensures.1 in
    rw (p.1, p.2) (no_false_part (g.H.Host.view c.args.host.now) c.args.buffered.now.file c.args.level c.args.at c.args.count c.args.node c.min-here.result
    c.in_err-below.field-0.0 c.requires.node (omega arith) c.in_err-below.ensures.undamaged)

pub returns-in_err-below-clause-damaged : goal.returns-in_err-below-clause-damaged
returns-in_err-below-clause-damaged g c =
    let p = err_from_is_err_and c.from_residual.result c.from_residual.ensures.1 in
    rw (p.1, p.2) (shown_more _ (λ n. IsNodeFrom n c.args.level c.args.at c.args.count) (g.H.Host.view c.args.host.now) c.args.buffered.now.file c.in_err-below.field-0.0
    (node_of_level c.args.level c.args.at c.args.count c.args.node c.min-here.result c.requires.node (omega arith)) c.in_err-below.ensures.damaged)

pub returns-clause-ok : goal.returns-clause-ok
returns-clause-ok g c bytes entries is stands long =
    c.in_ok-below.ensures.ok bytes (entries_of_node entries c.args.node) is (stands_node bytes c.args.level c.args.at entries c.args.node stands
    (omega (arith, long))) (part_size entries c.args.node c.args.count c.min-here.result long (omega arith))

pub returns-clause-reached : goal.returns-clause-reached
returns-clause-reached g c bytes is many =
    reached_in_node bytes c.args.at c.args.count c.args.node c.min-here.result c.in_ok-below.below many c.in_ok-below.ensures.within (omega arith) (c.in_ok-below.ensures.whole bytes is)

pub returns-clause-counts : goal.returns-clause-counts
returns-clause-counts g c bytes is =
    let size : c.min-here.result ≡ min (c.args.count - 255 * c.args.node) 255 = omega arith in
    subst (λ (n : ℕ). CountsInNode bytes c.args.level (c.args.at + 4088 * c.args.node) n c.args.token c.in_ok-below.below) size (c.in_ok-below.ensures.counts bytes is)
