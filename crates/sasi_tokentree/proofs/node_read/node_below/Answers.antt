use Rattle.std.proofs.Common.{◌≡◌, ◌∙◌, subst}
use Rattle.std.proofs.lemmas.Result.{err_from_is_err_and}
use Rattle.sasi_host.specs.declared.name.FileName.{FileName}
use Rattle.sasi_tokentree.specs.Reads.{IsInNode}
use Rattle.sasi_tokentree.proofs.NodeReads.{node_shown}
use Rattle.sasi_tokentree.proofs.NodeCounts.{counts_there}
use Rattle.sasi_tokentree.proofs.node_read.node_below.Goals as goal

pub returns-in_err-below-clause-damaged : goal.returns-in_err-below-clause-damaged
returns-in_err-below-clause-damaged g c =
    let p = err_from_is_err_and c.from_residual-in_err-below.result c.from_residual-in_err-below.ensures.1 in
    let name : c.file.result ≡ c.args.buffered.now.file = c.file.ensures ∙ c.read_node.ensures.read.file in
    rw (p.1, p.2) (λ bytes is. node_shown c.args.buffered.now.file bytes c.args.at c.read_node.new.out c.args.level c.args.count c.in_err-below.field-0.0
    (c.in_ok-read_node.ensures.is bytes is) (subst (λ (f : FileName). IsInNode f c.args.at c.read_node.new.out c.args.level c.args.count
    c.in_err-below.field-0.0) name (c.in_err-below.ensures.seen c.args.level c.in_ok-read_node.ensures.header)))

pub returns-in_err-below-clause-undamaged : goal.returns-in_err-below-clause-undamaged
returns-in_err-below-clause-undamaged g c =
    let p = err_from_is_err_and c.from_residual-in_err-below.result c.from_residual-in_err-below.ensures.1 in
    rw (p.1, p.2) (λ bytes entries is has long. c.in_err-below.ensures.no_false_damage c.args.level entries has.fit has.rising
    (c.in_ok-read_node.ensures.ok bytes entries is has long))

pub returns-clause-ok : goal.returns-clause-ok
returns-clause-ok g c bytes entries is has long = c.in_ok-below.ensures.ok c.args.level entries has.fit has.rising (c.in_ok-read_node.ensures.ok bytes entries is has long)

pub returns-clause-counts : goal.returns-clause-counts
returns-clause-counts g c bytes is =
    counts_there bytes c.args.at c.read_node.new.out c.args.level c.args.count c.args.token c.in_ok-below.below (c.in_ok-read_node.ensures.is bytes is)
    (c.in_ok-below.ensures.counts c.args.level c.in_ok-read_node.ensures.header)
