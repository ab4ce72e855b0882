use Rattle.std.proofs.Common.{◌≡◌, ◌+◌, length, refl, sym, ◌∙◌, subst, arith}
use Rattle.std.proofs.lemmas.Result.{err_from_is_err_and}
use Rattle.sasi_host.specs.declared.name.FileName.{FileName}
use Rattle.std.proofs.lemmas.List.{take_all}
use Rattle.sasi_host.specs.Names.{Bytes}
use Rattle.sasi_host.specs.Damages.{HasAt}
use Rattle.sasi_host.proofs.Offsets.{window_at}
use Rattle.sasi_tokentree.specs.declared.node_read.Node.{Node}
use Rattle.sasi_tokentree.specs.Reads.{IsInNode}
use Rattle.sasi_tokentree.proofs.NodeReads.{node_head, no_false_early, header_ends, node_shown}
use Rattle.sasi_tokentree.proofs.node_read.read_header.Goals as goal

pub returns-in_err-read_into-clause-undamaged : goal.returns-in_err-read_into-clause-undamaged
returns-in_err-read_into-clause-undamaged g c =
    let p = err_from_is_err_and c.from_residual.result c.from_residual.ensures.1 in
    rw (p.1, p.2) (no_false_early (g.H.Host.view c.args.host.now) c.args.buffered.now.file c.args.node.level c.args.node.at c.args.node.count (c.args.node.at + length c.args.out.now)
    c.in_err-read_into.field-0.0 (omega (arith, c.requires.length)) c.in_err-read_into.ensures.damaged)

pub returns-in_err-read_into-clause-damaged : goal.returns-in_err-read_into-clause-damaged
returns-in_err-read_into-clause-damaged g c =
    let p = err_from_is_err_and c.from_residual.result c.from_residual.ensures.1 in
    let node : Node = c.args.node in
    rw (p.1, p.2) (header_ends (λ n. n ≡ node) (g.H.Host.view c.args.host.now) c.args.buffered.now.file (c.args.node.at + length c.args.out.now) node
    c.in_err-read_into.field-0.0 refl (omega (arith, c.requires.length)) c.in_err-read_into.ensures.damaged)

pub returns-in_err-check_header-clause-damaged : goal.returns-in_err-check_header-clause-damaged
returns-in_err-check_header-clause-damaged g c =
    let p = err_from_is_err_and c.from_residual-in_err-check_header.result c.from_residual-in_err-check_header.ensures.1 in
    let name : c.file.result ≡ c.args.buffered.now.file = c.file.ensures ∙ c.read_into.ensures.file in
    rw (p.1, p.2) (λ bytes is. node_shown c.args.buffered.now.file bytes c.args.node.at c.read_into.new.out c.args.node.level c.args.node.count c.in_err-check_header.field-0.0
    (window_at bytes c.read_into.new.out c.args.node.at (length c.args.out.now) (c.in_ok-read_into.ensures.ok bytes is)
    (c.in_ok-read_into.ensures.within bytes is (omega (arith, c.requires.length))))
    (subst (λ (f : FileName). IsInNode f c.args.node.at c.read_into.new.out c.args.node.level c.args.node.count c.in_err-check_header.field-0.0) name
    c.in_err-check_header.ensures.seen))

pub returns-in_err-check_header-clause-undamaged : goal.returns-in_err-check_header-clause-undamaged
returns-in_err-check_header-clause-undamaged g c =
    let p = err_from_is_err_and c.from_residual-in_err-check_header.result c.from_residual-in_err-check_header.ensures.1 in
    rw (p.1, p.2) (λ bytes entries is has long. c.in_err-check_header.ensures.differs (node_head bytes c.read_into.new.out c.args.node.level c.args.node.at c.args.node.count entries has long
    (window_at bytes c.read_into.new.out c.args.node.at (length c.args.out.now) (c.in_ok-read_into.ensures.ok bytes is)
    (c.in_ok-read_into.ensures.within bytes is (omega (arith, c.requires.length)))) (omega (arith, c.requires.length))))

pub returns-clause-is : goal.returns-clause-is
returns-clause-is g c bytes is =
    let out = c.read_into.new.out in
    subst (λ (l : Bytes). HasAt bytes c.args.node.at l) (sym (take_all 8 out (omega (arith, c.requires.length))) ∙ c.in_ok-check_header.ensures.ok)
    (window_at bytes out c.args.node.at (length c.args.out.now) (c.in_ok-read_into.ensures.ok bytes is) (c.in_ok-read_into.ensures.within bytes is (omega (arith, c.requires.length))))
