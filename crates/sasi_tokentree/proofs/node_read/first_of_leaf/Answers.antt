use Rattle.std.proofs.Common.{◌≡◌, ℕ, ◌+◌, ◌*◌, ◌/◌, ◌∙◌, ap, subst, arith, inr, Some}
use Rattle.std.proofs.lemmas.Result.{err_from_is_err_and}
use Rattle.sasi_host.specs.declared.name.FileName.{FileName}
use Rattle.sasi_host.specs.Damages.{HasAt}
use Rattle.sasi_host.proofs.Offsets.{inner_at, window_at}
use Rattle.sasi_tokentree.specs.Format.{entry}
use Rattle.sasi_tokentree.specs.Reads.{IsInNode}
use Rattle.sasi_tokentree.specs.declared.node_read.Node.{Node}
use Rattle.sasi_tokentree.proofs.NodeReads.{end_or_ends, header_at, no_false_early, node_head, node_shown}
use Rattle.sasi_tokentree.proofs.node_read.first_of_leaf.Goals as goal

pub returns-in_err-read_into-clause-damaged : goal.returns-in_err-read_into-clause-damaged
returns-in_err-read_into-clause-damaged g c =
    let p = err_from_is_err_and c.from_residual.result c.from_residual.ensures.1 in
    let node : Node = record { level = 0; at = c.args.at; count = c.args.count } in
    rw (p.1, p.2) (end_or_ends (λ n. n ≡ node) (g.H.Host.view c.args.host.now) c.args.buffered.now.file _ (c.args.at + 24) c.in_err-read_into.field-0.0 (omega arith) c.in_err-read_into.ensures.damaged)

pub returns-in_err-read_into-clause-undamaged : goal.returns-in_err-read_into-clause-undamaged
returns-in_err-read_into-clause-undamaged g c =
    let p = err_from_is_err_and c.from_residual.result c.from_residual.ensures.1 in
    rw (p.1, p.2) (no_false_early (g.H.Host.view c.args.host.now) c.args.buffered.now.file 0 c.args.at c.args.count (c.args.at + 24)
    c.in_err-read_into.field-0.0 (omega (arith, c.requires.some)) c.in_err-read_into.ensures.damaged)

pub returns-in_err-check_header-clause-damaged : goal.returns-in_err-check_header-clause-damaged
returns-in_err-check_header-clause-damaged g c =
    let p = err_from_is_err_and c.from_residual-in_err-check_header.result c.from_residual-in_err-check_header.ensures.1 in
    let node : Node = record { level = 0; at = c.args.at; count = c.args.count } in
    let name : c.file.result ≡ c.args.buffered.now.file = c.file.ensures ∙ c.read_into.ensures.file in
    let f = c.in_err-check_header.field-0.0 in
    let out = c.read_into.new.out in
    rw (p.1, p.2) (λ bytes is. inr (node_shown c.args.buffered.now.file bytes c.args.at out 0 c.args.count f
    (window_at bytes out c.args.at 24 (c.in_ok-read_into.ensures.ok bytes is) (c.in_ok-read_into.ensures.within bytes is (omega arith)))
    (subst (λ (n : FileName). IsInNode n c.args.at out 0 c.args.count f) name c.in_err-check_header.ensures.seen)))

pub returns-in_err-check_header-clause-undamaged : goal.returns-in_err-check_header-clause-undamaged
returns-in_err-check_header-clause-undamaged g c =
    let p = err_from_is_err_and c.from_residual-in_err-check_header.result c.from_residual-in_err-check_header.ensures.1 in
    let out = c.read_into.new.out in
    rw (p.1, p.2) (λ bytes entries is has long. c.in_err-check_header.ensures.differs (node_head bytes out 0 c.args.at c.args.count entries has long
    (window_at bytes out c.args.at 24 (c.in_ok-read_into.ensures.ok bytes is) (c.in_ok-read_into.ensures.within bytes is (omega arith))) (omega arith)))

pub returns-clause-header : goal.returns-clause-header
returns-clause-header g c bytes is =
    let out = c.read_into.new.out in
    header_at bytes out 0 c.args.at c.args.count
    (window_at bytes out c.args.at 24 (c.in_ok-read_into.ensures.ok bytes is) (c.in_ok-read_into.ensures.within bytes is (omega arith)))
    c.in_ok-check_header.ensures.ok

pub returns-clause-stands : goal.returns-clause-stands
returns-clause-stands g c bytes is =
    let out = c.read_into.new.out in
    let has : HasAt bytes c.args.at out = window_at bytes out c.args.at 24 (c.in_ok-read_into.ensures.ok bytes is) (c.in_ok-read_into.ensures.within bytes is (omega arith)) in
    subst (λ (n : ℕ). HasAt bytes n (entry c.entry_in.result)) (omega arith) (inner_at bytes c.args.at out (8 + 16 * 0) (entry c.entry_in.result) has c.entry_in.ensures.stands)

pub returns-clause-page : goal.returns-clause-page
returns-clause-page g c = c.in_ok-read_into.ensures.page (omega arith) ∙ ap (λ (n : ℕ). Some (n / 4096)) (omega arith)
