use Rattle.std.proofs.Common.{◌≡◌, ℕ, ◌+◌, ◌*◌, ◌-◌, ◌/◌, min, Ok, Err, subst, arith}
use Rattle.std.proofs.lemmas.Result.{err_from_is_err_and}
use Rattle.sasi_types.specs.declared.tree.Pair.{Pair}
use Rattle.sasi_host.specs.Damages.{HasAt}
use Rattle.sasi_host.specs.View.{ReadCost}
use Rattle.sasi_tokentree.specs.Format.{entry, node_header}
use Rattle.sasi_tokentree.proofs.EntryPages.{first_pages}
use Rattle.sasi_tokentree.proofs.LeafPairs.{no_false_short}
use Rattle.sasi_tokentree.proofs.pair_scan.read_pair.Goals as goal

pub returns-in_err-first-clause-causes : goal.returns-in_err-first-clause-causes
returns-in_err-first-clause-causes g c =
    let p = err_from_is_err_and c.from_residual.result c.from_residual.ensures.1 in
    rw (p.1, p.2) (subst (λ (n : ℕ). ReadCost {T = Pair} n (g.H.Host.view c.args.host.now) (g.H.Host.view c.read_first.new.host) (Err c.in_err-first.field-0.0))
    (first_pages c.args.buffered.now.page c.args.at c.args.index (omega arith)) c.in_err-first.ensures.causes)

pub returns-then-index-eq0-clause-stands : goal.returns-then-index-eq0-clause-stands
returns-then-index-eq0-clause-stands g c bytes is =
    subst (λ (n : ℕ). HasAt bytes n (entry c.in_ok-first.first)) (omega arith) (c.in_ok-first.ensures.stands bytes is)

pub returns-then-index-eq0-clause-header : goal.returns-then-index-eq0-clause-header
returns-then-index-eq0-clause-header g c leaf at bytes is =
    let here : c.args.index / 255 ≡ leaf = omega (arith, at) in
    subst (λ (n : ℕ). HasAt bytes (c.args.at + 4088 * n) (node_header 0 (min (c.args.pairs - 255 * n) 255))) here (c.in_ok-first.ensures.header bytes is)

pub returns-then-index-eq0-clause-causes : goal.returns-then-index-eq0-clause-causes
returns-then-index-eq0-clause-causes g c =
    subst (λ (n : ℕ). ReadCost n (g.H.Host.view c.args.host.now) (g.H.Host.view c.read_first.new.host) (Ok c.in_ok-first.first))
    (first_pages c.args.buffered.now.page c.args.at c.args.index (omega arith)) c.in_ok-first.ensures.causes

pub returns-in_err-pair-clause-undamaged : goal.returns-in_err-pair-clause-undamaged
returns-in_err-pair-clause-undamaged g c =
    let p = err_from_is_err_and c.from_residual-in_err-pair.result c.from_residual-in_err-pair.ensures.1 in
    rw (p.1, p.2) (no_false_short (g.H.Host.view c.args.host.now) c.args.buffered.now.file c.args.at c.args.pairs c.args.index c.in_err-pair.field-0.0 c.requires.within c.in_err-pair.ensures.damaged)
