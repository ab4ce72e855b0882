use Rattle.std.proofs.Common.{◌≡◌, ◌∙◌, ap, arith, Ok, Option, subst, sym, Err}
use Rattle.std.specs.Option.{option_or}
use Rattle.std.proofs.lemmas.Result.{err_from_is_err_and}
use Rattle.sasi_host.specs.View.{ReadCost}
use Rattle.sasi_host.specs.Damages.{DamageShown}
use Rattle.sasi_tokentree.specs.declared.pair_scan.ScannedPair.{ScannedPair}
use Rattle.sasi_tokentree.specs.Damages.{ShowsPairsBy}
use Rattle.sasi_tokentree.specs.Reads.{NoFalseTreeDamage}
use Rattle.sasi_tokentree.specs.Scans.{IsAtLast, IsLastEntry, PassesOne, ReadsEntry, ReadsHeader, ReadsNextPair, RisesFrom, PairScan, entry_cost}
use Rattle.sasi_types.specs.declared.tree.Pair.{Pair}
use Rattle.sasi_host.proofs.CauseLaws.{fault_reads, ok_reads}
use Rattle.sasi_tokentree.proofs.Rising.{passes_with}
use Rattle.sasi_tokentree.proofs.tree.Tree.next.Goals as goal

pub returns-in_err-found-clause-undamaged : goal.returns-in_err-found-clause-undamaged
returns-in_err-found-clause-undamaged g c =
    let p = err_from_is_err_and c.from_residual.result c.from_residual.ensures.1 in
    rw (p.1, p.2) (subst (λ (h : PairScan). NoFalseTreeDamage (g.H.Host.view c.args.host.now) h.buffered.file h.tree c.in_err-found.field-0.0) c.self.view_is c.in_err-found.ensures.undamaged)

pub returns-clause-ok : goal.returns-clause-ok
returns-clause-ok g c = subst (λ (h : PairScan). ReadsNextPair (g.H.Host.view c.args.host.now) h.buffered.file h.tree h.passed c.in_ok-found.found.passed
    c.in_ok-found.found.pair) c.self.view_is c.in_ok-found.ensures.ok

pub returns-in_err-found-clause-causes : goal.returns-in_err-found-clause-causes
returns-in_err-found-clause-causes g c =
    let p = err_from_is_err_and c.from_residual.result c.from_residual.ensures.1 in
    rw (p.1, p.2) (fault_reads _ _ _ _ c.in_err-found.field-0.0 (omega arith)
    (subst (λ (h : PairScan). ReadCost {T = ScannedPair} (entry_cost h.buffered.page h.tree h.passed) (g.H.Host.view c.args.host.now)
    (g.H.Host.view c.next_from.new.host) (Err c.in_err-found.field-0.0)) c.self.view_is c.in_err-found.ensures.causes))

pub returns-clause-causes : goal.returns-clause-causes
returns-clause-causes g c =
    ok_reads _ _ _ c.in_ok-found.found _
    (subst (λ (h : PairScan). ReadCost (entry_cost h.buffered.page h.tree h.passed) (g.H.Host.view c.args.host.now)
    (g.H.Host.view c.next_from.new.host) (Ok c.in_ok-found.found)) c.self.view_is c.in_ok-found.ensures.causes)

pub returns-clause-ends : goal.returns-clause-ends
returns-clause-ends g c =
    let inside = c.self.inside in
    let found = c.in_ok-found.found in
    let last = option_or found.pair inside.last in
    let passes = passes_with inside.tree inside.buffered c.next_from.new.buffered inside.passed found.passed inside.last found.pair c.in_ok-found.ensures.ends in
    subst (λ (o : Option Pair). PassesOne c.args.self.now (record { buffered = c.next_from.new.buffered; tree = inside.tree; passed = found.passed; last = o }) found.pair) (sym c.or-self-inside.ensures)
    (subst (λ (h : PairScan). PassesOne h (record { buffered = c.next_from.new.buffered; tree = inside.tree; passed = found.passed; last = last }) found.pair) c.self.view_is passes)

pub returns-in_err-found-clause-damaged : goal.returns-in_err-found-clause-damaged
returns-in_err-found-clause-damaged g c =
    let p = err_from_is_err_and c.from_residual.result c.from_residual.ensures.1 in
    rw (p.1, p.2) (subst (λ (h : PairScan). DamageShown (g.H.Host.view c.args.host.now) h.buffered.file (ShowsPairsBy (λ index. index ≡ h.passed) h.buffered.file h.tree)
    c.in_err-found.field-0.0) c.self.view_is c.in_err-found.ensures.damaged)

pub returns-clause-stands : goal.returns-clause-stands
returns-clause-stands g c = subst (λ (h : PairScan). ReadsEntry (g.H.Host.view c.args.host.now) h.buffered.file h.tree c.in_ok-found.found.passed
    c.in_ok-found.found.pair) c.self.view_is c.in_ok-found.ensures.stands

pub returns-clause-header : goal.returns-clause-header
returns-clause-header g c = subst (λ (h : PairScan). ReadsHeader (g.H.Host.view c.args.host.now) h.buffered.file h.tree c.in_ok-found.found.passed
    c.in_ok-found.found.pair) c.self.view_is c.in_ok-found.ensures.header

pub returns-clause-rises : goal.returns-clause-rises
returns-clause-rises g c = subst (λ (h : PairScan). RisesFrom h.last c.in_ok-found.found.pair) c.self.view_is c.in_ok-found.ensures.rises

pub returns-clause-last : goal.returns-clause-last
returns-clause-last g c = c.or-self-inside.ensures ∙ ap (λ (h : PairScan). option_or c.in_ok-found.found.pair h.last) c.self.view_is

pub returns-clause-at_last : goal.returns-clause-at_last
returns-clause-at_last g c = subst (λ (o : Option Pair). IsLastEntry (g.H.Host.view c.next_from.new.host).files c.next_from.new.buffered.file c.self.inside.tree c.in_ok-found.found.passed o) (sym c.or-self-inside.ensures) c.in_ok-found.ensures.last

pub returns-in_err-found-clause-at_last : goal.returns-in_err-found-clause-at_last
returns-in_err-found-clause-at_last g c = c.in_err-found.ensures.err

pub next_from-requires-clause-last : goal.next_from-requires-clause-last
next_from-requires-clause-last g c = subst (λ (h : PairScan). IsAtLast h (g.H.Host.view c.args.host.now).files) (sym c.self.view_is) c.requires.last
