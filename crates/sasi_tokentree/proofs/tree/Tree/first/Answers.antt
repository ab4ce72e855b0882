use Rattle.std.proofs.Common.{subst}
use Rattle.std.proofs.lemmas.Result.{err_from_is_err_and}
use Rattle.sasi_host.specs.Damages.{DamageShown}
use Rattle.sasi_tokentree.specs.Damages.{BeginsLeaf, ShowsTreeBy}
use Rattle.sasi_tokentree.specs.Reads.{NoFalseTreeDamage}
use Rattle.sasi_tokentree.specs.Scans.{ReadsEntry, ReadsFirstPair, ReadsHeader, StepsBehindCounted, PairScan}
use Rattle.sasi_tokentree.proofs.Rising.{last_read, last_still}
use Rattle.sasi_tokentree.proofs.tree.Tree.first.Goals as goal

pub returns-in_err-found-clause-undamaged : goal.returns-in_err-found-clause-undamaged
returns-in_err-found-clause-undamaged g c =
    let p = err_from_is_err_and c.from_residual.result c.from_residual.ensures.1 in
    rw (p.1, p.2) (subst (λ (h : PairScan). NoFalseTreeDamage (g.H.Host.view c.args.host.now) h.buffered.file h.tree c.in_err-found.field-0.0) c.self.view_is c.in_err-found.ensures.undamaged)

pub returns-in_err-found-clause-damaged : goal.returns-in_err-found-clause-damaged
returns-in_err-found-clause-damaged g c =
    let p = err_from_is_err_and c.from_residual.result c.from_residual.ensures.1 in
    rw (p.1, p.2) (subst (λ (h : PairScan). DamageShown (g.H.Host.view c.args.host.now) h.buffered.file (ShowsTreeBy (BeginsLeaf h.tree) h.buffered.file h.tree)
    c.in_err-found.field-0.0) c.self.view_is c.in_err-found.ensures.damaged)

pub returns-clause-stands : goal.returns-clause-stands
returns-clause-stands g c = subst (λ (h : PairScan). ReadsEntry (g.H.Host.view c.args.host.now) h.buffered.file h.tree c.in_ok-found.found.passed
    c.in_ok-found.found.pair) c.self.view_is c.in_ok-found.ensures.stands

pub returns-clause-ok : goal.returns-clause-ok
returns-clause-ok g c = subst (λ (h : PairScan). ReadsFirstPair (g.H.Host.view c.args.host.now) h.buffered.file h.tree c.args.token c.in_ok-found.found.passed
    c.in_ok-found.found.pair) c.self.view_is c.in_ok-found.ensures.ok

pub returns-clause-header : goal.returns-clause-header
returns-clause-header g c = subst (λ (h : PairScan). ReadsHeader (g.H.Host.view c.args.host.now) h.buffered.file h.tree c.in_ok-found.found.passed
    c.in_ok-found.found.pair) c.self.view_is c.in_ok-found.ensures.header

pub returns-clause-ends : goal.returns-clause-ends
returns-clause-ends g c = subst (λ (h : PairScan). StepsBehindCounted (g.H.Host.view c.args.host.now) h.buffered.file h.tree c.args.token c.in_ok-found.found.passed
    c.in_ok-found.found.pair) c.self.view_is c.in_ok-found.ensures.ends

pub returns-clause-at_last : goal.returns-clause-at_last
returns-clause-at_last g c = last_still (g.H.Host.view c.args.host.now) (g.H.Host.view c.first_from.new.host) c.self.inside.buffered.file c.first_from.new.buffered.file c.self.inside.tree c.in_ok-found.found.passed c.in_ok-found.found.pair c.first_from.ensures.read.changes c.first_from.ensures.read.file
    (last_read (g.H.Host.view c.args.host.now) c.self.inside.buffered.file c.self.inside.tree c.in_ok-found.found.passed c.in_ok-found.found.pair c.in_ok-found.ensures.stands)
