use Rattle.std.proofs.Common.{subst}
use Rattle.std.specs.Prelude.{IfSome}
use Rattle.std.proofs.lemmas.Result.{err_from_is_err_and}
use Rattle.sasi_host.specs.Damages.{DamageShown}
use Rattle.sasi_termblocks.specs.Forms.{HasForm}
use Rattle.sasi_termblocks.specs.Damages.{ShowsBlocks}
use Rattle.sasi_termblocks.specs.Scans.{EndsBelow, GivesTree, NoFalseDamage, ReadsFirst, ReadsSome, Scan}
use Rattle.sasi_termblocks.proofs.PointersSound.{no_false}
use Rattle.sasi_termblocks.proofs.blocks.Blocks.seek.Goals as goal

pub returns-in_err-found-clause-damaged : goal.returns-in_err-found-clause-damaged
returns-in_err-found-clause-damaged g c =
    let p = err_from_is_err_and c.from_residual.result c.from_residual.ensures.1 in
    rw (p.1, p.2) (subst (λ (h : Scan). DamageShown (g.H.Host.view c.args.host.now) h.buffered.file (ShowsBlocks h.buffered.file h.blocks h.form) c.in_err-found.field-0.0) c.self.view_is c.in_err-found.ensures.damaged)

pub returns-clause-ok : goal.returns-clause-ok
returns-clause-ok g c = subst (λ (h : Scan). ReadsFirst (g.H.Host.view c.args.host.now) h.buffered.file h.blocks c.args.term.now c.in_ok-found.found.position.page c.in_ok-found.found.position.index
    c.in_ok-found.found.entry) c.self.view_is c.in_ok-found.ensures.ok

pub returns-in_err-found-clause-undamaged : goal.returns-in_err-found-clause-undamaged
returns-in_err-found-clause-undamaged g c =
    let p = err_from_is_err_and c.from_residual.result c.from_residual.ensures.1 in
    rw (p.1, p.2) (subst (λ (h : Scan). NoFalseDamage (g.H.Host.view c.args.host.now) h.buffered.file h.blocks h.form c.in_err-found.field-0.0) c.self.view_is
    (no_false (g.H.Host.view c.args.host.now) c.self.inside.buffered.file c.self.inside.blocks c.self.inside.form c.in_err-found.field-0.0 c.in_err-found.ensures.damaged))

pub returns-clause-stands : goal.returns-clause-stands
returns-clause-stands g c = subst (λ (h : Scan). ReadsSome (g.H.Host.view c.args.host.now) h.buffered.file c.in_ok-found.found.entry) c.self.view_is c.in_ok-found.ensures.stands

pub returns-clause-ends : goal.returns-clause-ends
returns-clause-ends g c = subst (λ (h : Scan). EndsBelow (g.H.Host.view c.args.host.now) h.buffered.file h.blocks c.args.term.now c.in_ok-found.found.position.page c.in_ok-found.found.position.index
    c.in_ok-found.found.entry) c.self.view_is c.in_ok-found.ensures.ends

pub returns-clause-tree : goal.returns-clause-tree
returns-clause-tree g c = subst (λ (h : Scan). GivesTree h.blocks.first c.in_ok-found.found.entry) c.self.view_is c.in_ok-found.ensures.tree

pub returns-clause-form : goal.returns-clause-form
returns-clause-form g c = subst (λ (h : Scan). IfSome c.in_ok-found.found.entry (HasForm h.form)) c.self.view_is c.in_ok-found.ensures.form
