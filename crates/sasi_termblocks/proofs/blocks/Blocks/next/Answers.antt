use Rattle.std.proofs.Common.{arith, subst}
use Rattle.std.specs.Prelude.{IfSome}
use Rattle.std.proofs.lemmas.Result.{err_from_is_err_and}
use Rattle.sasi_host.specs.Damages.{DamageShown}
use Rattle.sasi_termblocks.specs.Forms.{HasForm}
use Rattle.sasi_termblocks.specs.Damages.{ShowsBlocks}
use Rattle.sasi_termblocks.specs.Scans.{EndsPast, GivesTree, NoFalseDamage, ReadsHere, ReadsNext, Scan}
use Rattle.sasi_termblocks.proofs.PointersSound.{no_false}
use Rattle.sasi_termblocks.proofs.Shown.{next_shown}
use Rattle.sasi_termblocks.proofs.blocks.Blocks.next.Goals as goal

pub returns-in_err-found-clause-damaged : goal.returns-in_err-found-clause-damaged
returns-in_err-found-clause-damaged g c =
    let p = err_from_is_err_and c.from_residual.result c.from_residual.ensures.1 in
    let v = g.H.Host.view c.args.host.now in
    let shown = next_shown v c.self.inside.buffered.file c.self.inside.blocks c.self.inside.form c.self.inside.page c.self.inside.index c.in_err-found.field-0.0 (omega arith) c.in_err-found.ensures.damaged in
    rw (p.1, p.2) (subst (λ (h : Scan). DamageShown v h.buffered.file (ShowsBlocks h.buffered.file h.blocks h.form) c.in_err-found.field-0.0) c.self.view_is shown)

pub returns-clause-ok : goal.returns-clause-ok
returns-clause-ok g c = subst (λ (h : Scan). ReadsNext (g.H.Host.view c.args.host.now) h.buffered.file h.blocks h.page h.index c.in_ok-found.found.position.page c.in_ok-found.found.position.index
    c.in_ok-found.found.entry) c.self.view_is c.in_ok-found.ensures.ok

pub returns-clause-stands : goal.returns-clause-stands
returns-clause-stands g c = subst (λ (h : Scan). ReadsHere (g.H.Host.view c.args.host.now) h.buffered.file h.page h.index c.in_ok-found.found.position.page c.in_ok-found.found.position.index
    c.in_ok-found.found.entry) c.self.view_is c.in_ok-found.ensures.stands

pub returns-in_err-found-clause-undamaged : goal.returns-in_err-found-clause-undamaged
returns-in_err-found-clause-undamaged g c =
    let p = err_from_is_err_and c.from_residual.result c.from_residual.ensures.1 in
    let v = g.H.Host.view c.args.host.now in
    let shown = next_shown v c.self.inside.buffered.file c.self.inside.blocks c.self.inside.form c.self.inside.page c.self.inside.index c.in_err-found.field-0.0 (omega arith) c.in_err-found.ensures.damaged in
    rw (p.1, p.2) (subst (λ (h : Scan). NoFalseDamage v h.buffered.file h.blocks h.form c.in_err-found.field-0.0) c.self.view_is
    (no_false v c.self.inside.buffered.file c.self.inside.blocks c.self.inside.form c.in_err-found.field-0.0 shown))

pub returns-clause-ends : goal.returns-clause-ends
returns-clause-ends g c = subst (λ (h : Scan). EndsPast (g.H.Host.view c.args.host.now) h.buffered.file h.blocks h.page h.index c.in_ok-found.found.position.page c.in_ok-found.found.position.index
    c.in_ok-found.found.entry) c.self.view_is c.in_ok-found.ensures.ends

pub returns-clause-tree : goal.returns-clause-tree
returns-clause-tree g c = subst (λ (h : Scan). GivesTree h.blocks.first c.in_ok-found.found.entry) c.self.view_is c.in_ok-found.ensures.tree

pub returns-clause-form : goal.returns-clause-form
returns-clause-form g c = subst (λ (h : Scan). IfSome c.in_ok-found.found.entry (HasForm h.form)) c.self.view_is c.in_ok-found.ensures.form
