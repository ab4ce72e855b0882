use Rattle.std.proofs.Common.{List, ℕ, ◌∙◌, ap, subst}
use Rattle.sasi_host.specs.declared.name.FileName.{FileName}
use Rattle.sasi_host.specs.Buffered.{Buffered}
use Rattle.sasi_host.specs.Disk.{Changes, LeftWith, FileChange}
use Rattle.sasi_gated.specs.Format.{IsBeforeOrAfter}
use Rattle.sasi_gated.specs.Handles.{Handle, IsAtEnd}
use Rattle.sasi_gated.proofs.gated.Gated.append.Goals as goal

pub returns-in_err-self-inside-clause-any_moment : goal.returns-in_err-self-inside-clause-any_moment
returns-in_err-self-inside-clause-any_moment g c =
    subst (λ (h : Handle). (records : List (List ℕ)) → IsAtEnd (g.H.Host.view c.args.host.now) h.file h.at records
    → Changes (FileChange h.file (LeftWith (IsBeforeOrAfter h.file records c.args.item.now))) (g.H.Host.view c.args.host.now) (g.H.Host.view c.append_at.new.host))
    c.self.view_is
    (subst (λ (f : FileName). (records : List (List ℕ)) → IsAtEnd (g.H.Host.view c.args.host.now) f c.self.inside.at records
    → Changes (FileChange f (LeftWith (IsBeforeOrAfter f records c.args.item.now))) (g.H.Host.view c.args.host.now) (g.H.Host.view c.append_at.new.host))
    (c.file.ensures ∙ ap (λ (b : Buffered). b.file) c.forget.ensures) c.append_at.ensures.any_moment)

pub returns-clause-any_moment : goal.returns-clause-any_moment
returns-clause-any_moment g c =
    subst (λ (h : Handle). (records : List (List ℕ)) → IsAtEnd (g.H.Host.view c.args.host.now) h.file h.at records
    → Changes (FileChange h.file (LeftWith (IsBeforeOrAfter h.file records c.args.item.now))) (g.H.Host.view c.args.host.now) (g.H.Host.view c.append_at.new.host))
    c.self.view_is
    (subst (λ (f : FileName). (records : List (List ℕ)) → IsAtEnd (g.H.Host.view c.args.host.now) f c.self.inside.at records
    → Changes (FileChange f (LeftWith (IsBeforeOrAfter f records c.args.item.now))) (g.H.Host.view c.args.host.now) (g.H.Host.view c.append_at.new.host))
    (c.file.ensures ∙ ap (λ (b : Buffered). b.file) c.forget.ensures) c.append_at.ensures.any_moment)
