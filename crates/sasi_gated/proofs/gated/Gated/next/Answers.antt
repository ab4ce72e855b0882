use Rattle.std.proofs.Common.{List, ℕ, subst, sym, Some, ◌≡◌}
use Rattle.std.proofs.lemmas.Result.{err_from_is_err_and}
use Rattle.sasi_host.specs.View.{IsTold, contents}
use Rattle.sasi_gated.specs.Gates.{IsAtGate}
use Rattle.sasi_gated.specs.Damages.{IsGatedDamage}
use Rattle.sasi_host.specs.Damages.{OnDamage}
use Rattle.sasi_host.specs.Sequential.{ReadsEachOnce, ReadsNoFurther}
use Rattle.sasi_gated.specs.Handles.{Handle, IsReading}
use Rattle.sasi_gated.specs.ReadCosts.{IsSequential}
use Rattle.sasi_gated.proofs.gated.Gated.next.Goals as goal

pub returns-in_err-next-clause-damaged : goal.returns-in_err-next-clause-damaged
returns-in_err-next-clause-damaged g c =
    let p = err_from_is_err_and c.from_residual.result c.from_residual.ensures.1 in
    rw (p.1, p.2) (
    subst (λ (h : Handle). OnDamage (λ damage. (bytes : List ℕ) (done : List (List ℕ)) (rest : List ℕ)
    → contents (g.H.Host.view c.args.host.now) h.file ≡ Some bytes → IsAtGate h.file bytes h.at done rest → IsGatedDamage h.file bytes damage) c.in_err-next.field-0.0)
    c.self.view_is c.in_err-next.ensures.damaged
    )

pub returns-in_err-next-clause-undamaged : goal.returns-in_err-next-clause-undamaged
returns-in_err-next-clause-undamaged g c =
    let p = err_from_is_err_and c.from_residual.result c.from_residual.ensures.1 in
    rw (p.1, p.2) (
    subst (λ (h : Handle). OnDamage (λ _. (done left : List (List ℕ)) → IsTold (g.H.Host.view c.args.host.now)
    → IsReading (g.H.Host.view c.args.host.now) h.file h.at done left → ⊥) c.in_err-next.field-0.0)
    c.self.view_is c.in_err-next.ensures.undamaged
    )

pub returns-in_err-next-clause-once : goal.returns-in_err-next-clause-once
returns-in_err-next-clause-once g c =
    let p = err_from_is_err_and c.from_residual.result c.from_residual.ensures.1 in
    rw (p.1, p.2) (λ sequential.
    let begins = subst (λ (h : Handle). IsSequential h) (sym c.self.view_is) sequential in
    record {
      ok = tt;
      no_further = subst (λ (h : Handle). ReadsNoFurther (g.H.Host.view c.args.host.now) (g.H.Host.view c.read_next.new.host) h.file h.buffered.page h.at)
          c.self.view_is (c.read_next.ensures.no_further begins);
    })

pub returns-clause-once : goal.returns-clause-once
returns-clause-once g c sequential =
    let begins = subst (λ (h : Handle). IsSequential h) (sym c.self.view_is) sequential in
    record {
      ok = subst (λ (h : Handle). ReadsEachOnce (g.H.Host.view c.args.host.now) (g.H.Host.view c.read_next.new.host) h.file h.buffered.page
          c.read_next.new.buffered.page c.in_ok-next.next.at) c.self.view_is (c.in_ok-next.ensures.once begins);
      no_further = subst (λ (h : Handle). ReadsNoFurther (g.H.Host.view c.args.host.now) (g.H.Host.view c.read_next.new.host) h.file h.buffered.page h.at)
          c.self.view_is (c.read_next.ensures.no_further begins);
    }
