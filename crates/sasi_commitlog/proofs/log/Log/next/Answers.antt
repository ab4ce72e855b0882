use Rattle.std.proofs.Common.{subst, sym}
use Rattle.std.proofs.lemmas.Result.{err_from_is_err_and}
use Rattle.sasi_host.specs.Sequential.{ReadsEachOnce, ReadsNoFurther}
use Rattle.sasi_gated.specs.Handles.{Handle}
use Rattle.sasi_gated.specs.ReadCosts.{IsSequential}
use Rattle.sasi_commitlog.specs.Reads.{IsLogDamageAt, NoFalseLogDamage, ReadsLogGate, ReadsMutations}
use Rattle.sasi_commitlog.proofs.log.Log.next.Goals as goal

pub returns-in_err-read-clause-damaged : goal.returns-in_err-read-clause-damaged
returns-in_err-read-clause-damaged g c =
    let p = err_from_is_err_and c.from_residual.result c.from_residual.ensures.1 in
    rw (p.1, p.2) (subst (λ (h : Handle). IsLogDamageAt (g.H.Host.view c.args.host.now) h.file c.args.tables.now h.at c.in_err-read.field-0.0) c.self.view_is c.in_err-read.ensures.damaged)

pub returns-in_err-read-clause-undamaged : goal.returns-in_err-read-clause-undamaged
returns-in_err-read-clause-undamaged g c =
    let p = err_from_is_err_and c.from_residual.result c.from_residual.ensures.1 in
    rw (p.1, p.2) (subst (λ (h : Handle). NoFalseLogDamage (g.H.Host.view c.args.host.now) h.file c.args.tables.now h.at c.in_err-read.field-0.0) c.self.view_is c.in_err-read.ensures.undamaged)

pub returns-in_err-read-clause-once : goal.returns-in_err-read-clause-once
returns-in_err-read-clause-once g c =
    let p = err_from_is_err_and c.from_residual.result c.from_residual.ensures.1 in
    rw (p.1, p.2) (λ sequential.
    let begins = subst (λ (h : Handle). IsSequential h) (sym c.self.view_is) sequential in
    record {
      ok = tt;
      no_further = subst (λ (h : Handle). ReadsNoFurther (g.H.Host.view c.args.host.now) (g.H.Host.view c.read_next.new.host) h.file h.buffered.page h.at)
          c.self.view_is (c.read_next.ensures.once begins).no_further;
    })

pub returns-clause-once : goal.returns-clause-once
returns-clause-once g c sequential =
    let begins = subst (λ (h : Handle). IsSequential h) (sym c.self.view_is) sequential in
    let once = c.in_ok-read.ensures.once begins in
    record {
      ok = subst (λ (h : Handle). ReadsEachOnce (g.H.Host.view c.args.host.now) (g.H.Host.view c.read_next.new.host) h.file h.buffered.page
          c.read_next.new.gated.buffered.page c.read_next.new.gated.at) c.self.view_is once.ok;
      no_further = subst (λ (h : Handle). ReadsNoFurther (g.H.Host.view c.args.host.now) (g.H.Host.view c.read_next.new.host) h.file h.buffered.page h.at)
          c.self.view_is once.no_further;
    }

pub returns-clause-gate : goal.returns-clause-gate
returns-clause-gate g c =
    subst (λ (h : Handle). ReadsLogGate (g.H.Host.view c.args.host.now) h.file c.args.tables.now h.at c.read_next.new.gated.at c.in_ok-read.read)
    c.self.view_is c.in_ok-read.ensures.gate

pub returns-clause-mutations : goal.returns-clause-mutations
returns-clause-mutations g c =
    subst (λ (h : Handle). ReadsMutations (g.H.Host.view c.args.host.now) (g.H.Host.view c.read_next.new.host) h.file c.args.tables.now h.at
    c.read_next.new.gated.at c.in_ok-read.read) c.self.view_is c.in_ok-read.ensures.mutations
