use Rattle.std.proofs.lemmas.Result.{err_from_is_err_and}
use Rattle.sasi_recover.specs.NewFolder.{NoFalseFreshDamage, ReportsForeign}
use Rattle.sasi_recover.proofs.Differences.{ok_causes, open_damage, read_causes, read_differs, read_missing}
use Rattle.sasi_recover.proofs.opening.open_new.Goals as goal

pub returns-in_err-opened-clause-damaged : goal.returns-in_err-opened-clause-damaged
returns-in_err-opened-clause-damaged g c =
    let p = err_from_is_err_and c.from_residual.result c.from_residual.ensures.1 in
    rw (p.1, p.2) (open_damage (ReportsForeign c.args.names.now) c.in_err-opened.field-0.0 c.in_err-opened.ensures.damaged)

pub returns-in_err-opened-clause-undamaged : goal.returns-in_err-opened-clause-undamaged
returns-in_err-opened-clause-undamaged g c =
    let p = err_from_is_err_and c.from_residual.result c.from_residual.ensures.1 in
    rw (p.1, p.2) (open_damage (λ damage. NoFalseFreshDamage (g.H.Host.view c.args.host.now)) c.in_err-opened.field-0.0 c.in_err-opened.ensures.undamaged)

pub returns-in_err-opened-clause-same : goal.returns-in_err-opened-clause-same
returns-in_err-opened-clause-same g c =
    let p = err_from_is_err_and c.from_residual.result c.from_residual.ensures.1 in
    rw (p.1, p.2) (read_differs _ c.in_err-opened.field-0.0)

pub returns-in_err-opened-clause-causes : goal.returns-in_err-opened-clause-causes
returns-in_err-opened-clause-causes g c =
    let p = err_from_is_err_and c.from_residual.result c.from_residual.ensures.1 in
    rw (p.1, p.2) (read_causes (g.H.Host.view c.args.host.now) (g.H.Host.view c.create_store.new.host) c.in_err-opened.field-0.0 c.in_err-opened.ensures.causes)

pub returns-clause-causes : goal.returns-clause-causes
returns-clause-causes g c =
    ok_causes (g.H.Host.view c.args.host.now) (g.H.Host.view c.create_store.new.host) c.in_ok-opened.ensures.causes

pub returns-in_err-opened-clause-none_missing : goal.returns-in_err-opened-clause-none_missing
returns-in_err-opened-clause-none_missing g c =
    let p = err_from_is_err_and c.from_residual.result c.from_residual.ensures.1 in
    rw (p.1, p.2) (read_missing _ c.in_err-opened.field-0.0)
