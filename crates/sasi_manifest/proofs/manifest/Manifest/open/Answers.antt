use Rattle.std.proofs.lemmas.Result.{err_from_is_err_and}
use Rattle.sasi_manifest.proofs.Opening.{reads_listing, stands_where_kept, no_false_damage}
use Rattle.sasi_manifest.proofs.manifest.Manifest.open.Goals as goal

pub returns-in_err-opened-clause-undamaged : goal.returns-in_err-opened-clause-undamaged
returns-in_err-opened-clause-undamaged g c =
    let p = err_from_is_err_and c.from_residual.result c.from_residual.ensures.1 in
    rw (p.1, p.2) (no_false_damage (g.H.Host.view c.args.host.now) c.args.number c.in_err-opened.field-0.0 c.in_err-opened.ensures.damaged)

pub returns-clause-ok : goal.returns-clause-ok
returns-clause-ok g c = reads_listing (g.H.Host.view c.args.host.now) c.args.number c.in_ok-opened.opened.gated.at c.in_ok-opened.opened.listing c.in_ok-opened.ensures.ok

pub returns-clause-stands : goal.returns-clause-stands
returns-clause-stands g c =
    stands_where_kept (g.H.Host.view c.args.host.now)
    (g.H.Host.view c.open_manifest.new.host) c.args.number c.in_ok-opened.opened.gated.at c.in_ok-opened.opened.listing
    (g.met.H.Host.sound c.args.host.now) c.open_manifest.ensures.changes c.in_ok-opened.ensures.ok
