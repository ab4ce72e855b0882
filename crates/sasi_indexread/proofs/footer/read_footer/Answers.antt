use Rattle.std.proofs.lemmas.Result.{err_from_is_err_and}
use Rattle.sasi_indexread.proofs.Footers.{end_shown, index_undamaged, no_false_shown}
use Rattle.sasi_indexread.proofs.footer.read_footer.Goals as goal

pub returns-in_err-size-clause-damaged : goal.returns-in_err-size-clause-damaged
returns-in_err-size-clause-damaged g c =
    let p = err_from_is_err_and c.from_residual.result c.from_residual.ensures.1 in
    rw (p.1, p.2) (end_shown (g.H.Host.view c.args.host.now) c.args.file c.in_err-size.field-0.0 c.in_err-size.ensures.damaged)

pub returns-in_err-size-clause-undamaged : goal.returns-in_err-size-clause-undamaged
returns-in_err-size-clause-undamaged g c =
    let p = err_from_is_err_and c.from_residual.result c.from_residual.ensures.1 in
    let v = g.H.Host.view c.args.host.now in
    rw (p.1, p.2) (no_false_shown v c.args.file c.in_err-size.field-0.0 (λ bytes is. (g.met.H.Host.sound c.args.host.now).fits c.args.file bytes is) (end_shown v c.args.file c.in_err-size.field-0.0 c.in_err-size.ensures.damaged))

pub returns-in_err-read-clause-damaged : goal.returns-in_err-read-clause-damaged
returns-in_err-read-clause-damaged g c =
    let p = err_from_is_err_and c.from_residual-in_err-read.result c.from_residual-in_err-read.ensures.1 in
    rw (p.1, p.2) (λ bytes is. c.in_err-read.ensures.damaged bytes (c.in_ok-size.ensures.ok bytes is))

pub returns-in_err-read-clause-undamaged : goal.returns-in_err-read-clause-undamaged
returns-in_err-read-clause-undamaged g c =
    let p = err_from_is_err_and c.from_residual-in_err-read.result c.from_residual-in_err-read.ensures.1 in
    rw (p.1, p.2) (λ bytes content is of.
    index_undamaged bytes content of ((g.met.H.Host.sound c.args.host.now).fits c.args.file bytes is) c.args.file c.in_err-read.field-0.0 (c.in_err-read.ensures.damaged bytes (c.in_ok-size.ensures.ok bytes is)))

pub returns-clause-ok : goal.returns-clause-ok
returns-clause-ok g c bytes is = c.in_ok-read.ensures.ok bytes (c.in_ok-size.ensures.ok bytes is)
