use Rattle.std.proofs.Common.{refl}
use Rattle.std.proofs.lemmas.Result.{err_from_is_err_and}
use Rattle.sasi_store.proofs.store.Store.step.Goals as goal

pub returns-in_err-outcome-clause-undamaged : goal.returns-in_err-outcome-clause-undamaged
returns-in_err-outcome-clause-undamaged g c w serves =
    let p = err_from_is_err_and c.from_residual.result c.from_residual.ensures.1 in
    rw (p.1, p.2) (c.in_err-outcome.ensures.steps.undamaged w serves)

pub returns-clause-ready : goal.returns-clause-ready
returns-clause-ready g c = record {
  goes_on = c.in_ok-outcome.ensures.steps.ready;
  usable = refl;
  cursors = c.in_ok-outcome.ensures.steps.cursors;
}
