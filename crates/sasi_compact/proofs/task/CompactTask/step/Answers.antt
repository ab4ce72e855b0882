use Rattle.std.proofs.Common.{refl}
use Rattle.std.proofs.lemmas.Result.{err_from_is_err_and}
use Rattle.sasi_compact.proofs.Faults.{all_well, handed_on}
use Rattle.sasi_compact.proofs.task.CompactTask.step.Goals as goal

pub do_units-requires-clause-can : goal.do_units-requires-clause-can
do_units-requires-clause-can g c = c.requires.files

pub returns-in_err-progress-clause-reads : goal.returns-in_err-progress-clause-reads
returns-in_err-progress-clause-reads g c most may =
    let q = err_from_is_err_and c.from_residual.result c.from_residual.ensures.1 in
    rw q.1 (c.in_err-progress.ensures.reads most may)

pub returns-in_err-progress-clause-damaged : goal.returns-in_err-progress-clause-damaged
returns-in_err-progress-clause-damaged g c =
    let q = err_from_is_err_and c.from_residual.result c.from_residual.ensures.1 in
    rw (q.1, q.2) c.in_err-progress.ensures.damaged

pub returns-in_err-progress-clause-undamaged : goal.returns-in_err-progress-clause-undamaged
returns-in_err-progress-clause-undamaged g c passed left is =
    let q = err_from_is_err_and c.from_residual.result c.from_residual.ensures.1 in
    rw (q.1, q.2) (c.in_err-progress.ensures.undamaged passed left is)

pub returns-in_err-progress-clause-causes : goal.returns-in_err-progress-clause-causes
returns-in_err-progress-clause-causes g c =
    let q = err_from_is_err_and c.from_residual.result c.from_residual.ensures.1 in
    rw (q.1, q.2) (handed_on _ _ _ c.in_err-progress.field-0.0 c.in_err-progress.ensures.causes)

pub returns-clause-passed : goal.returns-clause-passed
returns-clause-passed g c = c.in_ok-progress.ensures.passed

pub returns-clause-can : goal.returns-clause-can
returns-clause-can g c = record { can = c.requires.can; usable = refl; files = c.in_ok-progress.ensures.can }

pub returns-clause-reads : goal.returns-clause-reads
returns-clause-reads g c most may = c.in_ok-progress.ensures.reads most may

pub returns-clause-causes : goal.returns-clause-causes
returns-clause-causes g c = all_well _ _ _ _ c.in_ok-progress.ensures.causes.ok c.in_ok-progress.ensures.causes.out
