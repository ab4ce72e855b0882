use Rattle.std.proofs.Common.{List, sym, subst, arith}
use Rattle.std.proofs.lemmas.Result.{err_from_is_err_and}
use Rattle.sasi_folder.specs.Damages.{FolderShows}
use Rattle.sasi_host.proofs.ChangeLaws.{stays}
use Rattle.sasi_recheck.specs.Rows.{KnowsWhere}
use Rattle.sasi_types.specs.declared.class.Class.{Class}
use Rattle.sasi_types.specs.declared.kit_fault.KitFault.{KitFault}
use Rattle.sasi_tables.specs.Faults.{OnMissing, fault_of_kit}
use Rattle.sasi_store.proofs.SameFiles.{files_before}
use Rattle.sasi_store.proofs.Selecting.{on_damage}
use Rattle.sasi_store.proofs.select.answer.Goals as goal

pub returns-in_err-plan-clause-present : goal.returns-in_err-plan-clause-present
returns-in_err-plan-clause-present g c =
    let p = err_from_is_err_and c.from_residual.result c.from_residual.ensures.1 in
    rw (p.1, p.2) (subst (λ (f : KitFault). OnMissing (λ _. ⊥) (fault_of_kit f)) (sym c.in_err-plan.ensures.memory) tt)

pub returns-in_err-plan-clause-changes : goal.returns-in_err-plan-clause-changes
returns-in_err-plan-clause-changes g c = stays (g.H.Host.view c.args.host.now)

pub returns-in_err-plan-clause-reads : goal.returns-in_err-plan-clause-reads
returns-in_err-plan-clause-reads g c l serves short = omega arith

pub read_plan-requires-clause-known : goal.read_plan-requires-clause-known
read_plan-requires-clause-known g c =
    subst (λ (kinds : List Class). KnowsWhere kinds c.in_ok-plan.plan.conditions) (sym c.plan_for.ensures.kinds) c.in_ok-plan.ensures.known

pub returns-in_err-read_plan-clause-damaged : goal.returns-in_err-read_plan-clause-damaged
returns-in_err-read_plan-clause-damaged g c folder now =
    let p = err_from_is_err_and c.from_residual-in_err-read_plan.result c.from_residual-in_err-read_plan.ensures.1 in
    let v = g.H.Host.view c.args.host.now in
    rw (p.1, p.2) (on_damage (FolderShows folder) (FolderShows folder) (λ damage shows. shows) c.in_err-read_plan.field-0.0
    (c.in_err-read_plan.ensures.damaged folder (files_before v (g.H.Host.view c.read_plan.new.host) c.read_plan.ensures.changes folder now)))

pub returns-in_err-read_plan-clause-undamaged : goal.returns-in_err-read_plan-clause-undamaged
returns-in_err-read_plan-clause-undamaged g c l serves =
    let p = err_from_is_err_and c.from_residual-in_err-read_plan.result c.from_residual-in_err-read_plan.ensures.1 in
    rw (p.1, p.2) (on_damage (λ _. ⊥) (λ _. ⊥) (λ damage none. none) c.in_err-read_plan.field-0.0 (c.in_err-read_plan.ensures.undamaged l serves))
