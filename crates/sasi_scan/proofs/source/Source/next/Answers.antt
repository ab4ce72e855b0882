use Rattle.sasi_host.proofs.ChangeLaws.{stays}
use Rattle.std.proofs.Common.{refl, subst, sym, arith}
use Rattle.std.proofs.lemmas.Result.{err_from_is_err_and}
use Rattle.sasi_scan.specs.Sources.{StepsTo}
use Rattle.sasi_scan.specs.declared.source.Source.{Source}
use Rattle.sasi_scan.specs.declared.source.Source.TheVariants.{Map}
use Rattle.sasi_scan.proofs.source.Source.next.Goals as goal

pub returns-in_err-head_after-in-Map-clause-changes : goal.returns-in_err-head_after-in-Map-clause-changes
returns-in_err-head_after-in-Map-clause-changes g c = stays _

pub returns-in_ok-head_after-in-Map-clause-changes : goal.returns-in_ok-head_after-in-Map-clause-changes
returns-in_ok-head_after-in-Map-clause-changes g c = stays _

pub returns-in_ok-head_after-in-Map-clause-reads : goal.returns-in_ok-head_after-in-Map-clause-reads
returns-in_ok-head_after-in-Map-clause-reads g c p paged = record { paged = tt; reads = omega arith }

pub returns-in_err-head_after-in-Map-clause-reads : goal.returns-in_err-head_after-in-Map-clause-reads
returns-in_err-head_after-in-Map-clause-reads g c p paged =
    let q = err_from_is_err_and c.from_residual.result c.from_residual.ensures.1 in
    rw q.1 (omega arith)

pub returns-in_ok-head_after-in-Map-clause-steps : goal.returns-in_ok-head_after-in-Map-clause-steps
returns-in_ok-head_after-in-Map-clause-steps g c =
    let at = c.in-Map.position in
    let head = c.in_ok-head_after-in-Map.field-0 in
    subst (λ (s : Source). StepsTo (g.H.Host.view c.args.host.now).files c.args.maps.now c.args.key.now s head (Map at)) (sym c.in-Map.is) (refl, c.in_ok-head_after-in-Map.ensures)
