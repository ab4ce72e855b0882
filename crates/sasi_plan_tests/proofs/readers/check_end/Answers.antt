use Rattle.std.proofs.Common.{sym, subst}
use Rattle.sasi_cells.specs.declared.picked.Picked.{Picked}
use Rattle.sasi_plan.specs.contracts.plan_candidates.PlanCandidatesCandidates.TheImpl as source
use Rattle.sasi_plan_tests.proofs.readers.check_end.Goals as goal

pub returns-clause-prints : goal.returns-clause-prints
returns-clause-prints g c =
    subst (λ (k : Picked). source.prints-value.it c.next.new.self.rows.candidates (g.H.Host.view c.next.new.host).files c.args.maps.now k.key) (sym c.next.ensures.picked)
    (rw c.expect-next.ensures at c.next.ensures.still_prints)
