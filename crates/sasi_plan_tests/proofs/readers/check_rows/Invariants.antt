use Rattle.sasi_plan.specs.contracts.plan_candidates.PlanCandidatesCandidates.TheImpl as source
use Rattle.sasi_ranges.specs.StreamCalls.{CanStream}
use Rattle.sasi_plan_tests.proofs.readers.check_rows.Given as goal

abbrev pub invariant-loop-want : goal.invariant-loop-want
invariant-loop-want g l = record {
  can : CanStream (g.P.PageReader.agrees l.pages) (source.opens-value.it l.reader.rows.candidates) (g.H.Host.view l.host);
  still_ready : source.ready-value.it l.reader.rows.candidates (g.H.Host.view l.host).files l.maps;
  still_prints : source.prints-value.it l.reader.rows.candidates (g.H.Host.view l.host).files l.maps l.reader.picked.key;
}
