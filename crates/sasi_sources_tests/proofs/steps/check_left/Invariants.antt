use Rattle.sasi_ranges.specs.StreamCalls.{CanStream}
use Rattle.sasi_sources_tests.proofs.steps.check_left.Given as goal

abbrev pub invariant-loop-want : goal.invariant-loop-want
invariant-loop-want g l = record {
  can : CanStream (g.P.PageReader.agrees l.pages) (g.C.Candidates.opens l.source) (g.H.Host.view l.host);
  still_ready : g.C.Candidates.ready l.source (g.H.Host.view l.host).files l.maps;
}
