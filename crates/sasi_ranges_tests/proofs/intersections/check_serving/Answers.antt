use Rattle.sasi_host.specs.Memory.{host_view, memory_host}
use Rattle.sasi_ranges_tests.proofs.InMemory.{all_ready, no_file, of_ok}
use Rattle.sasi_ranges_tests.proofs.intersections.check_serving.Goals as goal

pub check-requires-clause-read : goal.check-requires-clause-read
check-requires-clause-read g c = record {
  there = λ name is. absurd (no_file _ (λ s file opened. opened) _ name (of_ok _ c.serving.result c.expect-intersection.result c.expect-intersection.ensures c.serving.ensures.opens name is));
  agrees = tt;
}

pub check-requires-clause-ready : goal.check-requires-clause-ready
check-requires-clause-ready g c = all_ready (λ s files. Unit {0}) (host_view (memory_host c.new-host.result)).files (λ s. tt) _
