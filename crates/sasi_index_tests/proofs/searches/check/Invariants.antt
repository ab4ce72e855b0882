use Rattle.sasi_host.specs.Memory.{host_view, memory_host}
use Rattle.sasi_index_tests.specs.declared.fixture.TheConstants.{FILE}
use Rattle.sasi_index_tests.specs.Searching.{IsSearchOf}
use Rattle.sasi_index_tests.proofs.searches.check.Given as goal

abbrev pub invariant-loop-token : goal.invariant-loop-token
invariant-loop-token g l = IsSearchOf FILE (host_view (memory_host l.host)) l.found
