use Rattle.sasi_host.specs.Memory.{host_view, memory_host}
use Rattle.sasi_index_tests.specs.declared.fixture.TheConstants.{FILE}
use Rattle.sasi_index_tests.specs.Searching.{IsSearchOf}
use Rattle.sasi_index_tests.proofs.searches.check_all.Given as goal

abbrev pub invariant-loop-k : goal.invariant-loop-k
invariant-loop-k g l = IsSearchOf FILE (host_view (memory_host l.host)) l.found
