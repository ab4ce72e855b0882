use Rattle.sasi_host.specs.Memory.{host_view, memory_host}
use Rattle.sasi_searches.specs.declared.found.TheConstants.{FILE}
use Rattle.sasi_searches.specs.Searching.{IsSearchOf}
use Rattle.sasi_searches.proofs.found.collect.Given as goal

abbrev pub invariant-loop-turn : goal.invariant-loop-turn
invariant-loop-turn l = IsSearchOf FILE (host_view (memory_host l.host)) l.found
