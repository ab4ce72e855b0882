use Rattle.sasi_host.specs.Buffered.{IsBuffered}
use Rattle.sasi_host.specs.Memory.{host_view, memory_host}
use Rattle.sasi_host_tests.proofs.gated.count_records.Given as goal

abbrev pub invariant-loop-record : goal.invariant-loop-record
invariant-loop-record g l = IsBuffered l.gated.buffered (host_view (memory_host l.host)).files
