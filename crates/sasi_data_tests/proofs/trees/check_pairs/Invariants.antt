use Rattle.std.proofs.Common.{◌≡◌}
use Rattle.sasi_host.specs.Buffered.{IsBuffered}
use Rattle.sasi_host.specs.Memory.{host_view, memory_host}
use Rattle.sasi_tokentree.specs.Scans.{IsAtLast}
use Rattle.sasi_data_tests.specs.declared.tree_fixture.TheConstants.{FILE}
use Rattle.sasi_data_tests.proofs.trees.check_pairs.Given as goal

abbrev pub invariant-loop-k : goal.invariant-loop-k
invariant-loop-k g l = record {
  file : l.reader.buffered.file ≡ FILE;
  buffered : IsBuffered l.reader.buffered (host_view (memory_host l.host)).files;
  at_last : IsAtLast l.reader (host_view (memory_host l.host)).files;
}
