use Rattle.sasi_host.specs.Memory.{host_view, memory_host}
use Rattle.sasi_data_tests.specs.Scan.{IsScanOf}
use Rattle.sasi_data_tests.specs.declared.fixture.TheConstants.{DATA}
use Rattle.sasi_data_tests.proofs.scanning.check_scan.Given as goal

abbrev pub invariant-loop-k : goal.invariant-loop-k
invariant-loop-k g l = IsScanOf (host_view (memory_host l.host)) l.scan DATA
