use Rattle.std.proofs.Common.{rules, subst, sym}
use Rattle.sasi_host.specs.Memory.{host_view, memory_host}
use Rattle.sasi_host.specs.View.{IsThere}
use Rattle.sasi_sources_tests.proofs.steps.check_new.Goals as goal

pub check_left-requires-clause-read : goal.check_left-requires-clause-read
check_left-requires-clause-read g c = record {
  there = λ name is.
      let v = host_view (memory_host c.host_of-host.result) in
      subst (IsThere v) (sym (c.requires.opens name is)) (search rules);
  agrees = tt;
}

pub check_left-requires-clause-ready : goal.check_left-requires-clause-ready
check_left-requires-clause-ready g c = c.requires.ready _ _
