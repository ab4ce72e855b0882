use Rattle.std.proofs.Common.{sym, subst, rules, ⊎_elim}
use Rattle.sasi_host.specs.Memory.{host_view, memory_host}
use Rattle.sasi_host.specs.View.{IsThere}
use Rattle.sasi_hits_tests.proofs.OfOk.{of_ok}
use Rattle.sasi_hits_tests.proofs.parts.hits_of_all_parts_are_united.Goals as goal

pub check-requires-clause-read : goal.check-requires-clause-read
check-requires-clause-read g c = record {
  there = λ name is.
      let v = host_view (memory_host c.host_of-host.result) in
      ⊎_elim (λ of_data. subst (IsThere v) (sym of_data) (search rules)) (λ of_index. subst (IsThere v) (sym of_index) (search rules))
      (c.streams_of.ensures.opens name (of_ok _ c.new.result c.expect-union.result c.expect-union.ensures c.new.ensures.opens name is));
  agrees = tt;
}

pub check-requires-clause-ready : goal.check-requires-clause-ready
check-requires-clause-ready g c = of_ok _ c.new.result c.expect-union.result c.expect-union.ensures c.new.ensures.ready _ (c.streams_of.ensures.ready _)
