use Rattle.std.proofs.Common.{List, rules, subst, sym}
use Rattle.sasi_host.specs.Memory.{host_view, memory_host}
use Rattle.sasi_host.specs.View.{IsThere}
use Rattle.sasi_types.specs.declared.class.Class.{Class}
use Rattle.sasi_types.specs.declared.column.ColumnType.TheVariants as kinds
use Rattle.sasi_recheck.specs.Rows.{KnowsWhere, RecheckView}
use Rattle.sasi_sources_tests.proofs.rechecks.check_select.Goals as goal

pub check_rows-requires-clause-read : goal.check_rows-requires-clause-read
check_rows-requires-clause-read g c = record {
  there = λ name is.
      let v = host_view (memory_host c.host_of-host.result) in
      subst (IsThere v) (sym (c.requires.source.opens name (subst (λ (r : RecheckView _). g.C.Candidates.opens r.candidates name) c.new-recheck.ensures is))) (search rules);
  agrees = tt;
}

pub check_rows-requires-clause-ready : goal.check_rows-requires-clause-ready
check_rows-requires-clause-ready g c =
    let v = host_view (memory_host c.host_of-host.result) in
    subst (λ (r : RecheckView _). g.C.Candidates.ready r.candidates v.files c.args.maps.now) (sym c.new-recheck.ensures) (c.requires.source.ready v.files c.args.maps.now)

pub check_rows-requires-clause-prints : goal.check_rows-requires-clause-prints
check_rows-requires-clause-prints g c =
    let v = host_view (memory_host c.host_of-host.result) in
    subst (λ (r : RecheckView _). g.C.Candidates.prints r.candidates v.files c.args.maps.now kinds.Text) (sym c.new-recheck.ensures) (c.requires.source.prints v.files c.args.maps.now c.requires.maps)

pub check_rows-requires-clause-known : goal.check_rows-requires-clause-known
check_rows-requires-clause-known g c = subst (λ (r : RecheckView _). (classes : List Class) → KnowsWhere classes r.filter) (sym c.new-recheck.ensures) c.requires.known
