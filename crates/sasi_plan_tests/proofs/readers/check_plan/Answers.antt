use Rattle.std.proofs.Common.{◌≡◌, rules, sym, subst}
use Rattle.std.specs.List.{AllByRecursion}
use Rattle.sasi_types.specs.declared.column.ColumnType.{ColumnType}
use Rattle.sasi_types.specs.declared.column.ColumnType.TheVariants as kinds
use Rattle.sasi_cells.specs.declared.picked.Picked.{Picked}
use Rattle.sasi_host.specs.Memory.{host_view, memory_host}
use Rattle.sasi_host.specs.View.{IsThere}
use Rattle.sasi_machine.specs.TableRows.{AreStored}
use Rattle.sasi_memtable.specs.MemtableView.{MemtableView}
use Rattle.sasi_engine.specs.Plans.{map_numbers}
use Rattle.sasi_scan.specs.Numbered.{views_numbered}
use Rattle.sasi_plan.specs.contracts.plan_candidates.PlanCandidatesCandidates.TheImpl as source
use Rattle.sasi_plan_tests.proofs.AskedPlans.{source_ready}
use Rattle.sasi_plan_tests.proofs.MapLaws.{maps_stored, own_file}
use Rattle.sasi_plan_tests.proofs.readers.check_plan.Goals as goal

pub check_rows-requires-clause-read : goal.check_rows-requires-clause-read
check_rows-requires-clause-read g c = record {
  there = λ name is.
      let v = host_view (memory_host c.host_of-host.result) in
      subst (IsThere v) (sym (own_file c.args.view c.requires.own name (c.new-reader.ensures.opens name is))) (search rules);
  agrees = tt;
}

pub check_rows-requires-clause-ready : goal.check_rows-requires-clause-ready
check_rows-requires-clause-ready g c =
    let v = host_view (memory_host c.host_of-host.result) in
    c.new-reader.ensures.ready v.files c.args.maps.now (source_ready c.requires.numbers c.args.maps.now c.requires.maps c.args.view c.requires.own c.args.plan.source c.requires.planned.source)

pub check_rows-requires-clause-prints : goal.check_rows-requires-clause-prints
check_rows-requires-clause-prints g c =
    let v = host_view (memory_host c.host_of-host.result) in
    let text : c.args.plan.picked.key ≡ kinds.Text = search rules in
    subst (λ (k : Picked). source.prints-value.it c.new-reader.result.rows.candidates v.files c.args.maps.now k.key) (sym c.new-reader.ensures.picked)
    (c.new-reader.ensures.prints v.files c.args.maps.now c.args.plan.picked.key
    (record {
      first = c.requires.planned.key;
      stored = subst (λ (k : ColumnType). AllByRecursion (λ (m : MemtableView). AreStored k m.partitions) (views_numbered c.args.maps.now (map_numbers c.args.view))) (sym text) (maps_stored c.requires.numbers c.args.maps.now c.requires.maps c.args.view c.requires.own);
    }))
