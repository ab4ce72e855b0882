use Rattle.std.proofs.Common.{List, [], sym, subst}
use Rattle.std.specs.List.{AllByRecursion}
use Rattle.sasi_host.specs.Memory.{host_view, memory_host}
use Rattle.sasi_model.specs.Conditions.{Condition}
use Rattle.sasi_recheck.specs.Rows.{KnowsWhere}
use Rattle.sasi_plan_tests.proofs.AskedPlans.{source_ready}
use Rattle.sasi_plan_tests.specs.Fixture.{IsOwnPart}
use Rattle.sasi_fetch_tests.proofs.OwnCursors.{keys_typed}
use Rattle.sasi_fetch_tests.proofs.between.check.Goals as goal

pub check_fetch-requires-clause-cursor : goal.check_fetch-requires-clause-cursor
check_fetch-requires-clause-cursor g c =
    let files = (host_view (memory_host c.host_of-host.result)).files in
    let plan = c.plan_of-plan.result in
    let view = c.file_and_maps-view.result in
    let book = c.book_of-book.result in
    let own = c.file_and_maps-view.ensures in
    record {
      types = plan.types;
      readable = c.new-cursor.ensures.readable files book (source_ready [] book c.book_of-book.ensures view own plan.source c.plan_of-plan.ensures.planned.source) (keys_typed plan view book c.plan_of-plan.ensures own c.book_of-book.ensures);
      own = subst (AllByRecursion IsOwnPart) (sym c.new-cursor.ensures.view) own;
      known = λ classes. subst (λ (cs : List Condition). KnowsWhere classes cs) (sym c.new-cursor.ensures.conditions) (c.plan_of-plan.ensures.known classes);
    }
