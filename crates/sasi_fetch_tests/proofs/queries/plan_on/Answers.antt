use Rattle.std.proofs.Common.{List, Some, slice_get, refl, sym, ap, ◌∙◌}
use Rattle.sasi_types.specs.declared.column.ColumnType.{ColumnType}
use Rattle.sasi_types.specs.declared.partitioner.Partitioner.TheVariants.{Lead8}
use Rattle.sasi_schema.specs.Defined.{definition}
use Rattle.sasi_plan_tests.proofs.AskedPlans.{source_on}
use Rattle.sasi_fetch_tests.proofs.queries.plan_on.Goals as goal

pub returns-clause-planned : goal.returns-clause-planned
returns-clause-planned g c =
    let ok = c.new.ensures in
    record {
      source = source_on Lead8 (definition c.args.table.now) c.args.table.now.indexes c.expect.result.conditions c.expect.result.source refl (rw c.expect.ensures at ok.asked) (rw c.expect.ensures at ok.source);
      key = ap (λ (ts : List ColumnType). slice_get ts 0) (rw c.expect.ensures at ok.types) ∙ ap Some (sym (rw c.expect.ensures at ok.key));
    }

pub returns-clause-key : goal.returns-clause-key
returns-clause-key g c = rw c.expect.ensures at c.new.ensures.key

pub returns-clause-classes : goal.returns-clause-classes
returns-clause-classes g c classes class lacks = (rw c.expect.ensures at c.new.ensures.classes) classes class lacks
