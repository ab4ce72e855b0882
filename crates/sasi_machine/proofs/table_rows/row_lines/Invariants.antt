use Rattle.std.proofs.Common.{◌≡◌, map}
use Rattle.std.specs.FinMap as fin
use Rattle.sasi_machine.specs.TableRows.{rows_picked}
use Rattle.sasi_model.specs.Filters.{where_of}
use Rattle.sasi_machine.proofs.Printed.{HasLines}
use Rattle.sasi_machine.proofs.Stored.{AllStored, AllTexts}
use Rattle.sasi_machine.proofs.table_rows.row_lines.Given as goal

-- the lines so far and the rows that are left are all rows
abbrev pub invariant-loop-decorated_key : goal.invariant-loop-decorated_key
invariant-loop-decorated_key g l =
    let left = rows_picked l.query.picked.key l.query.picked.columns (where_of l.query.filter) l.decorated_key-iterator in
    let all = rows_picked l.query.picked.key l.query.picked.columns (where_of l.query.filter) (fin.entries l.memtable.partitions) in
    record {
      lines : HasLines l.query.limit all left l.lines.items;
      stored : AllStored l.query.picked.key l.decorated_key-iterator;
      texts : AllTexts l.decorated_key-iterator;
      kinds : map (λ b. (goal.Analyzer-dyn g (b.vtable, b.value)).kind b.value) l.kit.objects.items ≡ map (λ b. (goal.Analyzer-dyn g (b.vtable, b.value)).kind b.value) l.fn.kit.objects.items;
    }
