use Rattle.std.proofs.Common.{◌≡◌, [], ◌∷◌, List, Option, length, arith, refl, sym, ap, subst, ◌∙◌}
use Rattle.std.specs.FinMap as fin
use Rattle.sasi_types.specs.declared.decorated_key.DecoratedKey.{DecoratedKey}
use Rattle.sasi_types.specs.declared.value.Value.{Value}
use Rattle.sasi_model.specs.Cells.{Partition}
use Rattle.sasi_model.specs.Filters.{where_of}
use Rattle.sasi_machine.specs.TableRows.{is_full, rows_picked}
use Rattle.sasi_machine.proofs.Printed.{HasLines, lines_all, lines_begin, lines_full, lines_more, rows_more}
use Rattle.sasi_machine.proofs.Stored.{AllStored, AllTexts, all_stored, all_texts, rows_at_most}
use Rattle.sasi_machine.proofs.table_rows.row_lines.Goals as goal

pub loop-decorated_key-init : goal.loop-decorated_key-init
loop-decorated_key-init g c =
    let q = c.args.query.now in
    let rows : List (DecoratedKey × Partition) → List (List (Option Value)) = λ es. rows_picked q.picked.key q.picked.columns (where_of q.filter) es in
    let begun : c.into_iter-decorated_key-iterator.result ≡ fin.entries c.args.memtable.now.partitions = c.into_iter-decorated_key-iterator.ensures.into_iter_gives ∙ c.iter-decorated_key-items.ensures.rest in
    record {
      lines = rw (c.new-lines.ensures.items) (subst (λ (es : List (DecoratedKey × Partition)). HasLines q.limit (rows (fin.entries c.args.memtable.now.partitions)) (rows es) []) (sym begun)
          (lines_begin q.limit (rows (fin.entries c.args.memtable.now.partitions))));
      stored = subst (AllStored q.picked.key) (sym begun) (all_stored q.picked.key c.args.memtable.now.partitions c.requires.keys);
      texts = subst AllTexts (sym begun) (all_texts c.args.memtable.now.partitions c.requires.texts);
      kinds = refl;
    }

pub loop-decorated_key-preserved : goal.loop-decorated_key-preserved
loop-decorated_key-preserved g c =
    let q = c.args.query.now in
    let entry : DecoratedKey × Partition = (c.in-Some.decorated_key.now, c.in-Some.partition.now) in
    let rows : List (DecoratedKey × Partition) → List (List (Option Value)) = λ es. rows_picked q.picked.key q.picked.columns (where_of q.filter) es in
    let rest = c.next.new.self in
    let is : c.loop-decorated_key.decorated_key-iterator ≡ entry ∷ rest = c.in-Some.ensures.steps in
    let long : length c.loop-decorated_key.lines.items ≡ c.len.result = omega (arith, c.len.ensures, c.loop-decorated_key.lines.ok.0) in
    record {
      lines = lines_more q.limit (rows (fin.entries c.args.memtable.now.partitions)) (rows c.loop-decorated_key.decorated_key-iterator) c.loop-decorated_key.lines.items c.loop-decorated_key.invariant.lines
          (rows (entry ∷ [])) (rows rest) c.add_line.new.lines.items (ap (is_full q.limit) long ∙ sym c.is_full.ensures ∙ c.if-is_full.false)
          (ap rows is ∙ rows_more q.picked.key q.picked.columns (where_of q.filter) entry rest)
          (rows_at_most q.picked.key q.picked.columns (where_of q.filter) (entry ∷ [])) (c.in_ok-add_line.ensures.lines c.in-Some.decorated_key.now.token);
      stored = (subst (AllStored q.picked.key) is c.loop-decorated_key.invariant.stored).1;
      texts = (subst AllTexts is c.loop-decorated_key.invariant.texts).1;
      kinds = c.add_line.ensures.kinds ∙ c.loop-decorated_key.invariant.kinds;
    }

pub returns-then-is_full-clause-lines : goal.returns-then-is_full-clause-lines
returns-then-is_full-clause-lines g c =
    let q = c.args.query.now in
    let rows : List (DecoratedKey × Partition) → List (List (Option Value)) = λ es. rows_picked q.picked.key q.picked.columns (where_of q.filter) es in
    let long : length c.loop-decorated_key.lines.items ≡ c.len.result = omega (arith, c.len.ensures, c.loop-decorated_key.lines.ok.0) in
    lines_full q.limit (rows (fin.entries c.args.memtable.now.partitions)) (rows c.loop-decorated_key.decorated_key-iterator) c.loop-decorated_key.lines.items c.loop-decorated_key.invariant.lines
    (ap (is_full q.limit) long ∙ sym c.is_full.ensures ∙ c.if-is_full.true)

pub returns-clause-lines : goal.returns-clause-lines
returns-clause-lines g c =
    let q = c.args.query.now in
    let rows : List (DecoratedKey × Partition) → List (List (Option Value)) = λ es. rows_picked q.picked.key q.picked.columns (where_of q.filter) es in
    lines_all q.limit (rows (fin.entries c.args.memtable.now.partitions)) (rows c.loop-decorated_key.decorated_key-iterator) c.loop-decorated_key.lines.items c.loop-decorated_key.invariant.lines
    (ap rows c.in-None.ensures.steps.0)
