use Rattle.std.proofs.Common.{map, sym, ap, ◌∙◌, Some}
use Rattle.sasi_model.specs.Abbreviations.{ColumnRepeated}
use Rattle.sasi_schema.proofs.Repeated.{repeat_past, repeat_here, seen_more, was_new, was_old, name_at, names_inside}
use Rattle.sasi_schema.proofs.repeats.repeated_column.Goals as goal

pub returns-then-not-branch : goal.returns-then-not-branch
returns-then-not-branch g c =
    let columns = c.args.columns.now in
    let names = map (λ c. c.0) columns in
    let i = c.loop-column.column-index in
    let name = c.column-item.result.0 in
    let copy = c.in_ok-copy.field-0 in
    let there = was_old names i name copy _ _ c.in_ok-copy.ensures (c.loop-column.invariant.seen copy) c.in_ok-insert.ensures.added c.if-not-branch.true in
    c.loop-column.invariant.once
    ∙ repeat_here names i name (names_inside columns i c.loop-column-test.true) (name_at columns i c.column-item.result c.loop-column-test.true c.column-item.is) there
    ∙ ap (λ name. Some (ColumnRepeated name)) (sym c.in_ok-copy-2.ensures)

pub loop-column-preserved : goal.loop-column-preserved
loop-column-preserved g c =
    let columns = c.args.columns.now in
    let names = map (λ c. c.0) columns in
    let i = c.loop-column.column-index in
    let name = c.column-item.result.0 in
    let copy = c.in_ok-copy.field-0 in
    let inside = names_inside columns i c.loop-column-test.true in
    let is = name_at columns i c.column-item.result c.loop-column-test.true c.column-item.is in
    record {
      seen = λ q. seen_more names i name copy q _ _ inside is c.in_ok-copy.ensures (c.loop-column.invariant.seen q) (c.in_ok-insert.ensures.updates.0 q);
      once = c.loop-column.invariant.once ∙ repeat_past names i name inside is
          (was_new names i name copy _ _ c.in_ok-copy.ensures (c.loop-column.invariant.seen copy) c.in_ok-insert.ensures.added c.if-not-branch.false);
    }
