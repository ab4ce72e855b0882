use Rattle.std.proofs.Common.{◌-◌, ◌<◌, ◌||◌, false, not, arith, length, sym, ap, ◌∙◌, refl}
use Rattle.std.proofs.lemmas.Option.{slice_get_read}
use Rattle.sasi_layout.specs.Statements.{any_partition}
use Rattle.sasi_machine_layout.specs.Contents.{layout_of}
use Rattle.sasi_machine_layout.proofs.MovesMade.{flush_asked, flush_spared, on_ok, tested}
use Rattle.sasi_machine_layout.proofs.flush.flush_unless_empty.Goals as goal

pub index-requires : goal.index-requires
index-requires c = omega (arith, c.requires.there.some, c.requires.there.inside, c.args.contents.now.tables.ok.0)

pub returns-then-is_empty-clause-ok : goal.returns-then-is_empty-clause-ok
returns-then-is_empty-clause-ok c =
    let old = c.args.contents.now in
    let there = c.requires.there in
    let inside : c.args.table - 1 < length old.tables.items = omega (arith, there.some, there.inside) in
    let t = c.index.result.now in
    let got = slice_get_read old.tables.items (length old.tables.items) (c.args.table - 1) t refl inside c.index.ensures in
    sym (flush_spared any_partition c.args.table (layout_of old)
    (tested any_partition old c.args.table t c.requires.contents there.some got ∙ ap (λ b. not b || false) (sym c.is_empty.ensures ∙ c.if-is_empty.true)))

pub returns-clause-ok : goal.returns-clause-ok
returns-clause-ok c =
    let old = c.args.contents.now in
    let there = c.requires.there in
    let inside : c.args.table - 1 < length old.tables.items = omega (arith, there.some, there.inside) in
    let t = c.index.result.now in
    let got = slice_get_read old.tables.items (length old.tables.items) (c.args.table - 1) t refl inside c.index.ensures in
    let some = tested any_partition old c.args.table t c.requires.contents there.some got ∙ ap (λ b. not b || false) (sym c.is_empty.ensures ∙ c.if-is_empty.false) in
    on_ok c.flush.result (λ flushed. flushed ∙ sym (flush_asked any_partition c.args.table (layout_of old) some)) c.flush.ensures.ok
