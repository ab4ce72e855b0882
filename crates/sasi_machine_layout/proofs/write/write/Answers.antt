use Rattle.std.proofs.Common.{◌-◌, ◌<◌, arith, length, sym, ◌∙◌, refl}
use Rattle.std.proofs.lemmas.Option.{slice_get_read}
use Rattle.sasi_layout.specs.Statements.{are_full}
use Rattle.sasi_machine_layout.specs.Contents.{layout_of}
use Rattle.sasi_machine_layout.proofs.MovesMade.{at_err, nothing_made, on_err, on_ok, put_made, tested, write_flushed, write_spared}
use Rattle.sasi_machine_layout.proofs.write.write.Goals as goal

pub returns-in_err-put-clause-err : goal.returns-in_err-put-clause-err
returns-in_err-put-clause-err c = at_err _ (nothing_made _ _ _ c.in_err-put.ensures.err)

pub index-requires : goal.index-requires
index-requires c = let there = c.in_ok-put.ensures.there in omega (arith, there.some, there.inside, c.put.new.contents.tables.ok.0)

pub returns-then-is_full-clause-ok : goal.returns-then-is_full-clause-ok
returns-then-is_full-clause-ok c =
    let w = c.args.mutation in
    let middle = c.put.new.contents in
    let there = c.in_ok-put.ensures.there in
    let inside : w.table - 1 < length middle.tables.items = omega (arith, there.some, there.inside) in
    let t = c.index.result.now in
    let got = slice_get_read middle.tables.items (length middle.tables.items) (w.table - 1) t refl inside c.index.ensures in
    let full = tested are_full middle w.table t c.put.ensures.kept there.some got ∙ sym c.is_full.ensures ∙ c.if-is_full.true in
    on_ok c.flush.result (λ flushed. write_flushed w (layout_of c.args.contents.now) (layout_of middle) (layout_of c.flush.new.contents) c.in_ok-put.ensures.ok full flushed) c.flush.ensures.ok

pub returns-then-is_full-clause-err : goal.returns-then-is_full-clause-err
returns-then-is_full-clause-err c =
    on_err c.flush.result (λ same. put_made (layout_of c.args.contents.now) (layout_of c.flush.new.contents) c.args.mutation (same ∙ c.in_ok-put.ensures.ok)) c.flush.ensures.err

pub returns-clause-ok : goal.returns-clause-ok
returns-clause-ok c =
    let w = c.args.mutation in
    let middle = c.put.new.contents in
    let there = c.in_ok-put.ensures.there in
    let inside : w.table - 1 < length middle.tables.items = omega (arith, there.some, there.inside) in
    let t = c.index.result.now in
    let got = slice_get_read middle.tables.items (length middle.tables.items) (w.table - 1) t refl inside c.index.ensures in
    let room = tested are_full middle w.table t c.put.ensures.kept there.some got ∙ sym c.is_full.ensures ∙ c.if-is_full.false in
    write_spared w (layout_of c.args.contents.now) (layout_of middle) c.in_ok-put.ensures.ok room
