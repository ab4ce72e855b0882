use Rattle.std.proofs.Common.{◌-◌, ◌<◌, arith, length, set, refl}
use Rattle.std.proofs.lemmas.Option.{slice_get_read}
use Rattle.sasi_machine_layout.specs.Contents.{AreKept}
use Rattle.sasi_machine_layout.proofs.KeptContents.{flush_contents, untouched_contents, untouched_layout}
use Rattle.sasi_machine_layout.proofs.LayoutMoves.{flush_layout}
use Rattle.sasi_machine_layout.proofs.MovesMade.{at_err}
use Rattle.sasi_machine_layout.proofs.TableLists.{all_at}
use Rattle.sasi_machine_layout.proofs.flush.flush.Goals as goal

pub index_mut-here-requires : goal.index_mut-here-requires
index_mut-here-requires c = omega (arith, c.requires.there.some, c.requires.there.inside, c.args.contents.now.tables.ok.0)

pub returns-in_err-store-clause-err : goal.returns-in_err-store-clause-err
returns-in_err-store-clause-err c =
    let old = c.args.contents.now in
    let at = c.args.table - 1 in
    let there = c.requires.there in
    let inside : at < length old.tables.items = omega (arith, there.some, there.inside) in
    let t = c.index_mut-here.result.now in
    let got = slice_get_read old.tables.items (length old.tables.items) at t refl inside c.index_mut-here.ensures.value in
    at_err _ (untouched_layout old at t c.store.new.table got c.in_err-store.ensures.err)

pub returns-in_err-store-clause-kept : goal.returns-in_err-store-clause-kept
returns-in_err-store-clause-kept c =
    let old = c.args.contents.now in
    let at = c.args.table - 1 in
    let there = c.requires.there in
    let inside : at < length old.tables.items = omega (arith, there.some, there.inside) in
    let t = c.index_mut-here.result.now in
    let got = slice_get_read old.tables.items (length old.tables.items) at t refl inside c.index_mut-here.ensures.value in
    untouched_contents old _ at t c.store.new.table c.requires.contents got c.in_err-store.ensures.err refl refl refl refl (untouched_layout old at t c.store.new.table got c.in_err-store.ensures.err)

pub returns-clause-ok : goal.returns-clause-ok
returns-clause-ok c =
    let old = c.args.contents.now in
    let at = c.args.table - 1 in
    let there = c.requires.there in
    let inside : at < length old.tables.items = omega (arith, there.some, there.inside) in
    let t = c.index_mut-here.result.now in
    let got = slice_get_read old.tables.items (length old.tables.items) at t refl inside c.index_mut-here.ensures.value in
    let kept = all_at AreKept at old.tables.items t c.requires.contents.kept got in
    flush_layout old c.args.table c.in_ok-drawn.drawn (set old.tables.items at c.store.new.table) t c.store.new.table c.new-empty.result c.requires.contents there.some got kept.memtable
    c.in_ok-drawn.ensures c.new-empty.ensures c.in_ok-store.ensures.ok refl

pub returns-clause-kept : goal.returns-clause-kept
returns-clause-kept c =
    let old = c.args.contents.now in
    let at = c.args.table - 1 in
    let there = c.requires.there in
    let inside : at < length old.tables.items = omega (arith, there.some, there.inside) in
    let t = c.index_mut-here.result.now in
    let got = slice_get_read old.tables.items (length old.tables.items) at t refl inside c.index_mut-here.ensures.value in
    let kept = all_at AreKept at old.tables.items t c.requires.contents.kept got in
    let drawn = c.in_ok-drawn.drawn in
    flush_contents old _ c.args.table t c.store.new.table drawn.listed drawn.last c.new-empty.result c.requires.contents got c.new-empty.ensures c.in_ok-store.ensures.ok refl refl refl refl
    (flush_layout old c.args.table drawn (set old.tables.items at c.store.new.table) t c.store.new.table c.new-empty.result c.requires.contents there.some got kept.memtable
    c.in_ok-drawn.ensures c.new-empty.ensures c.in_ok-store.ensures.ok refl)
