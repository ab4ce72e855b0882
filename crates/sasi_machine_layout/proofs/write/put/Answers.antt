use Rattle.std.proofs.Common.{◌-◌, ◌<◌, arith, length, set, ap, ◌∙◌, refl}
use Rattle.std.proofs.lemmas.Option.{slice_get_read}
use Rattle.std.specs.Prelude.{max}
use Rattle.sasi_manifest.proofs.Additions.{set_same}
use Rattle.sasi_machine_layout.specs.Contents.{IsUnder}
use Rattle.sasi_machine_layout.specs.declared.contents.TableContents.{TableContents}
use Rattle.sasi_machine_layout.proofs.KeptContents.{contents_same, put_contents, still_there, tables_same, written_there}
use Rattle.sasi_machine_layout.proofs.TableLists.{all_at}
use Rattle.sasi_machine_layout.proofs.LayoutMoves.{put_layout}
use Rattle.sasi_machine_layout.proofs.MovesMade.{at_err}
use Rattle.sasi_machine_layout.proofs.write.put.Goals as goal

pub index_mut-table-requires : goal.index_mut-table-requires
index_mut-table-requires c =
    let old = c.args.contents.now in
    let there = written_there old c.args.mutation c.requires.contents c.requires.fits in
    omega (arith, there.some, there.inside, old.tables.ok.0)

pub returns-in_err-put_in-clause-err : goal.returns-in_err-put_in-clause-err
returns-in_err-put_in-clause-err c =
    let old = c.args.contents.now in
    let w = c.args.mutation in
    let there = written_there old w c.requires.contents c.requires.fits in
    let inside : w.table - 1 < length old.tables.items = omega (arith, there.some, there.inside) in
    let t = c.index_mut-table.result.now in
    let got = slice_get_read old.tables.items (length old.tables.items) (w.table - 1) t refl inside c.index_mut-table.ensures.value in
    at_err _ (tables_same old (w.table - 1) t c.put_in.new.table got c.in_err-put_in.ensures.err)

pub returns-in_err-put_in-clause-kept : goal.returns-in_err-put_in-clause-kept
returns-in_err-put_in-clause-kept c =
    let old = c.args.contents.now in
    let w = c.args.mutation in
    let there = written_there old w c.requires.contents c.requires.fits in
    let inside : w.table - 1 < length old.tables.items = omega (arith, there.some, there.inside) in
    let t = c.index_mut-table.result.now in
    let got = slice_get_read old.tables.items (length old.tables.items) (w.table - 1) t refl inside c.index_mut-table.ensures.value in
    let same = c.in_err-put_in.ensures.err in
    contents_same old _ c.requires.contents refl refl (ap (λ (x : TableContents). set old.tables.items (w.table - 1) x) same ∙ set_same old.tables.items (w.table - 1) t got) refl
    (tables_same old (w.table - 1) t c.put_in.new.table got same)

pub returns-clause-ok : goal.returns-clause-ok
returns-clause-ok c =
    let old = c.args.contents.now in
    let w = c.args.mutation in
    let there = written_there old w c.requires.contents c.requires.fits in
    let inside : w.table - 1 < length old.tables.items = omega (arith, there.some, there.inside) in
    let t = c.index_mut-table.result.now in
    let got = slice_get_read old.tables.items (length old.tables.items) (w.table - 1) t refl inside c.index_mut-table.ensures.value in
    let under = all_at (IsUnder old.partitioner) (w.table - 1) old.tables.items t c.requires.contents.under got in
    put_layout old w (set old.tables.items (w.table - 1) c.put_in.new.table) t c.put_in.new.table c.requires.contents there.some got under.memtable c.in_ok-put_in.ensures.ok refl

pub returns-clause-kept : goal.returns-clause-kept
returns-clause-kept c =
    let old = c.args.contents.now in
    let w = c.args.mutation in
    let there = written_there old w c.requires.contents c.requires.fits in
    let inside : w.table - 1 < length old.tables.items = omega (arith, there.some, there.inside) in
    let t = c.index_mut-table.result.now in
    let got = slice_get_read old.tables.items (length old.tables.items) (w.table - 1) t refl inside c.index_mut-table.ensures.value in
    let under = all_at (IsUnder old.partitioner) (w.table - 1) old.tables.items t c.requires.contents.under got in
    put_contents old _ w t c.put_in.new.table c.requires.contents c.requires.fits got c.in_ok-put_in.ensures.ok refl refl refl
    (c.max-contents.ensures ∙ ap (λ n. max old.max_timestamp n) c.max_timestamp-time.ensures)
    (put_layout old w (set old.tables.items (w.table - 1) c.put_in.new.table) t c.put_in.new.table c.requires.contents there.some got under.memtable c.in_ok-put_in.ensures.ok refl)

pub returns-clause-there : goal.returns-clause-there
returns-clause-there c =
    let old = c.args.contents.now in
    let w = c.args.mutation in
    let has = still_there old (set old.tables.items (w.table - 1) c.put_in.new.table) w.table (w.table - 1) c.put_in.new.table (written_there old w c.requires.contents c.requires.fits) refl in
    record { some = has.0; inside = has.1 }
