use Rattle.std.proofs.Common.{◌-◌, ◌<◌, length, refl, sym, ap, ◌∙◌}
use Rattle.std.proofs.lemmas.Option.{slice_get_read}
use Rattle.sasi_layout.specs.Layout.{drawn}
use Rattle.sasi_machine_layout.specs.Draws.{rising_of}
use Rattle.sasi_machine_layout.proofs.DrawnNumbers.{parts_here, schema_there}
use Rattle.sasi_machine_layout.proofs.MovesMade.{on_value}
use Rattle.sasi_machine_layout.proofs.flush.rising_in.Goals as goal

pub bounds-tables-table : goal.bounds-tables-table
bounds-tables-table c = schema_there c.args.contents.now c.tables-tables.result.now c.args.table c.requires.contents c.requires.there c.tables-tables.ensures.definitions

pub returns : goal.returns
returns c =
    let old = c.args.contents.now in
    let tables = c.tables-tables.result.now in
    let at = c.args.table - 1 in
    let inside : at < length tables = schema_there old tables c.args.table c.requires.contents c.requires.there c.tables-tables.ensures.definitions in
    let t = c.index-tables-table.result in
    let got = slice_get_read tables (length tables) at t refl inside c.index-tables-table.is in
    let slice = c.as_slice.ensures ∙ ap (λ x. x.indexes) (sym c.index-tables-table.is) in
    on_value c.rising_numbers.result
    (λ numbers is.
    ap (drawn old.part) (is ∙ ap rising_of slice)
    ∙ parts_here old tables c.args.table t c.requires.contents c.requires.there c.tables-tables.ensures.definitions c.tables-tables.ensures.numbers got)
    c.rising_numbers.ensures
