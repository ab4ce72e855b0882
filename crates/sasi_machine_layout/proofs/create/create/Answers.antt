use Rattle.std.proofs.Common.{◌++◌, ◌∷◌, [], List, ap, ◌∙◌, refl}
use Rattle.sasi_machine_layout.specs.declared.contents.TableContents.{TableContents}
use Rattle.sasi_machine_layout.proofs.DefinedContents.{create_made, same_layout}
use Rattle.sasi_machine_layout.proofs.KeptContents.{contents_same, create_contents, next_free, next_number}
use Rattle.sasi_machine_layout.proofs.MovesMade.{at_err}
use Rattle.sasi_machine_layout.proofs.create.create.Goals as goal

pub restore_table-requires-clause-number : goal.restore_table-requires-clause-number
restore_table-requires-clause-number c = next_number c.args.contents.now c.args.table c.requires.contents c.requires.next

pub restore_table-requires-clause-free : goal.restore_table-requires-clause-free
restore_table-requires-clause-free c = next_free c.args.contents.now c.args.table c.requires.contents c.requires.next

pub returns-in_err-reserve_one-clause-err : goal.returns-in_err-reserve_one-clause-err
returns-in_err-reserve_one-clause-err c = at_err _ (same_layout c.args.contents.now c.args.contents.now.schema c.reserve_one.new.tables.items refl c.reserve_one.ensures.items)

pub returns-in_err-reserve_one-clause-kept : goal.returns-in_err-reserve_one-clause-kept
returns-in_err-reserve_one-clause-kept c =
    let old = c.args.contents.now in
    contents_same old _ c.requires.contents refl refl c.reserve_one.ensures.items refl (same_layout old old.schema c.reserve_one.new.tables.items refl c.reserve_one.ensures.items)

pub returns-in_err-restore_table-clause-err : goal.returns-in_err-restore_table-clause-err
returns-in_err-restore_table-clause-err c = at_err _ (same_layout c.args.contents.now c.restore_table.new.self c.reserve_one.new.tables.items c.in_err-restore_table.ensures.err c.reserve_one.ensures.items)

pub returns-in_err-restore_table-clause-kept : goal.returns-in_err-restore_table-clause-kept
returns-in_err-restore_table-clause-kept c =
    let old = c.args.contents.now in
    contents_same old _ c.requires.contents refl c.in_err-restore_table.ensures.err c.reserve_one.ensures.items refl
    (same_layout old c.restore_table.new.self c.reserve_one.new.tables.items c.in_err-restore_table.ensures.err c.reserve_one.ensures.items)

pub returns-clause-ok : goal.returns-clause-ok
returns-clause-ok c =
    create_made c.args.contents.now c.args.table c.restore_table.new.self c.add_within.new.tables.items c.new_table-new.result c.in_ok-records.records c.in_ok-length.length c.in_ok-edits.edits c.requires.contents c.requires.next c.requires.plain
    c.in_ok-restore_table.ensures.ok c.in_ok-edits.ensures c.in_ok-records.ensures c.in_ok-length.ensures c.new_table-new.ensures
    (c.add_within.ensures ∙ ap (λ (items : List TableContents). items ++ c.new_table-new.result ∷ []) c.reserve_one.ensures.items)

pub returns-clause-kept : goal.returns-clause-kept
returns-clause-kept c =
    let items = c.add_within.ensures ∙ ap (λ (items : List TableContents). items ++ c.new_table-new.result ∷ []) c.reserve_one.ensures.items in
    create_contents c.args.contents.now _ c.args.table c.new_table-new.result c.requires.contents c.new_table-new.ensures.files_are c.new_table-new.ensures.memtable_is refl c.in_ok-restore_table.ensures.ok items refl
    (create_made c.args.contents.now c.args.table c.restore_table.new.self c.add_within.new.tables.items c.new_table-new.result c.in_ok-records.records c.in_ok-length.length c.in_ok-edits.edits c.requires.contents c.requires.next c.requires.plain
    c.in_ok-restore_table.ensures.ok c.in_ok-edits.ensures c.in_ok-records.ensures c.in_ok-length.ensures c.new_table-new.ensures items)
