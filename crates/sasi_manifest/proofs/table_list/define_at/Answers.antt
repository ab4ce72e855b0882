use Rattle.std.proofs.Common.{◌-◌, refl}
use Rattle.std.proofs.lemmas.Option.{slice_get_read}
use Rattle.sasi_manifest.proofs.Additions.{defined_at, defined_none, index_within, index_of_table}
use Rattle.sasi_manifest.proofs.table_list.define_at.Goals as goal

pub add_index-requires : goal.add_index-requires
add_index-requires c =
    let tables = c.args.tables.now.items in
    index_of_table c.args.def tables c.index_mut-changed.result.now c.requires.rises c.requires.index
    (slice_get_read tables _ (c.args.def.table - 1) c.index_mut-changed.result.now refl (index_within c.args.def tables c.requires.index) c.index_mut-changed.ensures.value)

pub returns-clause-ok : goal.returns-clause-ok
returns-clause-ok c =
    let tables = c.args.tables.now.items in
    defined_at c.args.def tables c.add_index.result c.index_mut-changed.result.now c.add_index.new.self (index_within c.args.def tables c.requires.index) c.index_mut-changed.ensures.value
    c.add_index.ensures.number c.add_index.ensures.definition c.add_index.ensures.numbers

pub returns-clause-err : goal.returns-clause-err
returns-clause-err c =
    let tables = c.args.tables.now.items in
    defined_none c.args.def tables c.add_index.result c.index_mut-changed.result.now c.add_index.new.self (index_within c.args.def tables c.requires.index) c.index_mut-changed.ensures.value c.add_index.ensures.err
