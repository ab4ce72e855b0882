use Rattle.std.proofs.Common.{List, subst, sym}
use Rattle.std.specs.FinMap.{get}
use Rattle.std.specs.List.{AllByRecursion}
use Rattle.sasi_memindex.specs.Book.{CanAdd}
use Rattle.sasi_types.specs.declared.class.Class.{Class}
use Rattle.sasi_tables.specs.Held.{IsAddedToAll, KnowsDef, Rise}
use Rattle.sasi_tables.proofs.EachMap.{added_push, can_front, can_last, last_apart, rise_front}
use Rattle.sasi_tables.proofs.table_maps.add_to_all.Goals as goal

pub add_to_each-requires-clause-apart : goal.add_to_each-requires-clause-apart
add_to_each-requires-clause-apart g c = subst Rise (sym c.as_slice.ensures) (rise_front c.args.table.now.frozen c.args.table.now.memtable c.requires.apart)

pub add_to_each-requires-clause-can : goal.add_to_each-requires-clause-can
add_to_each-requires-clause-can g c =
    let def = c.args.def.now in
    subst (AllByRecursion (λ n. CanAdd def.column def.kind (get c.args.maps.now n))) (sym c.as_slice.ensures) (can_front (λ n. CanAdd def.column def.kind (get c.args.maps.now n)) c.args.table.now.frozen c.args.table.now.memtable c.requires.can)

pub add_index-requires-clause-can : goal.add_index-requires-clause-can
add_index-requires-clause-can g c =
    let def = c.args.def.now in
    let t = c.args.table.now in
    let done = subst (λ ns. IsAddedToAll def ns c.args.maps.now c.add_to_each.new.maps) c.as_slice.ensures c.in_ok-add_to_each.ensures.ok in
    subst (CanAdd def.column def.kind) (sym (done.others t.memtable (last_apart t.frozen t.memtable c.requires.apart))) (can_last (λ n. CanAdd def.column def.kind (get c.args.maps.now n)) t.frozen t.memtable c.requires.can)

pub add_index-requires-clause-known : goal.add_index-requires-clause-known
add_index-requires-clause-known g c = subst (λ (kinds : List Class). KnowsDef kinds c.args.def.now) (sym c.add_to_each.ensures.kinds) c.requires.known

pub returns-clause-ok : goal.returns-clause-ok
returns-clause-ok g c =
    let def = c.args.def.now in
    let t = c.args.table.now in
    let done = subst (λ ns. IsAddedToAll def ns c.args.maps.now c.add_to_each.new.maps) c.as_slice.ensures c.in_ok-add_to_each.ensures.ok in
    let e = c.in_ok-add_index.ensures in
    added_push def t.frozen t.memtable c.args.maps.now c.add_to_each.new.maps c.add_index.new.maps (last_apart t.frozen t.memtable c.requires.apart) done e.ok e.others
