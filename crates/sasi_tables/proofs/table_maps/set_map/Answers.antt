use Rattle.std.proofs.Common.{[], List, refl, Some, subst, sym, ◌∙◌}
use Rattle.std.specs.FinMap.{get}
use Rattle.sasi_memindex.specs.Book.{Book, bare}
use Rattle.sasi_types.specs.declared.class.Class.{Class}
use Rattle.sasi_types.specs.declared.index_def.IndexDef.{IndexDef}
use Rattle.sasi_tables.specs.Held.{AreAdded, KnowsDef, OthersStay}
use Rattle.sasi_tables.proofs.AddedToMaps.{added_first, added_more, can_more, known_more, take_one}
use Rattle.sasi_tables.proofs.HeldChanges.{insert_here, insert_others}
use Rattle.sasi_tables.proofs.TablesInMemory.{index_got}
use Rattle.sasi_tables.proofs.table_maps.set_map.Goals as goal

pub loop-def-init : goal.loop-def-init
loop-def-init g c =
    let book = c.args.maps.now in
    let part = bare c.args.memtable in
    record {
      added = subst (λ (b : Book). AreAdded [] (Some part) (get b c.args.number)) (sym c.in_ok-add.ensures.ok) (subst (AreAdded [] (Some part)) (sym (insert_here book c.args.number part)) (added_first c.args.defs.now (Some part) c.requires.can));
      others = subst (OthersStay c.args.number book) (sym c.in_ok-add.ensures.ok) (insert_others book c.args.number part);
      kinds = refl;
    }

pub add_index-requires-clause-can : goal.add_index-requires-clause-can
add_index-requires-clause-can g c =
    let at = c.loop-def in
    let there = index_got c.args.defs.now at.def-index c.def-item.result c.loop-def-test.true c.def-item.is in
    can_more c.args.defs.now _ (Some (bare c.args.memtable)) (get at.maps c.args.number) at.def-index c.def-item.result c.requires.can at.invariant.added there

pub add_index-requires-clause-known : goal.add_index-requires-clause-known
add_index-requires-clause-known g c =
    let at = c.loop-def in
    let there = index_got c.args.defs.now at.def-index c.def-item.result c.loop-def-test.true c.def-item.is in
    subst (λ (kinds : List Class). KnowsDef kinds c.def-item.result) (sym at.invariant.kinds) (known_more _ c.args.defs.now at.def-index c.def-item.result c.requires.known there)

pub loop-def-preserved : goal.loop-def-preserved
loop-def-preserved g c =
    let at = c.loop-def in
    let def = c.def-item.result in
    let there = index_got c.args.defs.now at.def-index def c.loop-def-test.true c.def-item.is in
    let e = c.in_ok-add_index.ensures in
    record {
      added = subst (λ (l : List IndexDef). AreAdded l (Some (bare c.args.memtable)) (get c.add_index.new.maps c.args.number)) (sym (take_one c.args.defs.now at.def-index def there))
          (added_more _ def (Some (bare c.args.memtable)) (get at.maps c.args.number) (get c.add_index.new.maps c.args.number) at.invariant.added e.ok);
      others = λ other differ. e.others other differ ∙ at.invariant.others other differ;
      kinds = e.kinds ∙ at.invariant.kinds;
    }
