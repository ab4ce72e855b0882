use Rattle.std.proofs.Common.{List, get_or, refl, subst, sym, ◌∙◌}
use Rattle.std.specs.FinMap.{get}
use Rattle.sasi_memindex.specs.Book.{CanAdd}
use Rattle.sasi_types.specs.declared.class.Class.{Class}
use Rattle.std.proofs.lemmas.Option.{slice_get-get_or}
use Rattle.sasi_tables.specs.Held.{IsAddedToAll, KnowsDef}
use Rattle.sasi_tables.proofs.EachMap.{added_none, added_push, take_apart, take_next}
use Rattle.sasi_tables.proofs.TablesInMemory.{all_at}
use Rattle.sasi_tables.proofs.table_maps.add_to_each.Goals as goal

pub loop-number-init : goal.loop-number-init
loop-number-init g c = record { added = added_none c.args.def.now c.args.maps.now; kinds = refl }

pub add_index-requires-clause-can : goal.add_index-requires-clause-can
add_index-requires-clause-can g c =
    let at = c.loop-number in
    let def = c.args.def.now in
    let n = get_or c.args.numbers.now at.number-index 0 in
    let there = slice_get-get_or c.args.numbers.now at.number-index 0 c.loop-number-test.true in
    subst (CanAdd def.column def.kind) (sym (at.invariant.added.others n (take_apart c.args.numbers.now at.number-index n c.requires.apart there)))
    (all_at (λ k. CanAdd def.column def.kind (get c.args.maps.now k)) at.number-index c.args.numbers.now n c.requires.can there)

pub add_index-requires-clause-known : goal.add_index-requires-clause-known
add_index-requires-clause-known g c = subst (λ (kinds : List Class). KnowsDef kinds c.args.def.now) (sym c.loop-number.invariant.kinds) c.requires.known

pub loop-number-preserved : goal.loop-number-preserved
loop-number-preserved g c =
    let at = c.loop-number in
    let def = c.args.def.now in
    let n = get_or c.args.numbers.now at.number-index 0 in
    let there = slice_get-get_or c.args.numbers.now at.number-index 0 c.loop-number-test.true in
    let e = c.in_ok-add_index.ensures in
    record {
      added = subst (λ ns. IsAddedToAll def ns c.args.maps.now c.add_index.new.maps) (sym (take_next c.args.numbers.now at.number-index n there))
          (added_push def _ n c.args.maps.now at.maps c.add_index.new.maps (take_apart c.args.numbers.now at.number-index n c.requires.apart there) at.invariant.added e.ok e.others);
      kinds = e.kinds ∙ at.invariant.kinds;
    }
