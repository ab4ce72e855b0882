use Rattle.std.proofs.Common.{◌≡◌, ◌+◌, ◌<◌, ◌^◌, ◌∷◌, Bool, List, length, arith, refl, sym, ap, subst, ◌∙◌}
use Rattle.std.specs.FinMap as map_
use Rattle.std.specs.List.{filter, list_any}
use Rattle.sasi_machine.proofs.Stored.{AllTexts, all_texts}
use Rattle.sasi_model.specs.Cells.{Partition}
use Rattle.sasi_model.specs.IndexTerms.{terms_of_cell}
use Rattle.sasi_model.specs.Tokens.{same}
use Rattle.sasi_types.specs.declared.decorated_key.DecoratedKey.{DecoratedKey}
use Rattle.sasi_machine_layout.proofs.Counting.{keys_over, keys_past, room_more, room_past}
use Rattle.sasi_machine_layout.proofs.stored.keys_with.Goals as goal

pub loop-key-init : goal.loop-key-init
loop-key-init g c =
    let has : DecoratedKey × Partition → Bool = λ e. list_any (same c.args.term.now) (terms_of_cell c.args.index.now.rule (map_.get e.1.cells c.args.index.now.column)) in
    let begun : c.into_iter-key-iterator.result ≡ map_.entries c.args.holds.now.partitions = c.into_iter-key-iterator.ensures.into_iter_gives ∙ c.iter-key-items.ensures.rest in
    record {
      counted = ap (λ (es : List (DecoratedKey × Partition)). 0 + length (filter has es)) begun ∙ omega arith;
      room = (let len = ap length begun in omega (arith, len));
      texts = subst AllTexts (sym begun) (all_texts c.args.holds.now.partitions c.requires);
      kinds = refl;
    }

pub loop-key-preserved : goal.loop-key-preserved
loop-key-preserved g c =
    let has : DecoratedKey × Partition → Bool = λ e. list_any (same c.args.term.now) (terms_of_cell c.args.index.now.rule (map_.get e.1.cells c.args.index.now.column)) in
    let entry : DecoratedKey × Partition = (c.in-Some._key.now, c.in-Some.partition.now) in
    let is : c.loop-key._key-iterator ≡ entry ∷ c.next.new.self = c.in-Some.ensures.steps in
    record {
      counted = keys_past has c.loop-key._key-iterator entry c.next.new.self c.loop-key.keys _ is (sym c.in_ok-has_term.ensures.found ∙ c.if-branch.false) c.loop-key.invariant.counted;
      room = room_past c.loop-key._key-iterator entry c.next.new.self c.loop-key.keys _ is c.loop-key.invariant.room;
      texts = (subst AllTexts is c.loop-key.invariant.texts).1;
      kinds = c.has_term.ensures.kinds ∙ c.loop-key.invariant.kinds;
    }

pub overflow_add-keys : goal.overflow_add-keys
overflow_add-keys g c =
    let entry : DecoratedKey × Partition = (c.in-Some._key.now, c.in-Some.partition.now) in
    let is : c.loop-key._key-iterator ≡ entry ∷ c.next.new.self = c.in-Some.ensures.steps in
    let few : length (map_.entries c.args.holds.now.partitions) < 2 ^ 63 = (let len = ap length c.iter-key-items.ensures.rest in omega (arith, len, c.iter-key-items.ensures.fits)) in
    let more = room_more c.loop-key._key-iterator entry c.next.new.self c.loop-key.keys _ is c.loop-key.invariant.room few in
    record { fits = omega (arith, more) }

pub returns-clause-keys : goal.returns-clause-keys
returns-clause-keys g c =
    let has : DecoratedKey × Partition → Bool = λ e. list_any (same c.args.term.now) (terms_of_cell c.args.index.now.rule (map_.get e.1.cells c.args.index.now.column)) in
    keys_over has c.loop-key._key-iterator c.loop-key.keys _ c.in-None.ensures.steps.0 c.loop-key.invariant.counted
