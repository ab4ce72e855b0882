use Rattle.std.proofs.Common.{◌≡◌, ◌+◌, ◌<◌, ◌≤◌, ◌^◌, ◌∷◌, Bool, ℕ, length, arith, refl, sym, ap, subst, ◌∙◌}
use Rattle.std.specs.FinMap as map_
use Rattle.sasi_candidates.specs.Candidates.{is_candidate}
use Rattle.sasi_cells.specs.Maps.{merged}
use Rattle.sasi_machine.proofs.Stored.{AllTexts, all_texts}
use Rattle.sasi_model.specs.Abbreviations.{Partitions}
use Rattle.sasi_model.specs.Cells.{Partition}
use Rattle.sasi_model.specs.Filters.{answers, where_of}
use Rattle.sasi_types.specs.declared.decorated_key.DecoratedKey.{DecoratedKey}
use Rattle.sasi_machine_layout.specs.Contents.{maps_in}
use Rattle.sasi_machine_layout.specs.Hits.{parts_in}
use Rattle.sasi_machine_layout.proofs.AnsweredChecks.{checked_over}
use Rattle.sasi_machine_layout.proofs.Counting.{counted_end, counted_full, counted_on, counted_past, counting_begun, room_more, room_on, room_past}
use Rattle.sasi_machine_layout.proofs.KeptMaps.{texts_in}
use Rattle.sasi_machine_layout.proofs.count.checked.Goals as goal

pub loop-key-init : goal.loop-key-init
loop-key-init g c =
    let q = c.args.query.now in
    let chosen : DecoratedKey × Partition → Bool = λ e. is_candidate (parts_in c.args.table.now c.args.parts.now) (where_of q.filter) e.0 in
    let m = merged (maps_in c.args.parts.now) in
    let begun : c.into_iter-key-iterator.result ≡ map_.entries m = c.into_iter-key-iterator.ensures.into_iter_gives ∙ c.iter-key-items.ensures.rest ∙ ap (λ (m : Partitions). map_.entries m) c.in_ok-all.ensures.partitions in
    record {
      counted = counting_begun (answers (where_of q.filter)) chosen q.limit c.into_iter-key-iterator.result (map_.entries m) begun;
      room = (let len = ap length begun in omega (arith, len));
      texts = subst AllTexts (sym begun) (all_texts m (texts_in c.args.parts.now c.requires.kept));
      kinds = refl;
    }

pub loop-key-preserved : goal.loop-key-preserved
loop-key-preserved g c =
    let q = c.args.query.now in
    let chosen : DecoratedKey × Partition → Bool = λ e. is_candidate (parts_in c.args.table.now c.args.parts.now) (where_of q.filter) e.0 in
    let entry : DecoratedKey × Partition = (c.in-Some.key.now, c.in-Some.partition.now) in
    let is : c.loop-key.key-iterator ≡ entry ∷ c.next.new.self = c.in-Some.ensures.steps in
    record {
      counted = counted_past (answers (where_of q.filter)) chosen c.loop-key.count.allowed c.loop-key.key-iterator entry c.next.new.self c.loop-key.count.checked _ is
          (sym c.in_ok-is_left.ensures.candidate ∙ c.if-branch.false) c.loop-key.invariant.counted;
      room = room_past c.loop-key.key-iterator entry c.next.new.self c.loop-key.count.checked _ is c.loop-key.invariant.room;
      texts = (subst AllTexts is c.loop-key.invariant.texts).1;
      kinds = c.is_left.ensures.kinds ∙ c.loop-key.invariant.kinds;
    }

pub loop-key-preserved-then-branch : goal.loop-key-preserved-then-branch
loop-key-preserved-then-branch g c =
    let q = c.args.query.now in
    let chosen : DecoratedKey × Partition → Bool = λ e. is_candidate (parts_in c.args.table.now c.args.parts.now) (where_of q.filter) e.0 in
    let entry : DecoratedKey × Partition = (c.in-Some.key.now, c.in-Some.partition.now) in
    let is : c.loop-key.key-iterator ≡ entry ∷ c.next.new.self = c.in-Some.ensures.steps in
    let most = length (map_.entries (merged (maps_in c.args.parts.now))) in
    record {
      counted = counted_on (answers (where_of q.filter)) chosen c.loop-key.count.allowed _ c.loop-key.key-iterator entry c.next.new.self c.loop-key.count.checked _ _ is
          (sym c.in_ok-is_left.ensures.candidate ∙ c.if-branch.true) c.in_ok-count.ensures.rest c.loop-key.invariant.counted;
      room = subst (λ (n : ℕ). n + length c.next.new.self ≤ most) (sym c.in_ok-count.ensures.one) (room_on c.loop-key.key-iterator entry c.next.new.self c.loop-key.count.checked most is c.loop-key.invariant.room);
      texts = (subst AllTexts is c.loop-key.invariant.texts).1;
      kinds = c.with.ensures.kinds ∙ c.is_left.ensures.kinds ∙ c.loop-key.invariant.kinds;
    }

pub with-requires-clause-room : goal.with-requires-clause-room
with-requires-clause-room g c =
    let entry : DecoratedKey × Partition = (c.in-Some.key.now, c.in-Some.partition.now) in
    let is : c.loop-key.key-iterator ≡ entry ∷ c.next.new.self = c.in-Some.ensures.steps in
    let begun = c.iter-key-items.ensures.rest ∙ ap (λ (m : Partitions). map_.entries m) c.in_ok-all.ensures.partitions in
    let few : length (map_.entries (merged (maps_in c.args.parts.now))) < 2 ^ 63 = (let len = ap length begun in omega (arith, len, c.iter-key-items.ensures.fits)) in
    room_more c.loop-key.key-iterator entry c.next.new.self c.loop-key.count.checked _ is c.loop-key.invariant.room few

pub with-requires-clause-texts : goal.with-requires-clause-texts
with-requires-clause-texts g c =
    let entry : DecoratedKey × Partition = (c.in-Some.key.now, c.in-Some.partition.now) in
    let is : c.loop-key.key-iterator ≡ entry ∷ c.next.new.self = c.in-Some.ensures.steps in
    (subst AllTexts is c.loop-key.invariant.texts).0

pub returns-then-is_full-clause-count : goal.returns-then-is_full-clause-count
returns-then-is_full-clause-count g c =
    let q = c.args.query.now in
    let chosen : DecoratedKey × Partition → Bool = λ e. is_candidate (parts_in c.args.table.now c.args.parts.now) (where_of q.filter) e.0 in
    let m = merged (maps_in c.args.parts.now) in
    let begun = c.iter-key-items.ensures.rest ∙ ap (λ (m : Partitions). map_.entries m) c.in_ok-all.ensures.partitions in
    let few : length (map_.entries m) < 2 ^ 63 = (let len = ap length begun in omega (arith, len, c.iter-key-items.ensures.fits)) in
    checked_over c.args.table.now c.args.parts.now q.limit (where_of q.filter) c.loop-key.count.checked
    (counted_full (answers (where_of q.filter)) chosen q.limit c.loop-key.count.allowed c.loop-key.key-iterator (map_.entries m) c.loop-key.count.checked (sym c.is_full.ensures ∙ c.if-is_full.true) few c.loop-key.invariant.counted)

pub returns-then-is_full-clause-kinds : goal.returns-then-is_full-clause-kinds
returns-then-is_full-clause-kinds g c = c.loop-key.invariant.kinds

pub returns-clause-count : goal.returns-clause-count
returns-clause-count g c =
    let q = c.args.query.now in
    let chosen : DecoratedKey × Partition → Bool = λ e. is_candidate (parts_in c.args.table.now c.args.parts.now) (where_of q.filter) e.0 in
    let m = merged (maps_in c.args.parts.now) in
    let begun = c.iter-key-items.ensures.rest ∙ ap (λ (m : Partitions). map_.entries m) c.in_ok-all.ensures.partitions in
    let few : length (map_.entries m) < 2 ^ 63 = (let len = ap length begun in omega (arith, len, c.iter-key-items.ensures.fits)) in
    checked_over c.args.table.now c.args.parts.now q.limit (where_of q.filter) c.loop-key.count.checked
    (counted_end (answers (where_of q.filter)) chosen q.limit c.loop-key.count.allowed c.loop-key.key-iterator (map_.entries m) c.loop-key.count.checked c.in-None.ensures.steps.0 few c.loop-key.invariant.counted)

pub returns-clause-kinds : goal.returns-clause-kinds
returns-clause-kinds g c = c.loop-key.invariant.kinds
