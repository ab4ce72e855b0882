-- The tests of a footer's numbers, for those of an index file.
use Rattle.std.specs.Prelude.{◌≡◌, ℕ, zero, suc, ◌+◌, ◌-◌, ◌*◌, ◌/◌, ◌%◌, ◌^◌, ◌<◌, ◌≤◌, nat_le, nat_lt, ◌==◌, ◌&&◌, Bool, true, false, if◌then◌else◌, List, [], ◌∷◌, length, refl}
use Rattle.std.proofs.Common.{◌∙◌, ap, arith, rules, ⊎_elim}
use Rattle.std.proofs.lemmas.Bool.{le-leb, lt-leb}
use Rattle.std.proofs.lemmas.Bool.Decides.{leb_tells}
use Rattle.sasi_types.specs.declared.tree.Pair.{Pair}
use Rattle.sasi_tokentree.specs.Format.{top, tree_bytes, tree_ref}
use Rattle.sasi_tokentree.specs.Damages.{is_tree_ref}
use Rattle.sasi_tokentree.proofs.Laws.{is_ref_of}
use Rattle.sasi_termblocks.specs.Blocks.{Item, EndsAfter, blocks, top_pointer}
use Rattle.sasi_termblocks.specs.Writing.{AreSmall}
use Rattle.sasi_termblocks.proofs.Levels.{some_blocks}
use Rattle.sasi_indexwrite.specs.Format.{is_first, has_room, has_levels, is_term_count, is_top, is_spill}
use Rattle.sasi_indexread.proofs.BlockCounts.{blocks_wide}
use Rattle.sasi_indexread.proofs.LevelSizes.{AreLevels, more_blocks, one_block}

both : (a b : Bool) → a ≡ true → b ≡ true → a && b ≡ true
both a b p q = ap (λ (t : Bool). t && b) p ∙ q

pub first_passes : (at first page : ℕ) → first ≡ 4096 * page → 1 ≤ page → first ≤ at → is_first at first ≡ true
first_passes at first page aligned some within =
    let whole : first % 4096 ≡ 0 = omega arith in
    let behind : 4096 ≤ first = omega arith in
    both (first % 4096 == 0) (nat_le 4096 first && nat_le first at) (search (rules, whole)) (both (nat_le 4096 first) (nat_le first at) (search (rules, behind)) (search (rules, within)))

-- the numbers of blocks, of levels and the top block, where the levels end there
module _ (levels at first : ℕ) (items : List Item) (are : AreLevels levels first items) (room : at ≡ first + 4096 * are.total) (ends : EndsAfter levels first items) where
  all_are : (at - first) / 4096 ≡ are.total
  all_are = omega (arith, room)

  count_passes : (count : ℕ) → count ≡ length (blocks items) → (if nat_le ((at - first) / 4096) 1 then count == (at - first) / 4096 else (nat_lt 1 count && nat_lt count ((at - first) / 4096))) ≡ true
  count_passes count same =
      let all = (at - first) / 4096 in
      ⊎_elim
      (λ low.
      let none : levels ≡ 0 = omega (arith, low.1) in
      let small : all ≤ 1 = omega (arith, all_are, are.none none, one_block levels first items ends none) in
      let exact : count ≡ all = omega (arith, all_are, are.none none, same) in
      let test : (count == all) ≡ true = search (rules, exact) in
      ap (λ (t : Bool). if t then (count == all) else (nat_lt 1 count && nat_lt count all)) (le-leb all 1 small) ∙ test)
      (λ high.
      let two = more_blocks levels first items ends high.1 in
      let large : 1 < all = omega (arith, all_are, are.enough, two) in
      let some : 1 < count = omega (arith, same, two) in
      let fewer : count < all = omega (arith, all_are, are.enough, same, high.1) in
      ap (λ (t : Bool). if t then (count == all) else (nat_lt 1 count && nat_lt count all)) (lt-leb all 1 large)
      ∙ both (nat_lt 1 count) (nat_lt count all) (search (rules, some)) (search (rules, fewer)))
      (leb_tells levels 0)

  pub room_passes : (page count : ℕ) → first ≡ 4096 * page → count ≡ length (blocks items) → has_room at first count ≡ true
  room_passes page count aligned same =
      let whole : at % 4096 ≡ 0 = omega (arith, room, aligned) in
      both (at % 4096 == 0) (if nat_le ((at - first) / 4096) 1 then count == (at - first) / 4096 else (nat_lt 1 count && nat_lt count ((at - first) / 4096))) (search (rules, whole)) (count_passes count same)

  pub levels_pass : (count : ℕ) → count ≡ length (blocks items) → has_levels at first count levels ≡ true
  levels_pass count same =
      let pointers = (at - first) / 4096 - count in
      ⊎_elim
      (λ low.
      let none : levels ≡ 0 = omega (arith, low.1) in
      let small : count ≤ 1 = omega (arith, same, one_block levels first items ends none) in
      let test : (levels == 0) ≡ true = search (rules, none) in
      ap (λ (t : Bool). if t then (levels == 0) else (if pointers == 1 then levels == 1 else (nat_lt 1 levels && nat_lt levels pointers))) (le-leb count 1 small) ∙ test)
      (λ high.
      let large : 1 < count = omega (arith, same, more_blocks levels first items ends high.1) in
      ap (λ (t : Bool). if t then (levels == 0) else (if pointers == 1 then levels == 1 else (nat_lt 1 levels && nat_lt levels pointers))) (lt-leb count 1 large)
      ∙ ⊎_elim
      (λ one.
      let single : levels ≡ 1 = omega (arith, one.1, high.1) in
      let block : pointers ≡ 1 = omega (arith, all_are, are.one single, same) in
      let first_test : (pointers == 1) ≡ true = search (rules, block) in
      let second_test : (levels == 1) ≡ true = search (rules, single) in
      ap (λ (t : Bool). if t then (levels == 1) else (nat_lt 1 levels && nat_lt levels pointers)) first_test ∙ second_test)
      (λ deep.
      let fewer : levels < pointers = omega (arith, all_are, are.many deep.1, same) in
      let more : 1 < pointers = omega (arith, fewer, deep.1) in
      let test : (pointers == 1) ≡ false = search (rules, more) in
      ap (λ (t : Bool). if t then (levels == 1) else (nat_lt 1 levels && nat_lt levels pointers)) test
      ∙ both (nat_lt 1 levels) (nat_lt levels pointers) (search (rules, deep.1)) (search (rules, fewer)))
      (leb_tells levels 1))
      (leb_tells levels 0)

pub top_passes : (levels at first top : ℕ) (items : List Item) (are : AreLevels levels first items) → at ≡ first + 4096 * are.total → EndsAfter levels first items → top ≡ top_pointer levels first items → is_top at levels top ≡ true
top_passes zero at first top items are room ends is = search (rules, is)
top_passes (suc more) at first top items are room ends is =
    let test : (suc more == 0) ≡ false = search rules in
    let some : 1 < length (blocks items) = more_blocks (suc more) first items ends (omega arith) in
    let place : top ≡ first + 4096 * are.before = is ∙ are.top in
    let last : top ≡ at - 4096 = omega (arith, place, room, are.last (omega (arith, some))) in
    let same : (top == at - 4096) ≡ true = search (rules, last) in
    ap (λ (t : Bool). if t then (top == 0) else (top == at - 4096)) test ∙ same

-- the top block stands in the file
pub top_small : (levels at first : ℕ) (items : List Item) (are : AreLevels levels first items) → at ≡ first + 4096 * are.total → EndsAfter levels first items → top_pointer levels first items ≤ at
top_small zero at first items are room ends = omega arith
top_small (suc more) at first items are room ends = omega (arith, are.top, are.last (omega (arith, more_blocks (suc more) first items ends (omega arith))), room)

pub spill_passes : (first at : ℕ) (pairs : List Pair) → 16 ≤ at → at + length (tree_bytes at pairs) ≤ first → first ≤ 2 ^ 62 → is_spill first (tree_ref at pairs) ≡ true
unfolding top
spill_passes first at [] behind within short = refl
spill_passes first at (one ∷ others) behind within short =
    let pairs = one ∷ others in
    let ref = tree_ref at pairs in
    let test : (length pairs == 0) ≡ false = search rules in
    ap (λ (t : Bool). if t then (ref.root == 0) else is_tree_ref 16 first ref) test ∙ is_ref_of 16 at first pairs (omega arith) behind within short

pub term_count_passes : (count terms : ℕ) (items : List Item) → AreSmall items → count ≡ length (blocks items) → terms ≡ length items → is_term_count count terms ≡ true
term_count_passes count terms items small same long = ⊎_elim
    (λ none.
    let zero_count : count ≡ 0 = omega (arith, none.1) in
    let one : (count == 0) ≡ true = search (rules, zero_count) in
    let no_terms : terms ≡ 0 = ⊎_elim (λ few. omega (arith, few.1)) (λ more. absurd (omega (arith, some_blocks items (omega (arith, more.1, long)), same, none.1))) (leb_tells terms 0) in
    let two : (terms == 0) ≡ true = search (rules, no_terms) in
    ap (λ (t : Bool). if t then (terms == 0) else nat_le count terms) one ∙ two)
    (λ some.
    let not_zero : (count == 0) ≡ false = by_zero count some.1 in
    let wide = blocks_wide items small (omega (arith, some.1, same)) in
    let le : count ≤ terms = omega (arith, some.1, same, long, wide) in
    let two : nat_le count terms ≡ true = search (rules, le) in
    ap (λ (t : Bool). if t then (terms == 0) else nat_le count terms) not_zero ∙ two)
    (leb_tells count 0)
  where
    by_zero : (n : ℕ) → 0 < n → (n == 0) ≡ false
    by_zero zero lt = absurd (omega (arith, lt))
    by_zero (suc n) lt = let test : (suc n == 0) ≡ false = search rules in test
