-- How many bytes the levels of blocks take, and where the top block stands.
use Rattle.std.proofs.Common.{◌≡◌, ℕ, zero, suc, ◌+◌, ◌*◌, ◌<◌, ◌≤◌, List, length, length-append, refl, arith}
use Rattle.std.proofs.lemmas.List.{length-map}
use Rattle.sasi_termblocks.specs.Blocks.{Item, EndsAfter, above, blocks, first_term, first_terms, level_bytes, levels_bytes, next_at, top_of}
use Rattle.sasi_termblocks.proofs.CutLaws.{all_blocks}
use Rattle.sasi_termblocks.proofs.Groups.{AreItems, are_small, blocks_length, leasts_short, pointers_are}
use Rattle.sasi_termblocks.proofs.LevelLaws.{pointers_length}
use Rattle.sasi_termblocks.proofs.Levels.{some_blocks}

-- so many blocks of 4,096 bytes in all, of which the top one is the last
pub record AreLevels (more at : ℕ) (items : List Item) : Type 0 where
  pub total : ℕ
  pub long : length (levels_bytes more at items) ≡ 4096 * total
  pub enough : length (blocks items) + more ≤ total
  -- no level of pointers has no block, one has one, and more have more blocks than levels
  pub none : more ≡ 0 → total ≡ length (blocks items)
  pub one : more ≡ 1 → total ≡ length (blocks items) + 1
  pub many : 1 < more → length (blocks items) + more < total
  pub before : ℕ
  pub top : top_of more at items ≡ at + 4096 * before
  pub last : 0 < length (blocks items) → before + 1 ≡ total

level_long : (items : List Item) → AreItems items → length (level_bytes items) ≡ 4096 * length (blocks items)
level_long items are = blocks_length (blocks items) (all_blocks items (are_small items are))

-- a last level has at most one block, and each other one has more
pub one_block : (levels at : ℕ) (items : List Item) → EndsAfter levels at items → levels ≡ 0 → length (blocks items) ≤ 1
unfolding EndsAfter
one_block zero at items ends none = ends
one_block (suc more) at items ends none = absurd (omega (arith, none))

pub more_blocks : (levels at : ℕ) (items : List Item) → EndsAfter levels at items → 0 < levels → 1 < length (blocks items)
unfolding EndsAfter
more_blocks zero at items ends some = absurd (omega (arith, some))
more_blocks (suc more) at items ends some = ends.0

pub levels_are : (more at : ℕ) (items : List Item) → AreItems items → EndsAfter more at items → AreLevels more at items
unfolding levels_bytes top_of EndsAfter
levels_are zero at items are ends = record {
  total = length (blocks items);
  long = level_long items are;
  enough = omega arith;
  none = λ _. refl;
  one = λ is. absurd (omega (arith, is));
  many = λ deep. absurd (omega (arith, deep));
  before = 0;
  top = omega arith;
  last = λ some. omega (arith, some, ends);
}
levels_are (suc more) at items are ends =
    let up = above at items in
    let up_are : AreItems up = pointers_are at (first_terms items) (leasts_short items are) in
    let rest = levels_are more (next_at at items) up up_are ends.1 in
    let same : length up ≡ length (blocks items) = omega (arith, pointers_length at (first_terms items), length-map (blocks items) first_term) in
    let some : 0 < length (blocks up) = some_blocks up (omega (arith, same, ends.0)) in
    record {
      total = length (blocks items) + rest.total;
      long = omega (arith, length-append (level_bytes items) (levels_bytes more (next_at at items) up), level_long items are, rest.long);
      enough = omega (arith, rest.enough, some);
      none = λ is. absurd (omega (arith, is));
      one = λ is. omega (arith, some, rest.none (omega (arith, is)), one_block more (next_at at items) up ends.1 (omega (arith, is)));
      many = λ deep. omega (arith, rest.enough, more_blocks more (next_at at items) up ends.1 (omega (arith, deep)));
      before = length (blocks items) + rest.before;
      top = omega (arith, rest.top);
      last = λ _. omega (arith, rest.last some);
    }
