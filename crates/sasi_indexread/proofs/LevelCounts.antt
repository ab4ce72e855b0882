-- How many levels of pointers an index file has: each block that isn't the last of its level has three entries at least.
use Rattle.std.specs.Prelude.{◌≡◌, ℕ, zero, suc, ◌+◌, ◌-◌, ◌*◌, ◌^◌, ◌<◌, ◌≤◌, List, length}
use Rattle.std.proofs.Common.{sym, subst, arith, lit≤, ⊎_elim}
use Rattle.std.proofs.lemmas.Bool.Decides.{leb_tells}
use Rattle.std.proofs.lemmas.List.{length-map}
use Rattle.sasi_host.specs.Names.{Bytes}
use Rattle.sasi_terms.specs.declared.op.Op.{Op}
use Rattle.sasi_termblocks.specs.Blocks.{EndsAfter, Item, above, blocks, first_term, first_terms, items_of, next_at}
use Rattle.sasi_termblocks.proofs.Groups.{AreItems, are_small, items_are, leasts_short, pointers_are}
use Rattle.sasi_termblocks.proofs.LevelLaws.{pointers_length}
use Rattle.sasi_indexwrite.specs.Content.{IndexContent}
use Rattle.sasi_indexwrite.specs.Files.{IsIndexFile}
use Rattle.sasi_indexwrite.specs.Format.{blocks_at, entries}
use Rattle.sasi_indexread.specs.Costs.{pairs_read, whole_cost}
use Rattle.sasi_indexread.proofs.BlockCounts.{blocks_wide}
use Rattle.sasi_indexread.proofs.CostLaws.{cost_bound}
use Rattle.sasi_indexread.proofs.Standing.{have_bytes, whole_length}
use Rattle.sasi_indexread.proofs.LevelSizes.{levels_are}

-- ---- the levels

levels_wide : (more at : ℕ) (items : List Item) → AreItems items → EndsAfter (suc more) at items → 3 ^ more < length (blocks items)
unfolding EndsAfter
levels_wide zero at items are ends = omega (arith, ends.0)
levels_wide (suc more) at items are ends =
    let up = above at items in
    let up_are : AreItems up = pointers_are at (first_terms items) (leasts_short items are) in
    let higher : 3 ^ more < length (blocks up) = levels_wide more (next_at at items) up up_are ends.1 in
    let same : length up ≡ length (blocks items) = omega (arith, pointers_length at (first_terms items), length-map (blocks items) first_term) in
    let wide = blocks_wide up (are_small up up_are) (omega (arith, higher)) in
    omega (arith, higher, same, wide)

-- the powers rise
powers_rise : (more n : ℕ) → n ≡ more + 30 → 3 ^ 30 ≤ 3 ^ n
powers_rise zero n is = subst (λ (k : ℕ). 3 ^ 30 ≤ 3 ^ k) (sym is) (lit≤ tt)
powers_rise (suc more) zero is = absurd (omega (arith, is))
powers_rise (suc more) (suc n) is = let before = powers_rise more n (omega (arith, is)) in omega (arith, before)

powers_part : (more at : ℕ) (items : List Item) → AreItems items → EndsAfter more at items → length (blocks items) ≤ 2 ^ 46 → more ≤ 30
powers_part zero at items are ends few = omega arith
powers_part (suc more) at items are ends few = ⊎_elim
    (λ high.
    let wide = levels_wide more at items are ends in
    let rise = powers_rise (more - 30) more (omega (arith, high.1)) in
    absurd (omega (arith, wide, rise, few)))
    (λ low. omega (arith, low.1))
    (leb_tells 30 more)

-- For callers: a file of at most 2^58 bytes has at most 30 levels of pointers,
pub few_levels : (bytes : Bytes) (content : IndexContent) (is : IsIndexFile bytes content) → length bytes ≤ 2 ^ 58 → is.blocks.levels ≤ 30
few_levels bytes content is short =
    let are = items_are (entries content) (have_bytes bytes content is (omega (arith, short))) in
    let sizes = levels_are is.blocks.levels (blocks_at content) (items_of (entries content)) are is.referred.levels_are in
    powers_part is.blocks.levels (blocks_at content) (items_of (entries content)) are is.referred.levels_are
    (omega (arith, short, sizes.long, sizes.enough, whole_length bytes content is))

-- so that a search of it makes at most 32 reads, and four for each pair that it goes through
pub search_bound : (bytes : Bytes) (content : IndexContent) (is : IsIndexFile bytes content) (op : Op) (body : Bytes) → length bytes ≤ 2 ^ 58
    → whole_cost is.blocks.levels content op body ≤ 32 + 4 * (pairs_read content op body + length content.spill)
search_bound bytes content is op body short = omega (arith, cost_bound is.blocks.levels content op body is.content_is, few_levels bytes content is short)
