-- How many levels of pointers an index file of at most 2^40 bytes has.
use Rattle.std.specs.Prelude.{◌≡◌, ℕ, zero, suc, ◌+◌, ◌-◌, ◌^◌, ◌<◌, ◌≤◌, List, length}
use Rattle.std.proofs.Common.{sym, subst, arith, lit≤, ⊎_elim}
use Rattle.std.proofs.lemmas.Bool.Decides.{leb_tells}
use Rattle.std.proofs.lemmas.List.{length-map}
use Rattle.sasi_host.specs.Names.{Bytes}
use Rattle.sasi_termblocks.specs.Blocks.{EndsAfter, Item, above, blocks, first_term, first_terms, items_of, next_at}
use Rattle.sasi_termblocks.proofs.Groups.{AreItems, are_small, items_are, leasts_short, pointers_are}
use Rattle.sasi_termblocks.proofs.LevelLaws.{pointers_length}
use Rattle.sasi_indexwrite.specs.Content.{IndexContent}
use Rattle.sasi_indexwrite.specs.Files.{IsIndexFile}
use Rattle.sasi_indexwrite.specs.Format.{blocks_at, entries}
use Rattle.sasi_indexread.proofs.BlockCounts.{blocks_wide}
use Rattle.sasi_indexread.proofs.LevelSizes.{levels_are}
use Rattle.sasi_indexread.proofs.Standing.{have_bytes, whole_length}

levels_wide : (more at : ℕ) (items : List Item) → AreItems items → EndsAfter (suc more) at items → 3 ^ more < length (blocks items)
unfolding EndsAfter
levels_wide zero at items are ends = omega (arith, ends.0)
levels_wide (suc more) at items are ends =
    let up = above at items in
    let up_are : AreItems up = pointers_are at (first_terms items) (leasts_short items are) in
    let higher : 3 ^ more < length (blocks up) = levels_wide more (next_at at items) up up_are ends.1 in
    let same : length up ≡ length (blocks items) = omega (arith, pointers_length at (first_terms items), length-map (blocks items) first_term) in
    let wide = blocks_wide up (are_small up up_are) (omega (arith, higher)) in
    omega (arith, higher, same, wide)

powers_rise : (more n : ℕ) → n ≡ more + 27 → 3 ^ 27 ≤ 3 ^ n
powers_rise zero n is = subst (λ (k : ℕ). 3 ^ 27 ≤ 3 ^ k) (sym is) (lit≤ tt)
powers_rise (suc more) zero is = absurd (omega (arith, is))
powers_rise (suc more) (suc n) is = let before = powers_rise more n (omega (arith, is)) in omega (arith, before)

powers_part : (more at : ℕ) (items : List Item) → AreItems items → EndsAfter more at items → length (blocks items) ≤ 2 ^ 28 → more ≤ 27
powers_part zero at items are ends few = omega arith
powers_part (suc more) at items are ends few = ⊎_elim
    (λ high.
    let wide = levels_wide more at items are ends in
    let rise = powers_rise (more - 27) more (omega (arith, high.1)) in
    absurd (omega (arith, wide, rise, few)))
    (λ low. omega (arith, low.1))
    (leb_tells 27 more)

-- a file of at most 2^40 bytes has at most 27 levels of pointers
pub few_levels : (bytes : Bytes) (content : IndexContent) (is : IsIndexFile bytes content) → length bytes ≤ 2 ^ 40 → is.blocks.levels ≤ 27
few_levels bytes content is short =
    let are = items_are (entries content) (have_bytes bytes content is (omega (arith, short))) in
    let sizes = levels_are is.blocks.levels (blocks_at content) (items_of (entries content)) are is.referred.levels_are in
    powers_part is.blocks.levels (blocks_at content) (items_of (entries content)) are is.referred.levels_are
    (omega (arith, short, sizes.long, sizes.enough, whole_length bytes content is))
