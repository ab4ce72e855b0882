-- The size of a tree, level by level.
use Rattle.std.proofs.Common.{◌≡◌, ℕ, zero, suc, ◌+◌, ◌^◌, ◌<◌, ◌≤◌, List, [], length, sym, ap, ◌∙◌, arith}
use Rattle.sasi_types.specs.declared.tree.Pair.{Pair}
use Rattle.sasi_tokentree.specs.Format.{nodes, size, tree_bytes}
use Rattle.sasi_tokentree.specs.Heights.{levels_size}
use Rattle.sasi_tokentree.proofs.HeightLaws.{more_size, one_size, tree_length}

-- of one node
pub size_one : (most count result : ℕ) → count ≤ 255 → count ≤ most → result ≡ size count → result ≡ levels_size most count
unfolding levels_size
size_one zero count result one enough is = omega (arith, is)
size_one (suc most) count result one enough is = is ∙ sym (one_size most count one)

-- of more
pub size_more : (most count level above : ℕ) → 255 < count → count ≤ most → level ≡ size count → ((bound : ℕ) → nodes count ≤ bound → above ≡ levels_size bound (nodes count)) → level + above ≡ levels_size most count
size_more zero count level above many enough is others = absurd (omega arith)
size_more (suc most) count level above many enough is others = omega (arith, is, others most (omega arith), more_size most count many)

-- ---- where a tree ends

-- a level of one node is the last
pub last_fits : (at most count : ℕ) → 0 < count → count ≤ 255 → count ≤ most → at + size count ≤ 2 ^ 62 → at + levels_size most count ≤ 2 ^ 62
last_fits at zero count some one enough fits = absurd (omega arith)
last_fits at (suc most) count some one enough fits = omega (arith, fits, one_size most count one)

pub more_fits : (at most count next : ℕ) → 255 < count → count ≤ most → next ≡ nodes count → ((bound : ℕ) → next ≤ bound → at + size count + levels_size bound next ≤ 2 ^ 62) → at + levels_size most count ≤ 2 ^ 62
more_fits at zero count next many enough is others = absurd (omega arith)
more_fits at (suc most) count next many enough is others =
    omega (arith, others most (omega (arith, is)), ap (λ (n : ℕ). levels_size most n) is, more_size most count many)

-- the tree of no pairs ends where it begins
pub none_fits : (at : ℕ) (pairs : List Pair) → pairs ≡ [] → at ≤ 2 ^ 62 → at + length (tree_bytes at pairs) ≤ 2 ^ 62
unfolding levels_size
none_fits at pairs none fits =
    let zero : levels_size (length pairs) (length pairs) ≡ 0 = ap (λ (l : List Pair). levels_size (length l) (length l)) none in
    omega (arith, fits, tree_length at pairs, zero)

pub tree_fits : (at : ℕ) (pairs : List Pair) → at + levels_size (length pairs) (length pairs) ≤ 2 ^ 62 → at + length (tree_bytes at pairs) ≤ 2 ^ 62
tree_fits at pairs fits = omega (arith, fits, tree_length at pairs)
