-- The tree of so few pairs that one node has them.
use Rattle.std.proofs.Common.{◌≡◌, ℕ, zero, suc, ◌+◌, ◌<◌, ◌≤◌, List, ◌++◌, length, sym, ◌∙◌, ap, arith}
use Rattle.std.proofs.lemmas.List.{take_all}
use Rattle.sasi_types.specs.declared.tree.Pair.{Pair}
use Rattle.sasi_tokentree.specs.Format.{entries_of_node, first_nodes, level_bytes, node, nodes, levels, tree_bytes, tree_ref}
use Rattle.sasi_tokentree.proofs.Sizes.{first_nodes_more, first_nodes_none, level_length, one_level}
use Rattle.sasi_tokentree.proofs.LevelSteps.{last_top}

-- a level of one node
one_node : (level : ℕ) (entries : List Pair) → 0 < length entries → length entries ≤ 255 → level_bytes level entries ≡ node level entries
one_node level entries some most =
    let one : nodes (length entries) ≡ 0 + 1 = omega arith in
    let all : entries_of_node entries 0 ≡ entries = take_all 255 entries (omega arith) in
    ap (λ (n : ℕ). first_nodes level entries n) one ∙ first_nodes_more level entries 0
    ∙ ap (λ (l : List ℕ). l ++ node level (entries_of_node entries 0)) (first_nodes_none level entries) ∙ ap (λ (l : List Pair). node level l) all

levels_one : (most at : ℕ) (entries : List Pair) → 0 < length entries → length entries ≤ 255 → length entries ≤ most → levels most 0 at entries ≡ node 0 entries
levels_one zero at entries some one enough = absurd (omega arith)
levels_one (suc most) at entries some one enough = one_level most 0 at entries one ∙ one_node 0 entries some one

-- is that node
pub small_tree : (at : ℕ) (pairs : List Pair) → 0 < length pairs → length pairs ≤ 255 → tree_bytes at pairs ≡ node 0 pairs
small_tree at pairs some most = levels_one (length pairs) at pairs some most (omega arith)

pub small_length : (pairs : List Pair) → 0 < length pairs → length pairs ≤ 255 → length (node 0 pairs) ≤ 4088
small_length pairs some most = omega (arith, ap length (sym (one_node 0 pairs some most)), level_length 0 pairs)

-- and its root is at its offset
pub small_ref : (at count : ℕ) (pairs : List Pair) → 0 < length pairs → length pairs ≤ 255 → count ≡ length pairs → record { root = at; pairs = count } ≡ tree_ref at pairs
small_ref at count pairs some most same =
    ap (λ (n : ℕ). record { root = at; pairs = n }) same ∙ ap (λ (n : ℕ). record { root = n; pairs = length pairs }) (last_top at (length pairs) (length pairs) some most (omega arith))
