-- A file to which a tree was written has it, and its root stands within the tree.
use Rattle.std.specs.Prelude.{◌≡◌, ℕ, zero, suc, ◌+◌, ◌^◌, ◌<◌, ◌≤◌, nat_le, Bool, true, ◌&&◌, List, ◌++◌, length, take, drop}
use Rattle.std.proofs.Common.{sym, ap, ◌∙◌, subst, arith, rules, ⊎_elim, length-append}
use Rattle.std.proofs.lemmas.List.{length-take-le}
use Rattle.std.proofs.lemmas.Bool.Decides.{leb_tells}
use Rattle.sasi_types.specs.declared.tree.Pair.{Pair}
use Rattle.sasi_host.specs.Names.{Bytes}
use Rattle.sasi_host.specs.Disk.{overlay}
use Rattle.sasi_tokentree.specs.Format.{above, levels, level_bytes, nodes, size, top, tree_bytes, tree_ref, IsRising, AreFit, HasTree}
use Rattle.sasi_tokentree.proofs.Sizes.{first_above_length, level_length, more_levels, one_level, top_more, top_one}
use Rattle.sasi_tokentree.specs.Heights.{bytes_below_root}
use Rattle.sasi_tokentree.proofs.HeightLaws.{levels_least, top_is, tree_length}
use Rattle.sasi_tokentree.specs.Damages.{is_node_offset, is_tree_ref}

-- a file in which the tree was written has it
pub has_written : (old : Bytes) (at : ℕ) (pairs : List Pair) → at ≤ length old → IsRising pairs → AreFit pairs → HasTree (overlay old at (tree_bytes at pairs)) (tree_ref at pairs) pairs
has_written old at pairs within rising fit =
    let begun : length (take at old) ≡ at = length-take-le at old within in
    record {
      front = take at old;
      rest = drop (at + length (tree_bytes at pairs)) old;
      is = ap (λ (n : ℕ). take at old ++ tree_bytes n pairs ++ drop (at + length (tree_bytes at pairs)) old) (sym begun);
      referred = ap (λ (n : ℕ). tree_ref n pairs) (sym begun);
      rising = rising;
      fit = fit;
    }

top_within : (most level at : ℕ) (entries : List Pair) → 0 < length entries → length entries ≤ most → top most at (length entries) + 24 ≤ at + length (levels most level at entries)
top_within zero level at entries some enough = absurd (omega arith)
top_within (suc most) level at entries some enough = ⊎_elim
    (λ one. omega (arith, some, top_one most at (length entries) one.1, ap length (one_level most level at entries one.1), level_length level entries))
    (λ more.
    let next = at + size (length entries) in
    let count : length (above at entries) ≡ nodes (length entries) = first_above_length at entries (nodes (length entries)) in
    let higher = subst (λ (n : ℕ). top most next n + 24 ≤ next + length (levels most (suc level) next (above at entries))) count
    (top_within most (suc level) next (above at entries) (omega (arith, more.1, count)) (omega (arith, more.1, count, enough))) in
    omega (
      arith,
      higher,
      top_more most at (length entries) more.1,
      ap length (more_levels most level at entries more.1),
      level_length level entries,
      length-append (level_bytes level entries) (levels most (suc level) next (above at entries)),
    ))
    (leb_tells (length entries) 255)

-- the root of a tree stands within the tree's bytes
pub record RootStands (at : ℕ) (pairs : List Pair) : Type 0 where
  pub behind : at ≤ (tree_ref at pairs).root
  pub within : (tree_ref at pairs).root + 24 ≤ at + length (tree_bytes at pairs)

pub root_offset : (at : ℕ) (pairs : List Pair) → 0 < length pairs → RootStands at pairs
root_offset at pairs some = record {
  behind = omega (arith, top_is (length pairs) at (length pairs) some (omega arith));
  within = top_within (length pairs) 0 at pairs some (omega arith);
}

-- so a node can stand there, in front of whatever comes behind the tree
pub is_root_offset : (at to : ℕ) (pairs : List Pair) → 0 < length pairs → at + length (tree_bytes at pairs) ≤ to → is_node_offset at to (tree_ref at pairs).root ≡ true
is_root_offset at to pairs some le =
    let place = root_offset at pairs some in
    let root = (tree_ref at pairs).root in
    let first : nat_le at root ≡ true = search (rules, place.behind) in
    let within : root + 24 ≤ to = omega (arith, place.within, le) in
    let second : nat_le (root + 24) to ≡ true = search (rules, within) in
    ap (λ (b : Bool). b && nat_le (root + 24) to) first ∙ second

-- and the tree's own reference can be that of a tree there
pub is_ref_of : (from at to : ℕ) (pairs : List Pair) → 0 < length pairs → from ≤ at → at + length (tree_bytes at pairs) ≤ to → to ≤ 2 ^ 62 → is_tree_ref from to (tree_ref at pairs) ≡ true
is_ref_of from at to pairs some behind le short =
    let root = (tree_ref at pairs).root in
    let below = bytes_below_root (length pairs) (length pairs) in
    let place = root_offset at pairs some in
    let low : from ≤ root = omega (arith, behind, place.behind) in
    let high : root + 24 ≤ to = omega (arith, place.within, le) in
    let few : length pairs ≤ 2 ^ 58 = omega (arith, le, short, tree_length at pairs, levels_least (length pairs) (length pairs) (omega arith)) in
    let room : from + below ≤ root = omega (arith, behind, top_is (length pairs) at (length pairs) some (omega arith)) in
    let one : nat_le from root ≡ true = search (rules, low) in
    let two : nat_le (root + 24) to ≡ true = search (rules, high) in
    let three : nat_le (length pairs) (2 ^ 58) ≡ true = search (rules, few) in
    let four : nat_le (from + below) root ≡ true = search (rules, room) in
    all (nat_le from root) (nat_le (root + 24) to) (nat_le (length pairs) (2 ^ 58)) (nat_le (from + below) root) one two three four
  where
    all : (a b c d : Bool) → a ≡ true → b ≡ true → c ≡ true → d ≡ true → (a && b) && (c && d) ≡ true
    all a b c d one two three four = ap (λ (t : Bool). (t && b) && (c && d)) one ∙ ap (λ (t : Bool). t && (c && d)) two ∙ ap (λ (t : Bool). t && d) three ∙ four
