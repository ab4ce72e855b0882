-- How many bytes the parts of a tree take, and what its levels are made of.
use Rattle.std.specs.Prelude.{◌≡◌, ℕ, zero, suc, ◌+◌, ◌-◌, ◌*◌, ◌<◌, ◌≤◌, min, List, [], ◌∷◌, ◌++◌, length, drop, refl}
use Rattle.std.proofs.Common.{◌∙◌, ap, arith, add-one, length-append, length-drop}
use Rattle.std.proofs.lemmas.List.{length-take, length_push}
use Rattle.std.proofs.lemmas.Bool.{le-leb, lt-leb}
use Rattle.std.specs.List.{flat_map}
use Rattle.std.specs.Int.{to_be_bytes, w16, w32, w64}
use Rattle.sasi_types.specs.declared.tree.Pair.{Pair}
use Rattle.sasi_tokentree.specs.Format.{entry, node_header, node, nodes, size, entries_of_node, first_nodes, level_bytes, entry_for, first_above, above, levels, top}

-- ---- nodes

pub entry_length : (pair : Pair) → length (entry pair) ≡ 16
unfolding entry
entry_length pair = length-append (to_be_bytes w64 pair.token) (to_be_bytes w64 pair.place)

pub entries_length : (entries : List Pair) → length (flat_map entry entries) ≡ 16 * length entries
entries_length [] = refl
entries_length (first ∷ others) = omega (arith, length-append (entry first) (flat_map entry others), entry_length first, entries_length others)

pub head_length : (level count : ℕ) → length (node_header level count) ≡ 8
unfolding node_header
head_length level count = omega (arith, length-append (to_be_bytes w16 count) (to_be_bytes w32 0))

pub node_length : (level : ℕ) (entries : List Pair) → length (node level entries) ≡ 8 + 16 * length entries
unfolding node
node_length level entries = omega (arith, length-append (node_header level (length entries)) (flat_map entry entries), head_length level (length entries), entries_length entries)

pub part_length : (entries : List Pair) (index : ℕ) → length (entries_of_node entries index) ≡ min 255 (length entries - 255 * index)
part_length entries index = length-take 255 (drop (255 * index) entries) ∙ ap (λ (n : ℕ). min 255 n) (length-drop (255 * index) entries)

-- ---- a level

-- one node more
pub first_nodes_more : (level : ℕ) (entries : List Pair) (index : ℕ) → first_nodes level entries (index + 1) ≡ first_nodes level entries index ++ node level (entries_of_node entries index)
unfolding first_nodes
first_nodes_more level entries index = rw add-one

pub first_nodes_none : (level : ℕ) (entries : List Pair) → first_nodes level entries 0 ≡ []
unfolding first_nodes
first_nodes_none level entries = refl

-- as long as they are full, each has 4,088 bytes
pub first_nodes_length : (level : ℕ) (entries : List Pair) (index : ℕ) → 255 * index ≤ length entries → length (first_nodes level entries index) ≡ 4088 * index
unfolding first_nodes
first_nodes_length level entries zero le = refl
first_nodes_length level entries (suc index) le =
    omega (
      arith,
      length-append (first_nodes level entries index) (node level (entries_of_node entries index)),
      first_nodes_length level entries index
          (omega arith),
      node_length level (entries_of_node entries index),
      part_length entries index,
    )

-- and all of them have the bytes of the level
pub level_length : (level : ℕ) (entries : List Pair) → length (level_bytes level entries) ≡ size (length entries)
unfolding first_nodes
level_length level entries = from (nodes (length entries)) refl
  where
    from : (count : ℕ) → nodes (length entries) ≡ count → length (first_nodes level entries count) ≡ size (length entries)
    from zero is = omega arith
    from (suc index) is =
        omega (
          arith,
          is,
          length-append (first_nodes level entries index) (node level (entries_of_node entries index)),
          first_nodes_length level entries index
              (omega (arith, is)),
          node_length level (entries_of_node entries index),
          part_length entries index,
        )

-- ---- the level above

pub first_above_more : (at : ℕ) (entries : List Pair) (index : ℕ) → first_above at entries (index + 1) ≡ first_above at entries index ++ entry_for at entries index ∷ []
unfolding first_above
first_above_more at entries index = rw add-one

pub first_above_none : (at : ℕ) (entries : List Pair) → first_above at entries 0 ≡ []
unfolding first_above
first_above_none at entries = refl

pub first_above_length : (at : ℕ) (entries : List Pair) (count : ℕ) → length (first_above at entries count) ≡ count
unfolding first_above
first_above_length at entries zero = refl
first_above_length at entries (suc index) = omega (arith, length_push (first_above at entries index) (entry_for at entries index), first_above_length at entries index)

-- ---- levels

pub one_level : (most level at : ℕ) (entries : List Pair) → length entries ≤ 255 → levels (suc most) level at entries ≡ level_bytes level entries
unfolding levels
one_level most level at entries le = rw (le-leb (length entries) 255 le)

pub more_levels : (most level at : ℕ) (entries : List Pair) → 255 < length entries → levels (suc most) level at entries ≡ level_bytes level entries ++
    levels most (suc level) (at + size (length entries)) (above at entries)
unfolding levels
more_levels most level at entries lt = rw (lt-leb (length entries) 255 lt)

pub top_one : (most at count : ℕ) → count ≤ 255 → top (suc most) at count ≡ at
unfolding top
top_one most at count le = rw (le-leb count 255 le)

pub top_more : (most at count : ℕ) → 255 < count → top (suc most) at count ≡ top most (at + size count) (nodes count)
unfolding top
top_more most at count lt = rw (lt-leb count 255 lt)
