-- One node more of a level.
use Rattle.std.proofs.Common.{◌≡◌, ℕ, zero, suc, add-one, ◌+◌, ◌*◌, ◌^◌, ◌<◌, ◌≤◌, List, [], ◌∷◌, ◌++◌, length, drop, sym, ◌∙◌, ap, subst, arith, length-append}
use Rattle.std.proofs.lemmas.List.{get_or-take, get_or-drop}
use Rattle.sasi_types.specs.declared.tree.Pair.{Pair}
use Rattle.sasi_host.specs.declared.name.FileName.{FileName}
use Rattle.sasi_host.specs.Names.{Bytes}
use Rattle.sasi_host.specs.View.{View, Reaches}
use Rattle.sasi_tokentree.specs.Format.{pair_at, node, nodes, size, entries_of_node, first_nodes, level_bytes, first_above, above, levels, top, tree_bytes, tree_ref}
use Rattle.sasi_tokentree.proofs.Sizes.{first_nodes_length, first_nodes_more, first_nodes_none, first_above_more, level_length, first_above_length, one_level, more_levels, top_one, top_more}
use Rattle.sasi_tokentree.specs.Writes.{ChangesFrom, Writes}
use Rattle.sasi_tokentree.proofs.WriteLaws.{changes_past_on, writes_on, writes_nothing}

-- an index of a node is within the entries
pub node_within : (count index : ℕ) → index < nodes count → 255 * index < count
node_within count index lt = omega (arith, lt)

-- where the next node stands
pub next_offset : (level at : ℕ) (entries : List Pair) (index : ℕ) → 255 * index < length entries → at + length (first_nodes level entries index) ≡ at + 4088 * index
next_offset level at entries index lt = ap (λ (n : ℕ). at + n) (first_nodes_length level entries index (omega arith))

pub first_written : (a : View) (file : FileName) (at level : ℕ) (entries : List Pair) → Reaches a file at → Writes a a file at (first_nodes level entries 0)
first_written a file at level entries room = subst (λ (l : Bytes). Writes a a file at l) (sym (first_nodes_none level entries)) (writes_nothing a file at room)

pub next_room : (a b : View) (file : FileName) (level at : ℕ) (entries : List Pair) (index : ℕ) → 255 * index < length entries → Writes a b file at
    (first_nodes level entries index) → Reaches b file (at + 4088 * index)
next_room a b file level at entries index lt written = subst (λ (n : ℕ). Reaches b file n) (next_offset level at entries index lt) written.reaches

pub next_changes : (a b c : View) (file : FileName) (level at : ℕ) (entries : List Pair) (index : ℕ) → Writes a b file at
    (first_nodes level entries index) → ChangesFrom file (at + 4088 * index) b c → ChangesFrom file at a c
next_changes a b c file level at entries index written change = changes_past_on a b c file at (at + 4088 * index) (omega arith) written.changes change

pub next_written : (a b c : View) (file : FileName) (level at : ℕ) (entries here : List Pair) (index : ℕ) → 255 * index < length entries → here ≡ entries_of_node
    entries index → Reaches a file at → Writes a b file at (first_nodes level entries index)
    → Writes b c file (at + 4088 * index) (node level here) → Writes a c file at (first_nodes level entries (index + 1))
next_written a b c file level at entries here index lt is room written more =
    subst (λ (l : Bytes). Writes a c file at l) (ap (λ (l : List Pair). first_nodes level entries index ++ node level l) is ∙ sym (first_nodes_more level entries index))
    (writes_on a b c file at (first_nodes level entries index) (node level here) room written
    (subst (λ (n : ℕ). Writes b c file n (node level here)) (sym (next_offset level at entries index lt)) more))

pub next_fits : (level at : ℕ) (entries here : List Pair) (index : ℕ) → 255 * index < length entries → here ≡ entries_of_node entries index → at + 4088 * index +
    length (node level here) ≤ 2 ^ 62 → at + length (first_nodes level entries (index + 1)) ≤ 2 ^ 62
next_fits level at entries here index lt is fits =
    omega (
      arith,
      fits,
      ap length (first_nodes_more level entries index),
      length-append (first_nodes level entries index)
          (node level (entries_of_node entries index)),
      next_offset level at entries index lt,
      ap (λ (l : List Pair). length (node level l)) is,
    )

pub next_entry : (at : ℕ) (entries here above : List Pair) (index token : ℕ) → here ≡ entries_of_node entries index → token ≡ (pair_at here 0).token → above ≡ first_above at entries index
    → above ++ record { token = token; place = at + 4088 * index } ∷ [] ≡ first_above at entries (index + 1)
next_entry at entries here above index token is least so_far =
    let zero_pair : Pair = record { token = 0; place = 0 } in
    let first : pair_at here 0 ≡ pair_at entries (255 * index) =
    ap (λ (l : List Pair). pair_at l 0) is ∙ get_or-take 255 (drop (255 * index) entries) 0 zero_pair (omega arith) ∙ get_or-drop (255 * index)
    entries 0 zero_pair ∙ ap (λ (n : ℕ). pair_at entries n) (omega arith)
    in
    ap (λ (l : List Pair). l ++ record { token = token; place = at + 4088 * index } ∷ []) so_far
    ∙ ap (λ (n : ℕ). first_above at entries index ++ record { token = n; place = at + 4088 * index } ∷ []) (least ∙ ap (λ (p : Pair). p.token) first)
    ∙ sym (first_above_more at entries index)

-- ---- levels

-- a level of one node is the last
pub last_written : (a b : View) (file : FileName) (level at most : ℕ) (entries : List Pair) → 0 < length entries → length entries ≤ 255 → length
    entries ≤ most → Writes a b file at (level_bytes level entries) → Writes a b file at (levels most level at entries)
last_written a b file level at zero entries some one enough written = absurd (omega arith)
last_written a b file level at (suc most) entries some one enough written = subst (λ (l : Bytes). Writes a b file at l) (sym (one_level most level at entries one)) written

pub last_top : (at most count : ℕ) → 0 < count → count ≤ 255 → count ≤ most → at ≡ top most at count
last_top at zero count some one enough = absurd (omega arith)
last_top at (suc most) count some one enough = sym (top_one most at count one)

-- the level above has fewer entries
pub fewer : (count most : ℕ) → 255 < count → count ≤ suc most → nodes count ≤ most
fewer count most many enough = omega arith

-- behind a level of more nodes the levels above it follow
pub more_written : (a b c : View) (file : FileName) (level at most : ℕ) (entries next : List Pair) → 255 < length entries → length entries ≤ most →
    next ≡ above at entries → Reaches a file at → Writes a b file at (level_bytes level entries)
    → ((bound : ℕ) → length next ≤ bound → Writes b c file (at + size (length entries)) (levels bound (level + 1) (at + size (length entries)) next))
    → Writes a c file at (levels most level at entries)
more_written a b c file level at zero entries next many enough is room first others = absurd (omega arith)
more_written a b c file level at (suc most) entries next many enough is room first others =
    let few : length next ≤ most = omega (arith, ap length is, first_above_length at entries (nodes (length entries)), fewer (length entries) most many enough) in
    let up : Writes b c file (at + size (length entries)) (levels most (suc level) (at + size (length entries)) (above at entries)) =
    subst (λ (l : List Pair). Writes b c file (at + size (length entries)) (levels most (suc level) (at + size (length entries)) l)) is (rw add-one at (others most few))
    in
    subst (λ (l : Bytes). Writes a c file at l) (sym (more_levels most level at entries many))
    (writes_on a b c file at (level_bytes level entries) (levels most (suc level) (at + size (length entries)) (above at entries)) room first
    (subst (λ (n : ℕ). Writes b c file n (levels most (suc level) (at + size (length entries)) (above at entries))) (ap (λ (n : ℕ). at + n) (sym (level_length level entries))) up))

pub more_top : (at most count next root : ℕ) → 255 < count → count ≤ most → next ≡ nodes count → ((bound : ℕ) → next ≤ bound → root ≡ top bound (at + size count) next) → root ≡ top most at count
more_top at zero count next root many enough is others = absurd (omega arith)
more_top at (suc most) count next root many enough is others =
    others most (omega (arith, is, fewer count most many enough)) ∙ ap (λ (n : ℕ). top most (at + size count) n) is ∙ sym (top_more most at count many)

pub above_length : (at : ℕ) (entries next : List Pair) → next ≡ above at entries → length next ≡ nodes (length entries)
above_length at entries next is = ap length is ∙ first_above_length at entries (nodes (length entries))

pub up_room : (b : View) (file : FileName) (level at : ℕ) (entries : List Pair) → Reaches b file (at + length (level_bytes level entries)) → Reaches b file (at + size (length entries))
up_room b file level at entries reaches = subst (λ (n : ℕ). Reaches b file n) (ap (λ (n : ℕ). at + n) (level_length level entries)) reaches

-- ---- no pairs

pub empty_written : (a : View) (file : FileName) (at : ℕ) (pairs : List Pair) → pairs ≡ [] → Reaches a file at → Writes a a file at (tree_bytes at pairs)
unfolding levels
empty_written a file at pairs is room = subst (λ (l : List Pair). Writes a a file at (tree_bytes at l)) (sym is) (writes_nothing a file at room)

pub empty_tree : (at count : ℕ) (pairs : List Pair) → pairs ≡ [] → count ≡ length pairs → record { root = 0; pairs = count } ≡ tree_ref at pairs
unfolding top
empty_tree at count pairs is same = ap (λ (n : ℕ). record { root = 0; pairs = n }) (same ∙ ap length is) ∙ ap (λ (l : List Pair). tree_ref at l) (sym is)
