-- The pairs of a tree, found in its leaves.
use Rattle.std.proofs.Common.{◌≡◌, ◌⊎◌, ℕ, zero, suc, ◌+◌, ◌-◌, ◌*◌, ◌/◌, ◌%◌, ◌^◌, ◌<◌, ◌≤◌, List, ◌∷◌, ◌++◌, length, take, drop, refl, sym, ◌∙◌, ap, subst, min, arith, append_assoc, length-append, take-append-drop, ⊎_elim, Option, Some, None}
use Rattle.std.proofs.lemmas.Bool.Decides.{leb_tells}
use Rattle.std.proofs.lemmas.List.{drop_more, drop_all, length-take-le}
use Rattle.std.specs.List.{flat_map}
use Rattle.sasi_types.specs.declared.tree.Pair.{Pair}
use Rattle.sasi_types.specs.declared.tree.TreeRef.{TreeRef}
use Rattle.sasi_host.specs.declared.name.FileName.{FileName}
use Rattle.sasi_host.specs.declared.fault.ReadFault.{ReadFault}
use Rattle.sasi_host.specs.declared.fault.ReadFault.TheVariants as fault
use Rattle.sasi_host.specs.Names.{Bytes}
use Rattle.sasi_host.specs.View.{View, contents}
use Rattle.sasi_host.specs.Disk.{Changes, Same}
use Rattle.sasi_host.specs.Damages.{HasAt, ShowsEnd, DamageShown, TellsSize}
use Rattle.sasi_host.proofs.Offsets.{same_at}
use Rattle.sasi_host.proofs.DamageLaws.{end_shown, shown_as}
use Rattle.sasi_tokentree.specs.Format.{pair_at, entry, node, node_header, nodes, size, entries_of_node, above, level_bytes, levels, tree_bytes, HasTree}
use Rattle.sasi_tokentree.proofs.Sizes.{entry_length, node_length, part_length, level_length, one_level, more_levels, first_above_length}
use Rattle.sasi_tokentree.specs.Heights.{bytes_below_root}
use Rattle.sasi_tokentree.proofs.HeightLaws.{none_below_root, more_below_root, top_is}
use Rattle.sasi_tokentree.specs.declared.node_read.Node.{Node}
use Rattle.sasi_tokentree.specs.Damages.{BeginsLeaf, IsNodeFrom, IsNodeOf, ShowsEndOr, ShowsOf, ShownOf, ShowsTreeBy, start, pair_offset}
use Rattle.sasi_tokentree.specs.Damages.ShowsTreeBy.{in_node, in_entry}
use Rattle.sasi_tokentree.specs.Damages.IsNodeFrom.{of_level, of_above}
use Rattle.sasi_tokentree.specs.Reads.{HasNode, HasLevels, CountsBelow, IsReached, NoFalseTreeDamage, NoFalseLevelDamage}
use Rattle.sasi_tokentree.specs.Scans.{ReadsEntry, ReadsHeader, StepsToPair}
use Rattle.sasi_tokentree.proofs.AfterRead.{reads_still}
use Rattle.sasi_tokentree.proofs.NodeParts.{from_entry, same_entry, pair_fits}
use Rattle.sasi_tokentree.proofs.NodeReads.{header_ends}
use Rattle.sasi_tokentree.proofs.StoredLevels.{part_at, stands_node}

-- ---- a pair in its leaf

regroup : (a b c d e : Bytes) → (a ++ (b ++ (c ++ d))) ++ e ≡ ((a ++ b) ++ c) ++ (d ++ e)
regroup a b c d e = simp append_assoc

entry_in_node : (bytes : Bytes) (level at : ℕ) (entries : List Pair) (k : ℕ) → HasNode bytes level at entries → k < length entries → HasAt bytes (at + (8 + 16 * k)) (entry (pair_at entries k))
entry_in_node bytes level at entries k has lt =
    let before = take (8 + 16 * k) (node level entries) in
    let behind = flat_map entry (drop (k + 1) entries) in
    record {
      front = has.stands.front ++ before;
      rest = behind ++ has.stands.rest;
      is =
          has.stands.is ∙ ap (λ (l : Bytes). has.stands.front ++ l ++ has.stands.rest)
          (sym (take-append-drop (8 + 16 * k) (node level entries)) ∙ ap (λ (l : Bytes). before ++ l) (from_entry level entries k lt))
          ∙ regroup has.stands.front before (entry (pair_at entries k)) behind has.stands.rest;
      offset_is = length-append has.stands.front before ∙ omega (arith, has.stands.offset_is, length-take-le (8 + 16 * k) (node level entries) (omega (arith, lt, node_length level entries)));
    }

-- each pair stands in its leaf
pub entry_stands : (bytes : Bytes) (at index : ℕ) (entries : List Pair) → HasLevels bytes 0 at entries → index < length entries → HasAt bytes
    (at + 4088 * (index / 255) + (8 + 16 * (index % 255))) (entry (pair_at entries index))
entry_stands bytes at index entries stands lt =
    let leaf = index / 255 in
    let k = index % 255 in
    let same : 255 * leaf + k ≡ index = omega arith in
    subst (λ (p : Pair). HasAt bytes (at + 4088 * leaf + (8 + 16 * k)) (entry p)) (part_at entries leaf k (omega arith) ∙ ap (λ (n : ℕ). pair_at entries n) same)
    (entry_in_node bytes 0 (at + 4088 * leaf) (entries_of_node entries leaf) k (stands_node bytes 0 at entries leaf stands (omega (arith, lt))) (omega (arith, lt, part_length entries leaf)))

pub ends_within : (bytes : Bytes) (at index : ℕ) (entries : List Pair) → HasLevels bytes 0 at entries → index < length entries → at + 4088 *
    (index / 255) + (8 + 16 * (index % 255)) + 16 ≤ length bytes
ends_within bytes at index entries stands lt =
    let has = entry_stands bytes at index entries stands lt in
    omega (
      arith,
      ap length has.is,
      has.offset_is,
      length-append (has.front ++ entry (pair_at entries index)) has.rest,
      length-append has.front
          (entry (pair_at entries index)),
      entry_length (pair_at entries index),
    )

-- the entry that stands at the offset of a pair is the pair
pub pair_is : (bytes : Bytes) (at index : ℕ) (entries : List Pair) (pair : Pair) → HasLevels bytes 0 at entries → index < length entries → pair.token < 2 ^ 64 → pair.place < 2 ^ 64
    → HasAt bytes (at + 4088 * (index / 255) + (8 + 16 * (index % 255))) (entry pair) → pair ≡ pair_at entries index
pair_is bytes at index entries pair stands lt token_fits offset_fits has =
    let p = pair_at entries index in
    same_entry pair p token_fits offset_fits (stands.fit index).0 (stands.fit index).1
    (same_at bytes (at + 4088 * (index / 255) + (8 + 16 * (index % 255))) (entry pair) (entry p) has (entry_stands bytes at index entries stands lt) (entry_length pair ∙ sym (entry_length p)))

-- no leaves stand where the file ends before one of their pairs does
pub no_false_short : (v : View) (file : FileName) (at count index : ℕ) (f : ReadFault) → index < count → DamageShown v file
    (ShowsEnd (at + 4088 * (index / 255) + (8 + 16 * (index % 255)) + 16) file) f → NoFalseLevelDamage v file 0 at count f
no_false_short v file at count index fault.Failed lt short = tt
no_false_short v file at count index fault.OutOfMemory lt short = tt
no_false_short v file at count index (fault.Damaged damage) lt short = λ bytes entries is stands long.
    let less = (short bytes is).short in
    omega (arith, less, ends_within bytes at index entries stands (omega (arith, lt, long)))

-- ---- the tree whole

below_root_within : (most level at : ℕ) (entries : List Pair) → 0 < length entries → length entries ≤ most → bytes_below_root most (length entries) + 16 ≤ length (levels most level at entries)
below_root_within zero level at entries some enough = absurd (omega arith)
below_root_within (suc most) level at entries some enough = ⊎_elim
    (λ one. omega (arith, none_below_root most (length entries) one.1, ap length (one_level most level at entries one.1), level_length level entries, some))
    (λ more.
    let next = above at entries in
    let long : length next ≡ nodes (length entries) = first_above_length at entries (nodes (length entries)) in
    let up = below_root_within most (suc level) (at + size (length entries)) next (omega (arith, long, more.1)) (omega (arith, long, more.1, enough)) in
    omega (
      arith,
      up,
      ap (λ (n : ℕ). bytes_below_root most n) long,
      more_below_root most (length entries) more.1,
      ap length (more_levels most level at entries more.1),
      level_length level entries,
      length-append (level_bytes level entries) (levels most (suc level) (at + size (length entries)) next),
    ))
    (leb_tells (length entries) 255)

pairs_within : (most level at : ℕ) (entries : List Pair) → 0 < length entries → length entries ≤ most → 16 * length entries ≤ length (levels most level at entries)
pairs_within zero level at entries some enough = absurd (omega arith)
pairs_within (suc most) level at entries some enough = ⊎_elim
    (λ one. omega (arith, ap length (one_level most level at entries one.1), level_length level entries))
    (λ more. omega (
      arith,
      ap length (more_levels most level at entries more.1),
      level_length level entries,
      length-append (level_bytes level entries)
          (levels most (suc level) (at + size (length entries)) (above at entries)),
    ))
    (leb_tells (length entries) 255)

pub count_is : (bytes : Bytes) (tree : TreeRef) (pairs : List Pair) → HasTree bytes tree pairs → length pairs ≡ tree.pairs
count_is bytes tree pairs has = sym (ap (λ (t : TreeRef). t.pairs) has.referred)

root_is : (bytes : Bytes) (tree : TreeRef) (pairs : List Pair) (has : HasTree bytes tree pairs) → 0 < tree.pairs → tree.root ≡ length has.front + bytes_below_root tree.pairs tree.pairs
root_is bytes tree pairs has some =
    let long = count_is bytes tree pairs has in
    ap (λ (t : TreeRef). t.root) has.referred ∙ top_is (length pairs) (length has.front) (length pairs) (omega (arith, long, some)) (omega arith)
    ∙ ap (λ (n : ℕ). length has.front + bytes_below_root n n) long

pub tree_stands : (bytes : Bytes) (tree : TreeRef) (pairs : List Pair) → HasTree bytes tree pairs → 0 < tree.pairs → length bytes ≤ 2 ^ 62 →
    HasLevels bytes 0 (tree.root - bytes_below_root tree.pairs tree.pairs) pairs
tree_stands bytes tree pairs has some short =
    let begun : length has.front ≡ tree.root - bytes_below_root tree.pairs tree.pairs = omega (arith, root_is bytes tree pairs has some) in
    record {
      most = length pairs;
      front = has.front;
      rest = has.rest;
      enough = omega arith;
      some = omega (arith, count_is bytes tree pairs has, some);
      is = has.is ∙ ap (λ (n : ℕ). has.front ++ levels (length pairs) 0 n pairs ++ has.rest) begun;
      offset_is = begun;
      rising = has.rising;
      fit = has.fit;
      short = short;
    }

pub tree_stands_at : (bytes : Bytes) (tree : TreeRef) (pairs : List Pair) (start : ℕ) → HasTree bytes tree pairs → 0 < tree.pairs → length bytes ≤ 2 ^
    62 → start ≡ tree.root - bytes_below_root tree.pairs tree.pairs → HasLevels bytes 0 start pairs
tree_stands_at bytes tree pairs start has some short is = subst (λ (n : ℕ). HasLevels bytes 0 n pairs) (sym is) (tree_stands bytes tree pairs has some short)

pub tree_fits : (bytes : Bytes) (tree : TreeRef) (pairs : List Pair) → HasTree bytes tree pairs → 0 < tree.pairs → length bytes ≤ 2 ^ 62 → (2 ^ 62 < tree.root) ⊎ (2 ^ 58 < tree.pairs) → ⊥
tree_fits bytes tree pairs has some short long =
    let count = count_is bytes tree pairs has in
    let root = root_is bytes tree pairs has some in
    let whole = ap length has.is in
    let parts = length-append (has.front ++ tree_bytes (length has.front) pairs) has.rest in
    let first = length-append has.front (tree_bytes (length has.front) pairs) in
    let leads = below_root_within (length pairs) 0 (length has.front) pairs (omega (arith, count, some)) (omega arith) in
    let holds = pairs_within (length pairs) 0 (length has.front) pairs (omega (arith, count, some)) (omega arith) in
    let same : bytes_below_root (length pairs) (length pairs) ≡ bytes_below_root tree.pairs tree.pairs = ap (λ (n : ℕ). bytes_below_root n n) count in
    ⊎_elim (λ far. omega (arith, far, root, whole, parts, first, leads, same, short)) (λ many. omega (arith, many, count, whole, parts, first, holds, short)) long

-- ---- damage of a node is damage of the tree

node_in_tree : (Alone : ℕ → Type 0) (v : View) (file : FileName) (tree : TreeRef) (f : ReadFault) → ShownOf (IsNodeOf tree) v file f → DamageShown v file (ShowsTreeBy Alone file tree) f
node_in_tree Alone v file tree f shown = shown_as (ShowsOf (IsNodeOf tree) file) (ShowsTreeBy Alone file tree) v file f (λ bytes damage is shows. in_node shows) shown

pub no_false_long : (v : View) (file : FileName) (tree : TreeRef) (f : ReadFault) →
    ((bytes : Bytes) → contents v file ≡ Some bytes → length bytes ≤ 2 ^ 62) → 0 < tree.pairs → (2 ^ 62 < tree.root) ⊎ (2 ^ 58 < tree.pairs) → NoFalseTreeDamage
    v file tree f
no_false_long v file tree fault.Failed short some long = tt
no_false_long v file tree fault.OutOfMemory short some long = tt
no_false_long v file tree (fault.Damaged damage) short some long = λ bytes pairs is has. tree_fits bytes tree pairs has some (short bytes is) long

pub no_false_level : (v : View) (file : FileName) (tree : TreeRef) (start : ℕ) (f : ReadFault) →
    ((bytes : Bytes) → contents v file ≡ Some bytes → length bytes ≤ 2 ^ 62) → 0 < tree.pairs → start ≡ tree.root - bytes_below_root tree.pairs tree.pairs →
    NoFalseLevelDamage v file 0 start tree.pairs f → NoFalseTreeDamage v file tree f
no_false_level v file tree start fault.Failed short some is no_false_damage = tt
no_false_level v file tree start fault.OutOfMemory short some is no_false_damage = tt
no_false_level v file tree start (fault.Damaged damage) short some is no_false_damage = λ bytes pairs reads has.
    no_false_damage bytes pairs reads (subst (λ (n : ℕ). HasLevels bytes 0 n pairs) (sym is) (tree_stands bytes tree pairs has some (short bytes reads))) (count_is bytes tree pairs has)

pub no_false_tree_before : (a b : View) (was now : FileName) (tree : TreeRef) (f : ReadFault) → Changes Same a b → now ≡ was → NoFalseTreeDamage b now tree f → NoFalseTreeDamage a was tree f
no_false_tree_before a b was now tree fault.Failed change same no_false_damage = tt
no_false_tree_before a b was now tree fault.OutOfMemory change same no_false_damage = tt
no_false_tree_before a b was now tree (fault.Damaged damage) change same no_false_damage = λ bytes pairs is. no_false_damage bytes pairs (reads_still a b was now bytes change same is)

-- ---- the nodes of a tree

-- one stands at the root
pub top_node : (most level at count : ℕ) → 0 < count → count ≤ most → (node : Node) × IsNodeFrom node level at count × (node.at ≡ at + bytes_below_root most count)
top_node zero level at count some enough = absurd (omega arith)
top_node (suc most) level at count some enough = ⊎_elim
    (λ one. (
      record { level = level; at = at + 4088 * 0; count = min (count - 255 * 0) 255 },
      of_level level at count 0 (omega (arith, some)) refl,
      omega (arith, none_below_root most count one.1),
    ))
    (λ more. let up = top_node most (level + 1) (at + size count) (nodes count) (omega (arith, more.1)) (omega (arith, more.1, enough)) in (
      up.0,
      of_above level at count more.1 up.1,
      omega (arith, up.2, more_below_root most count more.1),
    ))
    (leb_tells count 255)

-- a tree that is too long for every file has a node that begins behind each
long_node : (tree : TreeRef) → 0 < tree.pairs → (2 ^ 62 < tree.root) ⊎ (2 ^ 58 < tree.pairs) → (node : Node) × IsNodeOf tree node × (2 ^ 62 < node.at)
long_node tree some long = ⊎_elim
    (λ far. let top = top_node tree.pairs 0 (start tree) tree.pairs some (omega arith) in (top.0, top.1, omega (arith, far, top.2)))
    (λ many. (
      record { level = 0; at = start tree + 4088 * ((tree.pairs - 1) / 255); count = min (tree.pairs - 255 * ((tree.pairs - 1) / 255)) 255 },
      of_level 0 (start tree) tree.pairs ((tree.pairs - 1) / 255) (omega (arith, some)) refl,
      omega (arith, many),
    ))
    long

pub long_shown : (Alone : ℕ → Type 0) (v : View) (file : FileName) (tree : TreeRef) (f : ReadFault) →
    ((bytes : Bytes) → contents v file ≡ Some bytes → length bytes ≤ 2 ^ 62) → 0 < tree.pairs → (2 ^ 62 < tree.root) ⊎ (2 ^ 58 < tree.pairs) → DamageShown v
    file (TellsSize file) f → DamageShown v file (ShowsTreeBy Alone file tree) f
long_shown Alone v file tree f short some long told =
    let long_one = long_node tree some long in
    let end = long_one.0.at + 8 in
    node_in_tree Alone v file tree f (header_ends (IsNodeOf tree) v file end long_one.0 f long_one.1 (omega arith)
    (end_shown v file end f (λ bytes is. let le = short bytes is in omega (arith, le, long_one.2)) told))

-- the file ends before a pair, or a leaf breaks a rule
pub pair_shown : (Alone : ℕ → Type 0) (v : View) (file : FileName) (tree : TreeRef) (begin index : ℕ) (f : ReadFault) → Alone index → index < tree.pairs → begin ≡
    start tree → DamageShown v file (ShowsEndOr (begin + 4088 * (index / 255) + (8 + 16 * (index % 255)) + 16) (λ n. IsNodeFrom n 0 begin tree.pairs) file) f → DamageShown v file
    (ShowsTreeBy Alone file tree) f
pair_shown Alone v file tree begin index f alone lt is shown =
    shown_as (ShowsEndOr (begin + 4088 * (index / 255) + (8 + 16 * (index % 255)) + 16) (λ n. IsNodeFrom n 0 begin tree.pairs) file) (ShowsTreeBy Alone file tree) v file f (λ bytes damage reads shows. ⊎_elim
    (λ ends. in_entry index alone lt (subst (λ (n : ℕ). ShowsEnd (n + 4088 * (index / 255) + (8 + 16 * (index % 255)) + 16) file bytes damage) is ends))
    (λ node. in_node (subst (λ (n : ℕ). ShowsOf (λ k. IsNodeFrom k 0 n tree.pairs) file bytes damage) is node))
    shows) shown

pub leaves_shown : (Alone : ℕ → Type 0) (v : View) (file : FileName) (tree : TreeRef) (begin : ℕ) (f : ReadFault) → begin ≡ start tree → ShownOf
    (λ n. IsNodeFrom n 0 begin tree.pairs) v file f → DamageShown v file (ShowsTreeBy Alone file tree) f
leaves_shown Alone v file tree begin f is shown = node_in_tree Alone v file tree f (subst (λ (n : ℕ). ShownOf (λ k. IsNodeFrom k 0 n tree.pairs) v file f) is shown)

-- behind a search that ended there, an entry that the file hasn't begins a leaf
pub begins_leaf : (bytes : Bytes) (tree : TreeRef) (begin count index : ℕ) → begin ≡ start tree → index ≡ count → index < tree.pairs → length bytes < pair_offset tree
    index + 16 → IsReached bytes begin tree.pairs count → BeginsLeaf tree index
begins_leaf bytes tree begin count index is same lt short reached = ⊎_elim
    (λ begins. (begins.0, omega (arith, same, begins.1)))
    (λ ends. absurd (omega (arith, ends, short, is, same)))
    (reached (omega (arith, lt, same)))

-- ---- the pairs left

-- an entry that was read
pub gives_entry : (v : View) (file : FileName) (tree : TreeRef) (begin index : ℕ) (pair : Pair) → begin ≡ start tree → index < tree.pairs
    → pair.token < 2 ^ 64 → pair.place < 2 ^ 64 → ((bytes : Bytes) → contents v file ≡ Some bytes → HasAt bytes
    (begin + 4088 * (index / 255) + (8 + 16 * (index % 255))) (entry pair)) → ReadsEntry v file tree (index + 1) (Some pair)
gives_entry v file tree begin index pair is lt token_fits offset_fits stands = (
  index,
  refl,
  λ bytes reads. record {
    within = lt;
    stands = subst
        (λ (n : ℕ). HasAt bytes (n + 4088 * (index / 255) + (8 + 16 * (index % 255))) (entry pair)) is (stands bytes reads);
    fit = pair_fits pair
        token_fits offset_fits;
  },
)

pub gave_entry : (a b : View) (was now : FileName) (tree : TreeRef) (passed : ℕ) (found : Option Pair) → Changes Same a b → now ≡ was → ReadsEntry b
    now tree passed found → ReadsEntry a was tree passed found
gave_entry a b was now tree passed None change same gives = tt
gave_entry a b was now tree passed (Some pair) change same gives = (gives.0, gives.1, λ bytes is. gives.2 bytes (reads_still a b was now bytes change same is))

-- and the header before it
pub gives_header : (v : View) (file : FileName) (tree : TreeRef) (begin index : ℕ) (pair : Pair) → begin ≡ start tree
    → ((leaf : ℕ) → index ≡ 255 * leaf → (bytes : Bytes) → contents v file ≡ Some bytes → HasAt bytes (begin + 4088 * leaf) (node_header 0 (min (tree.pairs - 255 * leaf) 255)))
    → ReadsHeader v file tree (index + 1) (Some pair)
gives_header v file tree begin index pair is stands = λ leaf at bytes reads.
    subst (λ (n : ℕ). HasAt bytes (n + 4088 * leaf) (node_header 0 (min (tree.pairs - 255 * leaf) 255))) is (stands leaf (omega (arith, at)) bytes reads)

pub gave_header : (a b : View) (was now : FileName) (tree : TreeRef) (passed : ℕ) (found : Option Pair) → Changes Same a b → now ≡ was → ReadsHeader b
    now tree passed found → ReadsHeader a was tree passed found
gave_header a b was now tree passed None change same gives = tt
gave_header a b was now tree passed (Some pair) change same gives = λ leaf at bytes is. gives leaf at bytes (reads_still a b was now bytes change same is)

-- the page on which it ends is buffered
pub near_entry : (page : Option ℕ) (tree : TreeRef) (begin index : ℕ) → begin ≡ start tree → page ≡ Some
    ((begin + 4088 * (index / 255) + (8 + 16 * (index % 255)) + 15) / 4096) → page ≡ Some ((pair_offset tree (index + 1 - 1) + 15) / 4096)
near_entry page tree begin index is entry_buffered =
    let same : index ≡ index + 1 - 1 = omega arith in
    entry_buffered
    ∙ ap (λ (n : ℕ). Some ((n + 4088 * (index / 255) + (8 + 16 * (index % 255)) + 15) / 4096)) is
    ∙ ap (λ (k : ℕ). Some ((pair_offset tree k + 15) / 4096)) same

pub takes_pair : (pairs : List Pair) (index : ℕ) (pair : Pair) → index < length pairs → pair ≡ pair_at pairs index → StepsToPair pairs index (index + 1) (Some pair)
takes_pair pairs index pair lt is = drop_more pairs index (record { token = 0; place = 0 }) lt ∙ ap (λ (p : Pair). p ∷ drop (index + 1) pairs) (sym is)

pub takes_none : (bytes : Bytes) (tree : TreeRef) (pairs : List Pair) (index : ℕ) → HasTree bytes tree pairs → tree.pairs ≤ index → StepsToPair pairs index index None
takes_none bytes tree pairs index has le = (drop_all index pairs (omega (arith, le, count_is bytes tree pairs has)), refl)

-- of no pairs none is below
pub no_pairs : (bytes : Bytes) (tree : TreeRef) (pairs : List Pair) (token : ℕ) → HasTree bytes tree pairs → tree.pairs ≡ 0 → CountsBelow pairs token 0
no_pairs bytes tree pairs token has none = record {
  within = omega arith;
  below = λ index lt. absurd (omega (arith, lt));
  above = λ index le lt. absurd (omega (arith, lt, none, count_is bytes tree pairs has));
}
