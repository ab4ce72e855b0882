-- Where a file breaks the format of a tree, and what is there.
use Rattle.std.specs.Prelude.{◌≡◌, ◌⊎◌, ℕ, ◌+◌, ◌-◌, ◌*◌, ◌/◌, ◌%◌, ◌^◌, ◌<◌, nat_le, Bool, ◌&&◌, [], ◌∷◌, ◌++◌, length, min, Option, Some}
use Rattle.std.specs.Int.{to_be_bytes, w16, w32, w64}
use Rattle.sasi_types.specs.declared.tree.Pair.{Pair}
use Rattle.sasi_types.specs.declared.tree.TreeRef.{TreeRef}
use Rattle.sasi_host.specs.declared.name.FileName.{FileName}
use Rattle.sasi_host.specs.declared.damage.Damage.{Damage}
use Rattle.sasi_host.specs.declared.damage.FormatRule.{FormatRule}
use Rattle.sasi_host.specs.declared.damage.FormatRule.TheVariants.{Short, Number, Order}
use Rattle.sasi_host.specs.declared.fault.ReadFault.{ReadFault}
use Rattle.sasi_host.specs.Names.{Bytes}
use Rattle.sasi_host.specs.Damages.{Differs, HasAt, DamageShown, ShowsEnd, seen_bytes}
use Rattle.sasi_host.specs.View.{View}
use Rattle.sasi_tokentree.specs.declared.node_read.Node.{Node}
use Rattle.sasi_tokentree.specs.Format.{entry, node_header, nodes, size, AreFit, IsBefore}
use Rattle.sasi_tokentree.specs.Heights.{bytes_below_root}

-- ---- the nodes of a tree

-- it is a node of a level of so many entries at this offset, or of the levels above it
pub data IsNodeFrom (node : Node) : ℕ → ℕ → ℕ → Type 0 where
  of_level : (level at count index : ℕ) → 255 * index < count → node ≡ record { level = level; at = at + 4088 * index; count = min (count - 255 * index) 255 } → IsNodeFrom node level at count
  of_above : (level at count : ℕ) → 255 < count → IsNodeFrom node (level + 1) (at + size count) (nodes count) → IsNodeFrom node level at count

-- whether a node can stand at this offset, in the part of a file from one offset to another: the smallest one has one entry
abbrev pub is_node_offset : ℕ → ℕ → ℕ → Bool
is_node_offset from to place = nat_le from place && nat_le (place + 24) to

-- Whether it can be the reference of a tree in the part of a file from one offset to another: its root can stand there, and so many pairs in
-- front of the root. No file has room for more than 2^58.
abbrev pub is_tree_ref : ℕ → ℕ → TreeRef → Bool
is_tree_ref from to tree = is_node_offset from to tree.root && (nat_le tree.pairs (2 ^ 58) && nat_le (from + bytes_below_root tree.pairs tree.pairs) tree.root)

-- where the first leaf of a tree begins
abbrev pub start : TreeRef → ℕ
start tree = tree.root - bytes_below_root tree.pairs tree.pairs

-- the offset of the pair with this index: that of its leaf, and its offset there
abbrev pub pair_offset : TreeRef → ℕ → ℕ
pair_offset tree index = start tree + 4088 * (index / 255) + (8 + 16 * (index % 255))

-- the file has this pair as the entry with this index, even where the tree is damaged
pub record HasEntry (bytes : Bytes) (tree : TreeRef) (index : ℕ) (pair : Pair) : Type 0 where
  pub within : index < tree.pairs
  pub stands : HasAt bytes (pair_offset tree index) (entry pair)
  pub fit : AreFit (pair ∷ [])

-- it is a node of the tree with this reference
abbrev pub IsNodeOf : TreeRef → Node → Type 0
IsNodeOf tree node = IsNodeFrom node 0 (start tree) tree.pairs

-- ---- what breaks a node

-- the file ends within its header, or within the entries behind a right header
pub data EndsWithin (bytes : Bytes) (node : Node) : Type 0 where
  in_header : length bytes < node.at + 8 → EndsWithin bytes node
  in_entries : HasAt bytes node.at (node_header node.level node.count) → length bytes < node.at + (8 + 16 * node.count) → EndsWithin bytes node

-- the format fixes these bytes at this offset of a node
pub data IsHeaderPart (level count offset : ℕ) (wanted : Bytes) : Type 0 where
  the_level : offset ≡ 0 → wanted ≡ level ∷ [] → IsHeaderPart level count offset wanted
  a_zero : offset ≡ 1 → wanted ≡ 0 ∷ [] → IsHeaderPart level count offset wanted
  the_count : offset ≡ 2 → wanted ≡ to_be_bytes w16 count → IsHeaderPart level count offset wanted
  four_zeros : offset ≡ 4 → wanted ≡ to_be_bytes w32 0 → IsHeaderPart level count offset wanted

-- a field of its header is wrong
pub record HasWrongHeader (bytes : Bytes) (node : Node) (at : ℕ) (seen : Bytes) : Type 0 where
  pub offset : ℕ
  pub wanted : Bytes
  pub part : IsHeaderPart node.level node.count offset wanted
  pub offset_is : at ≡ node.at + offset
  pub differs : Differs bytes at seen wanted

-- its header is right, and an entry isn't above the one before it
pub record HasDisorder (bytes : Bytes) (node : Node) (at : ℕ) (seen : Bytes) : Type 0 where
  pub header : HasAt bytes node.at (node_header node.level node.count)
  pub index : ℕ
  pub last : Pair
  pub pair : Pair
  pub within : index + 1 < node.count
  pub stands : HasAt bytes (node.at + (8 + 16 * index)) (entry last ++ entry pair)
  pub fit : AreFit (last ∷ pair ∷ [])
  pub disorder : ¬ IsBefore last pair
  pub offset_is : at ≡ node.at + (8 + 16 * (index + 1))
  pub told : seen ≡ to_be_bytes w64 pair.token

-- the node breaks the rule at the offset, and the seen bytes are there
abbrev pub NodeBreaks : Bytes → Node → FormatRule → ℕ → Bytes → Type 0
NodeBreaks bytes node Short at seen = EndsWithin bytes node × (at ≡ length bytes) × (seen ≡ to_be_bytes w64 (length bytes))
NodeBreaks bytes node Number at seen = HasWrongHeader bytes node at seen
NodeBreaks bytes node Order at seen = HasDisorder bytes node at seen
NodeBreaks bytes node _ at seen = ⊥

-- ---- the damage of a file

-- the damage is that of this file, in which one of these nodes breaks the rule
pub record ShowsOf (These : Node → Type 0) (file : FileName) (bytes : Bytes) (damage : Damage) : Type 0 where
  pub named : damage.file ≡ file
  pub node : Node
  pub is_of : These node
  pub breaks : NodeBreaks bytes node damage.rule damage.at (seen_bytes damage.seen)

-- the damage is that of this file, which breaks the format of the tree with this reference
pub data ShowsTreeBy (Alone : ℕ → Type 0) (file : FileName) (tree : TreeRef) (bytes : Bytes) (damage : Damage) : Type 0 where
  -- in a node, which is judged from its header on
  in_node : ShowsOf (IsNodeOf tree) file bytes damage → ShowsTreeBy Alone file tree bytes damage
  -- or it ends before a pair does that is read without the entries before it in its leaf
  in_entry : (index : ℕ) → Alone index → index < tree.pairs → ShowsEnd (pair_offset tree index + 16) file bytes damage → ShowsTreeBy Alone file tree bytes damage

-- the only pair that a search reads alone begins a leaf below a root
abbrev pub BeginsLeaf : TreeRef → ℕ → Type 0
BeginsLeaf tree index = (255 < tree.pairs) × (index % 255 ≡ 0)

-- a scan may read each pair alone
abbrev pub ShowsTree : FileName → TreeRef → Bytes → Damage → Type 0
ShowsTree = ShowsTreeBy (λ index. Unit {0})

-- the damage is that of this file, in which the entry with this index isn't above the entry before it
pub record ShowsDisorder (file : FileName) (tree : TreeRef) (index : ℕ) (bytes : Bytes) (damage : Damage) : Type 0 where
  pub named : damage.file ≡ file
  pub rule_is : damage.rule ≡ Order
  pub before : ℕ
  pub follows : index ≡ before + 1
  pub last : Pair
  pub pair : Pair
  pub has_last : HasEntry bytes tree before last
  pub has_pair : HasEntry bytes tree index pair
  pub disorder : ¬ IsBefore last pair
  pub at_is : damage.at ≡ pair_offset tree index
  pub seen_is : seen_bytes damage.seen ≡ to_be_bytes w64 pair.token

-- the damage is that of this file, which breaks the format of the tree at one of these pairs, or in a node
pub data ShowsPairsBy (These : ℕ → Type 0) (file : FileName) (tree : TreeRef) (bytes : Bytes) (damage : Damage) : Type 0 where
  of_tree : ShowsTreeBy These file tree bytes damage → ShowsPairsBy These file tree bytes damage
  of_order : (index : ℕ) → These index → ShowsDisorder file tree index bytes damage → ShowsPairsBy These file tree bytes damage

-- the damage is that of this file, and a scan of all pairs of the tree with this reference meets it at one of them, or in a node
abbrev pub ShowsPairs : FileName → TreeRef → Bytes → Damage → Type 0
ShowsPairs = ShowsPairsBy (λ index. Unit {0})

-- the pair that was read isn't above the last one, and the damage is that of it, as the last of the passed pairs
pub record TellsDisorder (file : FileName) (tree : TreeRef) (passed : ℕ) (before after : Option Pair) (damage : Damage) : Type 0 where
  pub last : Pair
  pub pair : Pair
  pub was : before ≡ Some last
  pub is : after ≡ Some pair
  pub named : damage.file ≡ file
  pub rule_is : damage.rule ≡ Order
  pub disorder : ¬ IsBefore last pair
  pub at_is : damage.at ≡ pair_offset tree (passed - 1)
  pub seen_is : seen_bytes damage.seen ≡ to_be_bytes w64 pair.token

-- damage is that one of these nodes breaks a rule
abbrev pub ShownOf : (Node → Type 0) → View → FileName → ReadFault → Type 0
ShownOf These v file = DamageShown v file (ShowsOf These file)

-- the damage is that of this file, which ends before this offset, or in which one of these nodes breaks the rule
abbrev pub ShowsEndOr : ℕ → (Node → Type 0) → FileName → Bytes → Damage → Type 0
ShowsEndOr end These file bytes damage = ShowsEnd end file bytes damage ⊎ ShowsOf These file bytes damage
