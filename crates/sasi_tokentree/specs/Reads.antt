-- What a reader of a tree gives, by the host's view.
use Rattle.std.specs.Prelude.{◌≡◌, ◌≢◌, ◌⊎◌, ℕ, ◌+◌, ◌-◌, ◌*◌, ◌/◌, ◌%◌, ◌^◌, ◌<◌, ◌≤◌, min, List, [], ◌∷◌, ◌++◌, length, Some}
use Rattle.sasi_types.specs.declared.tree.Pair.{Pair}
use Rattle.sasi_types.specs.declared.tree.TreeRef.{TreeRef}
use Rattle.sasi_host.specs.declared.name.FileName.{FileName}
use Rattle.sasi_host.specs.declared.damage.Damage.{Damage}
use Rattle.sasi_host.specs.declared.damage.FormatRule.TheVariants.{Short}
use Rattle.sasi_host.specs.declared.fault.ReadFault.{ReadFault}
use Rattle.sasi_host.specs.Names.{Bytes}
use Rattle.sasi_host.specs.Damages.{HasAt, OnDamage, seen_bytes}
use Rattle.sasi_host.specs.View.{View, contents}
use Rattle.sasi_tokentree.specs.Format.{pair_at, entry, node_header, node, nodes, size, levels, IsBefore, IsRising, AreFit, HasTree}
use Rattle.sasi_tokentree.specs.Damages.{NodeBreaks}

-- ---- damage

-- the damage is that these bytes, at an offset of the file, aren't a node of this level and number of entries
pub record IsInNode (file : FileName) (at : ℕ) (window : Bytes) (level count : ℕ) (damage : Damage) : Type 0 where
  pub offset : ℕ
  pub named : damage.file ≡ file
  pub offset_is : damage.at ≡ at + offset
  pub long : damage.rule ≢ Short
  pub breaks : NodeBreaks window (record { level = level; at = 0; count = count }) damage.rule offset (seen_bytes damage.seen)

-- damage is reported only where the file doesn't have the tree
abbrev pub NoFalseTreeDamage : View → FileName → TreeRef → ReadFault → Type 0
NoFalseTreeDamage v file tree = OnDamage (λ _. (bytes : Bytes) (pairs : List Pair) → contents v file ≡ Some bytes → HasTree bytes tree pairs → ⊥)

-- ---- a level in a file, with those above it

-- at this offset the file has a node of these entries, which rise
pub record HasNode (bytes : Bytes) (level at : ℕ) (entries : List Pair) : Type 0 where
  pub stands : HasAt bytes at (node level entries)
  pub rising : IsRising entries
  pub fit : AreFit entries

-- at this offset the file has the nodes of a level of these entries, and then those of the levels above it
pub record HasLevels (bytes : Bytes) (level at : ℕ) (entries : List Pair) : Type 0 where
  pub most : ℕ
  pub front : Bytes
  pub rest : Bytes
  pub enough : length entries ≤ most
  pub some : 0 < length entries
  pub is : bytes ≡ front ++ levels most level at entries ++ rest
  pub offset_is : length front ≡ at
  pub rising : IsRising entries
  pub fit : AreFit entries
  pub short : length bytes ≤ 2 ^ 62

-- so many of the entries, and no more, have tokens below this one
pub record CountsBelow (entries : List Pair) (token count : ℕ) : Type 0 where
  pub within : count ≤ length entries
  pub below : (index : ℕ) → index < count → (pair_at entries index).token < token
  pub above : (index : ℕ) → count ≤ index → index < length entries → token ≤ (pair_at entries index).token

-- ---- what a search counts, in any file

-- the file has this pair as the entry with this index of a node of so many entries
pub record HasNodeEntry (bytes : Bytes) (at count index : ℕ) (pair : Pair) : Type 0 where
  pub within : index < count
  pub stands : HasAt bytes (at + (8 + 16 * index)) (entry pair)
  pub fit : AreFit (pair ∷ [])

-- As the file has a node, so many of its entries have tokens below this one, and the next entry, if there is one, hasn't. The header is right,
-- and the entries rise up to that one.
pub record CountsInNode (bytes : Bytes) (level at count token below : ℕ) : Type 0 where
  pub header : HasAt bytes at (node_header level count)
  pub within : below ≤ count
  pub smaller : (index : ℕ) → index < below → (pair : Pair) × HasNodeEntry bytes at count index pair × (pair.token < token)
  pub next : below < count → (pair : Pair) × HasNodeEntry bytes at count below pair × (token ≤ pair.token)
  pub rising : (index : ℕ) → index < below → index + 1 < count → (last : Pair) × (pair : Pair) × HasNodeEntry bytes at count index last × HasNodeEntry bytes at count (index + 1) pair × IsBefore last pair

-- from the root down the nodes count so many entries of a level as below a token
pub data CountsDown (bytes : Bytes) (token : ℕ) : ℕ → ℕ → ℕ → ℕ → Type 0 where
  -- a level of one node is the root
  in_root : (level at count below : ℕ) → count ≤ 255 → CountsInNode bytes level at count token below → CountsDown bytes token level at count below
  -- where the level above counts none, there are none
  none_above : (level at count below : ℕ) → 255 < count → CountsDown bytes token (level + 1) (at + size count) (nodes count) 0 → below ≡ 0 → CountsDown bytes token level at count below
  -- else its last one leads to a node: that node counts, and all entries before it are below
  in_node : (level at count below node here : ℕ) → 255 < count → CountsDown bytes token (level + 1) (at + size count) (nodes count) (node + 1)
      → CountsInNode bytes level (at + 4088 * node) (min (count - 255 * node) 255) token here → below ≡ 255 * node + here → CountsDown bytes token level at count below

-- ---- how far the file reaches, and damage of a level

-- the entry with this index of a level of so many begins a node below another one, or the file reaches to the end of the entry
abbrev pub IsReached : Bytes → ℕ → ℕ → ℕ → Type 0
IsReached bytes at count index = index < count → ((255 < count) × (index % 255 ≡ 0)) ⊎ (at + 4088 * (index / 255) + (8 + 16 * (index % 255)) + 16 ≤ length bytes)

-- damage is reported only where the file has no node of so many entries there
abbrev pub NoFalseNodeDamage : View → FileName → ℕ → ℕ → ℕ → ReadFault → Type 0
NoFalseNodeDamage v file level at count = OnDamage (λ _. (bytes : Bytes) (entries : List Pair) → contents v file ≡ Some bytes → HasNode bytes level at entries → length entries ≡ count → ⊥)

-- damage is reported only where the file has no level of so many entries there, with those above it
abbrev pub NoFalseLevelDamage : View → FileName → ℕ → ℕ → ℕ → ReadFault → Type 0
NoFalseLevelDamage v file level at count = OnDamage (λ _. (bytes : Bytes) (entries : List Pair) → contents v file ≡ Some bytes → HasLevels bytes level at entries → length entries ≡ count → ⊥)
