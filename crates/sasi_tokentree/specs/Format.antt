-- The bytes of a token tree.
use Rattle.std.specs.Prelude.{◌≡◌, ◌⊎◌, ℕ, zero, suc, ◌+◌, ◌*◌, ◌/◌, ◌^◌, ◌<◌, List, [], ◌∷◌, ◌++◌, length, take, drop, get_or, nat_le, if◌then◌else◌}
use Rattle.std.specs.List.{flat_map}
use Rattle.std.specs.Int.{to_be_bytes, w16, w32, w64}
use Rattle.sasi_types.specs.declared.tree.Pair.{Pair}
use Rattle.sasi_types.specs.declared.tree.TreeRef.{TreeRef}
use Rattle.sasi_host.specs.Names.{Bytes}

-- ---- pairs in their order

-- the pair at an index
abbrev pub pair_at : List Pair → ℕ → Pair
pair_at pairs index = get_or pairs index (record { token = 0; place = 0 })

-- by token, and then by place
abbrev pub IsBefore : Pair → Pair → Type 0
IsBefore a b = (a.token < b.token) ⊎ ((a.token ≡ b.token) × (a.place < b.place))

-- each pair comes before the next one
abbrev pub IsRising : List Pair → Type 0
IsRising pairs = (index : ℕ) → index + 1 < length pairs → IsBefore (pair_at pairs index) (pair_at pairs (index + 1))

-- ---- nodes

-- an entry: its token and its place
unfoldable pub entry : Pair → Bytes
entry pair = to_be_bytes w64 pair.token ++ to_be_bytes w64 pair.place

-- the header of a node: the level, a zero byte, the number of entries, and four zero bytes
unfoldable pub node_header : ℕ → ℕ → Bytes
node_header level count = level ∷ 0 ∷ (to_be_bytes w16 count ++ to_be_bytes w32 0)

-- a node: its header and its entries
unfoldable pub node : ℕ → List Pair → Bytes
node level entries = node_header level (length entries) ++ flat_map entry entries

-- ---- a level

-- how many nodes so many entries take, at 255 a node
abbrev pub nodes : ℕ → ℕ
nodes entries = (entries + 254) / 255

-- how many bytes they take: 16 for each entry, and 8 for the header of each node
abbrev pub size : ℕ → ℕ
size entries = 16 * entries + 8 * nodes entries

-- the entries of a node, counted from the left: 255, or what is left for the last one
abbrev pub entries_of_node : List Pair → ℕ → List Pair
entries_of_node entries index = take 255 (drop (255 * index) entries)

-- the first so many nodes of a level, without gaps
unfoldable pub first_nodes : ℕ → List Pair → ℕ → Bytes
first_nodes level entries zero = []
first_nodes level entries (suc index) = first_nodes level entries index ++ node level (entries_of_node entries index)

-- all its nodes
abbrev pub level_bytes : ℕ → List Pair → Bytes
level_bytes level entries = first_nodes level entries (nodes (length entries))

-- the entry for a node of a level that begins at this offset: its least token, and its own offset
abbrev pub entry_for : ℕ → List Pair → ℕ → Pair
entry_for at entries index = record { token = (pair_at entries (255 * index)).token; place = at + 4088 * index }

-- the entries for its first so many nodes
unfoldable pub first_above : ℕ → List Pair → ℕ → List Pair
first_above at entries zero = []
first_above at entries (suc index) = first_above at entries index ++ entry_for at entries index ∷ []

-- the entries of the level above
abbrev pub above : ℕ → List Pair → List Pair
above at entries = first_above at entries (nodes (length entries))

-- ---- a tree

-- A level at an offset, and then the levels above it up to the root. There are fewer levels than the number that bounds them.
unfoldable pub levels : ℕ → ℕ → ℕ → List Pair → Bytes
levels zero level at entries = []
levels (suc most) level at entries = if nat_le (length entries) 255 then level_bytes level entries else
    (level_bytes level entries ++ levels most (suc level) (at + size (length entries)) (above at entries))

-- the offset of the root
unfoldable pub top : ℕ → ℕ → ℕ → ℕ
top zero at count = 0
top (suc most) at count = if nat_le count 255 then at else top most (at + size count) (nodes count)

-- the tree of these pairs at an offset: none has more levels than pairs
abbrev pub tree_bytes : ℕ → List Pair → Bytes
tree_bytes at pairs = levels (length pairs) 0 at pairs

-- its reference: the offset of its root, and how many pairs it has
abbrev pub tree_ref : ℕ → List Pair → TreeRef
tree_ref at pairs = record { root = top (length pairs) at (length pairs); pairs = length pairs }

-- the numbers of each pair fit their fields
abbrev pub AreFit : List Pair → Type 0
AreFit pairs = (index : ℕ) → ((pair_at pairs index).token < 2 ^ 64) × ((pair_at pairs index).place < 2 ^ 64)

-- the bytes of a file have the tree of these pairs, with this reference
pub record HasTree (bytes : Bytes) (tree : TreeRef) (pairs : List Pair) : Type 0 where
  pub front : Bytes
  pub rest : Bytes
  pub is : bytes ≡ front ++ tree_bytes (length front) pairs ++ rest
  pub referred : tree ≡ tree_ref (length front) pairs
  pub rising : IsRising pairs
  pub fit : AreFit pairs
