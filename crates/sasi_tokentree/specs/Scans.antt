-- Scans of the pairs of a tree.
use Rattle.std.specs.Prelude.{◌≡◌, ◌⊎◌, ℕ, ◌+◌, ◌-◌, ◌*◌, ◌/◌, ◌%◌, ◌^◌, ◌<◌, ◌≤◌, nat_eq, if◌then◌else◌, min, List, [], ◌∷◌, drop, Option, None, Some, IfSome}
use Rattle.sasi_types.specs.declared.tree.Pair.{Pair}
use Rattle.sasi_types.specs.declared.tree.TreeRef.{TreeRef}
use Rattle.sasi_host.specs.declared.name.FileName.{FileName}
use Rattle.sasi_host.specs.Names.{Bytes, Folder}
use Rattle.sasi_host.specs.View.{View, contents, contents_in}
use Rattle.sasi_host.specs.Buffered.{Buffered, unbuffered_pages}
use Rattle.sasi_host.specs.Damages.{HasAt}
use Rattle.sasi_tokentree.specs.Format.{node_header, HasTree, IsBefore}
use Rattle.sasi_tokentree.specs.Damages.{pair_offset, start}
pub use Rattle.sasi_tokentree.specs.Damages.{HasEntry}
use Rattle.sasi_tokentree.specs.Reads.{CountsBelow, CountsDown}

-- the view of a scan: the buffered file, where the tree is, how many of its pairs the scan has passed, and the pair that it gave last
pub record PairScan : Type 0 where
  pub buffered : Buffered
  pub tree : TreeRef
  pub passed : ℕ
  pub last : Option Pair

-- the scan steps to the first of the pairs from an index on, and those behind it are left; to none where none is left
abbrev pub StepsToPair : List Pair → ℕ → ℕ → Option Pair → Type 0
StepsToPair pairs from passed None = (drop from pairs ≡ []) × (passed ≡ from)
StepsToPair pairs from passed (Some pair) = drop from pairs ≡ pair ∷ drop passed pairs

-- behind a pair that was read, the scan has passed one of the tree's pairs at least, and a file can have the tree
pub record HasPassed (tree : TreeRef) (passed : ℕ) : Type 0 where
  pub some : 0 < passed
  pub within : passed ≤ tree.pairs
  pub root : tree.root ≤ 2 ^ 62
  pub pairs : tree.pairs ≤ 2 ^ 58

-- behind a pair that was read, the page on which its entry ends is buffered
abbrev pub IsEntryBuffered : PairScan → Option Pair → Type 0
IsEntryBuffered w None = Unit {0}
IsEntryBuffered w (Some pair) = w.buffered.page ≡ Some ((pair_offset w.tree (w.passed - 1) + 15) / 4096)

-- the scan passes one pair, and gives none exactly at the end, where it stays as it is
abbrev pub PassesOne : PairScan → PairScan → Option Pair → Type 0
PassesOne old new None = (old.tree.pairs ≤ old.passed) × (new ≡ old)
PassesOne old new (Some pair) = (old.passed < old.tree.pairs) × (new.passed ≡ old.passed + 1)

-- the pair read, if any, is the last of the passed entries
abbrev pub ReadsEntry : View → FileName → TreeRef → ℕ → Option Pair → Type 0
ReadsEntry v file tree passed None = Unit {0}
ReadsEntry v file tree passed (Some pair) = (index : ℕ) × (passed ≡ index + 1) × ((bytes : Bytes) → contents v file ≡ Some bytes → HasEntry bytes tree index pair)

-- the file has this pair, if it is one, as the last of the passed entries, even where the tree is damaged
abbrev pub HasLast : Bytes → TreeRef → ℕ → Option Pair → Type 0
HasLast bytes tree passed None = Unit {0}
HasLast bytes tree passed (Some pair) = (index : ℕ) × (passed ≡ index + 1) × HasEntry bytes tree index pair

-- in a folder whose files are told, this pair, if it is one, is the last of the passed entries of a tree in the file
abbrev pub IsLastEntry : Option Folder → FileName → TreeRef → ℕ → Option Pair → Type 0
IsLastEntry files file tree passed last = (bytes : Bytes) → contents_in files file ≡ Some bytes → HasLast bytes tree passed last

-- the pair that a scan gave last, if it gave one, is the last of the entries that it has passed
abbrev pub IsAtLast : PairScan → Option Folder → Type 0
IsAtLast scan files = IsLastEntry files scan.buffered.file scan.tree scan.passed scan.last

-- the pair, if any, comes behind the last one, if there is one
abbrev pub RisesFrom : Option Pair → Option Pair → Type 0
RisesFrom last found = IfSome found (λ pair. IfSome last (λ before. IsBefore before pair))

-- the file has the header of this leaf, even where the tree is damaged: with 255 entries, or what is left for the last one
abbrev pub HasLeafHeader : Bytes → TreeRef → ℕ → Type 0
HasLeafHeader bytes tree leaf = HasAt bytes (start tree + 4088 * leaf) (node_header 0 (min (tree.pairs - 255 * leaf) 255))

-- where the pair read, if any, is the first one of a leaf, the header of that leaf stands before it
abbrev pub ReadsHeader : View → FileName → TreeRef → ℕ → Option Pair → Type 0
ReadsHeader v file tree passed None = Unit {0}
ReadsHeader v file tree passed (Some pair) = (leaf : ℕ) → passed ≡ 255 * leaf + 1 → (bytes : Bytes) → contents v file ≡ Some bytes → HasLeafHeader bytes tree leaf

-- where the file has the tree, this is the next of its pairs
abbrev pub ReadsNextPair : View → FileName → TreeRef → ℕ → ℕ → Option Pair → Type 0
ReadsNextPair v file tree before after found = (bytes : Bytes) (pairs : List Pair) → contents v file ≡ Some bytes → HasTree bytes tree pairs → StepsToPair pairs before after found

-- where the file has the tree, this is the first of its pairs at or after a token
abbrev pub ReadsFirstPair : View → FileName → TreeRef → ℕ → ℕ → Option Pair → Type 0
ReadsFirstPair v file tree token after found =
    (bytes : Bytes) (pairs : List Pair) → contents v file ≡ Some bytes → HasTree bytes tree pairs → (count : ℕ) × CountsBelow pairs token count × StepsToPair pairs count after found

-- In any file a search steps to the pair behind those that the nodes count as below a token. There is none only where these are all, or where the
-- reference counts no pairs.
abbrev pub StepsBehindCounted : View → FileName → TreeRef → ℕ → ℕ → Option Pair → Type 0
StepsBehindCounted v file tree token passed None =
    (tree.pairs ≤ passed) × ((bytes : Bytes) → contents v file ≡ Some bytes → (tree.pairs ≡ 0) ⊎ CountsDown bytes token 0 (start tree) tree.pairs passed)
StepsBehindCounted v file tree token passed (Some pair) = (count : ℕ) × (passed ≡ count + 1) × ((bytes : Bytes) → contents v file ≡ Some bytes → CountsDown bytes token 0 (start tree) tree.pairs count)

-- ---- what a scan reads

-- how many bytes before an entry are read with it: with the first one of a leaf those of the leaf's header
unfoldable pub header_read : ℕ → ℕ
header_read index = if nat_eq (index % 255) 0 then 8 else 0

-- where the entry with this index is read from
abbrev pub read_from : TreeRef → ℕ → ℕ
read_from tree index = pair_offset tree index - header_read index

-- how many of the pages that it is read from aren't buffered
abbrev pub entry_cost : Option ℕ → TreeRef → ℕ → ℕ
entry_cost buffered tree index = unbuffered_pages buffered (read_from tree index) (16 + header_read index)
