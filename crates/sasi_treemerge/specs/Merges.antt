-- A merge of the pairs of several trees of a file, and of pairs in memory.
use Rattle.std.specs.Prelude.{◌≡◌, ◌≢◌, ◌⊎◌, ℕ, ◌+◌, ◌-◌, ◌<◌, ◌≤◌, nat_le, Bool, true, false, ◌&&◌, List, [], ◌∷◌, ◌++◌, drop, length, All, Contains, Option, None, Some, Result, Ok, Err}
use Rattle.std.specs.List.{sum_by}
use Rattle.std.specs.List.Sorted.{IsPermutation}
use Rattle.std.specs.Option.{option_to_list}
use Rattle.std.specs.BinaryHeap.{IsHeap, IsUpperBound, heap_items}
use Rattle.sasi_types.specs.declared.tree.Pair.{Pair}
use Rattle.sasi_types.specs.declared.tree.TreeRef.{TreeRef}
use Rattle.sasi_host.specs.declared.name.FileName.{FileName}
use Rattle.sasi_host.specs.Names.{Bytes}
use Rattle.sasi_host.specs.View.{View, contents}
use Rattle.sasi_host.specs.Buffered.{IsBuffered}
use Rattle.sasi_host.specs.declared.fault.ReadFault.{ReadFault}
use Rattle.sasi_tokentree.specs.Format.{HasTree, pair_at}
use Rattle.sasi_tokentree.specs.Scans.{HasEntry, HasPassed, PairScan, ReadsEntry}
use Rattle.sasi_treemerge.specs.declared.held_pair.HeldPair.{HeldPair}
use Rattle.sasi_treemerge.specs.declared.tree_source.TreeSource.{TreeSource}
use Rattle.sasi_treemerge.specs.declared.merge.TreeMerge.{TreeMerge}
use Rattle.sasi_treemerge.specs.Sources.{is_before, source_cmp}
use Rattle.sasi_treemerge.specs.Held.{IsHeld, held_cmp}

-- ---- what is left

-- the pair comes behind the last one, if there is one
abbrev pub is_behind : Option Pair → Pair → Bool
is_behind None pair = true
is_behind (Some last) pair = is_before last pair

-- a pair is left if it comes behind the last one that was given, and its token isn't below the floor
abbrev pub is_left : Option Pair → ℕ → Pair → Bool
is_left last floor pair = is_behind last pair && nat_le floor pair.token

-- a pair of one of the lists that is left
pub record IsPairOf (lists : List (List Pair)) (pair : Pair) : Type 0 where
  pub pairs : List Pair
  pub listed : Contains lists pairs
  pub has : Contains pairs pair

-- the pair is the least one of the lists that is left; there is none where none is left
abbrev pub IsLeast : List (List Pair) → Option Pair → ℕ → Option Pair → Type 0
IsLeast lists last floor None = (pair : Pair) → IsPairOf lists pair → is_left last floor pair ≡ false
IsLeast lists last floor (Some found) =
    IsPairOf lists found × (is_left last floor found ≡ true) × ((pair : Pair) → IsPairOf lists pair → is_left last floor pair ≡ true → is_before pair found ≡ false)

-- the last pair that was given, once this one was
abbrev pub last_after : Option Pair → Option Pair → Option Pair
last_after last None = last
last_after last (Some found) = Some found

-- ---- sources, and pairs in memory

-- what a merge has: scans of trees, and pairs in memory
pub record Parts : Type 0 where
  pub sources : List TreeSource
  pub pairs : List HeldPair

-- the file has the tree of these pairs, and the source is a scan of it whose head is its next pair
pub record IsSourceOf (bytes : Bytes) (pairs : List Pair) (source : TreeSource) : Type 0 where
  pub tree : HasTree bytes source.tree.value.tree pairs
  pub before : ℕ
  pub left : drop before pairs ≡ source.head ∷ drop source.tree.value.passed pairs

-- such a source of one of the lists
pub record IsSourceIn (bytes : Bytes) (lists : List (List Pair)) (source : TreeSource) : Type 0 where
  pub pairs : List Pair
  pub listed : Contains lists pairs
  pub is : IsSourceOf bytes pairs source

-- a source that still gives this pair
pub record IsStillGiven (bytes : Bytes) (pairs : List Pair) (sources : List TreeSource) (pair : Pair) : Type 0 where
  pub source : TreeSource
  pub there : Contains sources source
  pub is : IsSourceOf bytes pairs source
  pub gives : Contains (source.head ∷ drop source.tree.value.passed pairs) pair

-- the sources are those of the lists and the pairs in memory are pairs of them, and they give each of the lists' pairs that is left
pub record Gives (bytes : Bytes) (lists : List (List Pair)) (last : Option Pair) (floor : ℕ) (parts : Parts) : Type 0 where
  pub each : All (IsSourceIn bytes lists) parts.sources
  pub held : (pair : Pair) → IsHeld parts.pairs pair → IsPairOf lists pair
  pub all : (pairs : List Pair) (pair : Pair) → Contains lists pairs → Contains pairs pair → is_left last floor pair ≡ true → IsStillGiven bytes pairs parts.sources pair ⊎ IsHeld parts.pairs pair

-- the head is the pair that the scan gave last, and in any file the last entry that it has passed
pub record IsAtHead (v : View) (file : FileName) (source : TreeSource) : Type 0 where
  pub passed : HasPassed source.tree.value.tree source.tree.value.passed
  pub stands : ReadsEntry v file source.tree.value.tree source.tree.value.passed (Some source.head)
  pub last_is : source.tree.value.last ≡ Some source.head

-- what is known of a source in any file
pub record IsReadable (v : View) (file : FileName) (source : TreeSource) : Type 0 where
  pub named : source.tree.value.buffered.file ≡ file
  pub buffered : IsBuffered source.tree.value.buffered v.files
  pub at_head : IsAtHead v file source

-- how many pairs the sources have left, with their heads
abbrev pub left_in : TreeSource → ℕ
left_in source = source.tree.value.tree.pairs - source.tree.value.passed + 1

abbrev pub left_of : List TreeSource → ℕ
left_of sources = sum_by left_in sources

-- how many of their pairs weren't read yet
abbrev pub unread_in : TreeSource → ℕ
unread_in source = source.tree.value.tree.pairs - source.tree.value.passed

abbrev pub unread_of : List TreeSource → ℕ
unread_of sources = sum_by unread_in sources

-- a call makes at most the reads that were left, and leaves so many after Ok
abbrev pub SpendsReads : {T : Type 0} → View → View → ℕ → ℕ → Result T ReadFault → Type 0
SpendsReads old new before after (Ok found) = new.reads + after ≤ old.reads + before
SpendsReads old new before after (Err fault) = new.reads ≤ old.reads + before

-- each tree of the one list is one of the other
abbrev pub TreesStay : List TreeSource → List TreeSource → Type 0
TreesStay old new = All (λ source. (was : TreeSource) × Contains old was × (source.tree.value.tree ≡ was.tree.value.tree)) new

-- the file has an entry with this index, even where the tree is damaged
abbrev pub IsRead : View → FileName → TreeRef → ℕ → Type 0
IsRead v file tree index = (pair : Pair) × ((bytes : Bytes) → contents v file ≡ Some bytes → HasEntry bytes tree index pair)

-- a source of the tree that has the entry with this index still to read
abbrev pub IsStillRead : List TreeSource → TreeRef → ℕ → Type 0
IsStillRead sources tree index = (source : TreeSource) × Contains sources source × (source.tree.value.tree ≡ tree) × (source.tree.value.passed ≤ index)

-- each entry that a source had still to read was read, or a source has it still to read, even where trees are damaged
abbrev pub ReadsEach : View → FileName → List TreeSource → List TreeSource → Type 0
ReadsEach v file old new = (source : TreeSource) (index : ℕ) → Contains old source → source.tree.value.passed ≤ index → index < source.tree.value.tree.pairs
    → IsRead v file source.tree.value.tree index ⊎ IsStillRead new source.tree.value.tree index

-- each pair in memory is still there, or isn't left, or was given
abbrev pub KeepsHeld : Option Pair → ℕ → Option Pair → List HeldPair → List HeldPair → Type 0
KeepsHeld last floor found old new = (pair : Pair) → IsHeld old pair → IsHeld new pair ⊎ ((is_left last floor pair ≡ false) ⊎ (found ≡ Some pair))

-- ---- a merge

abbrev pub sources_of : TreeMerge → List TreeSource
sources_of merge = heap_items merge.sources

abbrev pub held_of : TreeMerge → List HeldPair
held_of merge = heap_items merge.pairs

abbrev pub parts_of : TreeMerge → Parts
parts_of merge = record { sources = sources_of merge; pairs = held_of merge }

-- the merge can go on
pub record CanMerge (v : View) (merge : TreeMerge) : Type 0 where
  pub heap : IsHeap source_cmp (sources_of merge)
  pub held_heap : IsHeap held_cmp (held_of merge)
  pub each : All (IsReadable v merge.file) (sources_of merge)

-- ---- one step

-- a scan advanced to its next pair, or in any file is at its end
abbrev pub AdvancesTo : View → PairScan → Option TreeSource → Type 0
AdvancesTo v scan None = (scan.tree.pairs ≤ scan.passed) × ((bytes : Bytes) (pairs : List Pair) → contents v scan.buffered.file ≡ Some bytes → HasTree bytes scan.tree pairs → drop scan.passed pairs ≡ [])
AdvancesTo v scan (Some source) =
    (source.tree.value.tree ≡ scan.tree) × (source.tree.value.passed ≡ scan.passed + 1) × (source.tree.value.passed ≤ scan.tree.pairs)
    × ((bytes : Bytes) (pairs : List Pair) → contents v scan.buffered.file ≡ Some bytes → HasTree bytes scan.tree pairs → drop scan.passed pairs ≡ source.head ∷ drop source.tree.value.passed pairs)

-- the source with the least head is taken out, and put back with its next pair, if it has one
pub record StepsBy (v : View) (head : Pair) (old new : List TreeSource) : Type 0 where
  pub source : TreeSource
  pub others : List TreeSource
  pub next : Option TreeSource
  pub head_is : head ≡ source.head
  pub taken : IsPermutation old (source ∷ others)
  pub least : IsUpperBound source_cmp source old
  pub advances : AdvancesTo v source.tree.value next
  pub put : IsPermutation (option_to_list next ++ others) new

-- the least head is that of a source, or there is no source
abbrev pub Steps : View → List TreeSource → List TreeSource → Option Pair → Type 0
Steps v old new None = (old ≡ []) × (new ≡ [])
Steps v old new (Some head) = StepsBy v head old new

-- no pair in memory comes before this one
abbrev pub NoneHeldBefore : List HeldPair → Pair → Type 0
NoneHeldBefore held pair = (one : Pair) → IsHeld held one → is_before one pair ≡ false

-- no head does
abbrev pub NoHeadBefore : List TreeSource → Pair → Type 0
NoHeadBefore sources pair = All (λ source. is_before source.head pair ≡ false) sources

-- the pair in memory is taken out, before which nothing comes
pub record TakesHeld (head : Pair) (old new : Parts) : Type 0 where
  pub sources_stay : new.sources ≡ old.sources
  pub taken : IsPermutation old.pairs (record { pair = head } ∷ new.pairs)
  pub least : NoneHeldBefore old.pairs head
  pub before_heads : NoHeadBefore old.sources head

-- a source steps, before whose head nothing comes
pub record TakesHead (v : View) (head : Pair) (old new : Parts) : Type 0 where
  pub steps : StepsBy v head old.sources new.sources
  pub held_stay : new.pairs ≡ old.pairs
  pub before_held : NoneHeldBefore old.pairs head

-- no head comes before the least pair in memory, and there is one
abbrev pub HeldFirst : List TreeSource → List HeldPair → Type 0
HeldFirst sources held = ((one : HeldPair) → IsUpperBound held_cmp one held → NoHeadBefore sources one.pair) × (held ≢ [])

-- no pair in memory comes before the least head; there is none where there is no source
abbrev pub HeadsFirst : List TreeSource → List HeldPair → Type 0
HeadsFirst sources held = ((source : TreeSource) → Contains sources source → IsUpperBound source_cmp source sources → NoneHeldBefore held source.head) × (sources ≡ [] → held ≡ [])

-- the least pair is taken out; there is none where neither a source nor a pair in memory is left
abbrev pub Takes : View → Parts → Parts → Option Pair → Type 0
Takes v old new None = (old.sources ≡ []) × (old.pairs ≡ []) × (new.sources ≡ []) × (new.pairs ≡ [])
Takes v old new (Some head) = TakesHeld head old new ⊎ TakesHead v head old new

-- ---- more of them

-- one pair in memory more
abbrev pub HoldsOne : Pair → List HeldPair → List HeldPair → Type 0
HoldsOne pair old new = IsPermutation (record { pair = pair } ∷ old) new

-- the pairs in memory are those before and these
pub record HoldsMore (more : List Pair) (old new : List HeldPair) : Type 0 where
  pub kept : (pair : Pair) → IsHeld old pair → IsHeld new pair
  pub added : (pair : Pair) → Contains more pair → IsHeld new pair
  pub only : (pair : Pair) → IsHeld new pair → IsHeld old pair ⊎ Contains more pair

-- pairs in memory more
pub record AddsPairs (more : List Pair) (old new : Parts) : Type 0 where
  pub sources_stay : new.sources ≡ old.sources
  pub put : HoldsMore more old.pairs new.pairs

-- these are all entries of the tree with this reference, even where the tree is damaged
pub record ReadsWhole (v : View) (file : FileName) (list : TreeRef) (read : List Pair) : Type 0 where
  pub count : length read ≡ list.pairs
  pub stands : (index : ℕ) → index < list.pairs → (bytes : Bytes) → contents v file ≡ Some bytes → HasEntry bytes list index (pair_at read index)
  pub is : (bytes : Bytes) (pairs : List Pair) → contents v file ≡ Some bytes → HasTree bytes list pairs → read ≡ pairs

-- all pairs of a tree are in memory
pub record HoldsTree (v : View) (file : FileName) (list : TreeRef) (old new : List HeldPair) : Type 0 where
  pub read : List Pair
  pub whole : ReadsWhole v file list read
  pub put : HoldsMore read old new

-- one source more, at the first pair of the tree with this reference, if it has one
pub record AddsSource (v : View) (file : FileName) (list : TreeRef) (old new : List TreeSource) : Type 0 where
  pub next : Option TreeSource
  pub advances : AdvancesTo v (record { buffered = record { file = file; page = None; bytes = [] }; tree = list; passed = 0; last = None }) next
  pub put : IsPermutation (option_to_list next ++ old) new

-- a tree of one node is in memory, and a larger one is a source
abbrev pub AddsIf : View → FileName → TreeRef → Bool → Parts → Parts → Type 0
AddsIf v file list true old new = (new.sources ≡ old.sources) × HoldsTree v file list old.pairs new.pairs
AddsIf v file list false old new = (new.pairs ≡ old.pairs) × AddsSource v file list old.sources new.sources

abbrev pub Adds : View → FileName → TreeRef → Parts → Parts → Type 0
Adds v file list old new = AddsIf v file list (nat_le list.pairs 255) old new
