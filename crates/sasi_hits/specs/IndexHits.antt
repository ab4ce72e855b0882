-- The hits that an index file gives.
use Rattle.std.specs.Prelude.{◌≡◌, ℕ, ◌+◌, ◌≤◌, List, ◌∷◌, map, Option, None, Some}
use Rattle.std.specs.List.{AllByRecursion, sum_by}
use Rattle.sasi_types.specs.declared.tree.Pair.{Pair}
use Rattle.sasi_host.specs.declared.name.FileName.{FileName}
use Rattle.sasi_host.specs.declared.damage.Damage.{Damage}
use Rattle.sasi_host.specs.Names.{Bytes, Folder}
use Rattle.sasi_host.specs.View.{contents_in}
use Rattle.sasi_terms.specs.declared.op.Op.{Op}
use Rattle.sasi_indexwrite.specs.Content.{IndexContent}
use Rattle.sasi_indexwrite.specs.Files.{IsIndexFile}
use Rattle.sasi_indexread.specs.Costs.{whole_cost}
use Rattle.sasi_indexread.specs.Damages.{ShowsIndexFile}
use Rattle.sasi_indexread.specs.Opened.{HasHeaderAndFooterOf, OpenIndexFile}
use Rattle.sasi_indexread.specs.Searches.{IsFresh}
use Rattle.sasi_ranges.specs.declared.entry.Entry.{Entry}
use Rattle.sasi_hits.specs.declared.open_searches.WordSearches.{WordSearches}
use Rattle.sasi_hits.specs.Calls.{ShowsIn, quiet}
use Rattle.sasi_hits.specs.HitPairs.{AreHits}
use Rattle.sasi_hits.specs.Pairs.{entries_of}
use Rattle.sasi_hits.specs.WordSearches.{CanMeet, IsFreshWord, MeetLeaves, MeetPays}

-- the file reads as the index file of this content
pub record ReadsAsIndex (files : Option Folder) (file : FileName) (bytes : Bytes) (content : IndexContent) : Type 0 where
  pub reads : contents_in files file ≡ Some bytes
  pub index_file : IsIndexFile bytes content

-- ---- damage

abbrev pub HitsShow : FileName → Option Folder → Damage → Type 0
HitsShow file = ShowsIn file (ShowsIndexFile file)

-- ---- new searches

-- they are those of these words, and nothing was read
pub record AreFresh (index : OpenIndexFile) (op : Op) (words : List Bytes) (searches : WordSearches) : Type 0 where
  pub fresh : IsFresh searches.first
  pub index_is : searches.first.index ≡ index
  pub op_is : searches.first.op ≡ op
  pub others : AllByRecursion (IsFreshWord index op) searches.others.items
  pub words_are : words ≡ searches.first.body ∷ map (λ word. word.search.body) searches.others.items

-- ---- what is left, and what it takes

-- the reads of the searches of all words, in a file with so many levels of blocks
abbrev pub all_cost : ℕ → IndexContent → Op → List Bytes → ℕ
all_cost levels content op words = sum_by (whole_cost levels content op) words

-- open searches leave these hits, and take at most so many reads for them
abbrev pub SearchesLeave : Op → List Bytes → ℕ → WordSearches → Option Folder → List Pair → Type 0
SearchesLeave op words floor searches files left = MeetLeaves (quiet files) op words floor searches.first searches.others.items left

abbrev pub SearchesPay : Op → List Bytes → WordSearches → Option Folder → ℕ → Type 0
SearchesPay op words searches files most = MeetPays (quiet files) op words searches.first searches.others.items most

-- a file that isn't open yet leaves all pairs that each of the words gives, and an open one what its searches leave
abbrev pub HitsLeave : FileName → Op → List Bytes → ℕ → Option WordSearches → Option Folder → List Pair → Type 0
HitsLeave file op words floor None files left = (bytes : Bytes) × (content : IndexContent) × ReadsAsIndex files file bytes content × AreHits content op words None floor left
HitsLeave file op words floor (Some searches) files left = (searches.first.index.file ≡ file) × SearchesLeave op words floor searches files left

-- at most three reads open it
abbrev pub HitsPay : FileName → Op → List Bytes → Option WordSearches → Option Folder → ℕ → Type 0
HitsPay file op words None files most = (bytes : Bytes) × (content : IndexContent) × (is : ReadsAsIndex files file bytes content) × (3 + all_cost is.index_file.blocks.levels content op words ≤ most)
HitsPay file op words (Some searches) files most = (searches.first.index.file ≡ file) × SearchesPay op words searches files most

-- ---- an open file

-- its header and its footer were read, and the searches can go on, whatever the file is
pub record AreOpen (file : FileName) (searches : WordSearches) (files : Option Folder) : Type 0 where
  pub named : searches.first.index.file ≡ file
  pub opened : (bytes : Bytes) → contents_in files file ≡ Some bytes → HasHeaderAndFooterOf bytes searches.first.index
  pub can : CanMeet (quiet files) searches.first searches.others.items

abbrev pub HitsReady : FileName → Option WordSearches → Option Folder → Type 0
HitsReady file None files = Unit {0}
HitsReady file (Some searches) files = AreOpen file searches files

-- ---- as a stream

abbrev pub HitEntries : FileName → Op → List Bytes → ℕ → ℕ → ℕ → Option WordSearches → Option Folder → List Entry → Type 0
HitEntries file op words leaf part floor searches files es = (left : List Pair) × HitsLeave file op words floor searches files left × (es ≡ entries_of leaf part left)
