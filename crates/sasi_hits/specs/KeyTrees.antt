-- The keys of a data file, by the pairs of its key tree.
use Rattle.std.specs.Prelude.{◌≡◌, ℕ, ◌+◌, ◌*◌, ◌<◌, ◌≤◌, true, false, List, [], ◌∷◌, ◌++◌, drop, Option, None, Some}
use Rattle.std.specs.List.{AllByRecursion, filter}
use Rattle.sasi_types.specs.declared.column.ColumnType.{ColumnType}
use Rattle.sasi_types.specs.declared.partitioner.Partitioner.{Partitioner}
use Rattle.sasi_types.specs.declared.tree.Pair.{Pair}
use Rattle.sasi_host.specs.declared.name.FileName.{FileName}
use Rattle.sasi_host.specs.declared.damage.Damage.{Damage}
use Rattle.sasi_host.specs.Names.{Bytes, Folder}
use Rattle.sasi_host.specs.Buffered.{IsBuffered, reached}
use Rattle.sasi_host.specs.View.{contents_in}
use Rattle.sasi_tokentree.specs.Damages.{ShowsPairs}
use Rattle.sasi_tokentree.specs.Format.{HasTree}
use Rattle.sasi_tokentree.specs.Scans.{IsAtLast, PairScan, read_from}
use Rattle.sasi_datawrite.specs.declared.footer.Footer.{Footer}
use Rattle.sasi_datawrite.specs.Files.{IsDataFile}
use Rattle.sasi_datawrite.specs.Format.{Content, key_pairs}
use Rattle.sasi_dataread.specs.Damages.{ShowsHeaderOrFooter}
use Rattle.sasi_dataread.specs.HeaderAndFooter.{HasHeaderAndFooter}
use Rattle.sasi_dataread.specs.ReadCosts.{file_pages}
use Rattle.sasi_dataread.specs.Scans.{KeysAreBytes}
use Rattle.sasi_ranges.specs.declared.entry.Entry.{Entry}
use Rattle.sasi_hits.specs.Calls.{ShowsIn}
use Rattle.sasi_hits.specs.Pairs.{PairsRise, entries_of, is_from}

-- the file reads as the data file of this content, in a table whose columns have these types
pub record ReadsAsData (files : Option Folder) (file : FileName) (types : List ColumnType) (bytes : Bytes) (partitioner : Partitioner) (content : Content) : Type 0 where
  pub reads : contents_in files file ≡ Some bytes
  pub data_file : IsDataFile partitioner types bytes content
  pub keys : KeysAreBytes content

-- ---- damage

-- the damage is that of this data file: of its header or its footer, or of the key tree to which the footer leads
pub data ShowsKeyTree (file : FileName) (bytes : Bytes) (damage : Damage) : Type 0 where
  outside : ShowsHeaderOrFooter file bytes damage → ShowsKeyTree file bytes damage
  inside : (numbers : Footer) → HasHeaderAndFooter bytes numbers → ShowsPairs file numbers.tree bytes damage → ShowsKeyTree file bytes damage

abbrev pub KeysShow : FileName → Option Folder → Damage → Type 0
KeysShow file = ShowsIn file (ShowsKeyTree file)

-- ---- what is left

-- the file has the key tree of these pairs, of which the scan has some left
pub record ScanLeaves (scan : PairScan) (files : Option Folder) (left : List Pair) : Type 0 where
  pub bytes : Bytes
  pub pairs : List Pair
  pub reads : contents_in files scan.buffered.file ≡ Some bytes
  pub tree : HasTree bytes scan.tree pairs
  pub left_is : left ≡ drop scan.passed pairs

-- a file that isn't open yet leaves all pairs of its key tree, and an open one those that the scan has left
abbrev pub TreeLeaves : FileName → List ColumnType → Option PairScan → Option Folder → List Pair → Type 0
TreeLeaves file types None files left = (bytes : Bytes) × (partitioner : Partitioner) × (content : Content) × ReadsAsData files file types bytes partitioner content × (left ≡ key_pairs partitioner content)
TreeLeaves file types (Some scan) files left = (scan.buffered.file ≡ file) × ScanLeaves scan files left

-- A scan goes on to the first of its pairs whose token isn't below this one, and those behind it are left. It gives none exactly where there is none.
abbrev pub ScanGives : ℕ → (List Pair → Type 0) → List Pair → Option Pair → Type 0
ScanGives floor Left pairs None = AllByRecursion (λ x. is_from floor x ≡ false) pairs × Left []
ScanGives floor Left pairs (Some pair) =
    (passed rest : List Pair) × (pairs ≡ passed ++ pair ∷ rest) × AllByRecursion (λ x. is_from floor x ≡ false) passed × (is_from floor pair ≡ true) × Left rest

-- the pairs from a token on are left
pub record KeysLeave (file : FileName) (types : List ColumnType) (floor : ℕ) (tree : Option PairScan) (files : Option Folder) (left : List Pair) : Type 0 where
  pub pairs : List Pair
  pub of_tree : TreeLeaves file types tree files pairs
  pub rise : PairsRise pairs
  pub from : left ≡ filter (is_from floor) pairs

-- ---- what is read

-- the buffered page begins before what is read next, and is one of the file's; at most the pages behind it are still to read
pub record ScanPays (scan : PairScan) (files : Option Folder) (most : ℕ) : Type 0 where
  pub bytes : Bytes
  pub pairs : List Pair
  pub reads : contents_in files scan.buffered.file ≡ Some bytes
  pub tree : HasTree bytes scan.tree pairs
  pub begins : (page : ℕ) → scan.buffered.page ≡ Some page → 4096 * page < read_from scan.tree scan.passed
  pub within : reached scan.buffered.page ≤ file_pages bytes
  pub left : file_pages bytes ≤ most + reached scan.buffered.page

-- before the file is opened at most twice its pages are to read
abbrev pub KeysPay : FileName → List ColumnType → Option PairScan → Option Folder → ℕ → Type 0
KeysPay file types None files most = (bytes : Bytes) × (partitioner : Partitioner) × (content : Content) × ReadsAsData files file types bytes partitioner content × (2 * file_pages bytes ≤ most)
KeysPay file types (Some scan) files most = (scan.buffered.file ≡ file) × ScanPays scan files most

-- ---- an open file

-- the scan is one of the tree to which the footer leads, its buffered page is one of the file, and what it gave last is the last entry that it has
-- passed, in any file
pub record ScansKeys (file : FileName) (scan : PairScan) (files : Option Folder) : Type 0 where
  pub named : scan.buffered.file ≡ file
  pub buffered : IsBuffered scan.buffered files
  pub at_last : IsAtLast scan files
  pub footer : (bytes : Bytes) → contents_in files file ≡ Some bytes → (numbers : Footer) × HasHeaderAndFooter bytes numbers × (scan.tree ≡ numbers.tree)

abbrev pub KeysReady : FileName → Option PairScan → Option Folder → Type 0
KeysReady file None files = Unit {0}
KeysReady file (Some scan) files = ScansKeys file scan files

-- ---- as a stream

-- the hits at the pairs that are left
abbrev pub KeyEntries : FileName → List ColumnType → ℕ → ℕ → ℕ → Option PairScan → Option Folder → List Entry → Type 0
KeyEntries file types leaf part floor tree files es = (left : List Pair) × KeysLeave file types floor tree files left × (es ≡ entries_of leaf part left)
