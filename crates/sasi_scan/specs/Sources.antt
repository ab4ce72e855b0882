-- Sources of a table's partitions: what a step of one needs, what it gives, and what it shows where a file is damaged.
use Rattle.std.specs.Prelude.{◌≡◌, ◌<◌, ◌≤◌, ℕ, zero, suc, List, [], ◌∷◌, true, false, length, slice_get, set, Option, None, Some, IfSome, IsSome, ⊤}
use Rattle.std.specs.FinMap as map_
use Rattle.std.specs.List.{AllByRecursion, Contains}
use Rattle.std.specs.Option.{option_map, option_or}
use Rattle.sasi_types.specs.declared.column.ColumnType.{ColumnType}
use Rattle.sasi_types.specs.declared.decorated_key.DecoratedKey.{DecoratedKey}
use Rattle.sasi_types.specs.declared.partitioner.Partitioner.{Partitioner}
use Rattle.sasi_types.specs.Token.{token_of}
use Rattle.sasi_host.specs.declared.fault.ReadFault.{ReadFault}
use Rattle.sasi_host.specs.Names.{Bytes, Folder, data_name}
use Rattle.sasi_host.specs.Buffered.{IsBuffered}
use Rattle.sasi_host.specs.Damages.{OnDamage}
use Rattle.sasi_host.specs.View.{contents_in}
use Rattle.sasi_body.specs.Body.{IsBodyOf}
use Rattle.sasi_tokentree.specs.Scans.{IsAtLast}
use Rattle.sasi_datawrite.specs.Files.{IsDataFile}
use Rattle.sasi_datawrite.specs.Format.{Content}
use Rattle.sasi_datawrite.specs.declared.footer.Footer.{Footer}
use Rattle.sasi_dataread.specs.Damages.{ShowsData}
use Rattle.sasi_dataread.specs.HeaderAndFooter.{HasHeaderAndFooter}
use Rattle.sasi_dataread.specs.KeyOrder.{IsLastKey, KeyRises, key_of}
use Rattle.sasi_dataread.specs.Opened.{IsOpenedAs, OpenDataFile}
use Rattle.sasi_dataread.specs.Scans.{DataScan, KeysAreBytes, StepsToPartition, pairs_of}
use Rattle.sasi_dataread.specs.Tokens.{AgreesWith}
use Rattle.sasi_manifest.specs.declared.files.ListedFile.{ListedFile}
use Rattle.sasi_memtable.specs.MemtableView.{MemtableView, entries_after}
use Rattle.sasi_merge.specs.Merging.{Head, has_key, with_token}
use Rattle.sasi_merge.specs.Streams.{Entries, head_of}
use Rattle.sasi_scan.specs.Parts.{IsOfPart}
use Rattle.sasi_scan.specs.declared.source.Source.{Source}
use Rattle.sasi_scan.specs.declared.source.Source.TheVariants.{File, Map}

-- ---- a step of a source, over a folder that may be told

-- the file of a scan is there, its buffered pages are those of the file, and so are the pair of the key tree that it read last and the key that it gave last
pub record CanWalk (seen : Option Folder) (scan : DataScan) : Type 0 where
  pub there : IsSome seen → IsSome (contents_in seen scan.opened.file)
  pub pairs_named : scan.pairs_buffered.file ≡ scan.opened.file
  pub named : scan.buffered.file ≡ scan.opened.file
  pub pairs_buffered : IsBuffered scan.pairs_buffered seen
  pub buffered : IsBuffered scan.buffered seen
  pub at_last : IsAtLast (pairs_of scan) seen
  pub last_key : IsLastKey seen scan.opened scan.tokens scan.passed scan.last

-- a map is one of the maps in memory, by its position
abbrev pub CanStep : Option Folder → List MemtableView → Source → Type 0
CanStep seen maps (File scan) = CanWalk seen scan
CanStep seen maps (Map position) = position < length maps

-- the file reads as the data file of a content, and was opened as that
pub record IsOpenIn (seen : Option Folder) (opened : OpenDataFile) (partitioner : Partitioner) (content : Content) : Type 0 where
  pub bytes : Bytes
  pub reads : contents_in seen opened.file ≡ Some bytes
  pub data_file : IsDataFile partitioner opened.types bytes content
  pub of : IsOpenedAs opened partitioner content
  pub keys : KeysAreBytes content

-- the token of the partition, if there is one, is that of its key under the partitioner
abbrev pub HasTokenOf : Partitioner → Head → Type 0
HasTokenOf partitioner head = IfSome head (λ one. one.0 ≡ token_of partitioner one.1)

-- the scan of a data file goes on to this head: a partition of the table, whose key comes behind the one before, with its token under the scan's
-- partitioner, if it has one; none only where all pairs of the key tree are passed; and where the file has a content the next of it
pub record StepsInFile (seen : Option Folder) (old : DataScan) (head : Head) (new : DataScan) : Type 0 where
  pub can : CanWalk seen new
  pub opened : new.opened ≡ old.opened
  pub tokens : new.tokens ≡ old.tokens
  pub in_table : IfSome head (λ one. IsBodyOf old.opened.types one.1 one.2)
  pub rises : KeyRises old.last head
  pub last_is : new.last ≡ option_or (option_map key_of head) old.last
  pub token_is : (partitioner : Partitioner) → old.tokens ≡ Some partitioner → HasTokenOf partitioner head
  pub ends : head ≡ None → old.opened.tree.pairs ≤ old.passed
  pub next : (partitioner : Partitioner) (content : Content) → AgreesWith old.tokens partitioner → IsOpenIn seen old.opened partitioner content → StepsToPartition partitioner content old.passed new.passed head

-- the source goes on to this head, which in a map is the first entry behind the key
abbrev pub StepsTo : Option Folder → List MemtableView → DecoratedKey → Source → Head → Source → Type 0
StepsTo seen maps key (File old) head (File new) = StepsInFile seen old head new
StepsTo seen maps key (Map old) head (Map new) = (new ≡ old) × ((m : MemtableView) → slice_get maps old ≡ Some m → head ≡ head_of (entries_after (Some key) (map_.entries m.partitions)))
StepsTo seen maps key (File old) head (Map new) = ⊥
StepsTo seen maps key (Map old) head (File new) = ⊥

-- ---- damage

-- damage is what the file of a source shows
abbrev pub ShowsSource : Option Folder → Source → ReadFault → Type 0
ShowsSource seen (File scan) = OnDamage (λ damage. (bytes : Bytes) → contents_in seen scan.opened.file ≡ Some bytes → ShowsData scan.opened bytes damage)
ShowsSource seen (Map position) = OnDamage (λ _. ⊥)

-- and is reported only where the file isn't the data file that was opened, under the partitioner of the scan's tokens
abbrev pub NoFalseSourceDamage : Option Folder → Source → ReadFault → Type 0
NoFalseSourceDamage seen (File scan) = OnDamage (λ _. (partitioner : Partitioner) (content : Content) → AgreesWith scan.tokens partitioner → IsOpenIn seen scan.opened partitioner content → ⊥)
NoFalseSourceDamage seen (Map position) = OnDamage (λ _. ⊥)

-- ---- all sources

-- in any file, these entries are of the parts of the table
abbrev pub AreOfPart : List ColumnType → List MemtableView → Entries → Type 0
AreOfPart types maps = AllByRecursion (λ entry. IsOfPart types maps entry.0.key entry.1)

abbrev pub IsSourceOf : List ColumnType → Source → Type 0
IsSourceOf types (File scan) = scan.opened.types ≡ types
IsSourceOf types (Map position) = ⊤

abbrev pub IsHeadOf : List ColumnType → List MemtableView → Head → Type 0
IsHeadOf types maps head = IfSome head (λ one. IsOfPart types maps one.1 one.2)

-- the next partition of a data file is the one that its scan gave last
abbrev pub IsGiven : Head → Source → Type 0
IsGiven head (File scan) = IfSome head (λ one. scan.last ≡ Some (with_token one.0 one.1))
IsGiven head (Map position) = ⊤

abbrev pub AreGiven : List Head → List Source → Type 0
AreGiven [] [] = ⊤
AreGiven (head ∷ heads) (source ∷ sources) = IsGiven head source × AreGiven heads sources
AreGiven heads sources = ⊥

abbrev pub numbers_of : OpenDataFile → Footer
numbers_of opened = record { tree = opened.tree; max_timestamp = opened.max_timestamp; end = opened.end }

-- the file is one of those that are listed, and was opened by its own footer
pub record IsListedFile (seen : Option Folder) (files : List ListedFile) (types : List ColumnType) (opened : OpenDataFile) : Type 0 where
  pub file : ListedFile
  pub listed : Contains files file
  pub named : opened.file ≡ data_name file.number
  pub types_are : opened.types ≡ types
  pub footer : (bytes : Bytes) → contents_in seen opened.file ≡ Some bytes → HasHeaderAndFooter bytes (numbers_of opened)

abbrev pub IsListedSource : Option Folder → List ListedFile → List ColumnType → Source → Type 0
IsListedSource seen files types (File scan) = IsListedFile seen files types scan.opened
IsListedSource seen files types (Map position) = ⊤

-- ---- the sources whose heads have a key go on

-- this source advances if its head has the key
pub data IsMoved (seen : Option Folder) (maps : List MemtableView) (key : DecoratedKey) (head : Head) (source : Source) (next : Head) (after : Source) : Type 0 where
  advances : has_key key head ≡ true → StepsTo seen maps key source next after → IsMoved seen maps key head source next after
  stays : has_key key head ≡ false → next ≡ head → after ≡ source → IsMoved seen maps key head source next after

-- so do the first so many, and the others stay
abbrev pub AreMoved : Option Folder → List MemtableView → DecoratedKey → ℕ → List Head → List Source → List Head → List Source → Type 0
AreMoved seen maps key zero heads sources nexts afters = (nexts ≡ heads) × (afters ≡ sources)
AreMoved seen maps key (suc n) (head ∷ heads) (source ∷ sources) (next ∷ nexts) (after ∷ afters) = IsMoved seen maps key head source next after × AreMoved seen maps key n heads sources nexts afters
AreMoved seen maps key (suc n) heads sources nexts afters = ⊥

-- the source at this position does
pub record IsMovedAt (seen : Option Folder) (maps : List MemtableView) (key : DecoratedKey) (at : ℕ) (heads : List Head) (sources : List Source) (nexts : List Head) (afters : List Source) : Type 0 where
  pub head : Head
  pub source : Source
  pub next : Head
  pub after : Source
  pub had : slice_get heads at ≡ Some head
  pub was : slice_get sources at ≡ Some source
  pub moved : IsMoved seen maps key head source next after
  pub heads_are : nexts ≡ set heads at next
  pub sources_are : afters ≡ set sources at after
