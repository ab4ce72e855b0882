-- A compaction of some data files of a table, partition by partition.
use Rattle.std.specs.Prelude.{◌≡◌, ◌≢◌, ◌+◌, ◌<◌, ◌≤◌, ℕ, Bool, false, true, List, [], ◌∷◌, ◌++◌, drop, length, map, slice_get, take, IfSome, IsSome, IsTrue, IfErr, OnOk, Option, None, Some}
use Rattle.std.specs.declared.result.Result.{Result}
use Rattle.std.specs.FinMap as map_
use Rattle.std.specs.List.{AllByRecursion}
use Rattle.sasi_types.specs.declared.class.Class.{Class}
use Rattle.sasi_types.specs.declared.column.ColumnType.{ColumnType}
use Rattle.sasi_types.specs.declared.decorated_key.DecoratedKey.{DecoratedKey}
use Rattle.sasi_types.specs.declared.index_def.IndexDef.{IndexDef}
use Rattle.sasi_types.specs.declared.partitioner.Partitioner.{Partitioner}
use Rattle.sasi_types.specs.Token.{token_of}
use Rattle.sasi_model.specs.Cells.{Partition}
use Rattle.sasi_host.specs.declared.damage.Damage.{Damage}
use Rattle.sasi_host.specs.Names.{Folder, data_name}
use Rattle.sasi_host.specs.View.{FailedAtLast, IsAbsent, IsThere, Reaches, View, contents}
use Rattle.sasi_body.specs.Body.{IsBodyOf}
use Rattle.sasi_datawrite.specs.Format.{Content}
use Rattle.sasi_datawrite.specs.Writing.{last_pair}
use Rattle.sasi_datawrite.specs.declared.fault.PairFault.{PairFault}
use Rattle.sasi_datawrite.specs.declared.fault.PairFault.TheVariants as pair
use Rattle.sasi_manifest.specs.declared.files.ListedFile.{ListedFile}
use Rattle.sasi_manifest.specs.ListedFiles.{is_among}
use Rattle.sasi_merge.specs.Merging.{with_token}
use Rattle.sasi_merge.specs.Streams.{Entries}
use Rattle.sasi_scan.specs.KeyOrder.{AreAbove, IsUnder}
use Rattle.sasi_scan.specs.Paging.{table_reads}
use Rattle.sasi_scan.specs.Parts.{AreContents, merged_parts}
use Rattle.sasi_scan.specs.Scanning.{CanScan, GivesFirst, IsScanOf, MayRead, ScanView}
use Rattle.sasi_pairs.specs.Gathered.{IsBuilt, defs_of}
use Rattle.sasi_pairs.specs.PairViews.{IsPairing, PairView}
use Rattle.sasi_compact.specs.declared.compaction.Compaction.{Compaction}
use Rattle.sasi_compact.specs.declared.output.Output.{Output}
use Rattle.sasi_compact.specs.declared.progress.Progress.{Progress}
use Rattle.sasi_compact.specs.declared.progress.Progress.TheVariants.{Ready, Running}
use Rattle.sasi_compact.specs.declared.task.CompactTask.{CompactTask}

-- ---- what is compacted

-- data files with these numbers; of the index files that go with them nothing is asked
abbrev pub files_numbered : List ℕ → List ListedFile
files_numbered numbers = map (λ n. record { number = n; parts = [] }) numbers

-- the data files that are compacted
abbrev pub sources_of : Compaction → List ListedFile
sources_of c = files_numbered c.sources

-- keys and their partitions, in the same order
abbrev pub content_of : Entries → Content
content_of entries = map (λ e. (e.0.key, e.1)) entries

-- the index can be built, and is on a regular column of a table with these types
pub record IsOnColumn (types : List ColumnType) (def : IndexDef) : Type 0 where
  pub built : IsBuilt def
  pub regular : 1 ≤ def.column
  pub kind : slice_get types def.column ≡ Some def.kind

-- It has one source at least, and none is the output. The sources are files of a table with these types, at most 64, and the indexes are on its columns.
pub record CanCompact (c : Compaction) : Type 0 where
  pub some : 1 ≤ length c.sources
  pub apart : is_among c.sources c.number ≡ false
  pub narrow : length c.types ≤ 64
  pub indexes_on : AllByRecursion (IsOnColumn c.types) c.indexes

-- an output with this scan, writer and next partition
abbrev pub output_of : ScanView → PairView → Option (List ℕ × Partition) → Output
output_of scan pairs next = record { scan = scan; pairs = pairs; next = next }

-- ---- what is written, and what is left

-- Before the first unit: the sources are the data files of contents, the oldest first, and all of their merge is left.
pub record HasAllLeft (seen : Option Folder) (c : Compaction) (passed left : Entries) : Type 0 where
  pub contents : List Content
  pub are : AreContents seen c.partitioner c.types (sources_of c) contents
  pub none_passed : passed ≡ []
  pub all_left : left ≡ map_.entries (merged_parts c.partitioner contents [])

-- From the first unit on: what was passed is written, with its postings, and the scan gives what is left, of which the first is looked ahead.
pub record HasWritten (v : View) (c : Compaction) (output : Output) (passed left : Entries) : Type 0 where
  pub written : IsPairing v output.pairs (content_of passed)
  pub ahead : GivesFirst v.files c.partitioner [] left output.scan output.next

abbrev pub IsCompactingTo : View → Compaction → Option Output → Entries → Entries → Type 0
IsCompactingTo v c None passed left = HasAllLeft v.files c passed left
IsCompactingTo v c (Some output) passed left = HasWritten v c output passed left

-- **Of the merge of the sources the task has passed these partitions, and has the others left.**
abbrev pub IsCompacting : View → CompactTask → Entries → Entries → Type 0
IsCompacting v task passed left = IsCompactingTo v task.compaction task.output passed left

-- so many units were to be done: it runs on where keys are left, and else this is how many weren't used
abbrev pub IsProgress : ℕ → Entries → Progress → Type 0
IsProgress units left Running = units < length left
IsProgress units left (Ready unused) = length left + unused ≡ units

-- **So many of the partitions that were left were passed, or all of them.**
pub record HasPassed (v : View) (c : Compaction) (output : Option Output) (units : ℕ) (passed left : Entries) (progress : Progress) : Type 0 where
  pub now : IsCompactingTo v c output (passed ++ take units left) (drop units left)
  pub progress_is : IsProgress units left progress

-- One unit: the first of what was left is passed, or none was left.
abbrev pub PassesNext : View → Compaction → Output → Entries → Entries → Bool → Type 0
PassesNext v c output passed left true = (e : DecoratedKey × Partition) × (rest : Entries) × (left ≡ e ∷ rest) × HasWritten v c output (passed ++ e ∷ []) rest
PassesNext v c output passed left false = (left ≡ []) × HasWritten v c output passed []

-- ---- in any folder

-- what the scan still gives comes behind this key, in the order of the partitioner
abbrev pub IsAheadOf : Partitioner → ScanView → List ℕ → Type 0
IsAheadOf p scan last = AreAbove (with_token (token_of p last) last) scan.heads

-- the scan takes its tokens from the keys, under the partitioner, and what it still gives comes behind the partition that is looked ahead
pub record IsInOrder (p : Partitioner) (scan : ScanView) (next : Option (List ℕ × Partition)) : Type 0 where
  pub under : IsUnder p scan
  pub ahead : IfSome next (λ one. IsAheadOf p scan one.0)

-- an output that is begun can be written on
pub record CanWriteOn (v : View) (c : Compaction) (output : Output) : Type 0 where
  pub file : output.pairs.writer.file ≡ data_name c.number
  pub partitioner : output.pairs.writer.partitioner ≡ c.partitioner
  pub indexes : defs_of output.pairs.indexes ≡ c.indexes
  pub usable : IsTrue output.pairs.writer.usable
  pub room : Reaches v output.pairs.writer.file output.pairs.writer.offset
  pub scan : CanScan v.files [] output.scan
  pub of_sources : IsScanOf v.files (sources_of c) c.types [] output.scan
  pub in_order : IsInOrder c.partitioner output.scan output.next
  -- the next partition has a body in the table, and may follow what is written
  pub body : IfSome output.next (λ one. IsBodyOf c.types one.0 one.1)
  pub rising : IfSome output.next (λ one. (last_pair output.pairs.writer.pairs).token ≤ token_of c.partitioner one.0)
  -- what is written is the data file of some content so far, with its postings
  pub written : (content : Content) × IsPairing v output.pairs content
  -- where none is left, one was written at least
  pub some : output.next ≡ None → 1 ≤ length output.pairs.writer.pairs

-- before the first unit the sources are there, and the output isn't
pub record CanBegin (v : View) (c : Compaction) : Type 0 where
  pub there : AllByRecursion (λ (f : ListedFile). IsThere v (data_name f.number)) (sources_of c)
  pub absent : IsAbsent v (data_name c.number)

abbrev pub CanGoOnTo : View → Compaction → Option Output → Type 0
CanGoOnTo v c None = CanBegin v c
CanGoOnTo v c (Some output) = CanWriteOn v c output

-- **The task can go on**, whatever the sources hold.
pub record CanGoOn (v : View) (task : CompactTask) : Type 0 where
  pub can : CanCompact task.compaction
  pub usable : IsTrue task.usable
  pub files : CanGoOnTo v task.compaction task.output

-- the output is a file that is there
pub record HasOutput (v : View) (number : ℕ) (output : Output) : Type 0 where
  pub file : output.pairs.writer.file ≡ data_name number
  pub there : IsThere v output.pairs.writer.file

-- **The task can be given up.**
abbrev pub CanGiveUp : View → CompactTask → Type 0
CanGiveUp v task = IfSome task.output (HasOutput v task.compaction.number)

-- all keys are passed, and one at least
pub record IsAllPassed (output : Output) : Type 0 where
  pub none_next : output.next ≡ None
  pub some : 1 ≤ length output.pairs.writer.pairs

abbrev pub IsReadyTo : Option Output → Type 0
IsReadyTo None = ⊥
IsReadyTo (Some output) = IsAllPassed output

-- it is the writer of the output
abbrev pub IsWriterOf : Option Output → PairView → Type 0
IsWriterOf None pairs = ⊥
IsWriterOf (Some output) pairs = pairs ≡ output.pairs

-- **The task can be finished**: its last unit alone is left.
abbrev pub IsReady : CompactTask → Type 0
IsReady task = IsReadyTo task.output

-- if it says so, it is
abbrev pub IsReadyAt : Option Output → Progress → Type 0
IsReadyAt output Running = Unit {0}
IsReadyAt output (Ready unused) = IsReadyTo output

-- where no unit is left to be done, it runs on exactly where a partition is looked ahead
abbrev pub IsProgressOf : Option (List ℕ × Partition) → Progress → Type 0
IsProgressOf next Running = IsSome next
IsProgressOf next (Ready unused) = (next ≡ None) × (unused ≡ 0)

-- ---- reads

abbrev pub MayReadTo : Option Folder → Compaction → Option Output → ℕ → Type 0
MayReadTo seen c None most = (contents : List Content) × AreContents seen c.partitioner c.types (sources_of c) contents × (table_reads seen (sources_of c) ≤ most)
MayReadTo seen c (Some output) most = MayRead seen c.partitioner output.scan most

-- where the sources are the data files of contents, so many reads at most are left to the task
abbrev pub MayReadMore : Option Folder → CompactTask → ℕ → Type 0
MayReadMore seen task most = MayReadTo seen task.compaction task.output most

-- what was read, and what is left to the task to read, are at most so many reads
pub record HasReadsLeft (seen : Option Folder) (c : Compaction) (output : Option Output) (most now : ℕ) : Type 0 where
  pub left : ℕ
  pub may : MayReadTo seen c output left
  pub reads : now + left ≤ most

-- ---- faults

-- if the fault is damage, it has P
abbrev pub OnPairDamage : (Damage → Type 0) → PairFault → Type 0
OnPairDamage P (pair.Damaged damage) = P damage
OnPairDamage P _ = Unit {0}

-- Where the host failed, the last call did, and none before it; else none did. A class is missing only where an index lacks it. No reply is emitted.
pub record CompactCauses {T : Type 0} (Lacks : Class → Type 0) (old new : View) (result : Result T PairFault) : Type 0 where
  pub disk : old.disk_faults ≤ new.disk_faults
  pub out : new.out_faults ≡ old.out_faults
  pub ok : OnOk result (new.disk_faults ≡ old.disk_faults)
  pub failed : IfErr result (λ f. f ≡ pair.Failed → FailedAtLast old.disk_faults new.disk_faults new.failed_last)
  pub other : IfErr result (λ f. f ≢ pair.Failed → new.disk_faults ≡ old.disk_faults)
  pub missing : IfErr result (λ f. (class : Class) → f ≡ pair.Missing class → Lacks class)

-- ---- while the folder goes on

-- the sources and the output are as they were
pub record StaysForTask (c : Compaction) (old new : View) : Type 0 where
  pub told : IsSome new.files → IsSome old.files
  pub sources : AllByRecursion (λ (f : ListedFile). contents new (data_name f.number) ≡ contents old (data_name f.number)) (sources_of c)
  pub output : contents new (data_name c.number) ≡ contents old (data_name c.number)
