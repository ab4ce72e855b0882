-- A flush: what isn't flushed of a table becomes a data file, and the log goes on in a new segment.
use Rattle.std.specs.Prelude.{◌≡◌, ◌≢◌, ◌+◌, ◌<◌, ◌≤◌, ℕ, suc, IsTrue, false, List, [], ◌∷◌, Contains, length, map, Some}
use Rattle.std.specs.FinMap as map_
use Rattle.std.specs.FinMap.{get}
use Rattle.std.specs.List.{AllByRecursion}
use Rattle.sasi_types.specs.declared.class.Class.{Class}
use Rattle.sasi_types.specs.declared.index_def.IndexDef.{IndexDef}
use Rattle.sasi_types.specs.declared.partitioner.Partitioner.{Partitioner}
use Rattle.sasi_host.specs.declared.name.FileName.{FileName}
use Rattle.sasi_host.specs.Names.{Folder, data_name, log_name, manifest_name}
use Rattle.sasi_host.specs.View.{IsAbsent, IsThere, Reaches, View}
use Rattle.sasi_host.specs.Disk.{Each, IsFileDurable, Within}
use Rattle.sasi_model.specs.Abbreviations.{Partitions, kind_of, types_of}
use Rattle.sasi_model.specs.Indexes.{index_of}
use Rattle.sasi_body.specs.Body.{HasBody}
use Rattle.sasi_cells.specs.Maps.{merged}
use Rattle.sasi_cells.specs.declared.mutation.Mutation.{Mutation}
use Rattle.sasi_commitlog.specs.LogPosition.{IsAtLogEnd}
use Rattle.sasi_datawrite.specs.Format.{Content, data_bytes}
use Rattle.sasi_gated.specs.Handles.{Handle}
use Rattle.sasi_manifest.specs.declared.edit.Edit.{Edit}
use Rattle.sasi_manifest.specs.declared.edit.Edit.TheVariants.{Replace}
use Rattle.sasi_manifest.specs.declared.files.ListedFile.{ListedFile}
use Rattle.sasi_manifest.specs.declared.files.PartNumber.{PartNumber}
use Rattle.sasi_manifest.proofs.Replacing.{At}
use Rattle.sasi_manifest.specs.Edits.{Applies}
use Rattle.sasi_manifest.specs.ListedFiles.{IndexesRise, names_of}
use Rattle.sasi_manifest.specs.OpenManifest.{ManifestState, ManifestStands}
use Rattle.sasi_memindex.specs.Book.{AreValuesOf, Book}
use Rattle.sasi_memtable.specs.MemtableView.{AreDecorated, MemtableView}
use Rattle.sasi_pairs.specs.Gathered.{IsBuilt}
use Rattle.sasi_pairs.specs.SealedFiles.{HasDurableIndex}
use Rattle.sasi_layout.specs.Layout.{Layout, TableParts, bare, listing_of, numbered_indexes, unflushed}
use Rattle.sasi_layout.specs.Moves.{after_flush, flush_parts, new_listed_file, next_floor}
use Rattle.sasi_layout.specs.Shape.{HasShape}
use Rattle.sasi_layout.specs.Flushed.{flush_makes, logs_after}
use Rattle.sasi_layout.specs.Serving.{AreStorable}
use Rattle.sasi_layout.specs.NumbersInOrder.{HasNumbersInOrder}
use Rattle.sasi_tables.specs.Held.{KnowsDef, merged_in}
use Rattle.sasi_tables.specs.declared.flush.FlushNumbers.{FlushNumbers}

-- ---- what is written

-- the maps with these numbers as one memtable, in which a later one is newer
abbrev pub whole_of : Partitioner → Book → List ℕ → MemtableView
whole_of partitioner book numbers = record { partitioner = partitioner; partitions = merged_in book numbers }

-- each partition has a body
abbrev pub HaveBodies : Partitions → Type 0
HaveBodies m = AllByRecursion (λ e. HasBody e.0.key e.1) (map_.entries m)

-- ---- index files

-- An index file of each of these definitions can be written of the map, as these parts, and an analyzer is there for each: their numbers rise, and the map has values of their columns' types.
pub record CanIndex (kinds : List Class) (m : Partitions) (defs : List IndexDef) (parts : List PartNumber) : Type 0 where
  pub built : AllByRecursion IsBuilt defs
  pub typed : AllByRecursion (λ (def : IndexDef). AreValuesOf def.column def.kind m) defs
  pub known : AllByRecursion (KnowsDef kinds) defs
  pub numbered : map (λ (p : PartNumber). p.index) parts ≡ map (λ (def : IndexDef). def.number) defs
  pub rising : IndexesRise parts

-- the data file of this number and content is durable, and the index file of each part
pub record AreWritten (v : View) (number : ℕ) (partitioner : Partitioner) (defs : List IndexDef) (parts : List PartNumber) (content : Content) : Type 0 where
  pub «data» : IsFileDurable v (data_name number) (data_bytes partitioner content)
  pub indexes : AllByRecursion (HasDurableIndex v number partitioner defs content) parts

-- it is the definition of an index of the table, under its number
pub record IsTableIndex (t : TableParts) (def : IndexDef) : Type 0 where
  pub listed : Contains (numbered_indexes t) (def.number, index_of def)
  pub kind : kind_of t.definition def.column ≡ def.kind

abbrev pub AreTableIndexes : List IndexDef → TableParts → Type 0
AreTableIndexes defs t = AllByRecursion (IsTableIndex t) defs

-- ---- segments of the log

-- the segments from the first one up to before the floor are there
abbrev pub AreThere : View → ℕ → ℕ → Type 0
AreThere v first floor = (segment : ℕ) → first ≤ segment → segment < floor → IsThere v (log_name segment)

-- they are gone
abbrev pub AreAbsent : View → ℕ → ℕ → Type 0
AreAbsent v first floor = (segment : ℕ) → first ≤ segment → segment < floor → IsAbsent v (log_name segment)

-- no file changes but they
abbrev pub DeletesSegments : ℕ → ℕ → Folder → Folder → Type 0
DeletesSegments first floor old new = (name : FileName) → ((segment : ℕ) → first ≤ segment → segment < floor → name ≢ log_name segment) → get new name ≡ get old name

-- ---- a flush

-- its file, with index files of these parts
abbrev pub file_of : FlushNumbers → List PartNumber → ListedFile
file_of n parts = new_listed_file n.file parts

-- the one edit of its record
abbrev pub edit_of : FlushNumbers → List PartNumber → Edit
edit_of n parts = Replace n.table [] (file_of n parts ∷ []) n.last n.floor n.last

-- none of these files is there
abbrev pub AreFree : View → List FileName → Type 0
AreFree v names = AllByRecursion (λ (name : FileName). IsAbsent v name) names

-- The flush can be made: the names of its files are free, the segments that it deletes are there, and its record applies to what the manifest lists.
pub record CanFlush (v : View) (manifest : ManifestState) (memtable : MemtableView) (n : FlushNumbers) (parts : List PartNumber) : Type 0 where
  pub files : AreFree v (names_of (file_of n parts))
  pub segment : IsAbsent v (log_name n.last)
  pub former : AreThere v manifest.listing.floor n.floor
  pub room : Reaches v (manifest_name manifest.number) (manifest.at + 1)
  pub usable : IsTrue manifest.usable
  pub partitioner : memtable.partitioner ≡ manifest.listing.partitioner
  pub decorated : AreDecorated memtable.partitioner memtable.partitions
  pub some : 1 ≤ length (map_.entries memtable.partitions)
  pub bodies : HaveBodies memtable.partitions
  pub applies : Applies (Some manifest.listing) (edit_of n parts)

-- The flush is that of a table of the layout: each image has its shape, the manifest lists what it lists, the numbers, the parts and the memtable are those of its next flush, and these definitions are those of indexes of the table.
pub record IsFlushOf (v : View) (manifest : ManifestState) (memtable : MemtableView) (n : FlushNumbers) (defs : List IndexDef) (parts : List PartNumber) (l : Layout) (logs : List (List Mutation)) : Type 0 where
  pub shape : Each v (λ x. HasShape x (bare l) logs)
  pub in_order : HasNumbersInOrder l
  pub number : manifest.number ≡ l.used.manifest
  pub listing : manifest.listing ≡ listing_of l
  pub stands : ManifestStands v manifest.number manifest.at manifest.listing
  pub file : n.file ≡ suc l.used.«data»
  pub last : n.last ≡ suc l.last
  pub floor : n.floor ≡ next_floor n.table l
  pub parts_are : parts ≡ flush_parts n.table l
  pub holds : At 1 n.table (λ t. merged (unflushed t) ≡ memtable.partitions) l.tables
  pub storable : At 1 n.table (λ t. AreStorable l.partitioner (types_of t.definition) (merged (unflushed t))) l.tables
  pub indexes : At 1 n.table (AreTableIndexes defs) l.tables

-- It is made: each image has the shape of the layout afterwards, the manifest lists it, and the log is at the end of its new segment.
pub record IsFlushed (v : View) (manifest : ManifestState) (log : Handle) (n : FlushNumbers) (l : Layout) (logs : List (List Mutation)) : Type 0 where
  pub shape : Each v (λ x. HasShape x (bare (after_flush n.table l)) (logs_after n.table l logs))
  pub listing : manifest.listing ≡ listing_of (after_flush n.table l)
  pub stands : ManifestStands v manifest.number manifest.at manifest.listing
  pub log_end : IsAtLogEnd v (log_name n.last) log.at []

-- ---- its files

-- no file changes but the new data file with its index files, and the new segment
abbrev pub MakesFiles : FlushNumbers → List PartNumber → Folder → Folder → Type 0
MakesFiles n parts = Within (flush_makes (file_of n parts) n.last)

-- no file changes but they, the manifest of this number, and the segments from this one up to before the floor
abbrev pub ChangesInFlush : ℕ → ℕ → FlushNumbers → List PartNumber → Folder → Folder → Type 0
ChangesInFlush manifest first n parts old new = (name : FileName) → flush_makes (file_of n parts) n.last name ≡ false → name ≢ manifest_name manifest
    → ((segment : ℕ) → first ≤ segment → segment < n.floor → name ≢ log_name segment) → get new name ≡ get old name

-- the new files are there, and the segments from this one up to before the floor are gone
pub record HasFlushedFiles (v : View) (first : ℕ) (n : FlushNumbers) (parts : List PartNumber) : Type 0 where
  pub files : AllByRecursion (λ (name : FileName). IsThere v name) (names_of (file_of n parts))
  pub segment : IsThere v (log_name n.last)
  pub gone : AreAbsent v first n.floor
