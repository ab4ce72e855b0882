-- The record that lists the output of a compaction, and what a crash leaves meanwhile.
use Rattle.std.specs.Prelude.{◌≡◌, ◌≢◌, ◌⊎◌, ◌+◌, ◌-◌, ◌≤◌, ◌^◌, ℕ, false, List, [], ◌∷◌, Contains, length, max, slice_get, IsTrue, Some}
use Rattle.std.specs.FinMap.{get}
use Rattle.std.specs.List.{AllByRecursion}
use Rattle.std.specs.Option.{option_map_or}
use Rattle.sasi_types.specs.declared.index_def.IndexDef.{IndexDef}
use Rattle.sasi_host.specs.declared.name.FileName.{FileName}
use Rattle.sasi_host.specs.Names.{Bytes, Folder, data_name, manifest_name}
use Rattle.sasi_host.specs.View.{Reaches, View}
use Rattle.sasi_host.specs.Disk.{IsFileDurable}
use Rattle.sasi_datawrite.specs.Format.{Content, data_bytes}
use Rattle.sasi_manifest.specs.declared.edit.Edit.{Edit}
use Rattle.sasi_manifest.specs.declared.edit.Edit.TheVariants.{Replace}
use Rattle.sasi_manifest.specs.declared.files.ListedFile.{ListedFile}
use Rattle.sasi_manifest.specs.declared.files.PartNumber.{PartNumber}
use Rattle.sasi_manifest.specs.declared.listing.Listing.{Listing}
use Rattle.sasi_manifest.specs.Edits.{AllApply, encoded}
use Rattle.sasi_manifest.specs.Format.{IsManifest}
use Rattle.sasi_manifest.specs.ListedDefinition.{ListedDefinition}
use Rattle.sasi_manifest.specs.ListedFiles.{IndexesRise, index_name, is_name_of}
use Rattle.sasi_manifest.specs.OpenManifest.{ManifestState}
use Rattle.sasi_postings.specs.IndexFiles.{IsIndexFor}
use Rattle.sasi_pairs.specs.SealedFiles.{AreAbsent, AreDefined, HasDurableIndex}
use Rattle.sasi_compact.specs.declared.compaction.Compaction.{Compaction}

-- ---- the record

-- the output, with index files of these parts
abbrev pub output_file : Compaction → List PartNumber → ListedFile
output_file c parts = record { number = c.number; parts = parts }

-- the first segment of the log that can have mutations of the table with this number; they are numbered from 1
abbrev pub since_of : List ListedDefinition → ℕ → ℕ
since_of tables table = max 1 (option_map_or (λ (t : ListedDefinition). t.since) (slice_get tables (table - 1)) 0)

-- the one edit of its record: the output in the place of the sources, and the live segments of the log as they are listed
abbrev pub edits_of : Listing → ℕ → Compaction → List PartNumber → List Edit
edits_of listing table c parts = Replace table c.sources (output_file c parts ∷ []) (since_of listing.tables table) listing.floor listing.last ∷ []

-- the record applies to what the manifest lists, and can be appended
pub record CanList (v : View) (manifest : ManifestState) (edits : List Edit) : Type 0 where
  pub room : Reaches v (manifest_name manifest.number) (manifest.at + 1)
  pub usable : IsTrue manifest.usable
  pub applies : AllApply (Some manifest.listing) edits
  pub short : length (encoded edits) ≤ 2 ^ 30

-- each part is one of an index with which the compaction was begun, no index has two, and the names of the index files are free
pub record CanHaveParts (v : View) (c : Compaction) (parts : List PartNumber) : Type 0 where
  pub defined : AreDefined c.indexes parts
  pub rising : IndexesRise parts
  pub absent : AreAbsent v c.number parts

-- ---- its files

-- the folder has the index file of this part: that of one of the indexes, for the data file of this content
pub record HasIndexFile (folder : Folder) (c : Compaction) (content : Content) (p : PartNumber) : Type 0 where
  pub def : IndexDef
  pub listed : Contains c.indexes def
  pub numbered : def.number ≡ p.index
  pub bytes : Bytes
  pub stands : IsIndexFor c.partitioner def.mode def.kind def.column def.rule content bytes
  pub there : get folder (index_name c.number p) ≡ Some bytes
  pub fits : length bytes ≤ 2 ^ 62

-- the folder has the data file of this content, and the index file of each part
pub record HasFiles (folder : Folder) (c : Compaction) (parts : List PartNumber) (content : Content) : Type 0 where
  pub «data» : get folder (data_name c.number) ≡ Some (data_bytes c.partitioner content)
  pub fits : length (data_bytes c.partitioner content) ≤ 2 ^ 62
  pub indexes : AllByRecursion (HasIndexFile folder c content) parts

-- **They are durable**: each image has them.
pub record AreKept (v : View) (c : Compaction) (parts : List PartNumber) (content : Content) : Type 0 where
  pub «data» : IsFileDurable v (data_name c.number) (data_bytes c.partitioner content)
  pub indexes : AllByRecursion (HasDurableIndex v c.number c.partitioner c.indexes content) parts

-- no file changes but the manifest of this number, the output and its index files
abbrev pub ChangesOutput : ℕ → ListedFile → Folder → Folder → Type 0
ChangesOutput number file old new = (name : FileName) → name ≢ manifest_name number → is_name_of file name ≡ false → get new name ≡ get old name

-- **The output is listed whole or not at all**: the manifest has the former listing, or the next one, and then the output and its index files are there.
pub record ListsOutput (number : ℕ) (former next : Listing) (c : Compaction) (parts : List PartNumber) (content : Content) (old new : Folder) : Type 0 where
  pub others : ChangesOutput number (output_file c parts) old new
  pub bytes : Bytes
  pub manifest : get new (manifest_name number) ≡ Some bytes
  pub listed : IsManifest number bytes former ⊎ (IsManifest number bytes next × HasFiles new c parts content)
