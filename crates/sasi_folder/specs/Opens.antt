-- Which folders are opened.
use Rattle.std.specs.Prelude.{◌≡◌, ◌⊎◌, ◌+◌, ◌≤◌, ℕ, List, length, Some}
use Rattle.std.specs.FinMap.{get}
use Rattle.sasi_types.specs.declared.partitioner.Partitioner.{Partitioner}
use Rattle.sasi_host.specs.declared.name.FileName.{FileName}
use Rattle.sasi_host.specs.declared.name.Kind.{Kind}
use Rattle.sasi_host.specs.declared.name.Kind.TheVariants as kinds
use Rattle.sasi_host.specs.Damages.{HasAt}
use Rattle.sasi_host.specs.Names.{Bytes, Folder, manifest_name}
use Rattle.sasi_formats.specs.Formats.{encoded}
use Rattle.sasi_indexwrite.specs.Format.{end_mark}
use Rattle.sasi_cells.specs.declared.mutation.Mutation.{Mutation}
use Rattle.sasi_dataread.specs.HeaderAndFooter.{EndsAsDataFile}
use Rattle.sasi_manifest.specs.declared.listing.Listing.{Listing}
use Rattle.sasi_manifest.specs.Format.{IsManifest}
use Rattle.sasi_folder.specs.Damages.{IsListedName}
use Rattle.sasi_folder.specs.FolderContents.{FolderHolds, IsFresh, IsSealed}

-- the file is at least as long as the shortest index file, and ends with the mark of a footer
pub record EndsAsIndexFile (bytes : Bytes) : Type 0 where
  pub long : 4168 ≤ length bytes
  pub at : ℕ
  pub at_end : at + 8 ≡ length bytes
  pub mark : HasAt bytes at (encoded end_mark tt)

-- a file of this kind that a table has ends as one; a table has data files and index files
abbrev pub EndsAs : Kind → Bytes → Type 0
EndsAs kinds.Manifest bytes = ⊥
EndsAs kinds.Seal bytes = ⊥
EndsAs kinds.Log bytes = ⊥
EndsAs kinds.Data bytes = EndsAsDataFile bytes
EndsAs kinds.Index bytes = EndsAsIndexFile bytes
EndsAs kinds.Segment bytes = ⊥

-- The folder is opened: the manifest of the highest seal lists tables, live segments, and data files with index files. The segments have mutations of the tables. Of a data file or an index file only the end is looked at.
pub record Opens (folder : Folder) : Type 0 where
  pub number : ℕ
  pub listing : Listing
  pub logs : List (List Mutation)
  pub holds : FolderHolds folder number listing logs
  pub files : (name : FileName) → IsListedName listing.tables name → (bytes : Bytes) × (get folder name ≡ Some bytes) × EndsAs name.kind bytes

-- **Which folders are opened**: those, and new ones.
abbrev pub CanOpen : Folder → Type 0
CanOpen folder = IsFresh folder ⊎ Opens folder

-- the manifest of this number lists this partitioner
pub record KeepsUnder (folder : Folder) (number : ℕ) (kept : Partitioner) : Type 0 where
  pub bytes : Bytes
  pub listing : Listing
  pub there : get folder (manifest_name number) ≡ Some bytes
  pub lists : IsManifest number bytes listing
  pub partitioner : listing.partitioner ≡ kept

-- the folder keeps this partitioner: that of the manifest that counts
abbrev pub KeepsPartitioner : Folder → Partitioner → Type 0
KeepsPartitioner folder kept = (number : ℕ) × IsSealed folder number × KeepsUnder folder number kept
