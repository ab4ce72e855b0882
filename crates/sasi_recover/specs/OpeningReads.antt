-- How often an opening reads the host.
use Rattle.std.specs.Prelude.{◌≡◌, ◌⊎◌, ℕ, zero, suc, ◌+◌, ◌*◌, ◌-◌, ◌≤◌, List, [], ◌∷◌, length, Option, None, Some}
use Rattle.std.specs.FinMap.{get}
use Rattle.std.specs.List.{sum_by}
use Rattle.sasi_host.specs.declared.name.FileName.{FileName}
use Rattle.sasi_host.specs.declared.name.Kind.{Kind}
use Rattle.sasi_host.specs.declared.name.Kind.TheVariants as kinds
use Rattle.sasi_host.specs.Names.{Bytes, Folder, log_name, manifest_name}
use Rattle.sasi_host.specs.Sequential.{pages_to_end}
use Rattle.sasi_host.specs.View.{View, IsTold, contents}
use Rattle.sasi_manifest.specs.declared.files.ListedFile.{ListedFile}
use Rattle.sasi_manifest.specs.declared.listing.Listing.{Listing}
use Rattle.sasi_manifest.specs.Format.{IsManifest}
use Rattle.sasi_manifest.specs.ListedDefinition.{ListedDefinition}
use Rattle.sasi_folder.specs.FolderContents.{IsSealed}

-- the most reads of a file that is read from its start to its end: none where it isn't there
abbrev pub file_reads : Option Bytes → ℕ
file_reads None = 0
file_reads (Some bytes) = pages_to_end bytes

-- this file was read so often at most
abbrev pub ReadsFileOnce : View → View → FileName → Type 0
ReadsFileOnce old new file = IsTold old → new.reads ≤ old.reads + file_reads (contents old file)

-- the most reads of so many segments of the log, from this number on
abbrev pub segment_reads : Folder → ℕ → ℕ → ℕ
segment_reads folder number zero = 0
segment_reads folder number (suc count) = file_reads (get folder (log_name number)) + segment_reads folder (suc number) count

-- the most reads of the live segments of a listing
abbrev pub live_reads : Folder → Listing → ℕ
live_reads folder listing = segment_reads folder listing.floor (suc listing.last - listing.floor)

-- how many data files are listed
abbrev pub data_count : List ListedDefinition → ℕ
data_count [] = 0
data_count (t ∷ ts) = length t.files + data_count ts

-- how many index files go with these data files
abbrev pub part_count : List ListedFile → ℕ
part_count [] = 0
part_count (f ∷ fs) = length f.parts + part_count fs

-- how many index files are listed
abbrev pub index_count : List ListedDefinition → ℕ
index_count [] = 0
index_count (t ∷ ts) = part_count t.files + index_count ts

-- The most reads of the end of a file of this kind: that of a data file lies on two pages at most, as does that of an index file, whose
-- header is on a third one.
abbrev pub kind_reads : Kind → ℕ
kind_reads kinds.Manifest = 0
kind_reads kinds.Seal = 0
kind_reads kinds.Log = 0
kind_reads kinds.Data = 2
kind_reads kinds.Index = 3
kind_reads kinds.Segment = 0

abbrev pub end_reads : FileName → ℕ
end_reads file = kind_reads file.kind

-- the most reads of the ends of these files
abbrev pub ends_reads : List FileName → ℕ
ends_reads files = sum_by end_reads files

-- the most reads of what a listing lists: of the ends of its data files and index files, and of its live segments
abbrev pub listing_reads : Folder → Listing → ℕ
listing_reads folder listing = 2 * data_count listing.tables + 3 * index_count listing.tables + live_reads folder listing

-- what a listing lists was read so often at most
abbrev pub ReadsListingOnce : Folder → Listing → View → View → Type 0
ReadsListingOnce folder listing old new = new.reads ≤ old.reads + listing_reads folder listing

-- the live segments were read so often at most
abbrev pub ReadsLiveOnce : View → View → Listing → Type 0
ReadsLiveOnce old new listing = (folder : Folder) → old.files ≡ Some folder → new.reads ≤ old.reads + live_reads folder listing

-- the manifest of this number lists this, and it, the ends of its files and its live segments were read so often at most
pub record ReadsListedOnce (folder : Folder) (number : ℕ) (old new : View) : Type 0 where
  pub bytes : Bytes
  pub listing : Listing
  pub there : get folder (manifest_name number) ≡ Some bytes
  pub lists : IsManifest number bytes listing
  pub most : new.reads ≤ old.reads + (pages_to_end bytes + listing_reads folder listing)

-- the manifest of this number was read, or the manifest and then what it lists
abbrev pub ReadsStoreOnce : Folder → ℕ → View → View → Type 0
ReadsStoreOnce folder number old new = (new.reads ≤ old.reads + file_reads (get folder (manifest_name number))) ⊎ ReadsListedOnce folder number old new

-- **An opening makes at most one read for each page that it comes to.** It reads nothing, or the manifest of the highest seal, and then the ends of the data files and index files and the live segments that this lists.
abbrev pub OpensReadingOnce : Folder → View → View → Type 0
OpensReadingOnce folder old new = (new.reads ≡ old.reads) ⊎ ((number : ℕ) × IsSealed folder number × ReadsStoreOnce folder number old new)
