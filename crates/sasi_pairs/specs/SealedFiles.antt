-- Data files with their index files, which one record of a manifest lists, and what each moment of its append leaves.
use Rattle.std.specs.Prelude.{◌≡◌, ℕ, Bool, true, nat_eq, map, List, [], ◌∷◌, ◌++◌, Contains, Some}
use Rattle.std.specs.List.{flat_map, list_any, AllByRecursion}
use Rattle.std.specs.FinMap.{get}
use Rattle.sasi_types.specs.declared.index_def.IndexDef.{IndexDef}
use Rattle.sasi_types.specs.declared.partitioner.Partitioner.{Partitioner}
use Rattle.sasi_host.specs.declared.name.FileName.{FileName}
use Rattle.sasi_host.specs.Names.{Bytes, Folder, manifest_name, name_eq}
use Rattle.sasi_host.specs.View.{View, IsAbsent}
use Rattle.sasi_host.specs.Disk.{FileChange, IsFileDurable, IsSynced, LeftWith}
use Rattle.sasi_datawrite.specs.Format.{Content, data_bytes}
use Rattle.sasi_indexwrite.specs.Files.{HoldsIndex}
use Rattle.sasi_indexwrite.specs.Stored.{stored}
use Rattle.sasi_manifest.specs.declared.edit.Edit.{Edit}
use Rattle.sasi_manifest.specs.declared.edit.Edit.TheVariants.{Replace}
use Rattle.sasi_manifest.specs.declared.files.ListedFile.{ListedFile}
use Rattle.sasi_manifest.specs.declared.files.PartNumber.{PartNumber}
use Rattle.sasi_manifest.specs.declared.listing.Listing.{Listing}
use Rattle.sasi_manifest.specs.ListedFiles.{index_name}
use Rattle.sasi_manifest.specs.OpenManifest.{IsEither}
use Rattle.sasi_postings.specs.IndexFiles.{IsIndexFor}
use Rattle.sasi_pairs.specs.Gathered.{GatheredIndex, defs_of}
use Rattle.sasi_pairs.specs.PairViews.{PairView}

-- ---- index files

-- one of the indexes has the number
abbrev pub has_index : List GatheredIndex → ℕ → Bool
has_index indexes number = list_any (λ i. nat_eq number i.def.number) indexes

-- one with this number was taken out of them
pub record IsTaken (number : ℕ) (old : List GatheredIndex) (taken : GatheredIndex) (new : List GatheredIndex) : Type 0 where
  pub numbered : taken.def.number ≡ number
  pub front : List GatheredIndex
  pub back : List GatheredIndex
  pub was : old ≡ front ++ taken ∷ back
  pub left : new ≡ front ++ back

-- each part is one of these indexes
abbrev pub AreAmong : List GatheredIndex → List PartNumber → Type 0
AreAmong indexes parts = AllByRecursion (λ p. has_index indexes p.index ≡ true) parts

-- each part is one of an index that is defined here
abbrev pub AreDefined : List IndexDef → List PartNumber → Type 0
AreDefined defs parts = AllByRecursion (λ p. list_any (λ def. nat_eq p.index def.number) defs ≡ true) parts

-- none of the index files of these parts is there
abbrev pub AreAbsent : View → ℕ → List PartNumber → Type 0
AreAbsent v number parts = AllByRecursion (λ p. IsAbsent v (index_name number p)) parts

-- the index file of this part holds what an index of its mode keeps of the postings of one of these indexes, and is synced
pub record HasSyncedIndex (v : View) (number : ℕ) (indexes : List GatheredIndex) (p : PartNumber) : Type 0 where
  pub index : GatheredIndex
  pub listed : Contains indexes index
  pub numbered : index.def.number ≡ p.index
  pub holds : HoldsIndex v (index_name number p) index.def.mode index.def.kind (stored index.def.mode index.postings)
  pub synced : IsSynced v (index_name number p)

-- the index file of this part is durable: it is that of one of these definitions, for the data file of this content
pub record HasDurableIndex (v : View) (number : ℕ) (partitioner : Partitioner) (defs : List IndexDef) (content : Content) (p : PartNumber) : Type 0 where
  pub def : IndexDef
  pub listed : Contains defs def
  pub numbered : def.number ≡ p.index
  pub bytes : Bytes
  pub stands : IsIndexFor partitioner def.mode def.kind def.column def.rule content bytes
  pub kept : IsFileDurable v (index_name number p) bytes

-- ---- a data file with its index files

-- the name is that of one of these index files
abbrev pub is_index_of : ListedFile → FileName → Bool
is_index_of file name = list_any (name_eq name) (map (index_name file.number) file.parts)

-- **The data file of this content is durable, and the index file of each part.**
pub record AreDurable (v : View) (pair : PairView) (parts : List PartNumber) (content : Content) : Type 0 where
  pub «data» : IsFileDurable v pair.writer.file (data_bytes pair.writer.partitioner content)
  pub indexes : AllByRecursion (HasDurableIndex v pair.writer.file.number pair.writer.partitioner (defs_of pair.indexes) content) parts

-- ---- a record that lists it

-- the files that an edit adds
abbrev pub added_by : Edit → List ListedFile
added_by (Replace table removed added since floor last) = added
added_by _ = []

-- the edits add this file, and no other one
abbrev pub AddOnly : ListedFile → List Edit → Type 0
AddOnly file edits = flat_map added_by edits ≡ file ∷ []

-- Files come whole: the manifest of this number lists the former or the next, and each of these files is there with its bytes.
pub record ComesWhole (number : ℕ) (former next : Listing) (files : List (FileName × Bytes)) (old new : Folder) : Type 0 where
  pub listed : FileChange (manifest_name number) (LeftWith (IsEither number former next)) old new
  pub there : AllByRecursion (λ f. get new f.0 ≡ Some f.1) files
