-- The one candidate where a relation asks for a key.
use Rattle.std.specs.Prelude.{◌≡◌, ℕ, ◌+◌, ◌≤◌, List, [], ◌∷◌, slice_get, Option, None, Some}
use Rattle.std.specs.FinMap as map_
use Rattle.std.specs.List.{AllByRecursion}
use Rattle.sasi_types.specs.declared.column.ColumnType.{ColumnType}
use Rattle.sasi_types.specs.declared.decorated_key.DecoratedKey.{DecoratedKey}
use Rattle.sasi_types.specs.declared.partitioner.Partitioner.{Partitioner}
use Rattle.sasi_host.specs.declared.name.FileName.{FileName}
use Rattle.sasi_host.specs.Names.{Folder, data_name}
use Rattle.sasi_model.specs.Cells.{Partition}
use Rattle.sasi_model.specs.State.{decorated}
use Rattle.sasi_datawrite.specs.Format.{Content}
use Rattle.sasi_manifest.specs.declared.files.ListedFile.{ListedFile}
use Rattle.sasi_memtable.specs.MemtableView.{MemtableView}
use Rattle.sasi_machine.specs.TableRows.{AreStored}
use Rattle.sasi_ranges.specs.EachStream.{SomeOpens}
use Rattle.sasi_scan.specs.Finding.{key_reads}
use Rattle.sasi_scan.specs.Parts.{AreContents, merged_parts}
use Rattle.sasi_recheck.specs.Sources.{Candidate, first_price}

-- the candidate of the key, if something was found of it
abbrev pub found_of : DecoratedKey → Option Partition → List Candidate
found_of key None = []
found_of key (Some part) = (key, part) ∷ []

-- the files read as the data files of these contents, and the key has the token that the partitioner gives it
pub record IsKeyOf (seen : Option Folder) (types : List ColumnType) (files : List ListedFile) (key : DecoratedKey) (partitioner : Partitioner) (contents : List Content) : Type 0 where
  pub contents_are : AreContents seen partitioner types files contents
  pub decorated_is : key ≡ decorated partitioner key.key

-- what the merge of the parts has of the key is left; once it was given, nothing is
abbrev pub KeyLeaves : List ColumnType → List ListedFile → Option DecoratedKey → Option Folder → List MemtableView → List Candidate → Type 0
KeyLeaves types files None seen maps left = left ≡ []
KeyLeaves types files (Some key) seen maps left =
    (partitioner : Partitioner) × (contents : List Content) × IsKeyOf seen types files key partitioner contents × (left ≡ found_of key (map_.get (merged_parts partitioner contents maps) key))

-- it takes the reads of a look-up
abbrev pub KeyPays : List ColumnType → List ListedFile → Option DecoratedKey → Option Folder → ℕ → List ℕ → Type 0
KeyPays types files None seen most prices = Unit {0}
KeyPays types files (Some key) seen most prices =
    (partitioner : Partitioner) × (contents : List Content) × IsKeyOf seen types files key partitioner contents × (key_reads partitioner key.key contents ≤ most + first_price prices)

-- the file is one of the listed data files
abbrev pub IsListed : List ListedFile → FileName → Type 0
IsListed = SomeOpens (λ (file : ListedFile) name. name ≡ data_name file.number)

-- the keys of the table are of this type, and so are those of the maps
pub record HasKeyType (types : List ColumnType) (maps : List MemtableView) (kind : ColumnType) : Type 0 where
  pub first : slice_get types 0 ≡ Some kind
  pub stored : AllByRecursion (λ (m : MemtableView). AreStored kind m.partitions) maps
