-- The damage that a folder shows: no store can be opened in it.
use Rattle.std.specs.Prelude.{◌≡◌, ◌≢◌, ◌⊎◌, ℕ, ◌≤◌, true, List, [], Contains, IsSome, None, Some}
use Rattle.std.specs.FinMap.{get}
use Rattle.sasi_host.specs.declared.damage.Damage.{Damage}
use Rattle.sasi_host.specs.declared.damage.FormatRule.TheVariants.{Missing, NoSeal}
use Rattle.sasi_host.specs.declared.name.FileName.{FileName}
use Rattle.sasi_host.specs.declared.name.Kind.{Kind}
use Rattle.sasi_host.specs.declared.name.Kind.TheVariants as kinds
use Rattle.sasi_host.specs.Damages.{seen_bytes}
use Rattle.sasi_host.specs.Names.{Bytes, Folder, data_name, log_name, manifest_name, seal_name}
use Rattle.sasi_model.specs.Abbreviations.{types_of}
use Rattle.sasi_dataread.specs.Damages as data_file
use Rattle.sasi_dataread.specs.Damages.{ShowsData}
use Rattle.sasi_dataread.specs.HeaderAndFooter.{HasHeaderAndFooter}
use Rattle.sasi_dataread.specs.Opened.{OpenDataFile}
use Rattle.sasi_indexread.specs.Damages.{ShowsIndexFile}
use Rattle.sasi_indexread.specs.HeaderAndFooter as index_file
use Rattle.sasi_commitlog.specs.Damages.{ShowsLog}
use Rattle.sasi_manifest.specs.declared.listing.Listing.{Listing}
use Rattle.sasi_manifest.specs.Damages.{ShowsDamage}
use Rattle.sasi_manifest.specs.Format.{IsManifest}
use Rattle.sasi_manifest.specs.FileNames.{has_name}
use Rattle.sasi_manifest.specs.ListedDefinition.{ListedDefinition}
use Rattle.sasi_manifest.specs.ListedFiles.{has_file}
use Rattle.sasi_folder.specs.FolderContents.{IsSealed, types_listed}

-- there is no seal, and this file is none that an unfinished creation of a store leaves
pub record ShowsNoSeal (folder : Folder) (damage : Damage) : Type 0 where
  pub unsealed : (number : ℕ) → get folder (seal_name number) ≡ None
  pub there : IsSome (get folder damage.file)
  pub no_manifest : damage.file ≢ manifest_name 1
  pub no_log : damage.file ≢ log_name 1
  pub rule : damage.rule ≡ NoSeal
  pub offset_is : damage.at ≡ 0
  pub seen : seen_bytes damage.seen ≡ []

-- the file isn't there
pub record ShowsMissing (folder : Folder) (file : FileName) (damage : Damage) : Type 0 where
  pub absent : get folder file ≡ None
  pub named : damage.file ≡ file
  pub rule : damage.rule ≡ Missing
  pub offset_is : damage.at ≡ 0
  pub seen : seen_bytes damage.seen ≡ []

-- a live segment of the log isn't there, or breaks its format
pub record ShowsSegment (folder : Folder) (listing : Listing) (damage : Damage) : Type 0 where
  pub segment : ℕ
  pub above : listing.floor ≤ segment
  pub below : segment ≤ listing.last
  pub shows : ShowsMissing folder (log_name segment) damage ⊎ ((bytes : Bytes) × (get folder (log_name segment) ≡ Some bytes) × ShowsLog (types_listed listing) (log_name segment) bytes damage)

-- one of the tables has the file of this name
abbrev pub IsListedName : List ListedDefinition → FileName → Type 0
IsListedName tables name = has_name tables name ≡ true

-- A file of this kind that a table has is too short, or its end, its header or the numbers of its footer break their format. A table
-- has data files and index files.
abbrev pub ShowsEndsOf : Kind → FileName → Bytes → Damage → Type 0
ShowsEndsOf kinds.Manifest name bytes damage = ⊥
ShowsEndsOf kinds.Seal name bytes damage = ⊥
ShowsEndsOf kinds.Log name bytes damage = ⊥
ShowsEndsOf kinds.Data name bytes damage = data_file.ShowsHeaderOrFooter name bytes damage
ShowsEndsOf kinds.Index name bytes damage = index_file.ShowsHeaderOrFooter name bytes damage
ShowsEndsOf kinds.Segment name bytes damage = ⊥

abbrev pub ShowsEnds : FileName → Bytes → Damage → Type 0
ShowsEnds name = ShowsEndsOf name.kind name

-- a listed data file was opened, for the types of its table, by the header and the footer that it has
pub record IsOpenedFrom (tables : List ListedDefinition) (number : ℕ) (bytes : Bytes) (opened : OpenDataFile) : Type 0 where
  pub table : ListedDefinition
  pub listed : Contains tables table
  pub has : has_file table.files number ≡ true
  pub named : opened.file ≡ data_name number
  pub types : opened.types ≡ types_of table.definition
  pub parts : HasHeaderAndFooter bytes (record { tree = opened.tree; max_timestamp = opened.max_timestamp; end = opened.end })

-- A listed file isn't there, or breaks its format: its end, its header or the numbers of its footer, which an opening of the folder and a reader look at, or what these lead to.
pub data ShowsListedFile (folder : Folder) (tables : List ListedDefinition) (damage : Damage) : Type 0 where
  missing_file : (name : FileName) → IsListedName tables name → ShowsMissing folder name damage → ShowsListedFile folder tables damage
  broken_ends : (name : FileName) (bytes : Bytes) → IsListedName tables name → get folder name ≡ Some bytes → ShowsEnds name bytes damage → ShowsListedFile folder tables damage
  broken_content : (number : ℕ) (bytes : Bytes) (opened : OpenDataFile) → get folder (data_name number) ≡ Some bytes → IsOpenedFrom tables number bytes opened → ShowsData opened bytes damage → ShowsListedFile folder tables damage
  broken_index : (name : FileName) (bytes : Bytes) → IsListedName tables name → name.kind ≡ kinds.Index → get folder name ≡ Some bytes → ShowsIndexFile name bytes damage → ShowsListedFile folder tables damage

-- the manifest of this number isn't there, breaks its format, or lists a segment or a file of a table that does
pub data ShowsManifestOrListed (folder : Folder) (number : ℕ) (damage : Damage) : Type 0 where
  no_manifest : ShowsMissing folder (manifest_name number) damage → ShowsManifestOrListed folder number damage
  broken_manifest : (bytes : Bytes) → get folder (manifest_name number) ≡ Some bytes → ShowsDamage number bytes damage → ShowsManifestOrListed folder number damage
  broken_log : (bytes : Bytes) (listing : Listing) → get folder (manifest_name number) ≡ Some bytes → IsManifest number bytes listing → ShowsSegment folder listing damage → ShowsManifestOrListed folder number damage
  broken_file : (bytes : Bytes) (listing : Listing) → get folder (manifest_name number) ≡ Some bytes → IsManifest number bytes listing → ShowsListedFile folder listing.tables damage → ShowsManifestOrListed folder number damage

-- the same of the manifest of the highest seal
pub record ShowsSealed (folder : Folder) (damage : Damage) : Type 0 where
  pub number : ℕ
  pub sealed : IsSealed folder number
  pub shows : ShowsManifestOrListed folder number damage

-- **The folder shows the damage.**
abbrev pub FolderShows : Folder → Damage → Type 0
FolderShows folder damage = ShowsNoSeal folder damage ⊎ ShowsSealed folder damage
