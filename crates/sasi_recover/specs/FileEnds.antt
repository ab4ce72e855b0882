-- The ends of listed files, as an opening looks at them.
use Rattle.std.specs.Prelude.{◌≡◌, ◌⊎◌, ◌≤◌, ℕ, min, Contains, List, Some}
use Rattle.sasi_host.specs.declared.fault.ReadFault.{ReadFault}
use Rattle.sasi_host.specs.declared.name.FileName.{FileName}
use Rattle.sasi_host.specs.declared.name.Kind.{Kind}
use Rattle.sasi_host.specs.declared.name.Kind.TheVariants as kinds
use Rattle.sasi_host.specs.Damages.{OnDamage}
use Rattle.sasi_host.specs.Names.{Bytes}
use Rattle.sasi_host.specs.View.{View, contents}
use Rattle.sasi_types.specs.declared.column.ColumnType.{ColumnType}
use Rattle.sasi_types.specs.declared.partitioner.Partitioner.{Partitioner}
use Rattle.sasi_model.specs.Abbreviations.{TIME_LIMIT}
use Rattle.sasi_indexwrite.specs.Content.{IndexContent}
use Rattle.sasi_indexwrite.specs.Files.{IsIndexFile}
use Rattle.sasi_datawrite.specs.Files.{IsDataFile}
use Rattle.sasi_datawrite.specs.Format.{Content, content_max_timestamp}
use Rattle.sasi_folder.specs.Damages.{ShowsEnds}
use Rattle.sasi_folder.specs.Opens.{EndsAs}

-- the file is one that a table has: a data file or an index file
abbrev pub IsOfTable : FileName → Type 0
IsOfTable file = (file.kind ≡ kinds.Data) ⊎ (file.kind ≡ kinds.Index)

-- the file reads with the end of one of its kind
abbrev pub HasEnd : View → FileName → Type 0
HasEnd v file = (bytes : Bytes) → contents v file ≡ Some bytes → EndsAs file.kind bytes

-- ---- timestamps

-- where the file reads as a data file, the timestamp is that of its content, at most the limit
abbrev pub TellsDataTime : View → FileName → ℕ → Type 0
TellsDataTime v file time = (bytes : Bytes) (partitioner : Partitioner) (types : List ColumnType) (content : Content) → contents v file ≡ Some bytes → IsDataFile partitioner types bytes content → time ≡ min (content_max_timestamp content) TIME_LIMIT

-- a data file tells its timestamp, and others tell none
abbrev pub TellsTimeOf : Kind → View → FileName → ℕ → Type 0
TellsTimeOf kinds.Manifest v file time = time ≡ 0
TellsTimeOf kinds.Seal v file time = time ≡ 0
TellsTimeOf kinds.Log v file time = time ≡ 0
TellsTimeOf kinds.Data v file time = TellsDataTime v file time
TellsTimeOf kinds.Index v file time = time ≡ 0
TellsTimeOf kinds.Segment v file time = time ≡ 0

-- the timestamp that the file tells, at most the limit of timestamps
pub record TellsTime (v : View) (file : FileName) (time : ℕ) : Type 0 where
  pub limit : time ≤ TIME_LIMIT
  pub tells : TellsTimeOf file.kind v file time

-- the largest of the timestamps of these files, and 0 where there is none
pub record IsLargestOf (v : View) (files : List FileName) (time : ℕ) : Type 0 where
  pub limit : time ≤ TIME_LIMIT
  pub bound : (file : FileName) → Contains files file → (own : ℕ) × TellsTime v file own × (own ≤ time)
  pub attained : (time ≡ 0) ⊎ ((file : FileName) × Contains files file × TellsTime v file time)

-- ---- damage

-- the damage is that of the end of one of them
abbrev pub ShowsEndDamage : View → List FileName → ReadFault → Type 0
ShowsEndDamage v files = OnDamage (λ damage. (file : FileName) × Contains files file × ((bytes : Bytes) → contents v file ≡ Some bytes → ShowsEnds file bytes damage))

-- the bytes are a data file, whatever its table and its content
abbrev pub IsSomeDataFile : Bytes → Type 0
IsSomeDataFile bytes = (partitioner : Partitioner) × (types : List ColumnType) × (content : Content) × IsDataFile partitioner types bytes content

-- the bytes are a file of this kind that a table has, whatever its content
abbrev pub IsWhole : Kind → Bytes → Type 0
IsWhole kinds.Manifest bytes = ⊥
IsWhole kinds.Seal bytes = ⊥
IsWhole kinds.Log bytes = ⊥
IsWhole kinds.Data bytes = IsSomeDataFile bytes
IsWhole kinds.Index bytes = (content : IndexContent) × IsIndexFile bytes content
IsWhole kinds.Segment bytes = ⊥

-- damage is reported only where the file doesn't read as one of its kind
abbrev pub NoFalseDamage : View → FileName → ReadFault → Type 0
NoFalseDamage v file = OnDamage (λ _. (bytes : Bytes) → contents v file ≡ Some bytes → IsWhole file.kind bytes → ⊥)

-- damage is reported only where one of the files doesn't
abbrev pub NoFalseEndDamage : View → List FileName → ReadFault → Type 0
NoFalseEndDamage v files = OnDamage (λ _. ((file : FileName) → Contains files file → (bytes : Bytes) × (contents v file ≡ Some bytes) × IsWhole file.kind bytes) → ⊥)
