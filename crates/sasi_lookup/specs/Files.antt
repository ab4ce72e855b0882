-- One data file in which tokens and keys are looked up.
use Rattle.std.specs.Prelude.{◌≡◌, ℕ, List, [], length, Option, None, Some, IfSome, IsSome}
use Rattle.std.specs.List.{AllByRecursion}
use Rattle.sasi_types.specs.declared.column.ColumnType.{ColumnType}
use Rattle.sasi_types.specs.declared.partitioner.Partitioner.{Partitioner}
use Rattle.sasi_types.specs.declared.tree.Pair.{Pair}
use Rattle.sasi_host.specs.declared.name.FileName.{FileName}
use Rattle.sasi_host.specs.declared.damage.Damage.{Damage}
use Rattle.sasi_host.specs.Names.{Bytes, Folder}
use Rattle.sasi_host.specs.View.{contents_in}
use Rattle.sasi_tokentree.specs.Scans.{HasEntry}
use Rattle.sasi_datawrite.specs.Files.{IsDataFile}
use Rattle.sasi_datawrite.specs.Format.{Content, header}
use Rattle.sasi_dataread.specs.declared.token_keys.PlacedKey.{PlacedKey}
use Rattle.sasi_dataread.specs.Bodies.{IsPartitionOffset}
use Rattle.sasi_dataread.specs.Damages.{ShowsDataFile}
use Rattle.sasi_dataread.specs.HeaderAndFooter.{HasHeaderAndFooter}
use Rattle.sasi_dataread.specs.Opened.{IsOpenedAs, OpenDataFile}
use Rattle.sasi_dataread.specs.PlacedKeys.{keys_at}
use Rattle.sasi_dataread.specs.Scans.{KeysAreBytes}
use Rattle.sasi_hits.specs.Calls.{ShowsIn}

-- the view of a data file in which tokens are looked up
pub record LookedFile : Type 0 where
  pub name : FileName
  -- None before the first token
  pub opened : Option OpenDataFile
  -- the keys with the token in hand
  pub keys : List PlacedKey

-- before the first token
abbrev pub unopened : FileName → LookedFile
unopened name = record { name = name; opened = None; keys = [] }

-- ---- the data file of a content

-- The file reads as the data file of a content. Where it is open, it was opened as that.
pub record IsDataOf (seen : Option Folder) (partitioner : Partitioner) (types : List ColumnType) (name : FileName) (opened : Option OpenDataFile) (content : Content) : Type 0 where
  pub bytes : Bytes
  pub reads : contents_in seen name ≡ Some bytes
  pub data_file : IsDataFile partitioner types bytes content
  pub of_bytes : KeysAreBytes content
  pub opened_as : IfSome opened (λ o. IsOpenedAs o partitioner content)

-- the file is open, and the keys in hand are those with the token
pub record HasTokenKeys (partitioner : Partitioner) (token : ℕ) (file : LookedFile) (content : Content) : Type 0 where
  pub is_open : IsSome file.opened
  pub keys_are : file.keys ≡ keys_at partitioner token (length header) content

-- of one content, given with its partitioner and a token: the file is its data file, and has in hand the keys with the token
abbrev pub IsTurnedFile : Option Folder → List ColumnType → LookedFile → Partitioner × (ℕ × Content) → Type 0
IsTurnedFile seen types file has = IsDataOf seen has.0 types file.name file.opened has.1.1 × HasTokenKeys has.0 has.1.0 file has.1.1

-- ---- in any file

-- the open file has this name, the types of the table, and the header and the footer that the file has
pub record IsOpenIn (seen : Option Folder) (types : List ColumnType) (name : FileName) (opened : OpenDataFile) : Type 0 where
  pub named : opened.file ≡ name
  pub typed : opened.types ≡ types
  pub footer : (bytes : Bytes) → contents_in seen name ≡ Some bytes → HasHeaderAndFooter bytes (record { tree = opened.tree; max_timestamp = opened.max_timestamp; end = opened.end })

-- a pair of the key tree leads to the offset of the key's partition
pub record IsAtPair (seen : Option Folder) (opened : OpenDataFile) (placed : PlacedKey) : Type 0 where
  pub index : ℕ
  pub pair : Pair
  pub at : pair.place ≡ placed.place
  pub begins : IsPartitionOffset opened.end placed.place
  pub entry : (bytes : Bytes) → contents_in seen opened.file ≡ Some bytes → HasEntry bytes opened.tree index pair

-- an open file is open as it reads, and each key in hand is at a pair
pub record IsOpenWith (seen : Option Folder) (types : List ColumnType) (name : FileName) (placed : List PlacedKey) (opened : OpenDataFile) : Type 0 where
  pub is_open : IsOpenIn seen types name opened
  pub at_pairs : AllByRecursion (IsAtPair seen opened) placed

abbrev pub IsFileReady : List ColumnType → LookedFile → Option Folder → Type 0
IsFileReady types file seen = IfSome file.opened (IsOpenWith seen types file.name file.keys)

-- an open file has the name under which it is looked up
abbrev pub IsNamed : LookedFile → Type 0
IsNamed file = IfSome file.opened (λ o. o.file ≡ file.name)

-- the file shows the damage
abbrev pub FileShows : List ColumnType → FileName → Option Folder → Damage → Type 0
FileShows types name = ShowsIn name (ShowsDataFile types name)
