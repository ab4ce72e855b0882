-- Data files of a table, and their names.
use Rattle.std.specs.Prelude.{◌≡◌, List}
use Rattle.std.specs.List.{AllByRecursion}
use Rattle.sasi_types.specs.declared.column.ColumnType.{ColumnType}
use Rattle.sasi_types.specs.declared.partitioner.Partitioner.{Partitioner}
use Rattle.sasi_host.specs.Names.{Bytes}
use Rattle.sasi_body.specs.Body.{IsBodyOf}
use Rattle.sasi_datawrite.specs.Format.{Content, IsContent, data_bytes}

-- the bytes are the data file of this content, in a table whose columns have these types
pub record IsDataFile (partitioner : Partitioner) (types : List ColumnType) (bytes : Bytes) (content : Content) : Type 0 where
  pub content_is : IsContent partitioner content
  pub typed : AllByRecursion (λ one. IsBodyOf types one.0 one.1) content
  pub is : bytes ≡ data_bytes partitioner content
