-- The bytes of a segment of the commit log: a gated file whose records are mutations.
use Rattle.std.specs.Prelude.{ℕ, List, [], map, Option, nat_eq, is_some, unwrap_or}
use Rattle.std.specs.Int.{w32}
use Rattle.std.specs.List.{AllByRecursion}
use Rattle.std.specs.Map.{lookup}
use Rattle.sasi_host.specs.Names.{Bytes, log_name}
use Rattle.sasi_host.specs.declared.damage.FormatRule.TheVariants as rule
use Rattle.sasi_types.specs.declared.column.ColumnType.{ColumnType}
use Rattle.sasi_gated.specs.Format.{IsGated}
use Rattle.sasi_formats.specs.Formats.{Format, Then, Fits, encoded}
use Rattle.sasi_formats.specs.Fields.{checked, number}
use Rattle.sasi_body.specs.Body.{Content, body_of, content}
use Rattle.sasi_cells.specs.declared.mutation.Mutation.{Mutation}

-- ---- tables

-- the numbers of tables, with the types of their columns
abbrev pub Tables : Type 0
Tables = List (ℕ × List ColumnType)

-- the types of the table's columns: those that the list has first under its number
abbrev pub types_in : Tables → ℕ → Option (List ColumnType)
types_in tables table = lookup (λ number. nat_eq number table) tables

-- ---- the payload of a record

-- the format of a payload: the number of one of the tables, and a body in it
abbrev pub mutation_of : Tables → Format (ℕ × Content)
mutation_of tables = Then (checked rule.Number 4 (λ table. is_some (types_in tables table)) (number w32)) (λ table. body_of (unwrap_or (types_in tables table) []))

-- the number of its table, and what was written of the key
abbrev pub content_of : Mutation → ℕ × Content
content_of mutation = (mutation.table, content mutation.key mutation.change)

-- the payload of a mutation, which is the same whatever the tables
unfoldable pub payload_of : Mutation → Bytes
payload_of mutation = encoded (mutation_of []) (content_of mutation)

-- the mutation is of one of the tables
abbrev pub IsMutationOf : Tables → Mutation → Type 0
IsMutationOf tables mutation = Fits (mutation_of tables) (content_of mutation)

-- ---- a segment

-- the bytes are the segment with this number and these mutations of the tables
pub record IsLog (number : ℕ) (tables : Tables) (bytes : Bytes) (mutations : List Mutation) : Type 0 where
  pub gated : IsGated (log_name number) bytes (map payload_of mutations)
  pub of_tables : AllByRecursion (IsMutationOf tables) mutations
