-- The parts of a table in memory, and the columns whose index files stand beside a file.
use Rattle.std.specs.Prelude.{ℕ, nat_eq, List, map}
use Rattle.std.specs.List.{filter_map, zip}
use Rattle.std.specs.Map.{lookup}
use Rattle.std.specs.Option.{option_map}
use Rattle.sasi_types.specs.declared.index_def.IndexDef.{IndexDef}
use Rattle.sasi_model.specs.Indexes.{index_of}
use Rattle.sasi_candidates.specs.LayoutParts.{parts_of}
use Rattle.sasi_candidates.specs.Parts.{Part}
use Rattle.sasi_manifest.specs.declared.files.PartNumber.{PartNumber}
use Rattle.sasi_schema.specs.Defined.{definition, numbers_of}
use Rattle.sasi_schema.specs.declared.table.Table.{Table}
use Rattle.sasi_machine_layout.specs.Contents.{table_with}
use Rattle.sasi_machine_layout.specs.declared.contents.TableContents.{TableContents}

-- the parts of a table, the oldest first
abbrev pub parts_in : Table → TableContents → List Part
parts_in table t = parts_of (table_with (definition table) (numbers_of table) t)

-- the columns of the indexes that have these parts
abbrev pub columns_in : List IndexDef → List PartNumber → List ℕ
columns_in defs parts =
    filter_map (λ p. option_map (λ index. index.column) (lookup (nat_eq p.index) (zip (map (λ (def : IndexDef). def.number) defs) (map index_of defs)))) parts
