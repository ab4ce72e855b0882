-- The parts that a layout has of a table: its data files, each with the columns whose index files stand beside it, and its maps in memory.
use Rattle.std.specs.Prelude.{ℕ, nat_eq, List, ◌++◌, map, Option}
use Rattle.std.specs.List.{filter_map}
use Rattle.std.specs.Map.{lookup}
use Rattle.std.specs.Option.{option_map}
use Rattle.sasi_manifest.specs.declared.files.PartNumber.{PartNumber}
use Rattle.sasi_model.specs.Abbreviations.{Partitions}
use Rattle.sasi_model.specs.State.{Index}
use Rattle.sasi_layout.specs.Layout.{File, TableParts, numbered_indexes, unflushed}
use Rattle.sasi_candidates.specs.Parts.{Disk, Memory, Part}

-- the index of the table that has this number
abbrev pub index_numbered : ℕ → TableParts → Option Index
index_numbered number t = lookup (nat_eq number) (numbered_indexes t)

-- the columns of the indexes that have these parts
abbrev pub columns_of : TableParts → List PartNumber → List ℕ
columns_of t parts = filter_map (λ p. option_map (λ index. index.column) (index_numbered p.index t)) parts

abbrev pub part_of_file : TableParts → File → Part
part_of_file t file = record { origin = Disk (columns_of t file.listed.parts); holds = file.holds }

abbrev pub part_of_map : Partitions → Part
part_of_map m = record { origin = Memory; holds = m }

-- **The parts of the table**, the oldest first.
abbrev pub parts_of : TableParts → List Part
parts_of t = map (part_of_file t) t.files ++ map part_of_map (unflushed t)
