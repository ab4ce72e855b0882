-- Which bytes are the index file that goes with a data file.
use Rattle.std.specs.Prelude.{ℕ, Option}
use Rattle.sasi_types.specs.declared.column.ColumnType.{ColumnType}
use Rattle.sasi_types.specs.declared.mode.Mode.{Mode}
use Rattle.sasi_types.specs.declared.partitioner.Partitioner.{Partitioner}
use Rattle.sasi_types.specs.declared.rule.Rule.{Rule}
use Rattle.sasi_host.specs.Names.{Bytes}
use Rattle.sasi_model.specs.Abbreviations.{kind_of}
use Rattle.sasi_model.specs.State.{Definition, Index}
use Rattle.sasi_datawrite.specs.Format.{Content}
use Rattle.sasi_indexwrite.specs.Files.{IsIndexOf}
use Rattle.sasi_postings.specs.Postings.{index_postings}

-- the bytes are the file of an index of this mode and column, for the data file of the content
abbrev pub IsIndexFor : Partitioner → Mode → ColumnType → ℕ → Option Rule → Content → Bytes → Type 0
IsIndexFor partitioner mode kind column rule content bytes = IsIndexOf mode kind (index_postings mode partitioner column rule content) bytes

-- **The bytes are the index file of this index of the table, for the data file of the content.**
abbrev pub StandsForIndex : Partitioner → Definition → Index → Content → Bytes → Type 0
StandsForIndex partitioner definition index content bytes = IsIndexFor partitioner index.mode (kind_of definition index.column) index.column index.rule content bytes
