-- The header and the footer of a data file.
use Rattle.std.specs.Prelude.{◌≡◌, ◌+◌, ◌≤◌, ℕ, List, length, Some}
use Rattle.sasi_types.specs.declared.column.ColumnType.{ColumnType}
use Rattle.sasi_types.specs.declared.partitioner.Partitioner.{Partitioner}
use Rattle.sasi_host.specs.declared.name.FileName.{FileName}
use Rattle.sasi_host.specs.Names.{Bytes}
use Rattle.sasi_host.specs.Damages.{HasAt}
use Rattle.sasi_host.specs.View.{View, contents}
use Rattle.sasi_formats.specs.Formats.{encoded}
use Rattle.sasi_formats.specs.Headers.{file_header}
use Rattle.sasi_framing.specs.Framing.{Framing, HasFraming}
use Rattle.sasi_datawrite.specs.declared.footer.Footer.{Footer}
use Rattle.sasi_datawrite.specs.Files.{IsDataFile}
use Rattle.sasi_datawrite.specs.Format.{Content, content_max_timestamp, end_mark, footer, magic}

-- a data file has 97 bytes at least, a header that says nothing else, and a footer with 32 bytes of numbers
abbrev pub data_framing : Framing (Unit {0}) Footer
data_framing = record { least = 97; header = file_header magic 0; numbers = λ _ at. footer at; size = 32; mark = end_mark }

-- the file begins with the header, and ends with a footer of these numbers, which fit their format
abbrev pub HasHeaderAndFooter : Bytes → Footer → Type 0
HasHeaderAndFooter bytes numbers = HasFraming data_framing bytes tt numbers

-- the file is at least as long as the shortest data file, and ends with the mark of a footer
pub record EndsAsDataFile (bytes : Bytes) : Type 0 where
  pub long : 97 ≤ length bytes
  pub at : ℕ
  pub at_end : at + 8 ≡ length bytes
  pub mark : HasAt bytes at (encoded end_mark tt)

-- where the file reads as a data file, its largest timestamp is this
abbrev pub TellsMaxTimestamp : View → FileName → ℕ → Type 0
TellsMaxTimestamp v file time = (bytes : Bytes) (partitioner : Partitioner) (types : List ColumnType) (content : Content) → contents v file ≡ Some bytes → IsDataFile partitioner types bytes content → time ≡ content_max_timestamp content
