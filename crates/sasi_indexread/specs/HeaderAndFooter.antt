-- The header and the footer of an index file.
use Rattle.sasi_types.specs.declared.column.ColumnType.{ColumnType}
use Rattle.sasi_types.specs.declared.mode.Mode.{Mode}
use Rattle.sasi_host.specs.declared.damage.Damage.{Damage}
use Rattle.sasi_host.specs.declared.name.FileName.{FileName}
use Rattle.sasi_host.specs.Names.{Bytes}
use Rattle.sasi_framing.specs.Damages.{ShowsFraming}
use Rattle.sasi_framing.specs.Framing.{Framing, HasFraming}
use Rattle.sasi_indexwrite.specs.declared.footer.Footer.{Footer}
use Rattle.sasi_indexwrite.specs.Format.{end_mark, footer, header}

-- an index file has 4,168 bytes at least, a header with its mode and the type of the column, and a footer with 64 bytes of numbers,
-- which are those of an index of that mode
abbrev pub index_framing : Framing (Mode × ColumnType) Footer
index_framing = record { least = 4168; header = header; numbers = λ head at. footer head.0 at; size = 64; mark = end_mark }

-- the file begins with a header of this mode and this type, and ends with a footer of these numbers, which fit their format
abbrev pub HasHeaderAndFooter : Bytes → Mode → ColumnType → Footer → Type 0
HasHeaderAndFooter bytes mode kind numbers = HasFraming index_framing bytes (mode, kind) numbers

-- the damage is that of this file: it is too short for an index file, or the mark at its end, its header or the numbers of its
-- footer are the first part that breaks its format
abbrev pub ShowsHeaderOrFooter : FileName → Bytes → Damage → Type 0
ShowsHeaderOrFooter file = ShowsFraming index_framing file
