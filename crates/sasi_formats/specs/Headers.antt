-- How each file begins.
use Rattle.std.specs.Prelude.{ℕ}
use Rattle.std.specs.Int.{to_be_bytes, w32}
use Rattle.sasi_host.specs.Names.{Bytes}
use Rattle.sasi_host.specs.declared.damage.FormatRule.TheVariants as rule
use Rattle.sasi_formats.specs.Formats.{Format}
use Rattle.sasi_formats.specs.Fields.{fixed, prefixed}

-- the first fields of each file: its magic, and the version 1
abbrev pub file_front : Bytes → Format (Unit {0})
file_front magic = prefixed (fixed rule.Magic magic) (fixed rule.Version (to_be_bytes w32 1))

-- the header of a file that has a number: these fields, and the number
abbrev pub file_header : Bytes → ℕ → Format (Unit {0})
file_header magic number = prefixed (file_front magic) (fixed rule.Number (to_be_bytes w32 number))
