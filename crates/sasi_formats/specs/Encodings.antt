-- The bytes of a value, as a writer puts them.
use Rattle.std.specs.Prelude.{◌≡◌}
use Rattle.sasi_host.specs.Names.{Bytes}
use Rattle.sasi_formats.specs.Formats.{Format, Fits, encoded}

-- the value has bytes, and these are they; the same as `Encodes`
abbrev pub IsEncoded : {A : Type 0} → Format A → A → Bytes → Type 0
IsEncoded format value bytes = Fits format value × (bytes ≡ encoded format value)
