-- Where a file breaks its framing, and what is there.
use Rattle.std.specs.Prelude.{◌≡◌, ℕ, ◌+◌, length}
use Rattle.sasi_host.specs.declared.name.FileName.{FileName}
use Rattle.sasi_host.specs.declared.damage.Damage.{Damage}
use Rattle.sasi_host.specs.Names.{Bytes}
use Rattle.sasi_host.specs.Damages.{ShowsEnd}
use Rattle.sasi_formats.specs.Parts.{ShowsBrokenPart}
use Rattle.sasi_framing.specs.Framing.{Framing, HasMark, HasMarkAndHeader}

-- the damage is that of this file: it is too short, or the mark at its end, its header or the numbers of its footer are the first part that breaks its format
pub data ShowsFraming {A B : Type 0} (framing : Framing A B) (file : FileName) (bytes : Bytes) (damage : Damage) : Type 0 where
  too_short : ShowsEnd framing.least file bytes damage → ShowsFraming framing file bytes damage
  in_mark : (at : ℕ) → at + 8 ≡ length bytes → ShowsBrokenPart framing.mark at 8 file bytes damage → ShowsFraming framing file bytes damage
  in_header : HasMark framing bytes → ShowsBrokenPart framing.header 0 16 file bytes damage → ShowsFraming framing file bytes damage
  in_footer : (before : HasMarkAndHeader framing bytes) → (at : ℕ) → at + (framing.size + 8) ≡ length bytes → ShowsBrokenPart (framing.numbers before.head at) at framing.size file bytes damage → ShowsFraming framing file bytes damage
