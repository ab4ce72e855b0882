-- Where a file breaks the format of gated files, and what it has there.
use Rattle.std.specs.Prelude.{◌≢◌, ◌⊎◌, ℕ, ◌+◌, ◌<◌, List, [], ◌∷◌, length, take}
use Rattle.std.specs.Int.{from_be_bytes, w32}
use Rattle.sasi_host.specs.declared.name.FileName.{FileName}
use Rattle.sasi_host.specs.declared.damage.Damage.{Damage}
use Rattle.sasi_host.specs.Names.{Bytes}
pub use Rattle.sasi_host.specs.Damages.{TellsSize}
use Rattle.sasi_formats.specs.Headers.{file_header}
use Rattle.sasi_formats.specs.Parts.{ShowsBrokenPart}
use Rattle.sasi_gated.specs.Format.{magic, IsLength}
use Rattle.sasi_gated.specs.Gates.{IsAtGate}
use Rattle.sasi_gated.specs.AtGate.{ShowsBadLength}

-- fewer bytes follow a length that a record may have; a length that no record has is a Number, however few follow it
pub record LacksPayload (count : ℕ) (rest : Bytes) : Type 0 where
  pub length_is : IsLength count
  pub short : length rest < 4 + count

-- from a gate on the bytes end too early: before the gate, within the length after an open gate, or within the payload
abbrev pub EndsEarly : Bytes → Type 0
EndsEarly [] = Unit {0}
EndsEarly (gate ∷ rest) = (gate ≢ 0) × ((length rest < 4) ⊎ LacksPayload (from_be_bytes w32 (take 4 rest)) rest)

-- the file ends within its header, or too early at a gate
abbrev pub IsTruncated : FileName → Bytes → Type 0
IsTruncated file bytes = (length bytes < 16) ⊎ ((at : ℕ) × (done : List Bytes) × (rest : Bytes) × IsAtGate file bytes at done rest × EndsEarly rest)

-- behind an open gate stands a length that no record has
pub record HasBadLength (file : FileName) (bytes : Bytes) (damage : Damage) : Type 0 where
  pub at : ℕ
  pub done : List Bytes
  pub gate : ℕ
  pub rest : Bytes
  pub gate_stands : IsAtGate file bytes at done (gate ∷ rest)
  pub is_open : gate ≢ 0
  pub shows : ShowsBadLength (at + 1) file bytes damage

-- the damage is that of this file, which shows it: it ends too early, or its header or a length breaks the format
pub data IsGatedDamage (file : FileName) (bytes : Bytes) (damage : Damage) : Type 0 where
  truncated : IsTruncated file bytes → TellsSize file bytes damage → IsGatedDamage file bytes damage
  in_header : ShowsBrokenPart (file_header (magic file.kind) file.number) 0 16 file bytes damage → IsGatedDamage file bytes damage
  bad_length : HasBadLength file bytes damage → IsGatedDamage file bytes damage
