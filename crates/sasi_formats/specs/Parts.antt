-- Parts of a file that have a format: what breaks one, and the clauses of a function that decodes one.
use Rattle.std.specs.Prelude.{◌≡◌, ℕ, ◌+◌, length, Result, IfOk, IfErr}
use Rattle.sasi_host.specs.Names.{Bytes}
use Rattle.sasi_host.specs.declared.name.FileName.{FileName}
use Rattle.sasi_host.specs.declared.damage.Damage.{Damage}
use Rattle.sasi_host.specs.Damages.{HasAt, seen_bytes}
use Rattle.sasi_formats.specs.Formats.{Format, Encodes}
use Rattle.sasi_formats.specs.Reader as reader
use Rattle.sasi_formats.specs.Failures.{FailsWhole}
use Rattle.sasi_formats.specs.declared.fault.Broken.{Broken}
use Rattle.sasi_formats.specs.declared.fault.FormatFault.{FormatFault}
use Rattle.sasi_formats.specs.declared.fault.FormatFault.TheVariants as fault

-- this many bytes at the offset of the file break the format, and the damage is their first corruption
pub record ShowsBrokenPart {A : Type 0} (format : Format A) (offset size : ℕ) (file : FileName) (bytes : Bytes) (damage : Damage) : Type 0 where
  pub named : damage.file ≡ file
  pub part : Bytes
  pub stands : HasAt bytes offset part
  pub sized : length part ≡ size
  pub within : ℕ
  pub at : damage.at ≡ offset + within
  pub breaks : FailsWhole format part (reader.Broken damage.rule within (seen_bytes damage.seen))

-- the part encodes the value that is read; or it breaks the format as the damage says, in each file that has it at the offset
pub record ReadsPart {A : Type 0} (format : Format A) (offset : ℕ) (file : FileName) (part : Bytes) (result : Result A Damage) : Type 0 where
  pub is : IfOk result (λ value. Encodes format value part)
  pub shown : IfErr result (λ damage. (bytes : Bytes) → HasAt bytes offset part → ShowsBrokenPart format offset (length part) file bytes damage)

-- the fault is a broken rule that has P
abbrev pub HasRule : (Broken → Type 0) → FormatFault → Type 0
HasRule P (fault.Broken broken) = P broken
HasRule P _ = ⊥

-- the damage is the broken rule, in a part at this offset of the file
abbrev pub damage_by : FileName → ℕ → Broken → Damage
damage_by file offset broken = record { file = file; at = offset + broken.at; rule = broken.rule; seen = broken.seen }
