-- Where a segment of the log breaks its format, and what it has there.
use Rattle.std.specs.Prelude.{◌≡◌, ◌⊎◌, ℕ, ◌+◌, List, length}
use Rattle.std.specs.Int.{to_be_bytes, w32}
use Rattle.sasi_host.specs.declared.name.FileName.{FileName}
use Rattle.sasi_host.specs.declared.damage.Damage.{Damage}
use Rattle.sasi_host.specs.declared.damage.FormatRule.{FormatRule}
use Rattle.sasi_host.specs.declared.damage.FormatRule.TheVariants.{Number}
use Rattle.sasi_host.specs.Names.{Bytes}
use Rattle.sasi_gated.specs.Format.{Opens}
use Rattle.sasi_gated.specs.Gates.{IsAtGate}
use Rattle.sasi_gated.specs.Damages.{IsGatedDamage}
use Rattle.sasi_host.specs.Damages.{seen_bytes}
use Rattle.sasi_formats.specs.Reader as reader
use Rattle.sasi_formats.specs.Failures.{FailsWhole, HasOtherLength}
use Rattle.sasi_commitlog.specs.Format.{Tables, mutation_of}

-- the rules that a record after the gate at this offset can break
pub data RecordBreaks (tables : Tables) (gate : ℕ) (payload : Bytes) (rule : FormatRule) (at : ℕ) (seen : Bytes) : Type 0 where
  -- its length isn't that of its content
  wrong_length : rule ≡ Number → at ≡ gate + 1 → seen ≡ to_be_bytes w32 (length payload) → HasOtherLength (mutation_of tables) payload
      → RecordBreaks tables gate payload rule at seen
  -- or its content breaks the rule
  wrong_content : (offset : ℕ) → at ≡ gate + (5 + offset) → FailsWhole (mutation_of tables) payload (reader.Broken rule offset seen)
      → RecordBreaks tables gate payload rule at seen

-- after some records the file has one that breaks a rule so
pub record ShowsRecord (tables : Tables) (file : FileName) (bytes : Bytes) (damage : Damage) : Type 0 where
  pub named : damage.file ≡ file
  pub gate : ℕ
  pub done : List Bytes
  pub rest : Bytes
  pub payload : Bytes
  pub tail : Bytes
  pub gate_stands : IsAtGate file bytes gate done rest
  pub record_stands : Opens rest payload tail
  pub breaks : RecordBreaks tables gate payload damage.rule damage.at (seen_bytes damage.seen)

-- the file has the damage: as a gated file, or in a record that is no mutation
abbrev pub ShowsLog : Tables → FileName → Bytes → Damage → Type 0
ShowsLog tables file bytes damage = IsGatedDamage file bytes damage ⊎ ShowsRecord tables file bytes damage
