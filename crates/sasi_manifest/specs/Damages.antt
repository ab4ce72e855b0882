-- Where a manifest breaks its format, and the bytes it has there.
use Rattle.std.specs.Prelude.{◌≡◌, ◌⊎◌, ℕ, ◌+◌, List, [], ◌∷◌, length, Option, Some, None}
use Rattle.std.specs.Int.{to_be_bytes, w32}
use Rattle.sasi_host.specs.declared.damage.Damage.{Damage}
use Rattle.sasi_host.specs.declared.damage.FormatRule.{FormatRule}
use Rattle.sasi_host.specs.declared.damage.FormatRule.TheVariants.{Number}
use Rattle.sasi_host.specs.declared.fault.ReadFault.{ReadFault}
use Rattle.sasi_host.specs.Names.{Bytes, manifest_name}
use Rattle.sasi_host.specs.View.{View, contents}
use Rattle.sasi_gated.specs.Format.{Closes, Opens}
use Rattle.sasi_gated.specs.Gates.{IsAtGate}
use Rattle.sasi_gated.specs.Damages.{IsGatedDamage}
use Rattle.sasi_host.specs.Damages.{OnDamage, seen_bytes}
use Rattle.sasi_formats.specs.Reader.{Corruption, Short, Long, Broken}
use Rattle.sasi_formats.specs.Failures.{FailsWhole}
use Rattle.sasi_manifest.specs.declared.listing.Listing.{Listing}
use Rattle.sasi_manifest.specs.Format.{IsManifest, RecordsLeadTo}
use Rattle.sasi_manifest.specs.Edits.{edits}

-- the first gate is closed
pub record IsEmpty (number : ℕ) (bytes : Bytes) (rule : FormatRule) (at : ℕ) (seen : Bytes) : Type 0 where
  pub rest : Bytes
  pub gate_stands : IsAtGate (manifest_name number) bytes 16 [] rest
  pub closed : Closes rest
  pub rule_is : rule ≡ Number
  pub offset_is : at ≡ 16
  pub seen_is : seen ≡ 0 ∷ []

-- the record after the gate at this offset states another length than its content has
abbrev pub IsLengthDamage : ℕ → Bytes → FormatRule → ℕ → Bytes → Type 0
IsLengthDamage before payload rule at seen = (rule ≡ Number) × (at ≡ before + 1) × (seen ≡ to_be_bytes w32 (length payload))

-- the damage that a corruption of this record is
abbrev pub IsEditDamage : ℕ → Bytes → Corruption → FormatRule → ℕ → Bytes → Type 0
IsEditDamage before payload Short rule at seen = IsLengthDamage before payload rule at seen
IsEditDamage before payload Long rule at seen = IsLengthDamage before payload rule at seen
IsEditDamage before payload (Broken broken offset found) rule at seen = (rule ≡ broken) × (at ≡ before + (5 + offset)) × (seen ≡ found)

-- after records that apply comes one that doesn't
pub record HasBrokenRecord (number : ℕ) (bytes : Bytes) (rule : FormatRule) (at : ℕ) (seen : Bytes) : Type 0 where
  pub before : ℕ
  pub done : List Bytes
  pub rest : Bytes
  pub listed : Option Listing
  pub payload : Bytes
  pub tail : Bytes
  pub gate_stands : IsAtGate (manifest_name number) bytes before done rest
  pub leads : RecordsLeadTo None done listed
  pub opens : Opens rest payload tail
  pub found : Corruption
  pub fails : FailsWhole (edits listed) payload found
  pub told : IsEditDamage before payload found rule at seen

-- the manifest of this number has the damage: as a gated file, or in its records
abbrev pub ShowsDamage : ℕ → Bytes → Damage → Type 0
ShowsDamage number bytes damage =
    IsGatedDamage (manifest_name number) bytes damage
    ⊎ ((damage.file ≡ manifest_name number) × (IsEmpty number bytes damage.rule damage.at (seen_bytes damage.seen) ⊎ HasBrokenRecord number bytes damage.rule damage.at (seen_bytes damage.seen)))

-- reported damage is in the manifest as it reads
abbrev pub IsManifestDamage : View → ℕ → ReadFault → Type 0
IsManifestDamage v number = OnDamage (λ damage. (bytes : Bytes) → contents v (manifest_name number) ≡ Some bytes → ShowsDamage number bytes damage)

-- a whole manifest is never reported as damaged
abbrev pub NoFalseManifestDamage : View → ℕ → ReadFault → Type 0
NoFalseManifestDamage v number = OnDamage (λ _. (bytes : Bytes) (listing : Listing) → contents v (manifest_name number) ≡ Some bytes → IsManifest number bytes listing → ⊥)
