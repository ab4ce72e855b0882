-- Faults of a payload, by their offset in the file.
use Rattle.std.specs.Prelude.{◌≡◌, ℕ, ◌≤◌}
use Rattle.sasi_host.specs.declared.name.FileName.{FileName}
use Rattle.sasi_host.specs.declared.damage.Damage.{Damage}
use Rattle.sasi_host.specs.declared.fault.ReadFault.{ReadFault}
use Rattle.sasi_host.specs.Names.{Bytes}
use Rattle.sasi_host.specs.Damages.{OnDamage, seen_bytes}
use Rattle.sasi_formats.specs.declared.fault.FormatFault.{FormatFault}
use Rattle.sasi_formats.specs.declared.fault.FormatFault.TheVariants as fault
use Rattle.sasi_commitlog.specs.Format.{Tables}
use Rattle.sasi_commitlog.specs.Damages.{RecordBreaks}

-- the offset of a broken rule is at most this one
abbrev pub IsWithin : ℕ → FormatFault → Type 0
IsWithin limit fault.OutOfMemory = Unit {0}
IsWithin limit fault.Short = Unit {0}
IsWithin limit fault.Long = Unit {0}
IsWithin limit (fault.Broken broken) = broken.at ≤ limit

-- damage is that of the record after a gate
pub record IsMutationDamage (tables : Tables) (file : FileName) (gate : ℕ) (payload : Bytes) (damage : Damage) : Type 0 where
  pub named : damage.file ≡ file
  pub breaks : RecordBreaks tables gate payload damage.rule damage.at (seen_bytes damage.seen)

abbrev pub IsRecordFault : Tables → FileName → ℕ → Bytes → ReadFault → Type 0
IsRecordFault tables file gate payload = OnDamage (IsMutationDamage tables file gate payload)
