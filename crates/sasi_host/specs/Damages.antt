-- Bytes at an offset of a file, and what damage tells of them.
use Rattle.std.specs.Prelude.{◌≡◌, ◌≢◌, ℕ, ◌+◌, ◌<◌, ◌++◌, length, take, Some}
use Rattle.std.specs.Int.{to_be_bytes, w64}
use Rattle.sasi_host.specs.declared.name.FileName.{FileName}
use Rattle.sasi_host.specs.declared.damage.Damage.{Damage}
use Rattle.sasi_host.specs.declared.damage.FormatRule.{FormatRule}
use Rattle.sasi_host.specs.declared.damage.FormatRule.TheVariants.{Short}
use Rattle.sasi_host.specs.declared.damage.Seen.{Seen}
use Rattle.sasi_host.specs.declared.fault.ReadFault.{ReadFault}
use Rattle.sasi_host.specs.declared.fault.ReadFault.TheVariants as fault
use Rattle.sasi_host.specs.Names.{Bytes}
use Rattle.sasi_host.specs.View.{View, contents}

-- the bytes that are told
abbrev pub seen_bytes : Seen → Bytes
seen_bytes seen = take seen.len seen.bytes

-- if the fault is damage, it has P
abbrev pub OnDamage : (Damage → Type 0) → ReadFault → Type 0
OnDamage P (fault.Damaged damage) = P damage
OnDamage P _ = Unit {0}

-- ---- bytes at an offset

-- these bytes stand at this offset
pub record HasAt (bytes : Bytes) (at : ℕ) (part : Bytes) : Type 0 where
  pub front : Bytes
  pub rest : Bytes
  pub is : bytes ≡ front ++ part ++ rest
  pub offset_is : length front ≡ at

-- as many bytes as are wanted stand at this offset, but other ones
pub record Differs (bytes : Bytes) (at : ℕ) (seen wanted : Bytes) : Type 0 where
  pub stands : HasAt bytes at seen
  pub long : length seen ≡ length wanted
  pub differs : seen ≢ wanted

-- ---- what is told of a file

-- the damage is that this file is too short, and tells its size
pub record TellsSize (file : FileName) (bytes : Bytes) (damage : Damage) : Type 0 where
  pub named : damage.file ≡ file
  pub rule : damage.rule ≡ Short
  pub offset_is : damage.at ≡ length bytes
  pub seen : seen_bytes damage.seen ≡ to_be_bytes w64 (length bytes)

-- the damage is that this file ends before this offset
pub record ShowsEnd (end : ℕ) (file : FileName) (bytes : Bytes) (damage : Damage) : Type 0 where
  pub tells : TellsSize file bytes damage
  pub short : length bytes < end

-- damage is what the file shows as it reads
abbrev pub DamageShown : View → FileName → (Bytes → Damage → Type 0) → ReadFault → Type 0
DamageShown v file Shows = OnDamage (λ damage. (bytes : Bytes) → contents v file ≡ Some bytes → Shows bytes damage)

-- the damage is that at an offset of these bytes, which stand at `at` of the file, other bytes stand than the rule wants
pub record IsOther (file : FileName) (at : ℕ) (window : Bytes) (start : ℕ) (wanted : Bytes) (rule : FormatRule) (damage : Damage) : Type 0 where
  pub named : damage.file ≡ file
  pub rule_is : damage.rule ≡ rule
  pub offset_is : damage.at ≡ at + start
  pub differs : Differs window start (seen_bytes damage.seen) wanted

-- what differs in a part of the bytes differs in them
