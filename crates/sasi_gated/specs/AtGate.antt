-- What stands at a gate, and behind an open one.
use Rattle.std.specs.Prelude.{◌≡◌, ◌≢◌, ◌⊎◌, Bool, true, false, ℕ, ◌+◌, ◌^◌, ◌<◌, ◌∷◌, ◌++◌, drop}
use Rattle.std.specs.Int.{to_be_bytes, w32}
use Rattle.sasi_host.specs.declared.name.FileName.{FileName}
use Rattle.sasi_host.specs.declared.damage.Damage.{Damage}
use Rattle.sasi_host.specs.declared.damage.FormatRule.TheVariants.{Number}
use Rattle.sasi_host.specs.Names.{Bytes}
use Rattle.sasi_host.specs.Damages.{ShowsEnd, seen_bytes}
use Rattle.sasi_gated.specs.Format.{IsLength}

-- the bytes begin with a gate, open or closed, and these follow it
abbrev pub HasGate : Bool → Bytes → Bytes → Type 0
HasGate true bytes behind = (gate : ℕ) × (gate ≢ 0) × (bytes ≡ gate ∷ behind)
HasGate false bytes behind = bytes ≡ 0 ∷ behind

-- a length that no record has stands at this offset
pub record ShowsBadLength (at : ℕ) (file : FileName) (bytes : Bytes) (damage : Damage) : Type 0 where
  pub count : ℕ
  pub count_fits : count < 2 ^ 32
  pub no_length : ¬ IsLength count
  pub stands : drop at bytes ≡ to_be_bytes w32 count ++ drop (at + 4) bytes
  pub named : damage.file ≡ file
  pub offset_is : damage.at ≡ at
  pub rule_is : damage.rule ≡ Number
  pub seen : seen_bytes damage.seen ≡ to_be_bytes w32 count

-- the file ends within the length at this offset, or it is none that a record has
abbrev pub ShowsLength : ℕ → FileName → Bytes → Damage → Type 0
ShowsLength at file bytes damage = ShowsEnd (at + 4) file bytes damage ⊎ ShowsBadLength at file bytes damage
