-- Numbers that have to lie in a range.
use Rattle.std.specs.Prelude.{◌≡◌, ◌⊎◌, ◌<◌, ◌≤◌, ◌^◌, ℕ, List, ◌++◌, length}
use Rattle.std.specs.Int.{to_be_bytes, w64}
use Rattle.sasi_fields.specs.declared.fault.FieldFault.{FieldFault}
use Rattle.sasi_fields.specs.declared.fault.FieldFault.TheVariants.{Short, BadField}
use Rattle.sasi_fields.specs.Reading.{Reading}

pub record IsWithin (least greatest number : ℕ) : Type 0 where
  pub above : least ≤ number
  pub below : number ≤ greatest

-- the number stands next, at this offset, and is outside the range
pub record IsOutside (reading : Reading) (least greatest at number : ℕ) : Type 0 where
  pub offset_is : at ≡ length reading.done
  pub fits : number < 2 ^ 64
  pub rest : List ℕ
  pub stands : reading.left ≡ to_be_bytes w64 number ++ rest
  pub outside : (number < least) ⊎ (greatest < number)

-- why no number of eight bytes in the range can be read
abbrev pub RangeCause : Reading → ℕ → ℕ → FieldFault → Type 0
RangeCause reading least greatest (Short fault) = (length reading.left < 8) × (fault.at ≡ length reading.done)
RangeCause reading least greatest (BadField at seen) = IsOutside reading least greatest at seen
