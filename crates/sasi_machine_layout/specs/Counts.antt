-- How many further rows LIMIT allows.
use Rattle.std.specs.Prelude.{ℕ, zero, suc, Bool, true, false, Option, None, Some}

-- no further row
abbrev pub is_over : Option ℕ → Bool
is_over None = false
is_over (Some zero) = true
is_over (Some (suc rows)) = false

-- behind one row more
abbrev pub one_less : Option ℕ → Option ℕ
one_less None = None
one_less (Some zero) = None
one_less (Some (suc rows)) = Some rows
