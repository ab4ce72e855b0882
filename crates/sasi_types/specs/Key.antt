-- The order of keys: by their bytes, unsigned.
use Rattle.std.specs.Prelude.{ℕ, Bool, List, nat_eq}
use Rattle.std.specs.declared.cmp.Ordering.{Ordering}
use Rattle.std.specs.Ordering.{nat_cmp}
use Rattle.std.specs.Cmp.Lexicographic.{slice_cmp, pointwise}

-- two keys are the same bytes
abbrev pub key_eq : List ℕ → List ℕ → Bool
key_eq = pointwise nat_eq

-- the first byte that differs decides, and else the lengths do
abbrev pub key_cmp : List ℕ → List ℕ → Ordering
key_cmp = slice_cmp nat_cmp
