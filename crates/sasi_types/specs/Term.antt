-- The order of terms: by their bytes, unsigned.
use Rattle.std.specs.Prelude.{ℕ, Bool, List, nat_eq}
use Rattle.std.specs.declared.cmp.Ordering.{Ordering}
use Rattle.std.specs.Ordering.{nat_cmp}
use Rattle.std.specs.Cmp.Lexicographic.{slice_cmp, pointwise}

-- two terms are the same bytes
abbrev pub term_eq : List ℕ → List ℕ → Bool
term_eq = pointwise nat_eq

-- the first byte that differs decides, and else the lengths do
abbrev pub term_cmp : List ℕ → List ℕ → Ordering
term_cmp = slice_cmp nat_cmp
