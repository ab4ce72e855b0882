-- What is asked of a term.
use Rattle.std.specs.Prelude.{ℕ, ℤ, int_le, Bool, false, ◌&&◌, ◌||◌, nat_eq, List, [], ◌∷◌, Option, None, Some}
use Rattle.std.specs.List.{starts_with, ends_with}
use Rattle.std.specs.Cmp.Lexicographic.{pointwise}
use Rattle.sasi_terms.specs.declared.op.Op.{Op}
use Rattle.sasi_terms.specs.declared.op.Op.TheVariants.{Eq, Prefix, Suffix, Contains, Range}
use Rattle.sasi_terms.specs.Numbers.{number_of}

-- the body stands in the term, from some byte on
abbrev pub contains : List ℕ → List ℕ → Bool
contains [] body = starts_with nat_eq [] body
contains (b ∷ bs) body = starts_with nat_eq (b ∷ bs) body || contains bs body

-- there is a number, and it is neither below the one bound nor above the other
abbrev pub is_between : ℤ → ℤ → Option ℤ → Bool
is_between least greatest None = false
is_between least greatest (Some number) = int_le least number && int_le number greatest

-- the term is one of those that are asked for
abbrev pub holds : Op → List ℕ → List ℕ → Bool
holds Eq term body = pointwise nat_eq term body
holds Prefix term body = starts_with nat_eq term body
holds Suffix term body = ends_with nat_eq term body
holds Contains term body = contains term body
holds (Range least greatest) term body = is_between least greatest (number_of term)
