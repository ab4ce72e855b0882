-- The patterns of LIKE.
use Rattle.std.specs.Prelude.{◌≡◌, ◌-◌, ℕ, Bool, true, false, ◌==◌, if◌then◌else◌, List, [], ◌∷◌, drop, take, length, Option, None, Some, Result, Ok, Err}
use Rattle.sasi_terms.specs.declared.op.Op.{Op}
use Rattle.sasi_terms.specs.declared.op.Op.TheVariants.{Eq, Prefix, Suffix, Contains}
use Rattle.sasi_terms.specs.declared.pattern.LikeEmpty.{LikeEmpty}
use Rattle.sasi_terms.specs.declared.pattern.Pattern.{Pattern}

-- the first byte is a `%`
abbrev pub begins_with_percent : List ℕ → Bool
begins_with_percent [] = false
begins_with_percent (b ∷ bs) = b == 37

-- the last byte is a `%`
abbrev pub ends_with_percent : List ℕ → Bool
ends_with_percent [] = false
ends_with_percent (b ∷ []) = b == 37
ends_with_percent (b ∷ c ∷ bs) = ends_with_percent (c ∷ bs)

-- a text without a `%` at its beginning, and without one at its end
abbrev pub without_first_percent : List ℕ → List ℕ
without_first_percent text = if begins_with_percent text then drop 1 text else text

abbrev pub without_last_percent : List ℕ → List ℕ
without_last_percent text = if ends_with_percent text then take (length text - 1) text else text

-- the operator of a text with a `%` in front of its body or not, and behind it or not
abbrev pub op_of : Bool → Bool → Op
op_of false false = Eq
op_of false true = Prefix
op_of true false = Suffix
op_of true true = Contains

-- A `%` is taken off the beginning, and then one off the end of what is left. The rest is the body, in which a `%` is one.
abbrev pub body_of : List ℕ → List ℕ
body_of text = without_last_percent (without_first_percent text)

abbrev pub pattern_of : List ℕ → Op × List ℕ
pattern_of text = (op_of (begins_with_percent text) (ends_with_percent (without_first_percent text)), body_of text)

-- a text whose body is empty has no pattern
abbrev pub read_pattern : List ℕ → Option (Op × List ℕ)
read_pattern text = if length (body_of text) == 0 then None else Some (pattern_of text)

-- a result is this pattern, or there is none
abbrev pub IsReadAs : Option (Op × List ℕ) → Result Pattern LikeEmpty → Type 0
IsReadAs pattern (Ok found) = pattern ≡ Some (found.op, found.body.now)
IsReadAs pattern (Err fault) = pattern ≡ None
