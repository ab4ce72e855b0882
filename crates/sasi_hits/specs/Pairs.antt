-- Pairs of a token and an offset, and the hits at them.
use Rattle.std.specs.Prelude.{◌≡◌, ◌⊎◌, ℕ, nat_le, Bool, true, List, [], ◌∷◌, map, Option, None, Some}
use Rattle.std.specs.List.{AllByRecursion}
use Rattle.sasi_types.specs.declared.tree.Pair.{Pair}
use Rattle.sasi_treemerge.specs.Sources.{is_before}
use Rattle.sasi_ranges.specs.declared.entry.Entry.{Entry}

-- the hit of a relation at the offset of a pair, in a part
abbrev pub entry_of : ℕ → ℕ → Pair → Entry
entry_of leaf part pair = record { token = pair.token; leaf = leaf; part = part; place = pair.place }

abbrev pub entries_of : ℕ → ℕ → List Pair → List Entry
entries_of leaf part pairs = map (entry_of leaf part) pairs

-- the pair is one of the list
abbrev pub IsIn : Pair → List Pair → Type 0
IsIn pair [] = ⊥
IsIn pair (x ∷ xs) = (x ≡ pair) ⊎ IsIn pair xs

-- each pair comes before those behind it
abbrev pub PairsRise : List Pair → Type 0
PairsRise [] = Unit {0}
PairsRise (x ∷ xs) = AllByRecursion (λ y. is_before x y ≡ true) xs × PairsRise xs

-- its token isn't below this one
abbrev pub is_from : ℕ → Pair → Bool
is_from token pair = nat_le token pair.token

-- the first of the pairs is given, and the others are left; none is given exactly where there is none
abbrev pub GivesPair : (List Pair → Type 0) → List Pair → Option Pair → Type 0
GivesPair Left left None = (left ≡ []) × Left []
GivesPair Left left (Some pair) = (rest : List Pair) × (left ≡ pair ∷ rest) × Left rest
