-- The intersection, step by step: of the union, the entries whose token enough of the streams have. Which are enough is a test of those that have it.
use Rattle.std.specs.Prelude.{◌≡◌, ◌⊎◌, ℕ, zero, suc, ◌<◌, ◌≤◌, Bool, false, ◌||◌, nat_eq, List, [], ◌∷◌, ◌++◌, length, map, Option, None, Some}
use Rattle.std.specs.List.{filter, list_all, list_any, AllByRecursion}
use Rattle.sasi_host.specs.Names.{Folder}
use Rattle.sasi_ranges.specs.declared.entry.Entry.{Entry}
use Rattle.sasi_ranges.specs.declared.head.Headed.{Headed}
use Rattle.sasi_ranges.specs.Entries.{Rises, has_token}
use Rattle.sasi_ranges.specs.inside.Heads.{AllLeave, AreRead, dropped, least_from}
use Rattle.sasi_ranges.specs.inside.Unions.{Unites}

-- which of the lists have the token
abbrev pub had : List (List Entry) → ℕ → List Bool
had lists token = map (has_token token) lists

-- all of them
abbrev pub all_of : List Bool → Bool
all_of bs = list_all (λ (b : Bool). b) bs

-- the one at a position
abbrev pub bit_at : List Bool → ℕ → Bool
bit_at [] at = false
bit_at (b ∷ bs) zero = b
bit_at (b ∷ bs) (suc at) = bit_at bs at

-- one of each relation
abbrev pub met_by : List (List ℕ) → List Bool → Bool
met_by relations bs = list_all (λ (positions : List ℕ). list_any (bit_at bs) positions) relations

-- so many relations, each of which has one position of its own
abbrev pub singles : ℕ → List (List ℕ)
singles zero = []
singles (suc n) = singles n ++ (n ∷ []) ∷ []

-- each that doesn't have it in the second doesn't in the first
abbrev pub Fewer : List Bool → List Bool → Type 0
Fewer [] [] = Unit {0}
Fewer [] (c ∷ cs) = ⊥
Fewer (b ∷ bs) [] = ⊥
Fewer (b ∷ bs) (c ∷ cs) = (c ≡ false → b ≡ false) × Fewer bs cs

-- where fewer have a token, it isn't met if it wasn't
abbrev pub IsMonotone : (List Bool → Bool) → Type 0
IsMonotone met = (bs cs : List Bool) → Fewer bs cs → met cs ≡ false → met bs ≡ false

abbrev pub is_current : Option ℕ → ℕ → Bool
is_current None token = false
is_current (Some t) token = nat_eq t token

abbrev pub is_met : (List Bool → Bool) → Option ℕ → List (List Entry) → Entry → Bool
is_met met current lists e = is_current current e.token || met (had lists e.token)

-- what is left of the intersection, where the entries of a current token are being given
abbrev pub Meets : (List Bool → Bool) → Option ℕ → List (List Entry) → List Entry → Type 0
Meets met current lists es = (us : List Entry) × Unites lists us × (es ≡ filter (is_met met current lists) us)

-- the least first entry is taken, if it has the token
abbrev pub TakesAt : {S : Type 0} → ℕ → List (Headed S) → List (Headed S) → Option Entry → Type 0
TakesAt token old new None = (new ≡ old) × ((e : Entry) → least_from None old ≡ Some e → nat_eq e.token token ≡ false)
TakesAt token old new (Some e) = (least_from None old ≡ Some e) × (e.token ≡ token) × (new ≡ map (dropped e) old)

-- its first entry isn't below the token
abbrev pub FirstFrom : ℕ → List Entry → Type 0
FirstFrom t [] = Unit {0}
FirstFrom t (x ∷ xs) = t ≤ x.token

-- its first entry has the token
abbrev pub FirstAt : ℕ → List Entry → Type 0
FirstAt t [] = ⊥
FirstAt t (x ∷ xs) = x.token ≡ t

-- no entry is below the current token
abbrev pub FromCurrent : Option ℕ → List (List Entry) → Type 0
FromCurrent None lists = Unit {0}
FromCurrent (Some t) lists = AllByRecursion (FirstFrom t) lists

-- some list has a first entry with the token
abbrev pub SomeFirstAt : ℕ → List (List Entry) → Type 0
SomeFirstAt t [] = ⊥
SomeFirstAt t (l ∷ ls) = FirstAt t l ⊎ SomeFirstAt t ls

-- what is left of an intersection of relations
abbrev pub MetLeaves : {S : Type 0} → (S → Option Folder → List Entry → Type 0) → Option Folder → List (Headed S) → List (List ℕ) → Option ℕ → List Entry
    → Type 0
MetLeaves leaves files hs relations current es =
    (lists : List (List Entry)) × AllLeave leaves files hs lists × AllByRecursion Rises lists × FromCurrent current lists
    × Meets (met_by relations) current lists es × (0 < length relations)

-- the next token that all relations have was found
abbrev pub Agrees : {S : Type 0} → (S → Option Folder → List Entry → Type 0) → Option Folder → List (Headed S) → List (List ℕ) → List Entry → Option ℕ → Type 0
Agrees leaves files hs relations es None = (es ≡ []) × MetLeaves leaves files hs relations None []
Agrees leaves files hs relations es (Some token) =
    (lists : List (List Entry)) × AllLeave leaves files hs lists × AllByRecursion Rises lists × AllByRecursion (FirstFrom token) lists
    × SomeFirstAt token lists × Meets (met_by relations) (Some token) lists es × AreRead hs × (0 < length relations)

-- the entry of the current token is taken, or it is done
abbrev pub TakesCurrent : {S : Type 0} → (S → Option Folder → List Entry → Type 0) → Option Folder → List (Headed S) → List (List ℕ) → Option ℕ → List Entry
    → Option Entry → Type 0
TakesCurrent leaves files hs relations current es None = MetLeaves leaves files hs relations None es
TakesCurrent leaves files hs relations current es (Some e) = (rest : List Entry) × (es ≡ e ∷ rest) × MetLeaves leaves files hs relations current rest
