-- What is told of several streams of one type.
use Rattle.std.specs.Prelude.{◌⊎◌, ℕ, ◌+◌, ◌≤◌, List, [], ◌∷◌, Option}
use Rattle.sasi_host.specs.declared.name.FileName.{FileName}
use Rattle.sasi_host.specs.declared.damage.Damage.{Damage}
use Rattle.sasi_host.specs.Names.{Folder}
use Rattle.sasi_ranges.specs.declared.entry.Entry.{Entry}

-- each leaves the list of its position
abbrev pub EachLeaves : {S : Type 0} → (S → Option Folder → List Entry → Type 0) → Option Folder → List S → List (List Entry) → Type 0
EachLeaves leaves files [] [] = Unit {0}
EachLeaves leaves files [] (l ∷ ls) = ⊥
EachLeaves leaves files (s ∷ ss) [] = ⊥
EachLeaves leaves files (s ∷ ss) (l ∷ ls) = leaves s files l × EachLeaves leaves files ss ls

-- all of them together take at most so many reads
abbrev pub EachPays : {S : Type 0} → (S → Option Folder → ℕ → Type 0) → Option Folder → List S → ℕ → Type 0
EachPays pays files [] most = Unit {0}
EachPays pays files (s ∷ ss) most = (here later : ℕ) × pays s files here × EachPays pays files ss later × (here + later ≤ most)

-- each is ready
abbrev pub EachIsReady : {S : Type 0} → (S → Option Folder → Type 0) → Option Folder → List S → Type 0
EachIsReady ready files [] = Unit {0}
EachIsReady ready files (s ∷ ss) = ready s files × EachIsReady ready files ss

-- some of them may read the file
abbrev pub SomeOpens : {S : Type 0} → (S → FileName → Type 0) → List S → FileName → Type 0
SomeOpens opens [] name = ⊥
SomeOpens opens (s ∷ ss) name = opens s name ⊎ SomeOpens opens ss name

-- the files show the damage to some of them
abbrev pub SomeShows : {S : Type 0} → (S → Option Folder → Damage → Type 0) → Option Folder → List S → Damage → Type 0
SomeShows shows files [] damage = ⊥
SomeShows shows files (s ∷ ss) damage = shows s files damage ⊎ SomeShows shows files ss damage
