-- The union, step by step: each time the least of the first entries, which is taken from each list that begins with it.
use Rattle.std.specs.Prelude.{◌≡◌, ◌⊎◌, false, if◌then◌else◌, List, [], ◌∷◌, map, Option}
use Rattle.std.specs.List.{AllByRecursion}
use Rattle.std.specs.Ordering.{is_eq, is_lt}
use Rattle.sasi_host.specs.Names.{Folder}
use Rattle.sasi_ranges.specs.declared.entry.Entry.{Entry}
use Rattle.sasi_ranges.specs.declared.head.Headed.{Headed}
use Rattle.sasi_ranges.specs.Entries.{Rises, entry_cmp}
use Rattle.sasi_ranges.specs.inside.Heads.{AllLeave}

-- its first entry isn't below
abbrev pub NotBelow : Entry → List Entry → Type 0
NotBelow e [] = Unit {0}
NotBelow e (x ∷ xs) = is_lt (entry_cmp x e) ≡ false

abbrev pub BeginsWith : Entry → List Entry → Type 0
BeginsWith e [] = ⊥
BeginsWith e (x ∷ xs) = x ≡ e

abbrev pub SomeBegins : Entry → List (List Entry) → Type 0
SomeBegins e [] = ⊥
SomeBegins e (l ∷ ls) = BeginsWith e l ⊎ SomeBegins e ls

-- of the first entries it is the least
pub record IsLeast (e : Entry) (lists : List (List Entry)) : Type 0 where
  pub none_below : AllByRecursion (NotBelow e) lists
  pub some : SomeBegins e lists

-- the list without its first entry, if that is this one
abbrev pub drop_if : Entry → List Entry → List Entry
drop_if e [] = []
drop_if e (x ∷ xs) = if is_eq (entry_cmp x e) then xs else x ∷ xs

-- the union of these lists is this one
abbrev pub Unites : List (List Entry) → List Entry → Type 0
Unites lists [] = AllByRecursion (λ l. l ≡ []) lists
Unites lists (e ∷ es) = IsLeast e lists × Unites (map (drop_if e) lists) es

-- what is left of the union of these streams
abbrev pub UnionLeaves : {S : Type 0} → (S → Option Folder → List Entry → Type 0) → Option Folder → List (Headed S) → List Entry → Type 0
UnionLeaves leaves files hs es = (lists : List (List Entry)) × AllLeave leaves files hs lists × AllByRecursion Rises lists × Unites lists es
