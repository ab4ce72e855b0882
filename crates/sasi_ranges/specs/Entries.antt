-- Entries, and lists of them that rise.
use Rattle.std.specs.Prelude.{◌≡◌, ℕ, Bool, nat_eq, nat_lt, if◌then◌else◌, List, [], ◌∷◌}
use Rattle.std.specs.List.{AllByRecursion, list_any}
use Rattle.std.specs.declared.cmp.Ordering.{Ordering}
use Rattle.std.specs.declared.cmp.Ordering.TheVariants.{Less}
use Rattle.std.specs.Ordering.{nat_cmp, ordering_then}
use Rattle.std.specs.Cmp.{IsTotalOrder, nat_cmp_total}
use Rattle.std.proofs.lemmas.Cmp.{on_total, then_total}
use Rattle.sasi_ranges.specs.declared.entry.Entry.{Entry}

-- entries are in the order of their tokens, then of relations, then of parts and then of places
abbrev pub entry_cmp : Entry → Entry → Ordering
entry_cmp a b =
    ordering_then (ordering_then (ordering_then (nat_cmp a.token b.token) (nat_cmp a.leaf b.leaf)) (nat_cmp a.part b.part)) (nat_cmp a.place b.place)

-- this order is total
pub entry_total : IsTotalOrder entry_cmp
entry_total =
    then_total
    (then_total (then_total (on_total (λ (e : Entry). e.token) nat_cmp_total) (on_total (λ (e : Entry). e.leaf) nat_cmp_total)) (on_total (λ (e : Entry). e.part) nat_cmp_total))
    (on_total (λ (e : Entry). e.place) nat_cmp_total)

-- the second entry is above the first
abbrev pub Above : Entry → Entry → Type 0
Above e x = entry_cmp e x ≡ Less

-- each entry is above those before it
abbrev pub Rises : List Entry → Type 0
Rises [] = Unit {0}
Rises (x ∷ xs) = AllByRecursion (Above x) xs × Rises xs

-- the list without the entries at its beginning that are below the token; where it rises, without all that are below it
abbrev pub from_token : ℕ → List Entry → List Entry
from_token token [] = []
from_token token (e ∷ es) = if nat_lt e.token token then from_token token es else e ∷ es

-- some entry has the token
abbrev pub has_token : ℕ → List Entry → Bool
has_token token l = list_any (λ (e : Entry). nat_eq e.token token) l
