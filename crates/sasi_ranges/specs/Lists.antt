-- The union and the intersection of lists of entries.
use Rattle.std.specs.Prelude.{ℕ, zero, suc, Bool, if◌then◌else◌, List, [], ◌∷◌}
use Rattle.std.specs.List.{filter, list_all, list_any}
use Rattle.std.specs.Ordering.{is_eq, is_lt}
use Rattle.sasi_ranges.specs.declared.entry.Entry.{Entry}
use Rattle.sasi_ranges.specs.Entries.{entry_cmp, has_token}

-- the list with this entry in its order, if it hasn't the entry yet
abbrev pub with_entry : Entry → List Entry → List Entry
with_entry e [] = e ∷ []
with_entry e (x ∷ xs) = if is_lt (entry_cmp e x) then e ∷ x ∷ xs else (if is_eq (entry_cmp e x) then x ∷ xs else x ∷ with_entry e xs)

-- the list with all entries of another
abbrev pub with_entries : List Entry → List Entry → List Entry
with_entries [] es = es
with_entries (x ∷ xs) es = with_entry x (with_entries xs es)

-- **The union**: the entries that some list has, in their order and each once.
abbrev pub union_of : List (List Entry) → List Entry
union_of [] = []
union_of (l ∷ ls) = with_entries l (union_of ls)

-- every list has the token
abbrev pub each_has : List (List Entry) → ℕ → Bool
each_has lists token = list_all (has_token token) lists

-- **The intersection**: the entries of the union whose token every list has.
abbrev pub intersection_of : List (List Entry) → List Entry
intersection_of lists = filter (λ (e : Entry). each_has lists e.token) (union_of lists)

-- the list at a position; an empty one past the last
abbrev pub list_at : List (List Entry) → ℕ → List Entry
list_at [] at = []
list_at (l ∷ ls) zero = l
list_at (l ∷ ls) (suc at) = list_at ls at

-- a relation has the token where the list at some of its positions has it
abbrev pub relation_has : List (List Entry) → ℕ → List ℕ → Bool
relation_has lists token positions = list_any (λ (at : ℕ). has_token token (list_at lists at)) positions

-- every relation has the token
abbrev pub each_relation_has : List (List ℕ) → List (List Entry) → ℕ → Bool
each_relation_has relations lists token = list_all (relation_has lists token) relations

-- **The intersection of relations**: the entries of the union whose token every relation has.
abbrev pub intersection_by : List (List ℕ) → List (List Entry) → List Entry
intersection_by relations lists = filter (λ (e : Entry). each_relation_has relations lists e.token) (union_of lists)
