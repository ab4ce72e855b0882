-- The candidates of a SELECT by their tokens: a reader looks at one token after another, in every part.
use Rattle.std.specs.Prelude.{ℕ, zero, suc, ◌+◌, ◌-◌, ◌*◌, max, nat_eq, Bool, if◌then◌else◌, List, [], ◌∷◌, length, map, Option, None, Some}
use Rattle.std.specs.FinMap as map_
use Rattle.std.specs.List.{filter, flat_map, list_any}
use Rattle.sasi_types.specs.declared.decorated_key.DecoratedKey.{DecoratedKey}
use Rattle.sasi_types.specs.declared.partitioner.Partitioner.{Partitioner}
use Rattle.sasi_types.specs.Token.{token_of}
use Rattle.sasi_cells.specs.Maps.{merged}
use Rattle.sasi_model.specs.Cells.{Partition}
use Rattle.sasi_model.specs.Conditions.{Condition}
use Rattle.sasi_model.specs.Filters.{Filter, key_asked, tree, where_of}
use Rattle.sasi_candidates.specs.Candidates.{admits, candidates, is_candidate}
use Rattle.sasi_candidates.specs.Checks.{looked}
use Rattle.sasi_candidates.specs.Parts.{Part, maps_of}

-- ---- keys by their tokens

-- keys with one token, and their partitions
pub record Group : Type 0 where
  pub token : ℕ
  pub rows : List (DecoratedKey × Partition)

-- the keys of all groups, one after another
abbrev pub rows_in : List Group → List (DecoratedKey × Partition)
rows_in gs = flat_map (λ (g : Group). g.rows) gs

-- one key more, in front
abbrev pub with_key : DecoratedKey × Partition → List Group → List Group
with_key e [] = record { token = e.0.token; rows = e ∷ [] } ∷ []
with_key e (g ∷ gs) = if nat_eq e.0.token g.token then record { token = g.token; rows = e ∷ g.rows } ∷ gs else record { token = e.0.token; rows = e ∷ [] } ∷ g ∷ gs

-- keys that stand in their order, by their tokens
abbrev pub by_token : List (DecoratedKey × Partition) → List Group
by_token [] = []
by_token (e ∷ es) = with_key e (by_token es)

-- ---- which tokens are looked at

-- the condition leaves one of these keys
abbrev pub touches : List Part → List (DecoratedKey × Partition) → Condition → Bool
touches parts rows condition = list_any (λ e. admits parts e.0 condition) rows

-- each of the conditions leaves one of the token's keys, though it may be another one for each
abbrev pub is_looked : List Part → Filter → Group → Bool
is_looked parts f g = tree (touches parts g.rows) f

-- the candidates among the keys of a token
abbrev pub candidates_in : List Part → Filter → Group → Group
candidates_in parts f g = record { token = g.token; rows = filter (λ e. is_candidate parts f e.0) g.rows }

abbrev pub groups_with : Partitioner → List Part → Filter → Option (List ℕ) → List Group
groups_with partitioner parts f (Some key) = record { token = token_of partitioner key; rows = candidates parts f } ∷ []
groups_with partitioner parts f None = map (candidates_in parts f) (filter (is_looked parts f) (by_token (map_.entries (merged (maps_of parts)))))

-- **The tokens that are looked at, each with its candidates**: where a condition asks for a key, that of the key alone, whether or not a part has it.
abbrev pub groups : Partitioner → List Part → List Condition → List Group
groups partitioner parts conditions = groups_with partitioner parts (where_of conditions) (key_asked conditions)

-- ---- how often they are looked at

-- A token that costs so much is paid once for each of its candidates that is checked, and once where none is. With the last row that LIMIT
-- allows it ends. LIMIT is 1 at least.
abbrev pub looks : (ℕ → ℕ) → (DecoratedKey × Partition → Bool) → Option ℕ → List Group → ℕ
looks cost test limit [] = 0
looks cost test None (g ∷ gs) = max 1 (looked None test g.rows) * cost g.token + looks cost test None gs
looks cost test (Some zero) (g ∷ gs) = 0
looks cost test (Some (suc n)) (g ∷ gs) = max 1 (looked (Some (suc n)) test g.rows) * cost g.token + looks cost test (Some (suc n - length (filter test g.rows))) gs
