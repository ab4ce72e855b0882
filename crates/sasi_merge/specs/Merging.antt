-- The merge of sorted streams: the least key of the heads of several sources, and the merge of its partitions.
use Rattle.std.specs.Prelude.{◌≡◌, ◌≢◌, ℕ, Bool, false, if◌then◌else◌, List, [], ◌∷◌, Option, None, Some, is_some, unwrap_or, true, refl}
use Rattle.std.specs.Coded.{Coded, code_by, coded×, coded_ℕ, coded_option}
use Rattle.std.specs.List.{AllByRecursion}
use Rattle.std.specs.Ordering.{eq_by_cmp}
use Rattle.std.specs.declared.cmp.Ordering.TheVariants.{Greater}
use Rattle.sasi_types.specs.declared.decorated_key.DecoratedKey.{DecoratedKey}
use Rattle.sasi_types.specs.DecoratedKey.{decorated_cmp}
use Rattle.sasi_model.specs.Cells.{Partition, empty_partition, merge}
use Rattle.sasi_model.specs.Codes.{coded_bytes, coded_partition}
use Rattle.sasi_cells.specs.Maps.{joined}

-- the next partition of a source, with its token and its key; none at the source's end
abbrev pub Head : Type 0
Head = Option (ℕ × List ℕ × Partition)

abbrev pub with_token : ℕ → List ℕ → DecoratedKey
with_token token key = record { token = token; key = key }

abbrev pub has_key : DecoratedKey → Head → Bool
has_key key None = false
has_key key (Some h) = eq_by_cmp decorated_cmp key (with_token h.0 h.1)

-- the partition of a head that has the key
abbrev pub part_at : DecoratedKey → Head → Option Partition
part_at key None = None
part_at key (Some h) = if eq_by_cmp decorated_cmp key (with_token h.0 h.1) then Some h.2 else None

-- the merge of the partitions of a key, the oldest source first, onto what there is
abbrev pub merged_heads : DecoratedKey → Option Partition → List Head → Option Partition
merged_heads key base [] = base
merged_heads key base (h ∷ hs) = merged_heads key (joined base (part_at key h)) hs

-- the head has no key below this one
abbrev pub IsFrom : DecoratedKey → Head → Type 0
IsFrom key None = Unit {0}
IsFrom key (Some h) = decorated_cmp key (with_token h.0 h.1) ≢ Greater

-- **The least key** of the heads, which has this token, with the merge of its partitions; none where each source is at its end
abbrev pub GivesLeast : List Head → ℕ → Option (List ℕ × Partition) → Type 0
GivesLeast heads token None = AllByRecursion (λ h. h ≡ None) heads
GivesLeast heads token (Some found) = (merged_heads (with_token token found.0) None heads ≡ Some found.1) × AllByRecursion (IsFrom (with_token token found.0)) heads

-- ---- the merge of one key's partitions, as sources go on

-- **The least key** of the heads, which some head has; none where each source is at its end
abbrev pub IsLeastKey : List Head → Option DecoratedKey → Type 0
IsLeastKey heads None = AllByRecursion (λ h. h ≡ None) heads
IsLeastKey heads (Some key) = (is_some (merged_heads key None heads) ≡ true) × AllByRecursion (IsFrom key) heads

-- what heads have of a key, merged: nothing written where none has it
abbrev pub merged_part : DecoratedKey → List Head → Partition
merged_part key heads = unwrap_or (merged_heads key None heads) empty_partition

-- a head, if it has the key
abbrev pub head_with : DecoratedKey → Head → Head
head_with key head = if has_key key head then head else None

-- a partition, merged with that of a later head
abbrev pub merged_with : Partition → Head → Partition
merged_with part None = part
merged_with part (Some h) = merge part h.2

-- the code of a head, by which proofs tell heads apart
abbrev pub coded_head : Coded Head
coded_head = coded_option (code_by (ℕ × (List ℕ × Partition)) (coded× coded_ℕ (coded× coded_bytes coded_partition)) (λ h. (h.0, (h.1, h.2))) (λ c. (c.0, c.1.0, c.1.1)) (λ _. refl))
