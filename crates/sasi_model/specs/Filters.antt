-- The rows that a SELECT answers: those that are there, and of which its WHERE holds, and of these the first, up to its LIMIT.
use Rattle.std.specs.Prelude.{ℕ, ◌≤◌, ⊤, pos, Bool, true, false, ◌&&◌, ◌||◌, List, [], ◌∷◌, map, take, Option, None, Some}
use Rattle.std.specs.List.{filter}
use Rattle.sasi_types.specs.declared.decorated_key.DecoratedKey.{DecoratedKey}
use Rattle.sasi_types.specs.declared.literal.Number.{Number}
use Rattle.sasi_types.specs.declared.literal.Number.TheVariants.{Fits}
use Rattle.sasi_types.specs.declared.relation.Relation.{Relation}
use Rattle.sasi_model.specs.Cells.{Partition, is_live}
use Rattle.sasi_model.specs.Conditions.{Condition, OfKey, Indexed, Plain, condition_of, meets}
use Rattle.sasi_model.specs.State.{Definition}

-- conditions that are joined by AND and OR; a WHERE of relations alone has an AND of them
mutual
  pub data Filter : Type 0 where
    Leaf : Condition → Filter
    AllOf : Filters → Filter
    AnyOf : Filters → Filter

  pub data Filters : Type 0 where
    no_filters : Filters
    one_more : Filter → Filters → Filters

-- the filter holds where its leaves are as told
abbrev mutual
  pub tree : (Condition → Bool) → Filter → Bool
  tree leaf (Leaf condition) = leaf condition
  tree leaf (AllOf filters) = all_of leaf filters
  tree leaf (AnyOf filters) = any_of leaf filters

  pub all_of : (Condition → Bool) → Filters → Bool
  all_of leaf no_filters = true
  all_of leaf (one_more f fs) = tree leaf f && all_of leaf fs

  pub any_of : (Condition → Bool) → Filters → Bool
  any_of leaf no_filters = false
  any_of leaf (one_more f fs) = tree leaf f || any_of leaf fs

abbrev pub leaves : List Condition → Filters
leaves [] = no_filters
leaves (condition ∷ conditions) = one_more (Leaf condition) (leaves conditions)

-- the conditions of a WHERE, all of which a row has to meet
abbrev pub where_of : List Condition → Filter
where_of conditions = AllOf (leaves conditions)

-- the bytes of the key that the first condition on the key asks for
abbrev pub key_asked : List Condition → Option (List ℕ)
key_asked [] = None
key_asked (OfKey bytes ∷ conditions) = Some bytes
key_asked (Indexed index search ∷ conditions) = key_asked conditions
key_asked (Plain column comparison ∷ conditions) = key_asked conditions

-- what the WHERE of a SELECT asks of the rows of a table
abbrev pub filter_of : Definition → List Relation → Filter
filter_of d relations = where_of (map (condition_of d) relations)

-- the filter holds of the partition of a key
abbrev pub accepts : Filter → List ℕ → Partition → Bool
accepts f key p = tree (meets key p) f

-- the row is there, and as asked
abbrev pub answers : Filter → DecoratedKey × Partition → Bool
answers f e = is_live e.1 && accepts f e.0.key e.1

-- **The rows of the answer without LIMIT**, before its columns are chosen: the table's partitions, filtered one by one.
abbrev pub rows : Filter → List (DecoratedKey × Partition) → List (DecoratedKey × Partition)
rows f entries = filter (answers f) entries

-- ---- LIMIT

-- how many rows it allows, where there is one; no other numbers than these are taken
abbrev pub row_limit : Option Number → Option ℕ
row_limit (Some (Fits (pos n))) = Some n
row_limit limit = None

-- the first of them, as many as a LIMIT allows
abbrev pub limited : {A : Type 0} → Option ℕ → List A → List A
limited None xs = xs
limited (Some n) xs = take n xs

-- so many are no more than it allows
abbrev pub Allows : Option ℕ → ℕ → Type 0
Allows None rows = ⊤
Allows (Some limit) rows = rows ≤ limit

-- **The rows of the answer**: LIMIT counts those that the WHERE leaves.
abbrev pub rows_up_to : Option ℕ → Filter → List (DecoratedKey × Partition) → List (DecoratedKey × Partition)
rows_up_to limit f entries = limited limit (rows f entries)
