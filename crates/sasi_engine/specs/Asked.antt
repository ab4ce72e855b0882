-- The relations of a WHERE that are on indexed columns, and their hits in the parts of a table.
use Rattle.std.specs.Prelude.{ℕ, suc, Bool, true, false, nat_eq, ◌&&◌, List, [], ◌∷◌, map, Option, None, Some}
use Rattle.std.specs.FinMap as map_
use Rattle.std.specs.List.{filter, list_any}
use Rattle.sasi_types.specs.declared.decorated_key.DecoratedKey.{DecoratedKey}
use Rattle.sasi_types.specs.declared.partitioner.Partitioner.{Partitioner}
use Rattle.sasi_types.specs.declared.tree.Pair.{Pair}
use Rattle.sasi_model.specs.Abbreviations.{Partitions}
use Rattle.sasi_model.specs.Conditions.{Condition, OfKey, Indexed, Plain, Search}
use Rattle.sasi_model.specs.State.{Index}
use Rattle.sasi_layout.specs.Flushed.{contents_of}
use Rattle.sasi_candidates.specs.Costs.{has_index}
use Rattle.sasi_candidates.specs.Parts.{Disk, Memory, Origin, Part, hit}
use Rattle.sasi_candidates.specs.Searches.{keyed}
use Rattle.sasi_hits.specs.MapHits.{placed}
use Rattle.sasi_hits.proofs.PartHits.{pairs_of}

-- ---- relations

-- a relation on an indexed column: the index, and what is asked of the terms
pub record Asked : Type 0 where
  pub index : Index
  pub search : Search

-- those of a WHERE, in its order
abbrev pub asked_of : List Condition → List Asked
asked_of [] = []
asked_of (OfKey bytes ∷ conditions) = asked_of conditions
asked_of (Indexed index search ∷ conditions) = record { index = index; search = search } ∷ asked_of conditions
asked_of (Plain column comparison ∷ conditions) = asked_of conditions

-- ---- hits

-- the key is a hit of the relation in the part
abbrev pub is_hit : Asked → Part → DecoratedKey → Bool
is_hit asked part q = hit asked.index asked.search q part

-- the keys of a map, in their order
abbrev pub keys_of : Partitions → List DecoratedKey
keys_of m = map (λ e. e.0) (map_.entries m)

-- the keys of the part that pass a test, each with its place: in a data file the offset of its partition, in a map its position among them
abbrev pub placed_in : Partitioner → Origin → Partitions → (DecoratedKey → Bool) → List Pair
placed_in partitioner Memory m test = placed 0 (filter test (keys_of m))
placed_in partitioner (Disk columns) m test = pairs_of test (keyed partitioner (contents_of m))

-- **The hits of a relation in a part**, each with its place
abbrev pub hit_pairs : Partitioner → Asked → Part → List Pair
hit_pairs partitioner asked part = placed_in partitioner part.origin part.holds (is_hit asked part)

-- the relation has a hit with this token in the part
abbrev pub has_hit : ℕ → Asked → Part → Bool
has_hit token asked part = list_any (λ (q : DecoratedKey). nat_eq q.token token && is_hit asked part q) (keys_of part.holds)

-- ---- indexes

-- of each relation, whether the part has its index; in a map each has one
abbrev pub indexed_in : List Asked → Part → List Bool
indexed_in asked part = map (λ (a : Asked). has_index a.index part.origin) asked

-- the position of the first false, counted from this number
abbrev pub first_lacking : ℕ → List Bool → Option ℕ
first_lacking n [] = None
first_lacking n (true ∷ bits) = first_lacking (suc n) bits
first_lacking n (false ∷ bits) = Some n
