-- The parts of a table, and the keys that an index finds in each.
use Rattle.std.specs.Prelude.{ℕ, Bool, true, false, ◌&&◌, ◌||◌, not, nat_eq, is_some, List, length, map}
use Rattle.std.specs.FinMap as map_
use Rattle.std.specs.List.{filter, list_all, list_any}
use Rattle.sasi_types.specs.declared.decorated_key.DecoratedKey.{DecoratedKey}
use Rattle.sasi_terms.specs.declared.op.Op.{Op}
use Rattle.sasi_model.specs.Abbreviations.{Partitions, value_of}
use Rattle.sasi_model.specs.Conditions.{Search, finds}
use Rattle.sasi_model.specs.IndexTerms.{any_holds, cell_at, terms_at, terms_of_cell}
use Rattle.sasi_model.specs.State.{Index}
use Rattle.sasi_model.specs.Tokens.{same}
use Rattle.sasi_sparse.specs.Sparse.{is_rare}
use Rattle.sasi_postings.specs.Postings.{is_short}

-- where a part stands: in memory, or in a data file beside which there are the index files of these columns
pub data Origin : Type 0 where
  Memory : Origin
  Disk : List ℕ → Origin

-- a memtable, a frozen map or a data file, with the partitions that it has
pub record Part : Type 0 where
  pub origin : Origin
  pub holds : Partitions

abbrev pub maps_of : List Part → List Partitions
maps_of parts = map (λ (part : Part). part.holds) parts

-- ---- what an index file has of a map

-- how many keys of the map have the term
abbrev pub keys_with : Index → Partitions → List ℕ → ℕ
keys_with index m term = length (filter (λ e. list_any (same term) (terms_of_cell index.rule (map_.get e.1.cells index.column))) (map_.entries m))

-- the term is stored: it isn't too long, and in the mode SPARSE it isn't a term of too many keys
abbrev pub is_stored : Index → Partitions → List ℕ → Bool
is_stored index m term = is_short term && is_rare index.mode (keys_with index m term)

-- the key is in the spill: it has a term that isn't stored
abbrev pub spilled : Index → Partitions → DecoratedKey → Bool
spilled index m q = list_any (λ term. not (is_stored index m term)) (terms_at index.rule index.column m q)

-- the key is posted under a stored term that is as the operator asks
abbrev pub posted : Index → Op → Partitions → DecoratedKey → List ℕ → Bool
posted index op m q word = any_holds op word (filter (is_stored index m) (terms_at index.rule index.column m q))

-- ---- hits

-- in a file with the index: the search of each word gives the key, and that of every word gives the spill
abbrev pub hit_in_index : Index → Search → Partitions → DecoratedKey → Bool
hit_in_index index search m q = spilled index m q || list_all (posted index search.op m q) search.words

-- in a file without it: every key
abbrev pub hit_on_disk : Bool → Index → Search → Partitions → DecoratedKey → Bool
hit_on_disk true index search m q = hit_in_index index search m q
hit_on_disk false index search m q = is_some (map_.get m q)

-- in memory: the cell that is current in the map is as asked
abbrev pub hit_in_memory : Index → Search → Partitions → DecoratedKey → Bool
hit_in_memory index search m q = finds index.rule search (value_of (cell_at m q index.column))

abbrev pub hit_at : Origin → Index → Search → Partitions → DecoratedKey → Bool
hit_at Memory index search m q = hit_in_memory index search m q
hit_at (Disk columns) index search m q = hit_on_disk (list_any (nat_eq index.column) columns) index search m q

-- **The key is a hit of the part.**
abbrev pub hit : Index → Search → DecoratedKey → Part → Bool
hit index search q part = hit_at part.origin index search part.holds q
