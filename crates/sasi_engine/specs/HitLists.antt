-- The lists of hits that the streams of a plan leave, and which of them serve which relation.
use Rattle.std.specs.Prelude.{ℕ, zero, suc, ◌+◌, Bool, true, false, if◌then◌else◌, List, [], ◌∷◌, ◌++◌, length, map, get_or, Option, None, Some}
use Rattle.sasi_types.specs.declared.partitioner.Partitioner.{Partitioner}
use Rattle.sasi_datawrite.specs.Format.{key_pairs}
use Rattle.sasi_layout.specs.Flushed.{contents_of}
use Rattle.sasi_ranges.specs.declared.entry.Entry.{Entry}
use Rattle.sasi_candidates.specs.Costs.{has_index}
use Rattle.sasi_candidates.specs.Parts.{Part}
use Rattle.sasi_hits.specs.Pairs.{entries_of}
use Rattle.sasi_engine.specs.Asked.{Asked, first_lacking, hit_pairs, indexed_in}

-- ---- lists

-- where a file lacks the index of a relation, all its keys, as hits of the first such relation
abbrev pub key_list : Partitioner → ℕ → Part → Option ℕ → List (List Entry)
key_list partitioner at part None = []
key_list partitioner at part (Some leaf) = entries_of leaf at (key_pairs partitioner (contents_of part.holds)) ∷ []

-- the hits of each relation whose index the part has, where the first relation has this number
abbrev pub own_lists : Partitioner → ℕ → Part → ℕ → List Asked → List (List Entry)
own_lists partitioner at part leaf [] = []
own_lists partitioner at part leaf (a ∷ asked) =
    if has_index a.index part.origin
    then entries_of leaf at (hit_pairs partitioner a part) ∷ own_lists partitioner at part (suc leaf) asked
    else own_lists partitioner at part (suc leaf) asked

-- those of the part with this number
abbrev pub part_lists : Partitioner → List Asked → ℕ → Part → List (List Entry)
part_lists partitioner asked at part = key_list partitioner at part (first_lacking 0 (indexed_in asked part)) ++ own_lists partitioner at part 0 asked

-- **The lists of hits** of some relations in some parts, part by part, where the first part has this number
abbrev pub hit_lists : Partitioner → List Asked → ℕ → List Part → List (List Entry)
hit_lists partitioner asked at [] = []
hit_lists partitioner asked at (part ∷ parts) = part_lists partitioner asked at part ++ hit_lists partitioner asked (suc at) parts

-- ---- which lists serve a relation

-- how many lists of keys there are
abbrev pub key_count : Option ℕ → ℕ
key_count None = 0
key_count (Some leaf) = 1

-- how many relations have their index
abbrev pub own_count : List Bool → ℕ
own_count [] = 0
own_count (true ∷ bits) = suc (own_count bits)
own_count (false ∷ bits) = own_count bits

-- of each relation the position of its list: its own one, or that of the keys
abbrev pub own_positions : ℕ → ℕ → List Bool → List ℕ
own_positions keys next [] = []
own_positions keys next (true ∷ bits) = next ∷ own_positions keys (suc next) bits
own_positions keys next (false ∷ bits) = keys ∷ own_positions keys next bits

-- the same for the lists of a part that begin at this position
abbrev pub part_positions : ℕ → List Bool → List ℕ
part_positions from bits = own_positions from (from + key_count (first_lacking 0 bits)) bits

-- for each part the positions of its relations' lists
abbrev pub position_rows : ℕ → List (List Bool) → List (List ℕ)
position_rows from [] = []
position_rows from (bits ∷ rows) = part_positions from bits ∷ position_rows (from + (key_count (first_lacking 0 bits) + own_count bits)) rows

-- the positions of one relation
abbrev pub column_of : List (List ℕ) → ℕ → List ℕ
column_of rows leaf = map (λ (row : List ℕ). get_or row leaf 0) rows

-- those of so many relations
abbrev pub columns_of : List (List ℕ) → ℕ → List (List ℕ)
columns_of rows zero = []
columns_of rows (suc leaf) = columns_of rows leaf ++ column_of rows leaf ∷ []

-- **Which of the lists serve which relation**: in each part one
abbrev pub serving : List Asked → List Part → List (List ℕ)
serving asked parts = columns_of (position_rows 0 (map (indexed_in asked) parts)) (length asked)
