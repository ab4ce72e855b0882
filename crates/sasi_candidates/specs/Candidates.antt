-- The candidates of a SELECT: the rows that its indexes leave.
use Rattle.std.specs.Prelude.{Bool, true, List}
use Rattle.std.specs.FinMap as map_
use Rattle.std.specs.List.{filter, list_any}
use Rattle.sasi_types.specs.declared.decorated_key.DecoratedKey.{DecoratedKey}
use Rattle.sasi_cells.specs.Maps.{merged}
use Rattle.sasi_model.specs.Cells.{Partition}
use Rattle.sasi_model.specs.Conditions.{Condition, OfKey, Indexed, Plain}
use Rattle.sasi_model.specs.Filters.{Filter, tree}
use Rattle.sasi_model.specs.Tokens.{same}
use Rattle.sasi_candidates.specs.Parts.{Part, hit, maps_of}

-- what a condition leaves of the keys of all parts: one on an indexed column leaves the hits of every part, one on another column all keys
abbrev pub admits : List Part → DecoratedKey → Condition → Bool
admits parts q (OfKey bytes) = same q.key bytes
admits parts q (Indexed index search) = list_any (hit index search q) parts
admits parts q (Plain column comparison) = true

-- the key is left by the conditions, joined as the filter joins them
abbrev pub is_candidate : List Part → Filter → DecoratedKey → Bool
is_candidate parts f q = tree (admits parts q) f

-- **The candidates**: of the merge of all parts the rows whose keys are left, in the order of the keys.
abbrev pub candidates : List Part → Filter → List (DecoratedKey × Partition)
candidates parts f = filter (λ e. is_candidate parts f e.0) (map_.entries (merged (maps_of parts)))
