-- The keys of a map that a relation finds.
use Rattle.std.specs.Prelude.{ℕ, Bool, List, [], map}
use Rattle.std.specs.FinMap as map_
use Rattle.std.specs.List.{filter, list_all, list_any}
use Rattle.std.specs.Option.{option_map_or}
use Rattle.std.specs.Ordering.{eq_by_cmp}
use Rattle.sasi_types.specs.declared.decorated_key.DecoratedKey.{DecoratedKey}
use Rattle.sasi_types.specs.DecoratedKey.{decorated_cmp}
use Rattle.sasi_terms.specs.declared.op.Op.{Op}
use Rattle.sasi_model.specs.Abbreviations.{Partitions}
use Rattle.sasi_model.specs.Cells.{Partition}
use Rattle.sasi_model.specs.IndexTerms.{any_holds, terms_of_cell}
use Rattle.sasi_memindex.specs.declared.map_part.MapPart.{MapPart}
use Rattle.sasi_memindex.specs.MemIndexView.{MemIndexView}
use Rattle.sasi_engine.specs.declared.relation.IndexedRelation.{IndexedRelation}
use Rattle.sasi_engine.specs.Findable.{index_for}

-- ---- several lists

-- the key is in each of the lists
abbrev pub is_in_all : List (List DecoratedKey) → DecoratedKey → Bool
is_in_all lists q = list_all (list_any (eq_by_cmp decorated_cmp q)) lists

-- ---- a map

-- for each of the words some term of the column's current cell is as the operator asks
abbrev pub all_hold : Op → List (List ℕ) → MemIndexView → Partition → Bool
all_hold op words index p = list_all (λ word. any_holds op word (terms_of_cell index.rule (map_.get p.cells index.column))) words

-- the keys of the map where that is so, in their order
abbrev pub keys_with : Op → List (List ℕ) → MemIndexView → Partitions → List DecoratedKey
keys_with op words index m = map (λ e. e.0) (filter (λ e. all_hold op words index e.1) (map_.entries m))

-- the keys that the relation finds in a map
abbrev pub found_in : MapPart → IndexedRelation → List DecoratedKey
found_in part relation = option_map_or (λ index. keys_with relation.op relation.words index part.map.partitions) (index_for relation part) []
