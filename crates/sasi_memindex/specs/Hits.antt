-- What a search of an index gives.
use Rattle.std.specs.Prelude.{◌≡◌, ◌&&◌, ℕ, List, map}
use Rattle.std.specs.List.{filter, list_any}
use Rattle.std.specs.List.Sorted.{IsStrictlySortedBy}
use Rattle.std.specs.FinMap as map_
use Rattle.std.specs.FinSet as set
use Rattle.std.specs.Ordering.{eq_by_cmp}
use Rattle.sasi_types.specs.declared.decorated_key.DecoratedKey.{DecoratedKey}
use Rattle.sasi_types.specs.DecoratedKey.{decorated_cmp}
use Rattle.sasi_terms.specs.declared.op.Op.{Op}
use Rattle.sasi_terms.specs.Holds.{holds}
use Rattle.sasi_model.specs.Abbreviations.{Partitions}
use Rattle.sasi_model.specs.IndexTerms.{any_holds, terms_of_cell}
use Rattle.sasi_memindex.specs.declared.posting.Posting.{Posting}
use Rattle.sasi_memindex.specs.MemIndexView.{MemIndexView}
use Rattle.sasi_memindex.specs.Postings.{Postings}

-- the keys of the postings whose term is as the operator asks
abbrev pub keys_of_hits : Op → List ℕ → List Posting → List DecoratedKey
keys_of_hits op body postings = map (λ p. p.key) (filter (λ p. holds op p.term body) postings)

-- these keys in their order, each once
pub record AreHits (op : Op) (body : List ℕ) (postings : Postings) (found : List DecoratedKey) : Type 0 where
  pub rise : IsStrictlySortedBy decorated_cmp found
  pub are : (key : DecoratedKey) → list_any (eq_by_cmp decorated_cmp key) found ≡ list_any (eq_by_cmp decorated_cmp key) (keys_of_hits op body (set.items postings))

-- the keys of a map at which a term of the current cell is as the operator asks, in their order
abbrev pub keys_in : Op → List ℕ → MemIndexView → Partitions → List DecoratedKey
keys_in op body index m = map (λ e. e.0) (filter (λ e. any_holds op body (terms_of_cell index.rule (map_.get e.1.cells index.column))) (map_.entries m))
