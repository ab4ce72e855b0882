-- The index of a map: it has each key under the terms of the cell that is current there.
use Rattle.std.specs.Prelude.{◌≡◌, ℕ, List, if◌then◌else◌}
use Rattle.std.specs.List.{list_any}
use Rattle.std.specs.Ordering.{eq_by_cmp}
use Rattle.sasi_types.specs.declared.decorated_key.DecoratedKey.{DecoratedKey}
use Rattle.sasi_types.specs.DecoratedKey.{decorated_cmp}
use Rattle.sasi_model.specs.Abbreviations.{Partitions}
use Rattle.sasi_model.specs.IndexTerms.{terms_at}
use Rattle.sasi_model.specs.Tokens.{same}
use Rattle.sasi_memindex.specs.MemIndexView.{MemIndexView, has}

-- the index has the key under these terms, and under no others
abbrev pub HasTermsAt : MemIndexView → DecoratedKey → List (List ℕ) → Type 0
HasTermsAt index key terms = (term : List ℕ) → has index term key ≡ list_any (same term) terms

-- the index has the key under these terms, and every other key as before
abbrev pub HasPut : MemIndexView → DecoratedKey → List (List ℕ) → MemIndexView → Type 0
HasPut old key terms new = (term : List ℕ) (other : DecoratedKey) → has new term other ≡ (if eq_by_cmp decorated_cmp other key then list_any (same term) terms else has old term other)

-- at every key the index has the terms of the current cell
abbrev pub IsIndexOf : Partitions → MemIndexView → Type 0
IsIndexOf m index = (key : DecoratedKey) → HasTermsAt index key (terms_at index.rule index.column m key)
