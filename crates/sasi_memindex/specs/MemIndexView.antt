-- The content of an index of a memtable.
use Rattle.std.specs.Prelude.{ℕ, Bool, List, Option, refl}
use Rattle.std.specs.Coded.{Coded, code_by, coded×, coded_ℕ, coded_list, coded_option}
use Rattle.std.specs.FinSet as set
use Rattle.sasi_types.specs.declared.column.ColumnType.{ColumnType}
use Rattle.sasi_types.specs.declared.decorated_key.DecoratedKey.{DecoratedKey}
use Rattle.sasi_types.specs.declared.rule.Rule.{Rule}
use Rattle.sasi_model.specs.Codes.{coded_column_type, coded_rule}
use Rattle.sasi_memindex.specs.Postings.{Postings, coded_postings, posting}

-- an index of the column with this number, whose values are of this type; the rule makes the terms of a text
pub record MemIndexView : Type 0 where
  pub column : ℕ
  pub kind : ColumnType
  pub rule : Option Rule
  pub postings : Postings

-- indexes with their numbers
abbrev pub Numbered : Type 0
Numbered = List (ℕ × MemIndexView)

abbrev pub empty_index : ℕ → ColumnType → Option Rule → MemIndexView
empty_index column kind rule = record { column = column; kind = kind; rule = rule; postings = set.empty }

-- what an index is of: its column, the type of that, and the rule
abbrev pub subject : MemIndexView → ℕ × (ColumnType × Option Rule)
subject index = (index.column, (index.kind, index.rule))

-- the index has the key under the term
abbrev pub has : MemIndexView → List ℕ → DecoratedKey → Bool
has index term key = set.contains index.postings (posting term key)

abbrev pub coded_index : Coded MemIndexView
coded_index =
    code_by (ℕ × (ColumnType × (Option Rule × Postings))) (coded× coded_ℕ (coded× coded_column_type (coded× (coded_option coded_rule) coded_postings)))
    (λ i. (i.column, (i.kind, (i.rule, i.postings)))) (λ c. record { column = c.0; kind = c.1.0; rule = c.1.1.0; postings = c.1.1.1 }) (λ _. refl)

abbrev pub coded_numbered : Coded Numbered
coded_numbered = coded_list (coded× coded_ℕ coded_index)
