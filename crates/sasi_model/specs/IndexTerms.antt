-- The terms under which an index has a key: those of the cell of the indexed column that is current in a map.
use Rattle.std.specs.Prelude.{ℕ, Bool, List, [], ◌∷◌, Option, None, Some}
use Rattle.std.specs.FinMap as map_
use Rattle.std.specs.List.{list_any}
use Rattle.std.specs.Option.{option_and_then}
use Rattle.sasi_types.specs.declared.cell.Cell.{Cell}
use Rattle.sasi_types.specs.declared.decorated_key.DecoratedKey.{DecoratedKey}
use Rattle.sasi_types.specs.DecoratedKey.{decorated_cmp}
use Rattle.sasi_types.specs.declared.rule.Rule.{Rule}
use Rattle.sasi_types.specs.declared.value.Value.{Value}
use Rattle.sasi_types.specs.declared.value.Value.TheVariants.{Text, Int, BigInt, Uuid}
use Rattle.sasi_terms.specs.declared.op.Op.{Op}
use Rattle.sasi_terms.specs.Holds.{holds}
use Rattle.sasi_terms.specs.Numbers.{bigint_term, int_term}
use Rattle.sasi_terms.specs.Terms.{terms}
use Rattle.sasi_model.specs.Cells.{Partition}

-- the terms of a value: those that the rule makes of a text, or the number itself; a uuid has none
abbrev pub terms_of : Option Rule → Value → List (List ℕ)
terms_of (Some rule) (Text text) = terms rule text
terms_of None (Text text) = []
terms_of rule (Int number) = int_term number ∷ []
terms_of rule (BigInt number) = bigint_term number ∷ []
terms_of rule (Uuid bytes) = []

abbrev pub terms_of_value : Option Rule → Option Value → List (List ℕ)
terms_of_value rule None = []
terms_of_value rule (Some value) = terms_of rule value

-- those of a cell; a tombstone has none
abbrev pub terms_of_cell : Option Rule → Option Cell → List (List ℕ)
terms_of_cell rule None = []
terms_of_cell rule (Some cell) = terms_of_value rule cell.value

-- the cell of a column that is current at a key
abbrev pub cell_at : map_.FinMap decorated_cmp Partition → DecoratedKey → ℕ → Option Cell
cell_at m key column = option_and_then (λ p. map_.get p.cells column) (map_.get m key)

-- the terms at a key
abbrev pub terms_at : Option Rule → ℕ → map_.FinMap decorated_cmp Partition → DecoratedKey → List (List ℕ)
terms_at rule column m key = terms_of_cell rule (cell_at m key column)

-- one of the terms is as the operator asks
abbrev pub any_holds : Op → List ℕ → List (List ℕ) → Bool
any_holds op body found = list_any (λ term. holds op term body) found
