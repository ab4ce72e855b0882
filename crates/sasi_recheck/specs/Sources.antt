-- What a source of candidates gives, and what that costs.
use Rattle.std.specs.Prelude.{◌≡◌, ℕ, List, [], ◌∷◌, Option, None, Some}
use Rattle.sasi_types.specs.declared.column.ColumnType.{ColumnType}
use Rattle.sasi_types.specs.declared.decorated_key.DecoratedKey.{DecoratedKey}
use Rattle.sasi_cells.specs.Rows.{IsStored}
use Rattle.sasi_model.specs.Cells.{Partition}
use Rattle.sasi_machine.specs.Where.{HasTexts}

-- a candidate is a key with what all parts of the table have of it, merged
abbrev pub Candidate : Type 0
Candidate = DecoratedKey × Partition

-- the first of the candidates is given, and the others are left; none is given exactly where there is none
abbrev pub GivesFirst : (List Candidate → Type 0) → List Candidate → Option (List ℕ × Partition) → Type 0
GivesFirst Left left None = (left ≡ []) × Left []
GivesFirst Left left (Some one) = (e : Candidate) × (rest : List Candidate) × (left ≡ e ∷ rest) × (e.0.key ≡ one.0) × (e.1 ≡ one.1) × Left rest

-- Each candidate that is left has a price, in reads, and so has the end: a list of them has that of the end last. Behind the end nothing is paid.
abbrev pub first_price : List ℕ → ℕ
first_price [] = 0
first_price (price ∷ prices) = price

-- what a partition has to be, so that its row can be tested and printed: its key is a value of the type, and its texts are UTF-8
pub record IsPrintable (kind : ColumnType) (key : List ℕ) (part : Partition) : Type 0 where
  pub stored : IsStored kind key
  pub texts : HasTexts part

-- so is what a source gives, if it gives something
abbrev pub GivesPrintable : ColumnType → Option (List ℕ × Partition) → Type 0
GivesPrintable kind None = Unit {0}
GivesPrintable kind (Some one) = IsPrintable kind one.0 one.1
