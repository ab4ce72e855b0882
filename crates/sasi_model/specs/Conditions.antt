-- What the relations of a WHERE ask of a row, as the definition of the table reads them.
use Rattle.std.specs.Prelude.{ℕ, zero, suc, ◌-◌, ◌^◌, ℤ, pos, negsuc, ◌+ℤ◌, ◌-ℤ◌, int_le, Bool, false, if◌then◌else◌, List, [], ◌∷◌, Option, None, Some}
use Rattle.std.specs.List.{list_all}
use Rattle.std.specs.Option.{option_map_or}
use Rattle.sasi_types.specs.declared.column.ColumnType.{ColumnType}
use Rattle.sasi_types.specs.declared.column.ColumnType.TheVariants as types
use Rattle.sasi_types.specs.declared.literal.Literal.{Literal}
use Rattle.sasi_types.specs.declared.literal.Literal.TheVariants as literals
use Rattle.sasi_types.specs.declared.literal.Number.{Number}
use Rattle.sasi_types.specs.declared.literal.Number.TheVariants.{Fits, Wide}
use Rattle.sasi_types.specs.declared.relation.Relation.{Relation}
use Rattle.sasi_types.specs.declared.relation.Test.{Test}
use Rattle.sasi_types.specs.declared.relation.Test.TheVariants as tests
use Rattle.sasi_types.specs.declared.rule.Rule.{Rule}
use Rattle.sasi_types.specs.declared.value.Value.{Value}
use Rattle.sasi_types.specs.declared.value.Value.TheVariants as values
use Rattle.sasi_types.specs.Value.{stored}
use Rattle.sasi_terms.specs.declared.op.Op.{Op}
use Rattle.sasi_terms.specs.declared.op.Op.TheVariants as ops
use Rattle.sasi_terms.specs.Holds.{is_between}
use Rattle.sasi_terms.specs.Patterns.{pattern_of}
use Rattle.sasi_terms.specs.Terms.{terms}
use Rattle.sasi_model.specs.Cells.{Partition, value_at}
use Rattle.sasi_model.specs.Indexes.{index_on}
use Rattle.sasi_model.specs.IndexTerms.{any_holds, terms_of}
use Rattle.sasi_model.specs.Refusals.{type_of_column}
use Rattle.sasi_model.specs.State.{Definition, Index, number_of_column}
use Rattle.sasi_model.specs.Tokens.{same}
use Rattle.sasi_model.specs.Values.{value_given}

-- ---- a column with an index

-- how its terms are asked: some term has to be as the operator asks, for each of the words
pub record Search : Type 0 where
  pub op : Op
  pub words : List (List ℕ)

-- the terms that the rule makes of the value are as asked; those of a missing value never are
abbrev pub finds : Option Rule → Search → Option Value → Bool
finds rule search None = false
finds rule search (Some value) = list_all (λ word. any_holds search.op word (terms_of rule value)) search.words

-- ---- a column without one

pub data Comparison : Type 0 where
  -- the value has these bytes
  Equals : List ℕ → Comparison
  -- it is a number from the one to the other
  Between : ℤ → ℤ → Comparison

abbrev pub number_in : Value → Option ℤ
number_in (values.Int number) = Some number
number_in (values.BigInt number) = Some number
number_in value = None

abbrev pub compares : Comparison → Value → Bool
compares (Equals bytes) value = same (stored value) bytes
compares (Between least greatest) value = is_between least greatest (number_in value)

-- ---- relations

pub data Condition : Type 0 where
  -- the key has these bytes
  OfKey : List ℕ → Condition
  Indexed : Index → Search → Condition
  -- the column with this number, which has no index
  Plain : ℕ → Comparison → Condition

-- **The condition holds** of the partition of a key. Of a missing value none does.
abbrev pub meets : List ℕ → Partition → Condition → Bool
meets key p (OfKey bytes) = same key bytes
meets key p (Indexed index search) = finds index.rule search (value_at p index.column)
meets key p (Plain column comparison) = option_map_or (compares comparison) (value_at p column) false

-- ---- numbers

-- the least and the greatest number of the type
abbrev pub least_of : ColumnType → ℤ
least_of types.Int = negsuc (2 ^ 31 - 1)
least_of type = negsuc (2 ^ 63 - 1)

abbrev pub greatest_of : ColumnType → ℤ
greatest_of types.Int = pos (2 ^ 31 - 1)
greatest_of type = pos (2 ^ 63 - 1)

-- the bounds between which no number is
abbrev pub nowhere : ℤ × ℤ
nowhere = (pos 1, pos 0)

-- the least and the greatest number of the type that compare so with this one
abbrev pub bounds : ColumnType → Test → ℤ → ℤ × ℤ
bounds type tests.Lt number = if int_le number (least_of type) then nowhere else (least_of type, number -ℤ pos 1)
bounds type tests.Le number = (least_of type, number)
bounds type tests.Gt number = if int_le (greatest_of type) number then nowhere else (number +ℤ pos 1, greatest_of type)
bounds type tests.Ge number = (number, greatest_of type)
bounds type test number = (number, number)

-- a number that doesn't fit is refused before
abbrev pub integer_of : Number → ℤ
integer_of (Fits number) = number
integer_of Wide = pos 0

-- ---- literals; one of another type is refused before

-- `=` asks for the one term of the text, and LIKE for those of its pattern's body
abbrev pub text_search : Rule → Test → List ℕ → Search
text_search rule tests.Like text = record { op = (pattern_of text).0; words = terms rule (pattern_of text).1 }
text_search rule test text = record { op = ops.Eq; words = terms rule text }

-- a term in a range is as asked for every word, so there is one without bytes
abbrev pub number_search : ℤ × ℤ → Search
number_search range = record { op = ops.Range range.0 range.1; words = [] ∷ [] }

abbrev pub search_of : ColumnType → Option Rule → Test → Literal → Search
search_of type (Some rule) test (literals.Text text) = text_search rule test text
search_of type rule test (literals.Number number) = number_search (bounds type test (integer_of number))
search_of type rule test literal = number_search nowhere

abbrev pub comparison_of : ColumnType → Test → Literal → Comparison
comparison_of type test (literals.Number number) = Between (bounds type test (integer_of number)).0 (bounds type test (integer_of number)).1
comparison_of type test (literals.Text text) = Equals text
comparison_of type test (literals.Uuid bytes) = Equals bytes
comparison_of type test literals.Null = Between nowhere.0 nowhere.1

-- the relation on the column with this number and type, where 0 is the key
abbrev pub condition_on : Definition → ℕ → ColumnType → Test → Literal → Condition
condition_on d zero type test literal = OfKey (option_map_or stored (value_given type literal) [])
condition_on d (suc n) type test literal =
    option_map_or (λ index. Indexed index (search_of type index.rule test literal)) (index_on (suc n) d.indexes) (Plain (suc n) (comparison_of type test literal))

-- a column that isn't there is refused before; no key is empty
abbrev pub condition_at : Definition → Relation → Option ℕ → Option ColumnType → Condition
condition_at d relation (Some number) (Some type) = condition_on d number type relation.test relation.value
condition_at d relation number type = OfKey []

abbrev pub condition_of : Definition → Relation → Condition
condition_of d relation = condition_at d relation (number_of_column d relation.column) (type_of_column d relation.column)
