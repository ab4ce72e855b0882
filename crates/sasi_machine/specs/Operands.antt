-- What is known of a relation that no rule refuses.
use Rattle.std.specs.Prelude.{◌≡◌, true, false, Option, None, Some, ⊤}
use Rattle.std.specs.Str.{IsUtf8}
use Rattle.sasi_types.specs.declared.column.ColumnType.{ColumnType}
use Rattle.sasi_types.specs.declared.literal.Literal.{Literal}
use Rattle.sasi_types.specs.declared.literal.Literal.TheVariants.{Text}
use Rattle.sasi_types.specs.declared.relation.Relation.{Relation}
use Rattle.sasi_types.specs.declared.relation.Test.{Test}
use Rattle.sasi_types.specs.declared.relation.Test.TheVariants.{Like}
use Rattle.sasi_types.specs.declared.rule.Rule.{Rule}
use Rattle.sasi_types.specs.declared.statement.Select.{Select}
use Rattle.sasi_model.specs.Abbreviations.{first_refusal}
use Rattle.sasi_model.specs.Refusals.{is_null, is_of, is_out_of_range, key_empty, like_empty, no_column, number_range, operator_unsupported, select_rules, value_too_long, wrong_where}
use Rattle.sasi_model.specs.Relations.{asks_nothing}
use Rattle.sasi_model.specs.State.{Definition}
use Rattle.sasi_model.specs.WellFormed.{IsWellFormedRelation, IsWellFormedSelect}

-- no rule refuses the SELECT on a table of this definition
pub record CanSelect (d : Definition) (select : Select) : Type 0 where
  pub written : IsWellFormedSelect select
  pub taken : first_refusal (select_rules select (Some d)) ≡ None

-- none refuses the relation
pub record CanAsk (d : Definition) (r : Relation) : Type 0 where
  pub written : IsWellFormedRelation r
  pub column : (no_column d r.column).0 ≡ false
  pub typed : (wrong_where d r.column r.value).0 ≡ false
  pub ranged : (number_range d r.column r.value).0 ≡ false
  pub some : (key_empty d r.column r.value).0 ≡ false
  pub short : (value_too_long d r.column r.value).0 ≡ false
  pub takes : (operator_unsupported d r).0 ≡ false
  pub asks : (like_empty d r).0 ≡ false

-- the literal is a value of the type
pub record IsOperand (type : ColumnType) (literal : Literal) : Type 0 where
  pub typed : is_of type literal ≡ true
  pub there : is_null literal ≡ false
  pub within : is_out_of_range type literal ≡ false

-- a text is UTF-8, and as the pattern of a LIKE asks for something
abbrev pub CanSearch : Option Rule → Test → Literal → Type 0
CanSearch rule test (Text text) = IsUtf8 text × (test ≡ Like → asks_nothing rule text ≡ false)
CanSearch rule test literal = ⊤
