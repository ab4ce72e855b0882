-- The rules that are tried on the names of a statement, its literals and its relations, one by one.
use Rattle.std.specs.Prelude.{ℕ, List}
use Rattle.sasi_types.specs.declared.literal.Literal.{Literal}
use Rattle.sasi_types.specs.declared.relation.Relation.{Relation}
use Rattle.sasi_model.specs.State.{Definition}
use Rattle.sasi_model.specs.Refusals.{RefusalRule, no_column, no_regular_column, wrong_type, wrong_where, number_range, key_empty, value_too_long, operator_unsupported, like_empty}
use Rattle.sasi_machine.specs.declared.name_rule.NameRule.{NameRule}
use Rattle.sasi_machine.specs.declared.name_rule.NameRule.TheVariants.{NoColumn, NoRegularColumn}
use Rattle.sasi_machine.specs.declared.literal_rule.LiteralRule.{LiteralRule}
use Rattle.sasi_machine.specs.declared.literal_rule.LiteralRule.TheVariants.{WrongType, WrongWhere, NumberRange, KeyEmpty, ValueTooLong}
use Rattle.sasi_machine.specs.declared.relation_rule.RelationRule.{RelationRule}
use Rattle.sasi_machine.specs.declared.relation_rule.RelationRule.TheVariants.{Column as OfColumn, Operand as OfOperand, OperatorUnsupported, LikeEmpty}

abbrev pub name_rule : NameRule → Definition → List ℕ → RefusalRule
name_rule NoColumn = no_column
name_rule NoRegularColumn = no_regular_column

abbrev pub literal_rule : LiteralRule → Definition → List ℕ → Literal → RefusalRule
literal_rule WrongType = wrong_type
literal_rule WrongWhere = wrong_where
literal_rule NumberRange = number_range
literal_rule KeyEmpty = key_empty
literal_rule ValueTooLong = value_too_long

abbrev pub relation_rule : RelationRule → Definition → Relation → RefusalRule
relation_rule (OfColumn rule) d r = name_rule rule d r.column
relation_rule (OfOperand rule) d r = literal_rule rule d r.column r.value
relation_rule OperatorUnsupported d r = operator_unsupported d r
relation_rule LikeEmpty d r = like_empty d r
