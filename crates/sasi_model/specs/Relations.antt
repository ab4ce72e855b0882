-- Which relations the columns of a table take: the operators of a column's index, or of its type where it has none.
use Rattle.std.specs.Prelude.{ℕ, zero, suc, ◌==◌, Bool, true, false, not, ◌||◌, List, length, Option, None, Some, is_some}
use Rattle.std.specs.Option.{option_and_then, option_map_or}
use Rattle.sasi_types.specs.declared.column.ColumnType.{ColumnType}
use Rattle.sasi_types.specs.declared.column.ColumnType.TheVariants as types
use Rattle.sasi_types.specs.declared.literal.Literal.{Literal}
use Rattle.sasi_types.specs.declared.literal.Literal.TheVariants.{Text}
use Rattle.sasi_types.specs.declared.mode.Mode.{Mode}
use Rattle.sasi_types.specs.declared.mode.Mode.TheVariants as modes
use Rattle.sasi_types.specs.declared.relation.Test.{Test}
use Rattle.sasi_types.specs.declared.relation.Test.TheVariants as tests
use Rattle.sasi_types.specs.declared.rule.Rule.{Rule}
use Rattle.sasi_types.specs.declared.rule.Rule.TheVariants.{Whole}
use Rattle.sasi_terms.specs.declared.op.Op.{Op}
use Rattle.sasi_terms.specs.declared.op.Op.TheVariants as ops
use Rattle.sasi_terms.specs.Patterns.{body_of, pattern_of}
use Rattle.sasi_terms.specs.Terms.{terms}
use Rattle.sasi_model.specs.Indexes.{index_on}
use Rattle.sasi_model.specs.State.{Definition, Index}

-- ---- operators

-- An index of texts in this mode and with this rule takes LIKE with the operator: without a `%`, with one behind the body (a
-- prefix), with one in front of it (a suffix), or with both.
abbrev pub takes_pattern : Mode → Rule → Op → Bool
takes_pattern mode rule ops.Eq = true
takes_pattern modes.Prefix rule ops.Prefix = true
takes_pattern modes.Contains (Whole fold) ops.Prefix = true
takes_pattern modes.Contains rule ops.Suffix = true
takes_pattern modes.Contains rule ops.Contains = true
takes_pattern mode rule op = false

-- a pattern with an empty body is taken where any pattern is, and refused for its body
abbrev pub takes_like : Mode → Rule → List ℕ → Bool
takes_like mode rule text = length (body_of text) == 0 || takes_pattern mode rule (pattern_of text).0

-- a text with an index: an index of words takes no `=`
abbrev pub text_takes : Mode → Rule → Test → Literal → Bool
text_takes mode (Whole fold) tests.Eq literal = true
text_takes mode rule tests.Like (Text text) = takes_like mode rule text
text_takes mode rule test literal = false

abbrev pub is_equality : Test → Bool
is_equality tests.Eq = true
is_equality test = false

abbrev pub is_like : Test → Bool
is_like tests.Like = true
is_like test = false

-- a regular column of this type, with its index if it has one; each index of texts has a rule
abbrev pub column_takes : ColumnType → Option Index → Test → Literal → Bool
column_takes types.Int index test literal = not (is_like test)
column_takes types.BigInt index test literal = not (is_like test)
column_takes types.Uuid index test literal = is_equality test
column_takes types.Text None test literal = is_equality test
column_takes types.Text (Some index) test literal = option_map_or (λ rule. text_takes index.mode rule test literal) index.rule false

-- the column with this number and type; 0 is the key
abbrev pub takes : Definition → ℕ → ColumnType → Test → Literal → Bool
takes d zero type test literal = is_equality test
takes d (suc n) type test literal = column_takes type (index_on (suc n) d.indexes) test literal

-- ---- patterns that ask for nothing

-- the rule of the index on the column with this number, if it has one
abbrev pub rule_on : Definition → ℕ → Option Rule
rule_on d number = option_and_then (λ index. index.rule) (index_on number d.indexes)

-- the pattern of this text has an empty body, or one without a word where the index has words
abbrev pub asks_nothing : Option Rule → List ℕ → Bool
asks_nothing rule text = length (body_of text) == 0 || option_map_or (λ rule. length (terms rule (body_of text)) == 0) rule false

-- the relation is such a LIKE, on the column with this number
abbrev pub is_empty_like : Definition → ℕ → Test → Literal → Bool
is_empty_like d number tests.Like (Text text) = asks_nothing (rule_on d number) text
is_empty_like d number test literal = false

-- ---- filtering

-- the column with this number is neither the key nor indexed
abbrev pub is_unindexed : Definition → ℕ → Bool
is_unindexed d zero = false
is_unindexed d (suc n) = not (is_some (index_on (suc n) d.indexes))
