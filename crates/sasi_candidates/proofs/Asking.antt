-- For callers: a relation that isn't refused asks an index of something that its type can be asked.
use Rattle.std.proofs.Common.{◌≡◌, ℕ, ◌≤◌, Bool, true, false, ◌==◌, List, length, Option, None, Some, refl, arith}
use Rattle.std.proofs.lemmas.Bool.{or_parts}
use Rattle.std.proofs.lemmas.Bool.Decides.{nat_tests}
use Rattle.std.specs.Option.{option_map_or}
use Rattle.sasi_types.specs.declared.column.ColumnType.{ColumnType}
use Rattle.sasi_types.specs.declared.column.ColumnType.TheVariants as types
use Rattle.sasi_types.specs.declared.literal.Literal.{Literal}
use Rattle.sasi_types.specs.declared.literal.Literal.TheVariants as literals
use Rattle.sasi_types.specs.declared.literal.Number.{Number}
use Rattle.sasi_types.specs.declared.mode.Mode.{Mode}
use Rattle.sasi_types.specs.declared.relation.Test.{Test}
use Rattle.sasi_types.specs.declared.relation.Test.TheVariants as tests
use Rattle.sasi_types.specs.declared.rule.Rule.{Rule}
use Rattle.sasi_types.specs.declared.rule.Rule.TheVariants.{Whole, Words}
use Rattle.sasi_terms.specs.Patterns.{begins_with_percent, body_of, ends_with_percent, op_of, without_first_percent}
use Rattle.sasi_terms.specs.Terms.{terms}
use Rattle.sasi_model.specs.Conditions.{Search, search_of, text_search}
use Rattle.sasi_model.specs.Relations.{asks_nothing, column_takes, text_takes}
use Rattle.sasi_model.specs.State.{Index}
use Rattle.sasi_model.specs.Values.{value_given}
use Rattle.sasi_candidates.specs.Searches.{CanAsk}

-- an index of this type can be asked so, and there is a word
pub record IsAskable (kind : ColumnType) (search : Search) : Type 0 where
  pub can : CanAsk kind search.op
  pub some : 1 ≤ length search.words

-- a LIKE asks for something
abbrev pub AsksSome : Option Rule → Test → Literal → Type 0
AsksSome rule tests.Like (literals.Text text) = asks_nothing rule text ≡ false
AsksSome rule test literal = Unit {0}

no_range : (front behind : Bool) → CanAsk types.Text (op_of front behind)
no_range true true = tt
no_range true false = tt
no_range false true = tt
no_range false false = tt

some_words : (words : List (List ℕ)) → (length words == 0) ≡ false → 1 ≤ length words
some_words words e = grind (arith, nat_tests)

like_asks : (rule : Rule) (text : List ℕ) → asks_nothing (Some rule) text ≡ false → IsAskable types.Text (text_search rule tests.Like text)
like_asks rule text some = record {
  can = no_range (begins_with_percent text) (ends_with_percent (without_first_percent text));
  some = some_words (terms rule (body_of text)) (or_parts (length (body_of text) == 0) (length (terms rule (body_of text)) == 0) some).1;
}

text_asks : (mode : Mode) (rule : Rule) (test : Test) (text : List ℕ) → text_takes mode rule test (literals.Text text) ≡ true → AsksSome (Some rule) test (literals.Text text) → IsAskable types.Text (text_search rule test text)
text_asks mode (Whole fold) tests.Eq text takes some = record { can = tt; some = omega arith }
text_asks mode (Whole fold) tests.Like text takes some = like_asks (Whole fold) text some
text_asks mode (Words fold) tests.Like text takes some = like_asks (Words fold) text some
text_asks mode (Whole fold) tests.Lt text takes some = cc
text_asks mode (Whole fold) tests.Le text takes some = cc
text_asks mode (Whole fold) tests.Gt text takes some = cc
text_asks mode (Whole fold) tests.Ge text takes some = cc
text_asks mode (Words fold) tests.Eq text takes some = cc
text_asks mode (Words fold) tests.Lt text takes some = cc
text_asks mode (Words fold) tests.Le text takes some = cc
text_asks mode (Words fold) tests.Gt text takes some = cc
text_asks mode (Words fold) tests.Ge text takes some = cc

with_rule : (mode : Mode) (rule : Option Rule) (test : Test) (text : List ℕ) → option_map_or (λ r. text_takes mode r test (literals.Text text)) rule false ≡ true → AsksSome rule test (literals.Text text)
    → IsAskable types.Text (search_of types.Text rule test (literals.Text text))
with_rule mode None test text takes some = cc
with_rule mode (Some rule) test text takes some = text_asks mode rule test text takes some

int_asks : (rule : Option Rule) (test : Test) (number : Number) → IsAskable types.Int (search_of types.Int rule test (literals.Number number))
int_asks None test number = record { can = tt; some = omega arith }
int_asks (Some rule) test number = record { can = tt; some = omega arith }

bigint_asks : (rule : Option Rule) (test : Test) (number : Number) → IsAskable types.BigInt (search_of types.BigInt rule test (literals.Number number))
bigint_asks None test number = record { can = tt; some = omega arith }
bigint_asks (Some rule) test number = record { can = tt; some = omega arith }

uuid_asks : (rule : Option Rule) (test : Test) (bytes : List ℕ) → IsAskable types.Uuid (search_of types.Uuid rule test (literals.Uuid bytes))
uuid_asks None test bytes = record { can = tt; some = omega arith }
uuid_asks (Some rule) test bytes = record { can = tt; some = omega arith }

-- **A relation that the column takes, with a literal of its type, can be asked of the column's index.**
pub relation_asks : (type : ColumnType) (index : Index) (test : Test) (literal : Literal) → column_takes type (Some index) test literal ≡ true → (value_given type literal ≡ None → ⊥) → AsksSome index.rule test literal
    → IsAskable type (search_of type index.rule test literal)
relation_asks types.Text index test (literals.Text text) takes typed some = with_rule index.mode index.rule test text takes some
relation_asks types.Text index test (literals.Number number) takes typed some = absurd (typed refl)
relation_asks types.Text index test (literals.Uuid bytes) takes typed some = absurd (typed refl)
relation_asks types.Text index test literals.Null takes typed some = absurd (typed refl)
relation_asks types.Int index test (literals.Number number) takes typed some = int_asks index.rule test number
relation_asks types.Int index test (literals.Text text) takes typed some = absurd (typed refl)
relation_asks types.Int index test (literals.Uuid bytes) takes typed some = absurd (typed refl)
relation_asks types.Int index test literals.Null takes typed some = absurd (typed refl)
relation_asks types.BigInt index test (literals.Number number) takes typed some = bigint_asks index.rule test number
relation_asks types.BigInt index test (literals.Text text) takes typed some = absurd (typed refl)
relation_asks types.BigInt index test (literals.Uuid bytes) takes typed some = absurd (typed refl)
relation_asks types.BigInt index test literals.Null takes typed some = absurd (typed refl)
relation_asks types.Uuid index test (literals.Uuid bytes) takes typed some = uuid_asks index.rule test bytes
relation_asks types.Uuid index test (literals.Text text) takes typed some = absurd (typed refl)
relation_asks types.Uuid index test (literals.Number number) takes typed some = absurd (typed refl)
relation_asks types.Uuid index test literals.Null takes typed some = absurd (typed refl)
