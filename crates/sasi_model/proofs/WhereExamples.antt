-- The definitions of a WHERE, computed on relations whose meaning is known.
use Rattle.std.proofs.Common.{◌≡◌, ℕ, ℤ, pos, negsuc, Bool, true, false, List, [], ◌∷◌, codes, replicate, Option, Some, None, refl}
use Rattle.std.specs.Option.{option_map_or}
use Rattle.sasi_types.specs.declared.column.ColumnType.TheVariants as types
use Rattle.sasi_types.specs.declared.literal.Literal.{Literal}
use Rattle.sasi_types.specs.declared.literal.Literal.TheVariants as literals
use Rattle.sasi_types.specs.declared.literal.Number.{Number}
use Rattle.sasi_types.specs.declared.literal.Number.TheVariants.{Fits, Wide}
use Rattle.sasi_types.specs.declared.mode.Mode.TheVariants as modes
use Rattle.sasi_types.specs.declared.relation.Relation.{Relation}
use Rattle.sasi_types.specs.declared.relation.Test.{Test}
use Rattle.sasi_types.specs.declared.relation.Test.TheVariants as tests
use Rattle.sasi_types.specs.declared.rule.Rule.TheVariants.{Whole as WholeText, Words}
use Rattle.sasi_types.specs.declared.statement.Select.{Select}
use Rattle.sasi_types.specs.declared.value.Value.{Value}
use Rattle.sasi_types.specs.declared.value.Value.TheVariants as values
use Rattle.sasi_terms.specs.Terms.{terms}
use Rattle.sasi_model.specs.Abbreviations.{first_refusal}
use Rattle.sasi_model.specs.Conditions.{Condition, Indexed, OfKey, Plain, compares, condition_of, finds}
use Rattle.sasi_model.specs.Filters.{limited, row_limit}
use Rattle.sasi_model.specs.Refusals.{Refusal, select_rules}
use Rattle.sasi_model.specs.State.{Definition}

-- ---- operators

-- A table with indexes of each kind: on `a` of whole texts that are folded, on `s` of whole texts with suffixes, on `w` and `v` of
-- words, on `n` of numbers. The other columns and the key, a number, have none.
abbrev searched : Definition
searched = record {
  name = codes "t";
  columns = (codes "a", types.Text) ∷ (codes "k", types.Int) ∷ (codes "s", types.Text) ∷ (codes "w", types.Text) ∷ (codes "v", types.Text) ∷ (codes "n", types.Int)
      ∷ (codes "c", types.Text) ∷ (codes "i", types.Int) ∷ (codes "b", types.BigInt) ∷ (codes "u", types.Uuid) ∷ [];
  key = 1;
  indexes = record { name = codes "ia"; column = 1; mode = modes.Prefix; rule = Some (WholeText true) } ∷ record { name = codes "is"; column = 2; mode = modes.Contains; rule = Some (WholeText false) }
      ∷ record { name = codes "iw"; column = 3; mode = modes.Prefix; rule = Some (Words true) } ∷ record { name = codes "iv"; column = 4; mode = modes.Contains; rule = Some (Words false) }
      ∷ record { name = codes "in"; column = 5; mode = modes.Sparse; rule = None } ∷ [];
}

abbrev asks : List ℕ → Test → Literal → Relation
asks column test literal = record { column = column; test = test; value = literal }

abbrev text : List ℕ → Literal
text bytes = literals.Text bytes

abbrev number : ℤ → Literal
number n = literals.Number (Fits n)

-- the relation holds of a row with this value in its column, which isn't the key
abbrev holds_of : Relation → Option Value → Bool
holds_of relation value = by (condition_of searched relation)
  where
    by : Condition → Bool
    by (OfKey bytes) = false
    by (Indexed index search) = finds index.rule search value
    by (Plain column comparison) = option_map_or (compares comparison) value false

folded_text_is_equal : holds_of (asks (codes "a") tests.Eq (text (codes "aBc"))) (Some (values.Text (codes "AbC"))) ≡ true
folded_text_is_equal = refl

longer_text_is_not : holds_of (asks (codes "a") tests.Eq (text (codes "abc"))) (Some (values.Text (codes "abcd"))) ≡ false
longer_text_is_not = refl

missing_text_is_not : holds_of (asks (codes "a") tests.Eq (text [])) None ≡ false
missing_text_is_not = refl

begins_with_the_body : holds_of (asks (codes "a") tests.Like (text (codes "aB%"))) (Some (values.Text (codes "AbC"))) ≡ true
begins_with_the_body = refl

has_the_body_later : holds_of (asks (codes "a") tests.Like (text (codes "b%"))) (Some (values.Text (codes "abc"))) ≡ false
has_the_body_later = refl

missing_text_begins_with_nothing : holds_of (asks (codes "a") tests.Like (text (codes "b%"))) None ≡ false
missing_text_begins_with_nothing = refl

matches_the_body : holds_of (asks (codes "a") tests.Like (text (codes "a%b"))) (Some (values.Text (codes "a%b"))) ≡ true
matches_the_body = refl

no_wildcard_inside : holds_of (asks (codes "a") tests.Like (text (codes "a%b"))) (Some (values.Text (codes "axb"))) ≡ false
no_wildcard_inside = refl

ends_with_the_body : holds_of (asks (codes "s") tests.Like (text (codes "%na"))) (Some (values.Text (codes "banana"))) ≡ true
ends_with_the_body = refl

ends_otherwise : holds_of (asks (codes "s") tests.Like (text (codes "%nan"))) (Some (values.Text (codes "banana"))) ≡ false
ends_otherwise = refl

has_the_body_inside : holds_of (asks (codes "s") tests.Like (text (codes "%nan%"))) (Some (values.Text (codes "banana"))) ≡ true
has_the_body_inside = refl

has_no_such_body : holds_of (asks (codes "s") tests.Like (text (codes "%nab%"))) (Some (values.Text (codes "banana"))) ≡ false
has_no_such_body = refl

text_not_folded : holds_of (asks (codes "s") tests.Like (text (codes "%A%"))) (Some (values.Text (codes "banana"))) ≡ false
text_not_folded = refl

-- of these words, which `unicode_segmentation` cuts
abbrev HasWords : List ℕ → List (List ℕ) → Type 0
HasWords line found = terms (Words true) line ≡ found

fox_words : List (List ℕ)
fox_words = codes "the" ∷ codes "quick" ∷ codes "fox" ∷ []

word_begins_with_the_body : HasWords (codes "The Quick fox") fox_words → HasWords (codes "QUI") (codes "qui" ∷ []) → holds_of (asks (codes "w") tests.Like (text (codes "QUI%"))) (Some (values.Text (codes "The Quick fox"))) ≡ true
unfolding fox_words
word_begins_with_the_body value body = rw (value, body) refl

each_word_is_found : HasWords (codes "The Quick fox") fox_words → HasWords (codes "fox the") (codes "fox" ∷ codes "the" ∷ []) → holds_of (asks (codes "w") tests.Like (text (codes "fox the"))) (Some (values.Text (codes "The Quick fox"))) ≡ true
unfolding fox_words
each_word_is_found value body = rw (value, body) refl

one_word_is_not : HasWords (codes "The Quick fox") fox_words → HasWords (codes "fox cat") (codes "fox" ∷ codes "cat" ∷ []) → holds_of (asks (codes "w") tests.Like (text (codes "fox cat"))) (Some (values.Text (codes "The Quick fox"))) ≡ false
unfolding fox_words
one_word_is_not value body = rw (value, body) refl

missing_words_are_not : HasWords (codes "fox") (codes "fox" ∷ []) → holds_of (asks (codes "w") tests.Like (text (codes "fox"))) None ≡ false
missing_words_are_not body = refl

-- numbers, with an index and without
below_the_bound : holds_of (asks (codes "n") tests.Lt (number (pos 5))) (Some (values.Int (pos 4))) ≡ true
below_the_bound = refl

at_the_bound_is_not_below : holds_of (asks (codes "n") tests.Lt (number (pos 5))) (Some (values.Int (pos 5))) ≡ false
at_the_bound_is_not_below = refl

at_the_bound : holds_of (asks (codes "n") tests.Le (number (pos 5))) (Some (values.Int (pos 5))) ≡ true
at_the_bound = refl

above_the_bound_is_not_up_to_it : holds_of (asks (codes "n") tests.Le (number (pos 5))) (Some (values.Int (pos 6))) ≡ false
above_the_bound_is_not_up_to_it = refl

above_the_bound : holds_of (asks (codes "n") tests.Gt (number (negsuc 0))) (Some (values.Int (pos 0))) ≡ true
above_the_bound = refl

at_the_bound_is_not_above : holds_of (asks (codes "n") tests.Gt (number (negsuc 0))) (Some (values.Int (negsuc 0))) ≡ false
at_the_bound_is_not_above = refl

from_the_bound_on : holds_of (asks (codes "n") tests.Ge (number (negsuc 1))) (Some (values.Int (negsuc 1))) ≡ true
from_the_bound_on = refl

below_the_bound_is_not_from_it : holds_of (asks (codes "n") tests.Ge (number (negsuc 1))) (Some (values.Int (negsuc 2))) ≡ false
below_the_bound_is_not_from_it = refl

equal_number : holds_of (asks (codes "n") tests.Eq (number (pos 7))) (Some (values.Int (pos 7))) ≡ true
equal_number = refl

other_number : holds_of (asks (codes "n") tests.Eq (number (pos 7))) (Some (values.Int (pos 8))) ≡ false
other_number = refl

missing_number_is_in_no_range : holds_of (asks (codes "n") tests.Ge (number (negsuc 2147483647))) (None) ≡ false
missing_number_is_in_no_range = refl

least_int_is_from_itself : holds_of (asks (codes "n") tests.Ge (number (negsuc 2147483647))) (Some (values.Int (negsuc 2147483647))) ≡ true
least_int_is_from_itself = refl

nothing_is_below_the_least_int : holds_of (asks (codes "n") tests.Lt (number (negsuc 2147483647))) (Some (values.Int (negsuc 2147483647))) ≡ false
nothing_is_below_the_least_int = refl

greatest_int_is_up_to_itself : holds_of (asks (codes "n") tests.Le (number (pos 2147483647))) (Some (values.Int (pos 2147483647))) ≡ true
greatest_int_is_up_to_itself = refl

nothing_is_above_the_greatest_int : holds_of (asks (codes "n") tests.Gt (number (pos 2147483647))) (Some (values.Int (pos 2147483647))) ≡ false
nothing_is_above_the_greatest_int = refl

all_but_the_least_int_are_above_it : holds_of (asks (codes "i") tests.Gt (number (negsuc 2147483647))) (Some (values.Int (negsuc 2147483646))) ≡ true
all_but_the_least_int_are_above_it = refl

all_but_the_greatest_int_are_below_it : holds_of (asks (codes "i") tests.Lt (number (pos 2147483647))) (Some (values.Int (pos 2147483646))) ≡ true
all_but_the_greatest_int_are_below_it = refl

plain_number_at_the_bound : holds_of (asks (codes "i") tests.Le (number (pos 5))) (Some (values.Int (pos 5))) ≡ true
plain_number_at_the_bound = refl

plain_number_at_the_bound_is_not_below : holds_of (asks (codes "i") tests.Lt (number (pos 5))) (Some (values.Int (pos 5))) ≡ false
plain_number_at_the_bound_is_not_below = refl

equal_plain_number : holds_of (asks (codes "i") tests.Eq (number (negsuc 6))) (Some (values.Int (negsuc 6))) ≡ true
equal_plain_number = refl

other_plain_number : holds_of (asks (codes "i") tests.Eq (number (negsuc 6))) (Some (values.Int (pos 7))) ≡ false
other_plain_number = refl

missing_plain_number_is_not : holds_of (asks (codes "i") tests.Le (number (pos 2147483647))) (None) ≡ false
missing_plain_number_is_not = refl

least_bigint_is_from_itself : holds_of (asks (codes "b") tests.Ge (number (negsuc 9223372036854775807))) (Some (values.BigInt (negsuc 9223372036854775807))) ≡ true
least_bigint_is_from_itself = refl

nothing_is_below_the_least_bigint : holds_of (asks (codes "b") tests.Lt (number (negsuc 9223372036854775807))) (Some (values.BigInt (negsuc 9223372036854775807))) ≡ false
nothing_is_below_the_least_bigint = refl

nothing_is_above_the_greatest_bigint : holds_of (asks (codes "b") tests.Gt (number (pos 9223372036854775807))) (Some (values.BigInt (pos 9223372036854775807))) ≡ false
nothing_is_above_the_greatest_bigint = refl

all_but_the_greatest_bigint_are_below_it : holds_of (asks (codes "b") tests.Lt (number (pos 9223372036854775807))) (Some (values.BigInt (pos 9223372036854775806))) ≡ true
all_but_the_greatest_bigint_are_below_it = refl

-- texts and uuids without an index, and the key
plain_text_by_its_bytes : holds_of (asks (codes "c") tests.Eq (text (codes "aB"))) (Some (values.Text (codes "aB"))) ≡ true
plain_text_by_its_bytes = refl

plain_text_in_other_case : holds_of (asks (codes "c") tests.Eq (text (codes "aB"))) (Some (values.Text (codes "ab"))) ≡ false
plain_text_in_other_case = refl

missing_plain_text_is_not_empty : holds_of (asks (codes "c") tests.Eq (text [])) None ≡ false
missing_plain_text_is_not_empty = refl

uuid_by_its_bytes : holds_of (asks (codes "u") tests.Eq (literals.Uuid (replicate 16 7))) (Some (values.Uuid (replicate 16 7))) ≡ true
uuid_by_its_bytes = refl

other_uuid : holds_of (asks (codes "u") tests.Eq (literals.Uuid (replicate 16 7))) (Some (values.Uuid (replicate 16 8))) ≡ false
other_uuid = refl

key_by_its_stored_bytes : condition_of searched (asks (codes "k") tests.Eq (number (pos 258))) ≡ OfKey (0 ∷ 0 ∷ 1 ∷ 2 ∷ [])
key_by_its_stored_bytes = refl

-- ---- refusals of a SELECT

abbrev select_of : List Relation → Bool → Select
select_of relations filtering = record { columns = Some (codes "a" ∷ []); table = codes "t"; relations = relations; limit = None; filtering = filtering }

-- the refusal of a SELECT with these relations, and with ALLOW FILTERING or without
abbrev select_refused : List Relation → Bool → Option Refusal
select_refused relations filtering = first_refusal (select_rules (select_of relations filtering) (Some searched))

no_table_to_select_from : first_refusal (select_rules (select_of (asks (codes "x") tests.Eq literals.Null ∷ []) false) None) ≡ Some (4, codes "NoTable t")
no_table_to_select_from = refl

-- the selected columns stand before the WHERE
selected_column_first : first_refusal (select_rules (record (select_of (asks (codes "x") tests.Eq literals.Null ∷ []) false) { columns = Some (codes "a" ∷ codes "y" ∷ []) }) (Some searched)) ≡ Some (6, codes "NoColumn y")
selected_column_first = refl

no_column_to_ask : select_refused (asks (codes "a") tests.Eq literals.Null ∷ asks (codes "x") tests.Eq literals.Null ∷ []) false ≡ Some (6, codes "NoColumn x")
no_column_to_ask = refl

null_to_compare_with : select_refused (asks (codes "a") tests.Gt literals.Null ∷ []) false ≡ Some (8, codes "WrongType a")
null_to_compare_with = refl

pattern_of_a_number : select_refused (asks (codes "n") tests.Like (text (codes "%")) ∷ []) false ≡ Some (8, codes "WrongType n")
pattern_of_a_number = refl

number_beyond_the_type : select_refused (asks (codes "n") tests.Lt (number (pos 2147483648)) ∷ []) false ≡ Some (9, codes "NumberRange n")
number_beyond_the_type = refl

number_of_a_wider_type : select_refused (asks (codes "b") tests.Lt (number (pos 2147483648)) ∷ []) true ≡ None
number_of_a_wider_type = refl

type_before_range : select_refused (asks (codes "n") tests.Lt (number (pos 2147483648)) ∷ asks (codes "a") tests.Eq (number (pos 1)) ∷ []) false ≡ Some (8, codes "WrongType a")
type_before_range = refl

-- the same of a table without indexes, whose key `k` is a text
abbrev text_key_refused : List Relation → Option Refusal
text_key_refused relations = first_refusal (select_rules (select_of relations false) (Some (record searched { columns = (codes "a", types.Text) ∷ (codes "k", types.Text) ∷ []; indexes = [] })))

empty_key_to_compare_with : text_key_refused (asks (codes "k") tests.Gt (text []) ∷ []) ≡ Some (11, codes "KeyEmpty k")
empty_key_to_compare_with = refl

empty_text_of_another_column : text_key_refused (asks (codes "a") tests.Gt (text []) ∷ []) ≡ Some (17, codes "OperatorUnsupported a")
empty_text_of_another_column = refl

text_that_is_too_long : text_key_refused (asks (codes "a") tests.Gt (text (replicate 65536 97)) ∷ []) ≡ Some (12, codes "ValueTooLong a")
text_that_is_too_long = refl

longest_text : text_key_refused (asks (codes "k") tests.Eq (text (replicate 65535 97)) ∷ []) ≡ None
longest_text = refl

text_above : select_refused (asks (codes "a") tests.Gt (text (codes "x")) ∷ []) false ≡ Some (17, codes "OperatorUnsupported a")
text_above = refl

words_are_not_equal : select_refused (asks (codes "w") tests.Eq (text (codes "fox")) ∷ []) false ≡ Some (17, codes "OperatorUnsupported w")
words_are_not_equal = refl

suffix_without_contains : select_refused (asks (codes "a") tests.Like (text (codes "%x")) ∷ []) false ≡ Some (17, codes "OperatorUnsupported a")
suffix_without_contains = refl

inside_without_contains : select_refused (asks (codes "w") tests.Like (text (codes "%x%")) ∷ []) false ≡ Some (17, codes "OperatorUnsupported w")
inside_without_contains = refl

prefix_of_a_word_that_is_contained : select_refused (asks (codes "v") tests.Like (text (codes "x%")) ∷ []) false ≡ Some (17, codes "OperatorUnsupported v")
prefix_of_a_word_that_is_contained = refl

pattern_without_index : select_refused (asks (codes "c") tests.Like (text (codes "x")) ∷ []) false ≡ Some (17, codes "OperatorUnsupported c")
pattern_without_index = refl

empty_pattern_without_index : select_refused (asks (codes "c") tests.Like (text (codes "%")) ∷ []) false ≡ Some (17, codes "OperatorUnsupported c")
empty_pattern_without_index = refl

uuid_above : select_refused (asks (codes "u") tests.Ge (literals.Uuid (replicate 16 7)) ∷ []) true ≡ Some (17, codes "OperatorUnsupported u")
uuid_above = refl

key_above : select_refused (asks (codes "k") tests.Ge (number (pos 1)) ∷ []) false ≡ Some (17, codes "OperatorUnsupported k")
key_above = refl

-- the first in the text of two
first_unsupported : select_refused (asks (codes "c") tests.Lt (text (codes "x")) ∷ asks (codes "a") tests.Lt (text (codes "x")) ∷ []) false ≡ Some (17, codes "OperatorUnsupported c")
first_unsupported = refl

operator_before_pattern : select_refused (asks (codes "a") tests.Like (text (codes "%%")) ∷ asks (codes "c") tests.Lt (text (codes "x")) ∷ []) false ≡ Some (17, codes "OperatorUnsupported c")
operator_before_pattern = refl

pattern_without_body : select_refused (asks (codes "s") tests.Like (text (codes "%%")) ∷ []) false ≡ Some (18, codes "LikeEmpty s")
pattern_without_body = refl

pattern_of_no_text : select_refused (asks (codes "a") tests.Like (text []) ∷ []) false ≡ Some (18, codes "LikeEmpty a")
pattern_of_no_text = refl

-- three signs have a body of one
pattern_of_one_sign : select_refused (asks (codes "s") tests.Like (text (codes "%%%")) ∷ []) false ≡ None
pattern_of_one_sign = refl

pattern_without_word : HasWords (codes "--") [] → select_refused (asks (codes "w") tests.Like (text (codes "--%")) ∷ []) false ≡ Some (18, codes "LikeEmpty w")
pattern_without_word body = rw body refl

pattern_before_filtering : select_refused (asks (codes "c") tests.Eq (text (codes "x")) ∷ asks (codes "a") tests.Like (text (codes "%")) ∷ []) false ≡ Some (18, codes "LikeEmpty a")
pattern_before_filtering = refl

column_without_index : select_refused (asks (codes "c") tests.Eq (text (codes "x")) ∷ []) false ≡ Some (19, codes "NeedsFiltering")
column_without_index = refl

column_without_index_filtered : select_refused (asks (codes "c") tests.Eq (text (codes "x")) ∷ []) true ≡ None
column_without_index_filtered = refl

two_relations : select_refused (asks (codes "a") tests.Eq (text (codes "x")) ∷ asks (codes "k") tests.Eq (number (pos 1)) ∷ []) false ≡ Some (19, codes "NeedsFiltering")
two_relations = refl

two_relations_filtered : select_refused (asks (codes "a") tests.Eq (text (codes "x")) ∷ asks (codes "k") tests.Eq (number (pos 1)) ∷ []) true ≡ None
two_relations_filtered = refl

one_relation_with_index : select_refused (asks (codes "a") tests.Eq (text (codes "x")) ∷ []) false ≡ None
one_relation_with_index = refl

one_relation_on_the_key : select_refused (asks (codes "k") tests.Eq (number (pos 1)) ∷ []) false ≡ None
one_relation_on_the_key = refl

no_relation : select_refused [] false ≡ None
no_relation = refl

thirty_two_relations : select_refused (replicate 32 (asks (codes "k") tests.Eq (number (pos 1)))) true ≡ None
thirty_two_relations = refl

thirty_three_relations : select_refused (replicate 33 (asks (codes "k") tests.Eq (number (pos 1)))) true ≡ Some (24, codes "TooMany relations 32")
thirty_three_relations = refl

filtering_before_too_many : select_refused (replicate 33 (asks (codes "k") tests.Eq (number (pos 1)))) false ≡ Some (19, codes "NeedsFiltering")
filtering_before_too_many = refl

-- ---- LIMIT

-- the refusal of a SELECT with this LIMIT behind these relations
abbrev limit_refused : Number → List Relation → Option Refusal
limit_refused rows relations = first_refusal (select_rules (record (select_of relations false) { limit = Some rows }) (Some searched))

one_row : limit_refused (Fits (pos 1)) [] ≡ None
one_row = refl

most_rows : limit_refused (Fits (pos 2147483647)) [] ≡ None
most_rows = refl

no_rows : limit_refused (Fits (pos 0)) [] ≡ Some (9, codes "NumberRange LIMIT")
no_rows = refl

less_than_no_rows : limit_refused (Fits (negsuc 0)) [] ≡ Some (9, codes "NumberRange LIMIT")
less_than_no_rows = refl

too_many_rows : limit_refused (Fits (pos 2147483648)) [] ≡ Some (9, codes "NumberRange LIMIT")
too_many_rows = refl

wide_limit : limit_refused Wide [] ≡ Some (9, codes "NumberRange LIMIT")
wide_limit = refl

-- a number of the WHERE stands before it in the text
number_before_limit : limit_refused (Fits (pos 0)) (asks (codes "n") tests.Lt (number (pos 2147483648)) ∷ []) ≡ Some (9, codes "NumberRange n")
number_before_limit = refl

type_before_limit : limit_refused (Fits (pos 0)) (asks (codes "a") tests.Eq (number (pos 1)) ∷ []) ≡ Some (8, codes "WrongType a")
type_before_limit = refl

limit_before_operator : limit_refused (Fits (pos 0)) (asks (codes "a") tests.Gt (text (codes "x")) ∷ []) ≡ Some (9, codes "NumberRange LIMIT")
limit_before_operator = refl

limit_before_filtering : limit_refused (Fits (pos 0)) (asks (codes "c") tests.Eq (text (codes "x")) ∷ []) ≡ Some (9, codes "NumberRange LIMIT")
limit_before_filtering = refl

limit_is_not_the_tables : first_refusal (select_rules (record (select_of [] false) { limit = Some Wide }) None) ≡ Some (4, codes "NoTable t")
limit_is_not_the_tables = refl

limit_of_rows : row_limit (Some (Fits (pos 3))) ≡ Some 3
limit_of_rows = refl

without_limit : row_limit None ≡ None
without_limit = refl

fewer_rows : limited {A = ℕ} (Some 2) (1 ∷ 2 ∷ 3 ∷ []) ≡ 1 ∷ 2 ∷ []
fewer_rows = refl

as_many_rows : limited {A = ℕ} (Some 3) (1 ∷ 2 ∷ 3 ∷ []) ≡ 1 ∷ 2 ∷ 3 ∷ []
as_many_rows = refl

more_rows : limited {A = ℕ} (Some 4) (1 ∷ 2 ∷ 3 ∷ []) ≡ 1 ∷ 2 ∷ 3 ∷ []
more_rows = refl

all_rows : limited {A = ℕ} None (1 ∷ 2 ∷ 3 ∷ []) ≡ 1 ∷ 2 ∷ 3 ∷ []
all_rows = refl
