-- What is known of the relations of a SELECT that isn't refused.
use Rattle.std.proofs.Common.{◌≡◌, ℕ, suc, ◌==◌, nat_lt, Bool, true, false, not, ◌&&◌, ◌||◌, if◌then◌else◌, List, [], ◌∷◌, map, Option, None, Some, unwrap_or, refl, sym, ap, ◌∙◌, arith}
use Rattle.std.specs.Prelude.{pos, negsuc}
use Rattle.std.proofs.lemmas.Bool.Decides.{nat_tests}
use Rattle.std.specs.List.{AllByRecursion}
use Rattle.std.specs.Option.{option_map}
use Rattle.sasi_types.specs.declared.column.ColumnType.{ColumnType}
use Rattle.sasi_types.specs.declared.column.ColumnType.TheVariants as types
use Rattle.sasi_types.specs.declared.literal.Literal.{Literal}
use Rattle.sasi_types.specs.declared.literal.Literal.TheVariants as literals
use Rattle.sasi_types.specs.declared.literal.Number.{Number}
use Rattle.sasi_types.specs.declared.literal.Number.TheVariants.{Fits, Wide}
use Rattle.sasi_types.specs.declared.relation.Relation.{Relation}
use Rattle.sasi_types.specs.declared.relation.Test.TheVariants.{Like}
use Rattle.sasi_types.specs.declared.statement.Select.{Select}
use Rattle.sasi_model.specs.Abbreviations.{column_at, first_refusal, key_name, name_or_none}
use Rattle.sasi_model.specs.Refusals.{RefusalRule, is_key, is_null, is_of, is_within, key_empty, like_empty, limit_range, no_column, number_range, operand_rules, operator_unsupported, relation_rules, search_rules, tests_number, answer_rules, too_many_relations, type_of_column, value_too_long, wrong_where}
use Rattle.sasi_model.specs.Relations.{asks_nothing, is_empty_like, rule_on}
use Rattle.sasi_model.specs.State.{Definition, number_at, number_of_column, position_in}
use Rattle.sasi_model.specs.Tokens.{same}
use Rattle.sasi_model.specs.WellFormed.{IsWellFormedRelation}
use Rattle.sasi_schema.proofs.Keys.{is_key_by_name}
use Rattle.sasi_schema.proofs.Positions.{position_named}
use Rattle.sasi_schema.proofs.RuleLaws.{none_first, none_parts}
use Rattle.sasi_schema.specs.Numbers.{IsKeyAt}
use Rattle.sasi_machine.specs.Checks.{after_columns_rules, after_limit_rules, after_operands_rules, filtering_rules}
use Rattle.sasi_machine.specs.KeyLiteral.{IsKeyLiteral}
use Rattle.sasi_machine.specs.Operands.{CanAsk, CanSearch, CanSelect, IsOperand}

-- ---- each rule passes each relation

-- a rule that passes all relations passes the first, and the others
passes : (rule : Relation → RefusalRule) (r : Relation) (rs : List Relation) → first_refusal (map rule (r ∷ rs)) ≡ None → ((rule r).0 ≡ false) × (first_refusal (map rule rs) ≡ None)
passes rule r rs none = none_first (rule r) (map rule rs) none

record AllPass (d : Definition) (rs : List Relation) : Type 0 where
  column : first_refusal (map (λ r. no_column d r.column) rs) ≡ None
  typed : first_refusal (map (λ r. wrong_where d r.column r.value) rs) ≡ None
  ranged : first_refusal (map (λ r. number_range d r.column r.value) rs) ≡ None
  some : first_refusal (map (λ r. key_empty d r.column r.value) rs) ≡ None
  short : first_refusal (map (λ r. value_too_long d r.column r.value) rs) ≡ None
  takes : first_refusal (map (operator_unsupported d) rs) ≡ None
  asks : first_refusal (map (like_empty d) rs) ≡ None

all_pass : (d : Definition) (rs : List Relation) → first_refusal (relation_rules operand_rules d rs) ≡ None → first_refusal (relation_rules search_rules d rs) ≡ None → AllPass d rs
all_pass d rs operands searches =
    let one = none_parts (map (λ r. no_column d r.column) rs) _ operands in
    let two = none_parts (map (λ r. wrong_where d r.column r.value) rs) _ one.1 in
    let three = none_parts (map (λ r. number_range d r.column r.value) rs) _ two.1 in
    let four = none_parts (map (λ r. key_empty d r.column r.value) rs) _ searches in
    let five = none_parts (map (λ r. value_too_long d r.column r.value) rs) _ four.1 in
    let six = none_parts (map (operator_unsupported d) rs) _ five.1 in
    let seven = none_parts (map (like_empty d) rs) _ six.1 in
    record { column = one.0; typed = two.0; ranged = three.0; some = four.0; short = five.0; takes = six.0; asks = seven.0 }

each_can : (d : Definition) (rs : List Relation) → AllByRecursion IsWellFormedRelation rs → AllPass d rs → AllByRecursion (CanAsk d) rs
each_can d [] written pass = tt
each_can d (r ∷ rs) written pass =
    let column = passes (λ r. no_column d r.column) r rs pass.column in
    let typed = passes (λ r. wrong_where d r.column r.value) r rs pass.typed in
    let ranged = passes (λ r. number_range d r.column r.value) r rs pass.ranged in
    let some = passes (λ r. key_empty d r.column r.value) r rs pass.some in
    let short = passes (λ r. value_too_long d r.column r.value) r rs pass.short in
    let takes = passes (operator_unsupported d) r rs pass.takes in
    let asks = passes (like_empty d) r rs pass.asks in (
      record { written = written.0; column = column.0; typed = typed.0; ranged = ranged.0; some = some.0; short = short.0; takes = takes.0; asks = asks.0 },
      each_can d rs written.1 (record { column = column.1; typed = typed.1; ranged = ranged.1; some = some.1; short = short.1; takes = takes.1; asks = asks.1 }),
    )

module _ (d : Definition) (select : Select) (can : CanSelect d select) where
  -- the rules before that of the number of relations pass
  answer_taken : first_refusal (answer_rules select (Some d)) ≡ None
  answer_taken = (none_parts (answer_rules select (Some d)) (too_many_relations select ∷ []) can.taken).0

  -- the rules behind those of its columns pass
  columns_behind : first_refusal (after_columns_rules d select.limit select.filtering select.relations) ≡ None
  columns_behind = (none_parts (map (no_column d) (unwrap_or select.columns [])) _ answer_taken).1

  operands_behind : first_refusal (after_operands_rules d select.limit select.filtering select.relations) ≡ None
  operands_behind = (none_parts (relation_rules operand_rules d select.relations) _ columns_behind).1

  -- **No rule refuses a relation of a SELECT that isn't refused.**
  pub can_ask : AllByRecursion (CanAsk d) select.relations
  can_ask =
      let operands = none_parts (relation_rules operand_rules d select.relations) _ columns_behind in
      let limit = none_first (limit_range select.limit) (after_limit_rules d select.filtering select.relations) operands_behind in
      let searches = none_parts (relation_rules search_rules d select.relations) (filtering_rules d select.filtering select.relations) limit.1 in
      each_can d select.relations can.written.2 (all_pass d select.relations operands.0 searches.0)

  -- **Nor its LIMIT.**
  pub limit_within : (limit_range select.limit).0 ≡ false
  limit_within = (none_first (limit_range select.limit) (after_limit_rules d select.filtering select.relations) operands_behind).0

-- ---- the literal

or_false : (a b : Bool) → (a || b) ≡ false → (a ≡ false) × (b ≡ false)
or_false false b e = (refl, e)
or_false true b e = cc

not_false : (a : Bool) → not a ≡ false → a ≡ true
not_false true e = refl
not_false false e = cc

and_other : (a b : Bool) → (a && b) ≡ false → a ≡ true → b ≡ false
and_other true b e is = e
and_other false b e is = cc

pub operand : (d : Definition) (r : Relation) (type : ColumnType) → CanAsk d r → type_of_column d r.column ≡ Some type → IsOperand type r.value
operand d r type can typed =
    let wrong = or_false (not (is_of type r.value)) (is_null r.value) (rw typed at can.typed) in
    record { typed = not_false (is_of type r.value) wrong.0; there = wrong.1; within = rw typed at can.ranged }

-- ---- the key

-- the key alone has the number 0
at_zero : (key p : ℕ) → number_at key p ≡ 0 → p ≡ key
at_zero key p is = by (p == key) refl (nat_lt p key) refl is
  where
    by : (b : Bool) → (p == key) ≡ b → (c : Bool) → nat_lt p key ≡ c → (if b then 0 else if c then suc p else p) ≡ 0 → p ≡ key
    by true same c test is = grind (arith, nat_tests)
    by false other true test is = absurd (omega arith)
    by false other false test is = grind (arith, nat_tests)

zero_named : (d : Definition) (name : List ℕ) (position : Option ℕ) → position_in name d.columns ≡ position → option_map (number_at d.key) position ≡ Some 0 → key_name d ≡ name
zero_named d name None found is = cc
zero_named d name (Some p) found is =
    let here : p ≡ d.key = at_zero d.key p (let e : number_at d.key p ≡ 0 = cc in e) in
    ap (λ (n : ℕ). name_or_none (column_at n d.columns)) (sym here) ∙ position_named name d.columns p found

same_itself : (name : List ℕ) → same name name ≡ true
same_itself [] = refl
same_itself (b ∷ bs) = rw (same_itself bs) (grind (arith, nat_tests))

pub zero_is_key : (d : Definition) (name : List ℕ) → IsKeyAt d.key d.columns → number_of_column d name ≡ Some 0 → is_key d name ≡ true
zero_is_key d name at is = sym (is_key_by_name d name at) ∙ ap (same name) (zero_named d name (position_in name d.columns) refl is) ∙ same_itself name

pub key_operand : (d : Definition) (r : Relation) (type : ColumnType) → IsKeyAt d.key d.columns → CanAsk d r → number_of_column d r.column ≡ Some 0 → type_of_column d r.column ≡ Some type → IsKeyLiteral type r.value
key_operand d r type at can number typed =
    let value = operand d r type can typed in
    record {
      typed = value.typed;
      there = value.there;
      within = value.within;
      some = and_other (is_key d r.column) _ (rw typed at can.some) (zero_is_key d r.column at number);
      short = rw typed at can.short;
    }

-- ---- a column with an index

pub can_search : (d : Definition) (r : Relation) (number : ℕ) → CanAsk d r → number_of_column d r.column ≡ Some number → CanSearch (rule_on d number) r.test r.value
can_search d r number can found = by r.value refl
  where
    asks : (text : List ℕ) → r.value ≡ literals.Text text → r.test ≡ Like → asks_nothing (rule_on d number) text ≡ false
    asks text is like =
        let empty : tests_number (λ number. is_empty_like d number r.test r.value) (number_of_column d r.column) ≡ false = can.asks in
        let there : is_empty_like d number r.test r.value ≡ false = rw found at empty in
        rw (like, is) at there

    by : (value : Literal) → r.value ≡ value → CanSearch (rule_on d number) r.test value
    by (literals.Text text) is = (rw is at can.written.1, asks text is)
    by (literals.Number number) is = tt
    by (literals.Uuid bytes) is = tt
    by literals.Null is = tt

-- ---- numbers

wider : (number : Number) → is_within 31 number ≡ true → is_within 63 number ≡ true
wider (Fits (pos n)) is = grind (arith, nat_tests)
wider (Fits (negsuc n)) is = grind (arith, nat_tests)
wider Wide is = cc

-- a number of a type has 64 bits
pub number_within : (type : ColumnType) (number : Number) → IsOperand type (literals.Number number) → is_within 63 number ≡ true
number_within types.Int number is = wider number (not_false (is_within 31 number) is.within)
number_within types.BigInt number is = not_false (is_within 63 number) is.within
number_within types.Text number is = let e = is.typed in cc
number_within types.Uuid number is = let e = is.typed in cc
