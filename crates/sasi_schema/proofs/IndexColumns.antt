-- The column of an index that no rule refuses.
use Rattle.std.proofs.Common.{◌≡◌, ℕ, zero, suc, ◌-◌, ◌<◌, ◌≤◌, ◌==◌, nat_lt, Bool, true, false, not, ◌&&◌, ◌||◌, if◌then◌else◌, List, [], ◌∷◌, ◌++◌, codes, length, map, take, drop, slice_get, Option, None, Some, is_some, unwrap_or, refl, sym, ap, ◌∙◌, subst, arith}
use Rattle.std.specs.List.{list_any, remove}
use Rattle.std.specs.Option.{option_and_then, option_map}
use Rattle.std.specs.Cmp.Lexicographic.{same_text}
use Rattle.std.proofs.Math.Seq.{take-nil}
use Rattle.std.proofs.lemmas.Bool.Decides.{nat_tests}
use Rattle.std.proofs.lemmas.Option.{slice_get-map}
use Rattle.sasi_types.specs.declared.class.Class.{Class}
use Rattle.sasi_types.specs.declared.column.ColumnType.{ColumnType}
use Rattle.sasi_types.specs.declared.column.ColumnType.TheVariants as types
use Rattle.sasi_model.specs.Abbreviations.{first_refusal, kind_of, types_of}
use Rattle.sasi_model.specs.Indexes.{IndexOption, class_given, is_allowed, is_text, option_value, rule_by, rule_given}
use Rattle.sasi_model.specs.Refusals.{index_column_rules, no_column, option_rules, type_of_column}
use Rattle.sasi_model.specs.State.{Column, Definition, number_at, number_of_column, position_in}
use Rattle.sasi_model.specs.Tokens.{same}
use Rattle.sasi_schema.specs.Checks.{column_rules, mode_rules, taken_rules, using_rules}
use Rattle.sasi_schema.specs.Numbers.{IsKeyAt}
use Rattle.sasi_schema.proofs.Keys.{key_below}
use Rattle.sasi_schema.proofs.Positions.{position_below}
use Rattle.sasi_schema.proofs.RuleLaws.{none_first, none_parts}

-- ---- an index of texts has a rule

or_false : (a b : Bool) → (a || not b) ≡ false → b ≡ true
or_false true b e = cc
or_false false true e = refl
or_false false false e = cc

and_second : (a b : Bool) → (a && b) ≡ true → b ≡ true
and_second true b e = e
and_second false b e = cc

-- where the class of analyzer is named and allowed, it is a known one
class_known : (type : ColumnType) (class : Option Class) (before : List (List ℕ)) (options : List IndexOption) → first_refusal (option_rules type class before options) ≡ None
    → is_some (option_value (codes "analyzer_class") options) ≡ true → is_some class ≡ true
class_known type class before [] none named = cc
class_known type class before (option ∷ options) none named =
    let first = none_first (list_any (same option.0) before || not (is_allowed type class option), _) (option_rules type class (before ++ option.0 ∷ []) options) none in
    by (same (codes "analyzer_class") option.0) refl (or_false (list_any (same option.0) before) (is_allowed type class option) first.0)
    (λ named. class_known type class (before ++ option.0 ∷ []) options first.1 named) named
  where
    by : (here : Bool) → same (codes "analyzer_class") option.0 ≡ here → is_allowed type class option ≡ true
        → (is_some (option_value (codes "analyzer_class") options) ≡ true → is_some class ≡ true) → is_some (if here then Some option.1 else option_value (codes "analyzer_class") options) ≡ true → is_some class ≡ true
    by true is allowed rest named =
        let text : codes "analyzer_class" ≡ option.0 = same_text (codes "analyzer_class") option.0 (sym is) in
        and_second (is_text type) (is_some class) (subst (λ (n : List ℕ). is_allowed type class (n, option.1) ≡ true) (sym text) allowed)
    by false is allowed rest named = rest named

class_given_known : (type : ColumnType) (options : List IndexOption) → first_refusal (option_rules type (class_given options) [] options) ≡ None → is_some (class_given options) ≡ true
class_given_known type options none = by (option_value (codes "analyzer_class") options) refl
  where
    by : (value : Option (List ℕ)) → option_value (codes "analyzer_class") options ≡ value → is_some (class_given options) ≡ true
    by None is = rw is refl
    by (Some value) is = class_known type (class_given options) [] options none (ap is_some is)

rule_known : (type : ColumnType) (options : List IndexOption) → first_refusal (option_rules type (class_given options) [] options) ≡ None → is_some (rule_given type options) ≡ is_text type
rule_known types.Text options none = by (class_given options) (class_given_known types.Text options none)
  where
    by : (class : Option Class) → is_some class ≡ true → is_some (option_map (rule_by options) class) ≡ true
    by None is = cc
    by (Some class) is = refl
rule_known types.Int options none = refl
rule_known types.BigInt options none = refl
rule_known types.Uuid options none = refl

-- ---- the column by its number

remove_below : {A : Type 0} (xs : List A) (key p : ℕ) → p < key → slice_get (take key xs ++ drop (suc key) xs) p ≡ slice_get xs p
remove_below {A} [] key p below = subst (λ (l : List A). slice_get (l ++ []) p ≡ None) (sym (take-nil key)) refl
remove_below (x ∷ xs) zero p below = absurd (omega arith)
remove_below (x ∷ xs) (suc key) zero below = refl
remove_below (x ∷ xs) (suc key) (suc p) below = remove_below xs key p (omega arith)

remove_above : {A : Type 0} (xs : List A) (key p : ℕ) → key ≤ p → slice_get (take key xs ++ drop (suc key) xs) p ≡ slice_get xs (suc p)
remove_above {A} [] key p above = subst (λ (l : List A). slice_get (l ++ []) p ≡ None) (sym (take-nil key)) refl
remove_above (x ∷ xs) zero p above = refl
remove_above (x ∷ xs) (suc key) zero above = absurd (omega arith)
remove_above (x ∷ xs) (suc key) (suc p) above = remove_above xs key p (omega arith)

-- the number of a regular column is its position among the types
pub numbered_type : (d : Definition) (position number : ℕ) (column : Column) → slice_get d.columns position ≡ Some column → number_at d.key position ≡ suc number → slice_get (types_of d) (suc number) ≡ Some column.1
numbered_type d p n column got numbered = by (p == d.key) refl (nat_lt p d.key) refl numbered
  where
    seen : slice_get (remove d.columns d.key) n ≡ slice_get d.columns p → slice_get (map (λ column. column.1) (remove d.columns d.key)) n ≡ Some column.1
    seen at = slice_get-map (λ (column : Column). column.1) (remove d.columns d.key) n ∙ ap (option_map (λ (column : Column). column.1)) (at ∙ got)

    by : (b : Bool) → (p == d.key) ≡ b → (c : Bool) → nat_lt p d.key ≡ c → (if b then 0 else if c then suc p else p) ≡ suc n → slice_get (map (λ column. column.1) (remove d.columns d.key)) n ≡ Some column.1
    by true is c test numbered = absurd (omega arith)
    by false other true test numbered =
        let same : n ≡ p = omega arith in
        seen (remove_below d.columns d.key n (grind (arith, nat_tests)) ∙ ap (slice_get d.columns) same)
    by false other false test numbered = seen (remove_above d.columns d.key n (grind (arith, nat_tests)) ∙ ap (slice_get d.columns) (sym numbered))

-- its number is below that of the columns
number_within : (d : Definition) (p n : ℕ) → number_at d.key p ≡ n → p < length d.columns → d.key < length d.columns → n < length d.columns
number_within d p n numbered inside key = by (p == d.key) (nat_lt p d.key) refl numbered
  where
    by : (b c : Bool) → nat_lt p d.key ≡ c → (if b then 0 else if c then suc p else p) ≡ n → n < length d.columns
    by true c test numbered = omega arith
    by false true test numbered = grind (arith, nat_tests)
    by false false test numbered = omega arith

-- ---- both

pub record IsIndexable (d : Definition) (number : ℕ) (type : ColumnType) (options : List IndexOption) : Type 0 where
  pub kind : type ≡ kind_of d number
  pub above : 1 ≤ number
  pub within : number < length d.columns
  pub ruled : is_some (rule_given type options) ≡ is_text type

some_number : (number : ℕ) (b : Bool) → ((number == 0) || b) ≡ false → 1 ≤ number
some_number number b is = by (number == 0) refl is
  where
    by : (test : Bool) → (number == 0) ≡ test → (test || b) ≡ false → 1 ≤ number
    by true test is = cc
    by false test is = grind (arith, nat_tests)

pub indexable : (tables : List Definition) (d : Definition) (name column class : List ℕ) (options : List IndexOption) (number : ℕ) (type : ColumnType) → IsKeyAt d.key d.columns
    → first_refusal (column_rules tables d name column class options) ≡ None → number_of_column d column ≡ Some number → type_of_column d column ≡ Some type → IsIndexable d number type options
indexable tables d name column class options number type key none numbered typed = by (position_in column d.columns) refl numbered typed
  where
    passed : first_refusal (taken_rules tables d name number ++ (using_rules class ++ (option_rules type (class_given options) [] options ++ mode_rules column number type options))) ≡ None
    passed =
        let rest = (none_first (no_column d column) (index_column_rules tables d name column class options (number_of_column d column) (type_of_column d column)) none).1 in
        let at_type = subst (λ (t : Option ColumnType). first_refusal (index_column_rules tables d name column class options (number_of_column d column) t) ≡ None) typed rest in
        subst (λ (n : Option ℕ). first_refusal (index_column_rules tables d name column class options n (Some type)) ≡ None) numbered at_type

    words : (first_refusal (option_rules type (class_given options) [] options) ≡ None) × (first_refusal (mode_rules column number type options) ≡ None)
    words =
        let modes = mode_rules column number type options in
        let allowed = option_rules type (class_given options) [] options in
        let used = none_parts (taken_rules tables d name number) (using_rules class ++ (allowed ++ modes)) passed in
        none_parts allowed modes (none_parts (using_rules class) (allowed ++ modes) used.1).1

    above : 1 ≤ number
    above = some_number number _ (none_first _ [] words.1).0

    kind_is : (p : ℕ) → number_at d.key p ≡ number → option_map (λ column. column.1) (slice_get d.columns p) ≡ Some type → type ≡ kind_of d number
    kind_is p numbered typed = by (slice_get d.columns p) refl typed
      where
        above_zero : number ≡ suc (number - 1)
        above_zero = omega (arith, above)

        by : (found : Option Column) → slice_get d.columns p ≡ found → option_map (λ column. column.1) found ≡ Some type → type ≡ kind_of d number
        by None got typed = cc
        by (Some column) got typed =
            let at = numbered_type d p (number - 1) column got (numbered ∙ above_zero) in
            let is : column.1 ≡ type = cc in
            sym (ap (λ o. unwrap_or o types.Text) (ap (slice_get (types_of d)) above_zero ∙ at) ∙ is)

    by : (position : Option ℕ) → position_in column d.columns ≡ position → option_map (number_at d.key) position ≡ Some number
        → option_and_then (λ p. option_map (λ column. column.1) (slice_get d.columns p)) position ≡ Some type → IsIndexable d number type options
    by None is numbered typed = cc
    by (Some p) is numbered typed =
        let at : number_at d.key p ≡ number = cc in
        record {
          kind = kind_is p at typed;
          above = above;
          within = number_within d p number at (position_below column d.columns p is) (key_below d.key d.columns key);
          ruled = rule_known type options words.0;
        }
