-- The rules of a write to a table that has its key column.
use Rattle.std.proofs.Common.{◌≡◌, ℕ, not, ◌&&◌, List, [], ◌∷◌, ◌++◌, map, Option, Some, Result, sym, ap, subst}
use Rattle.sasi_types.specs.declared.literal.Literal.{Literal}
use Rattle.sasi_types.specs.declared.literal.Number.{Number}
use Rattle.sasi_model.specs.State.{Definition}
use Rattle.sasi_model.specs.Refusals.{Refusal, RefusalRule, delete_rules, each, insert_rules, is_column, is_key, key_empty, no_column, no_regular_column, number_range, repeat_rules, time_rules, update_rules, value_too_long, wrong_type, wrong_where}
use Rattle.sasi_model.specs.Abbreviations.{gives_key}
use Rattle.sasi_schema.specs.Answers.{Answers}
use Rattle.sasi_schema.specs.Numbers.{IsKeyAt}
use Rattle.sasi_schema.proofs.Keys.{key_missing_is}
use Rattle.sasi_machine.specs.declared.relation.KeyRelation.{KeyRelation}
use Rattle.sasi_machine.specs.Checks.{given_rules, kind_rules, length_rules}

pub insert_rules_are : (d : Definition) (g : ℕ) (table : List ℕ) (columns : List (List ℕ)) (given : List (List ℕ × Literal)) (time : Option Number)
    → IsKeyAt d.key d.columns → insert_rules g table columns given time (Some d) ≡ map (no_column d) columns ++ (repeat_rules [] columns ++ given_rules d g given time)
insert_rules_are d g table columns given time at =
    let rest = each (key_empty d) given ++ (each (value_too_long d) given ++ time_rules g time) in
    ap (λ (missing : List RefusalRule). map (no_column d) columns ++ (repeat_rules [] columns ++ (each (wrong_type d) given ++ (each (number_range d) given ++ (missing ++ rest)))))
    (key_missing_is d (not (gives_key d given)) at)

pub update_rules_are : (d : Definition) (g : ℕ) (table : List ℕ) (sets : List (List ℕ × Literal)) (relation : KeyRelation) (time : Option Number)
    → IsKeyAt d.key d.columns → update_rules g table sets relation.column relation.value time (Some d)
    ≡ map (λ set. no_regular_column d set.0) sets ++ no_column d relation.column ∷ (repeat_rules [] (map (λ set. set.0) sets) ++ kind_rules d g sets relation time)
update_rules_are d g table sets relation time at =
    let rest = key_empty d relation.column relation.value ∷ length_rules d g sets relation time in
    ap (λ (other : List RefusalRule). map (λ set. no_regular_column d set.0) sets ++ no_column d relation.column ∷ (repeat_rules [] (map (λ set. set.0) sets)
    ++ (each (wrong_type d) sets ++ wrong_where d relation.column relation.value ∷ (each (number_range d) sets ++ number_range d relation.column relation.value ∷ (other ++ rest)))))
    (key_missing_is d (is_column d relation.column && not (is_key d relation.column)) at)

pub delete_rules_are : (d : Definition) (g : ℕ) (table : List ℕ) (columns : List (List ℕ)) (relation : KeyRelation) (time : Option Number)
    → IsKeyAt d.key d.columns → delete_rules g table columns relation.column relation.value time (Some d)
    ≡ map (no_regular_column d) columns ++ no_column d relation.column ∷ (repeat_rules [] columns ++ kind_rules d g [] relation time)
delete_rules_are d g table columns relation time at =
    let rest = key_empty d relation.column relation.value ∷ length_rules d g [] relation time in
    ap (λ (other : List RefusalRule). map (no_regular_column d) columns ++ no_column d relation.column ∷ (repeat_rules [] columns
    ++ wrong_where d relation.column relation.value ∷ number_range d relation.column relation.value ∷ (other ++ rest)))
    (key_missing_is d (is_column d relation.column && not (is_key d relation.column)) at)

-- ---- what a check of them answers

pub insert_answers : {A F : Type 0} (refusal_of : F → Option Refusal) (result : Result A F) (d : Definition) (g : ℕ) (table : List ℕ) (columns : List (List ℕ))
    (given : List (List ℕ × Literal)) (time : Option Number) → IsKeyAt d.key d.columns
    → Answers refusal_of (map (no_column d) columns ++ (repeat_rules [] columns ++ given_rules d g given time)) result
    → Answers refusal_of (insert_rules g table columns given time (Some d)) result
insert_answers refusal_of result d g table columns given time at answers =
    subst (λ (rules : List RefusalRule). Answers refusal_of rules result) (sym (insert_rules_are d g table columns given time at)) answers

pub update_answers : {A F : Type 0} (refusal_of : F → Option Refusal) (result : Result A F) (d : Definition) (g : ℕ) (table : List ℕ)
    (sets : List (List ℕ × Literal)) (relation : KeyRelation) (time : Option Number) → IsKeyAt d.key d.columns
    → Answers refusal_of (map (λ set. no_regular_column d set.0) sets ++ no_column d relation.column ∷ (repeat_rules [] (map (λ set. set.0) sets) ++ kind_rules d g sets relation time)) result
    → Answers refusal_of (update_rules g table sets relation.column relation.value time (Some d)) result
update_answers refusal_of result d g table sets relation time at answers =
    subst (λ (rules : List RefusalRule). Answers refusal_of rules result) (sym (update_rules_are d g table sets relation time at)) answers

pub delete_answers : {A F : Type 0} (refusal_of : F → Option Refusal) (result : Result A F) (d : Definition) (g : ℕ) (table : List ℕ)
    (columns : List (List ℕ)) (relation : KeyRelation) (time : Option Number) → IsKeyAt d.key d.columns
    → Answers refusal_of (map (no_regular_column d) columns ++ no_column d relation.column ∷ (repeat_rules [] columns ++ kind_rules d g [] relation time)) result
    → Answers refusal_of (delete_rules g table columns relation.column relation.value time (Some d)) result
delete_answers refusal_of result d g table columns relation time at answers =
    subst (λ (rules : List RefusalRule). Answers refusal_of rules result) (sym (delete_rules_are d g table columns relation time at)) answers
