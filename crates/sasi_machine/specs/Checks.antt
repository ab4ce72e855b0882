-- The rules of writes and of SELECTs, by the checks that try them. In those of writes the time comes last.
use Rattle.std.specs.Prelude.{◌≡◌, ℕ, ◌<◌, ◌≤◌, Bool, not, ◌&&◌, ◌||◌, nat_le, List, [], ◌∷◌, ◌++◌, length, Option, Some}
use Rattle.std.specs.List.{list_any}
use Rattle.sasi_types.specs.declared.literal.Literal.{Literal}
use Rattle.sasi_types.specs.declared.literal.Number.{Number}
use Rattle.sasi_types.specs.declared.relation.Relation.{Relation}
use Rattle.sasi_model.specs.State.{Definition}
use Rattle.sasi_model.specs.Refusals.{RefusalRule, each, is_column, is_filtered, is_key, key_empty, limit_range, number_range, operand_rules, relation_rules, search_rules, time_rules, value_too_long, wrong_type, wrong_where}
use Rattle.sasi_model.specs.Abbreviations.{KeyMissing, NeedsFiltering, TIME_LIMIT, gives_key, key_name}
use Rattle.sasi_model.specs.Step.{timestamp}
use Rattle.sasi_machine.specs.declared.relation.KeyRelation.{KeyRelation}

-- the timestamp of a write, where this is the largest of the state
pub record IsTimeOf (max_timestamp : ℕ) (given : Option Number) (time : ℕ) : Type 0 where
  pub is : timestamp max_timestamp given ≡ Some time
  pub above : 0 < time
  pub limit : time ≤ TIME_LIMIT

-- ---- INSERT

abbrev pub missing_rule : Definition → List (List ℕ × Literal) → RefusalRule
missing_rule d given = (not (gives_key d given), KeyMissing (key_name d))

abbrev pub given_key_rules : Definition → ℕ → List (List ℕ × Literal) → Option Number → List RefusalRule
given_key_rules d max_timestamp given time = missing_rule d given ∷ (each (key_empty d) given ++ (each (value_too_long d) given ++ time_rules max_timestamp time))

abbrev pub given_rules : Definition → ℕ → List (List ℕ × Literal) → Option Number → List RefusalRule
given_rules d max_timestamp given time = each (wrong_type d) given ++ (each (number_range d) given ++ given_key_rules d max_timestamp given time)

-- ---- UPDATE and DELETE

abbrev pub other_key_rule : Definition → List ℕ → RefusalRule
other_key_rule d key = (is_column d key && not (is_key d key), KeyMissing (key_name d))

abbrev pub length_rules : Definition → ℕ → List (List ℕ × Literal) → KeyRelation → Option Number → List RefusalRule
length_rules d max_timestamp sets relation time = each (value_too_long d) sets ++ value_too_long d relation.column relation.value ∷ time_rules max_timestamp time

abbrev pub where_rules : Definition → ℕ → List (List ℕ × Literal) → KeyRelation → Option Number → List RefusalRule
where_rules d max_timestamp sets relation time = other_key_rule d relation.column ∷ key_empty d relation.column relation.value ∷ length_rules d max_timestamp sets relation time

abbrev pub range_rules : Definition → ℕ → List (List ℕ × Literal) → KeyRelation → Option Number → List RefusalRule
range_rules d max_timestamp sets relation time = each (number_range d) sets ++ number_range d relation.column relation.value ∷ where_rules d max_timestamp sets relation time

abbrev pub kind_rules : Definition → ℕ → List (List ℕ × Literal) → KeyRelation → Option Number → List RefusalRule
kind_rules d max_timestamp sets relation time = each (wrong_type d) sets ++ wrong_where d relation.column relation.value ∷ range_rules d max_timestamp sets relation time

-- ---- SELECT

-- what several relations and those on other columns need
abbrev pub filtering_rules : Definition → Bool → List Relation → List RefusalRule
filtering_rules d filtering relations = (not filtering && (nat_le 2 (length relations) || list_any (is_filtered d) relations), NeedsFiltering) ∷ []

abbrev pub after_limit_rules : Definition → Bool → List Relation → List RefusalRule
after_limit_rules d filtering relations = relation_rules search_rules d relations ++ filtering_rules d filtering relations

abbrev pub after_operands_rules : Definition → Option Number → Bool → List Relation → List RefusalRule
after_operands_rules d limit filtering relations = limit_range limit ∷ after_limit_rules d filtering relations

abbrev pub after_columns_rules : Definition → Option Number → Bool → List Relation → List RefusalRule
after_columns_rules d limit filtering relations = relation_rules operand_rules d relations ++ after_operands_rules d limit filtering relations
