-- Laws of checks by rules: one check after another, and a fault that is handed on.
use Rattle.std.specs.Prelude.{◌≡◌, List, [], ◌∷◌, ◌++◌, true, false, if◌then◌else◌, Option, None, Some, Result, Ok, Err}
use Rattle.std.specs.Result.{IsErrAnd}
use Rattle.std.proofs.Common.{refl, ◌∙◌}
use Rattle.sasi_model.specs.Refusals.{Refusal, RefusalRule}
use Rattle.sasi_model.specs.Abbreviations.{first_refusal}
use Rattle.sasi_schema.specs.Answers.{Answers, IsFirstRefusal}

-- ---- the rules of one check, and then those of another

pub first_behind : (a b : List RefusalRule) → first_refusal a ≡ None → first_refusal (a ++ b) ≡ first_refusal b
first_behind [] b none = refl
first_behind (rule ∷ a) b none =
    elim rule.0 as (λ t. (if t then Some rule.1 else first_refusal a) ≡ None → (if t then Some rule.1 else first_refusal (a ++ b)) ≡ first_refusal b) [
      | true ↦ λ e. cc
      | false ↦ λ e. first_behind a b e
    ] none

pub first_before : (a b : List RefusalRule) (refusal : Refusal) → first_refusal a ≡ Some refusal → first_refusal (a ++ b) ≡ Some refusal
first_before [] b refusal is = cc
first_before (rule ∷ a) b refusal is =
    elim rule.0 as (λ t. (if t then Some rule.1 else first_refusal a) ≡ Some refusal → (if t then Some rule.1 else first_refusal (a ++ b)) ≡ Some refusal) [
      | true ↦ λ e. e
      | false ↦ λ e. first_before a b refusal e
    ] is

-- what the first check refuses
pub refused_before : (refusal_of_fault : Option Refusal) (a b : List RefusalRule) → IsFirstRefusal refusal_of_fault a → IsFirstRefusal refusal_of_fault (a ++ b)
refused_before None a b is = tt
refused_before (Some refusal) a b is = first_before a b refusal is

-- where it passes, the other decides
pub answers_behind : {A F : Type 0} (refusal_of_fault : F → Option Refusal) (a b : List RefusalRule) (result : Result A F) → first_refusal a ≡ None → Answers refusal_of_fault b result → Answers refusal_of_fault (a ++ b) result
answers_behind refusal_of_fault a b (Ok x) none is = first_behind a b none ∙ is
answers_behind refusal_of_fault a b (Err fault) none is = by (refusal_of_fault fault) is
  where
    by : (refusal : Option Refusal) → IsFirstRefusal refusal b → IsFirstRefusal refusal (a ++ b)
    by None is = tt
    by (Some refusal) is = first_behind a b none ∙ is

-- a fault that is passed on
pub answers_exit : {A F : Type 0} (refusal_of_fault : F → Option Refusal) (rules : List RefusalRule) (result : Result A F) (fault : F) → IsErrAnd result
    (λ e. e ≡ fault) → IsFirstRefusal (refusal_of_fault fault) rules → Answers refusal_of_fault rules result
answers_exit refusal_of_fault rules (Ok x) fault is passed = absurd is
answers_exit refusal_of_fault rules (Err e) fault is passed = rw is passed

-- ---- rules of which none applies

pub none_first : (rule : RefusalRule) (rules : List RefusalRule) → first_refusal (rule ∷ rules) ≡ None → (rule.0 ≡ false) × (first_refusal rules ≡ None)
none_first rule rules none =
    elim rule.0 as (λ t. (if t then Some rule.1 else first_refusal rules) ≡ None → (t ≡ false) × (first_refusal rules ≡ None)) [
      | true ↦ λ e. cc
      | false ↦ λ e. (refl, e)
    ] none

pub none_parts : (a b : List RefusalRule) → first_refusal (a ++ b) ≡ None → (first_refusal a ≡ None) × (first_refusal b ≡ None)
none_parts [] b none = (refl, none)
none_parts (rule ∷ a) b none =
    elim rule.0 as (λ t. (if t then Some rule.1 else first_refusal (a ++ b)) ≡ None → ((if t then Some rule.1 else first_refusal a) ≡ None) × (first_refusal b ≡ None)) [
      | true ↦ λ e. cc
      | false ↦ λ e. none_parts a b e
    ] none
