-- Checks one after another: each lemma is about a check of the rules `a`, and what comes after it.
use Rattle.std.proofs.Common.{◌≡◌, ◌++◌, ◌∷◌, List, [], Option, None, subst}
use Rattle.std.specs.Prelude.{Result}
use Rattle.std.specs.Result.{IsErrAnd}
use Rattle.std.proofs.lemmas.List.{append_assoc}
use Rattle.sasi_model.specs.Refusals.{Refusal, RefusalRule}
use Rattle.sasi_model.specs.Abbreviations.{first_refusal}
use Rattle.sasi_schema.specs.Answers.{Answers, IsFirstRefusal}
use Rattle.sasi_schema.proofs.RuleLaws.{refused_before, answers_behind, answers_exit}

-- the first check fails
pub fails : {A F : Type 0} (refusal_of_fault : F → Option Refusal) (a b : List RefusalRule) (result : Result A F) (fault : F) → IsErrAnd result (λ e. e ≡ fault) → IsFirstRefusal (refusal_of_fault fault) a → Answers refusal_of_fault (a ++ b) result
fails refusal_of_fault a b result fault is failed = answers_exit refusal_of_fault (a ++ b) result fault is (refused_before (refusal_of_fault fault) a b failed)

-- the first check is of the rules `a` and one more, and fails
pub pair_fails : {A F : Type 0} (refusal_of_fault : F → Option Refusal) (a : List RefusalRule) (rule : RefusalRule) (b : List RefusalRule) (result : Result A F) (fault : F)
    → IsErrAnd result (λ e. e ≡ fault) → IsFirstRefusal (refusal_of_fault fault) (a ++ rule ∷ [])
    → Answers refusal_of_fault (a ++ rule ∷ b) result
pair_fails refusal_of_fault a rule b result fault is failed =
    subst (λ rules. Answers refusal_of_fault rules result) (append_assoc a (rule ∷ []) b) (fails refusal_of_fault (a ++ rule ∷ []) b result fault is failed)

-- and it passes
pub pair_passes : {A F : Type 0} (refusal_of_fault : F → Option Refusal) (a : List RefusalRule) (rule : RefusalRule) (b : List RefusalRule) (result : Result A F) → first_refusal
    (a ++ rule ∷ []) ≡ None → Answers refusal_of_fault b result → Answers refusal_of_fault (a ++ rule ∷ b) result
pair_passes refusal_of_fault a rule b result passed rest =
    subst (λ rules. Answers refusal_of_fault rules result) (append_assoc a (rule ∷ []) b) (answers_behind refusal_of_fault (a ++ rule ∷ []) b result passed rest)
