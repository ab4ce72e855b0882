-- The step of a statement.
use Rattle.std.specs.Prelude.{◌≡◌, ◌++◌, ℕ, List, Option, None, Some}
use Rattle.sasi_types.specs.declared.statement.Statement.{Statement}
use Rattle.sasi_model.specs.State.{State}
use Rattle.sasi_model.specs.Refusals.{Refusal, Says}
use Rattle.sasi_model.specs.Lines.{refusal_line}
use Rattle.sasi_model.specs.Step.{StepResult, step_as}
use Rattle.sasi_machine.specs.Outcome.{outcome_of}
use Rattle.sasi_machine.specs.declared.outcome.Outcome.{Outcome}

-- the state after the step, its reply appended, and its outcome
pub record IsStepResult (stepped : StepResult) (state : State) (reply_old reply_new : List ℕ) (outcome : Outcome) : Type 0 where
  pub state_is : state ≡ stepped.state
  pub reply_is : reply_new ≡ reply_old ++ stepped.reply
  pub outcome_is : outcome ≡ outcome_of stepped.refused

-- the same of the step that a statement is
abbrev pub StatementStepsTo : State → Statement → State → List ℕ → List ℕ → Outcome → Type 0
StatementStepsTo s statement = IsStepResult (step_as s (Says statement))

-- the reply is a refusal
abbrev pub IsRefused : Option Refusal → List ℕ → List ℕ → Outcome → Type 0
IsRefused None reply_old reply_new outcome = ⊥
IsRefused (Some r) reply_old reply_new outcome = (reply_new ≡ reply_old ++ refusal_line r) × (outcome ≡ outcome_of (Some r))

-- the reply is an answer or a refusal
abbrev pub IsAnswered : Option Refusal → List ℕ → List ℕ → List ℕ → Outcome → Type 0
IsAnswered None answer reply_old reply_new outcome = (reply_new ≡ reply_old ++ answer) × (outcome ≡ outcome_of None)
IsAnswered (Some r) answer reply_old reply_new outcome = (reply_new ≡ reply_old ++ refusal_line r) × (outcome ≡ outcome_of (Some r))
