-- What a check answers by its rules: it passes where none applies, and else it tells the first that does.
use Rattle.std.specs.Prelude.{◌≡◌, List, Option, None, Some, Result, Ok, Err, ⊤}
use Rattle.sasi_model.specs.Refusals.{Refusal, RefusalRule}
use Rattle.sasi_model.specs.Abbreviations.{first_refusal}

-- the refusal is that of the first rule that applies; out of memory is none
abbrev pub IsFirstRefusal : Option Refusal → List RefusalRule → Type 0
IsFirstRefusal None rules = ⊤
IsFirstRefusal (Some refusal) rules = first_refusal rules ≡ Some refusal

-- a check of these rules, whose faults are refusals by the function
abbrev pub Answers : {A F : Type 0} → (F → Option Refusal) → List RefusalRule → Result A F → Type 0
Answers refusal_of_fault rules (Ok _) = first_refusal rules ≡ None
Answers refusal_of_fault rules (Err fault) = IsFirstRefusal (refusal_of_fault fault) rules
