-- What a store knows of its state without its files, by other words.
use Rattle.std.proofs.Common.{◌≡◌, ℕ, List, Result, subst}
use Rattle.std.specs.Prelude.{OnOk}
use Rattle.sasi_layout.specs.Serving.{StoreInMemory}
use Rattle.sasi_model.specs.State.{Definition}
use Rattle.sasi_tables.specs.MakesMoves.{Knows}
use Rattle.sasi_tables.specs.declared.fault.StepFault.{StepFault}

-- what was known before is known by other words
pub knows_then : {T : Type 0} (store : StoreInMemory) (ds es : List Definition) (a b : ℕ) (result : Result T StepFault) → ds ≡ es → a ≡ b → OnOk result (Knows store ds a) → OnOk result (Knows store es b)
knows_then store ds es a b result same time knows =
    subst (λ (n : ℕ). OnOk result (Knows store es n)) time (subst (λ (l : List Definition). OnOk result (Knows store l a)) same knows)
