-- How pieces are answered.
use Rattle.std.specs.Prelude.{Option, None, Some}
use Rattle.sasi_model.specs.Refusals.{Refusal}
use Rattle.sasi_model.specs.Abbreviations.{refusal_number}
use Rattle.sasi_machine.specs.declared.outcome.Outcome.{Outcome}
use Rattle.sasi_machine.specs.declared.outcome.Outcome.TheVariants.{Done, Refused}

-- a piece that isn't refused is done
abbrev pub outcome_of : Option Refusal → Outcome
outcome_of None = Done
outcome_of (Some refusal) = Refused (refusal_number refusal)
