-- Faults of checks, as refusals.
use Rattle.std.specs.Prelude.{Option, None, Some}
use Rattle.sasi_model.specs.Refusals as model
use Rattle.sasi_machine.specs.Refusal.{refusal_of}
use Rattle.sasi_machine.specs.declared.fault.Fault.{Fault}
use Rattle.sasi_machine.specs.declared.fault.Fault.TheVariants.{OutOfMemory, Refused}

-- the refusal that a fault is; out of memory is none
abbrev pub refusal_of_fault : Fault → Option model.Refusal
refusal_of_fault OutOfMemory = None
refusal_of_fault (Refused refusal) = Some (refusal_of refusal)
