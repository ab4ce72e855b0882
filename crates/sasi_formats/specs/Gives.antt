-- A function that reads a format gives what the format's reader does.
use Rattle.std.specs.Prelude.{◌≡◌, ◌≢◌, ℕ, Result, Ok, Err, IfErr}
use Rattle.std.specs.Borrow.{Bor}
use Rattle.sasi_host.specs.Names.{Bytes}
use Rattle.sasi_host.specs.declared.damage.FormatRule.{FormatRule}
use Rattle.sasi_host.specs.Damages.{seen_bytes}
use Rattle.sasi_fields.specs.Reading.{Reading}
use Rattle.sasi_formats.specs.Reader.{Outcome, Got, Failed}
use Rattle.sasi_formats.specs.Reader as reader
use Rattle.sasi_formats.specs.declared.fault.FormatFault.{FormatFault}
use Rattle.sasi_formats.specs.declared.fault.FormatFault.TheVariants.{OutOfMemory, Short, Long, Broken}

-- the fault is the corruption of the outcome, or out of memory
abbrev pub FailsWith : {A : Type 0} → Outcome A → FormatFault → Type 0
FailsWith outcome OutOfMemory = Unit {0}
FailsWith outcome Short = outcome ≡ Failed reader.Short
FailsWith outcome Long = outcome ≡ Failed reader.Long
FailsWith outcome (Broken broken) = outcome ≡ Failed (reader.Broken broken.rule broken.at (seen_bytes broken.seen))

-- the result is the value of the outcome, and the reader is after it; or it is the corruption
abbrev pub Gives : {A : Type 0} → Outcome A → Result A FormatFault → Reading → Type 0
Gives outcome (Ok value) behind = outcome ≡ Got value behind
Gives outcome (Err fault) behind = FailsWith outcome fault

-- the same of bytes that are borrowed
abbrev pub GivesBytes : Outcome Bytes → Result (Bor Bytes) FormatFault → Reading → Type 0
GivesBytes outcome (Ok field) behind = outcome ≡ Got field.now behind
GivesBytes outcome (Err fault) behind = FailsWith outcome fault

-- the fault is a broken rule at this offset, with these bytes
abbrev pub IsBrokenRule : FormatRule → ℕ → Bytes → FormatFault → Type 0
IsBrokenRule rule at bytes (Broken broken) = (broken.rule ≡ rule) × (broken.at ≡ at) × (seen_bytes broken.seen ≡ bytes)
IsBrokenRule rule at bytes _ = ⊥

-- memory doesn't run out
abbrev pub TakesNoMemory : {A : Type 0} → Result A FormatFault → Type 0
TakesNoMemory result = IfErr result (λ fault. fault ≢ OutOfMemory)
