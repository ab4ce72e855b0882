-- The clauses of a function that decodes whole bytes.
use Rattle.std.specs.Prelude.{◌≡◌, Result, Ok, Err, IfOk, IfErr}
use Rattle.sasi_host.specs.Names.{Bytes}
use Rattle.sasi_host.specs.Damages.{seen_bytes}
use Rattle.sasi_fields.specs.Reading.{Reading}
use Rattle.sasi_formats.specs.Formats.{Format, Encodes}
use Rattle.sasi_formats.specs.Reader.{Outcome, Got}
use Rattle.sasi_formats.specs.Reader as reader
use Rattle.sasi_formats.specs.Failures.{FailsWhole}
use Rattle.sasi_formats.specs.Gives.{FailsWith}
use Rattle.sasi_formats.specs.declared.fault.FormatFault.{FormatFault}
use Rattle.sasi_formats.specs.declared.fault.FormatFault.TheVariants.{OutOfMemory, Short, Long, Broken}

-- the result is the value of the outcome, or its corruption
abbrev pub GivesWhole : {A : Type 0} → Outcome A → Result A FormatFault → Type 0
GivesWhole outcome (Ok value) = (behind : Reading) × (outcome ≡ Got value behind)
GivesWhole outcome (Err fault) = FailsWith outcome fault

-- the fault is the corruption of the bytes, or out of memory
abbrev pub IsShownBy : {A : Type 0} → Format A → Bytes → FormatFault → Type 0
IsShownBy format bytes OutOfMemory = Unit {0}
IsShownBy format bytes Short = FailsWhole format bytes reader.Short
IsShownBy format bytes Long = FailsWhole format bytes reader.Long
IsShownBy format bytes (Broken broken) = FailsWhole format bytes (reader.Broken broken.rule broken.at (seen_bytes broken.seen))

-- the fault is out of memory
abbrev pub IsOutOfMemory : FormatFault → Type 0
IsOutOfMemory fault = fault ≡ OutOfMemory

-- the bytes encode the value that is read; they show the fault; decoding the bytes of a value fails only out of memory
pub record ReadsWhole {A : Type 0} (format : Format A) (bytes : Bytes) (result : Result A FormatFault) : Type 0 where
  pub is : IfOk result (λ value. Encodes format value bytes)
  pub shown : IfErr result (IsShownBy format bytes)
  pub again : (value : A) → Encodes format value bytes → IfErr result IsOutOfMemory
