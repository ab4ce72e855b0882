-- The exit status of the program for each status of a run.
use Rattle.std.specs.Prelude.{ℕ}
use Rattle.sasi_run.specs.declared.status.Status.{Status}
use Rattle.sasi_run.specs.declared.status.Status.TheVariants.{Done, Refused, Usage, ScriptFault, FolderFault, OutputFault, OutOfMemory, Damaged, AnalyzerMissing, PartitionerDiffers, NumbersSpent, ScriptTooLong}

abbrev pub code_of : Status → ℕ
code_of Done = 0
code_of (Refused pieces) = 1
code_of Usage = 2
code_of ScriptFault = 3
code_of FolderFault = 4
code_of OutputFault = 5
code_of OutOfMemory = 6
code_of (Damaged damage) = 7
code_of (AnalyzerMissing class) = 8
code_of (PartitionerDiffers asked kept) = 9
code_of (NumbersSpent kind) = 10
code_of ScriptTooLong = 11
