-- A run that nothing outside stopped goes through.
use Rattle.std.proofs.Common.{◌≢◌, ℕ, ◌<◌, ◌≤◌, List, length, Option, None, Some, refl, ap, arith, length-append, IfSome}
use Rattle.std.specs.Io.KnownBytes.{Consumes}
use Rattle.sasi_model.specs.Parsers.{Parser}
use Rattle.sasi_model.specs.State.{State}
use Rattle.sasi_run.specs.Headline.{Replies, Runs, SCRIPT_MOST}
use Rattle.sasi_run.specs.Causes.{RanThrough}
use Rattle.sasi_run.specs.declared.status.Status.{Status}
use Rattle.sasi_run.specs.declared.status.Status.TheVariants.{Done, Refused, Usage, ScriptFault, FolderFault, OutputFault, OutOfMemory, Damaged, AnalyzerMissing, PartitionerDiffers, NumbersSpent, ScriptTooLong}

-- no more is read than there is
within : (script read : List ℕ) (left : Option (List ℕ)) → Consumes (Some script) left read → length read ≤ length script
within script read None c = absurd c
within script read (Some rest) c = omega (arith, ap length c, length-append read rest)

pub through : (parser : Parser) (r : Replies) (status : Status) (s : State) (l l2 o o2 : Option (List ℕ)) → Runs parser r status s l l2 o o2 → status ≢ Usage → status ≢ ScriptFault
    → status ≢ OutputFault → status ≢ FolderFault → IfSome l (λ script. length script ≤ SCRIPT_MOST → RanThrough status)
through parser r status s None l2 o o2 runs u f e d = tt
through parser r Done s (Some script) l2 o o2 runs u f e d = λ _. tt
through parser r (Refused n) s (Some script) l2 o o2 runs u f e d = λ _. tt
through parser r OutOfMemory s (Some script) l2 o o2 runs u f e d = λ _. tt
through parser r Usage s (Some script) l2 o o2 runs u f e d = absurd (u refl)
through parser r ScriptFault s (Some script) l2 o o2 runs u f e d = absurd (f refl)
through parser r OutputFault s (Some script) l2 o o2 runs u f e d = absurd (e refl)
through parser r FolderFault s (Some script) l2 o o2 runs u f e d = absurd (d refl)
through parser r (Damaged damage) s (Some script) l2 o o2 runs u f e d = λ _. tt
through parser r (AnalyzerMissing class) s (Some script) l2 o o2 runs u f e d = λ _. tt
through parser r (PartitionerDiffers asked kept) s (Some script) l2 o o2 runs u f e d = λ _. tt
through parser r (NumbersSpent kind) s (Some script) l2 o o2 runs u f e d = λ _. tt
through parser r ScriptTooLong s (Some script) l2 o o2 runs u f e d = λ short.
    let some : length runs.read ≤ length script = within script runs.read l2 runs.consumed in
    let long : SCRIPT_MOST < length runs.read = runs.shows.long in
    absurd (omega (arith, some, long, short))
