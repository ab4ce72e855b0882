use Rattle.std.proofs.Common.{◌≡◌, ◌<◌, ℕ, false, None, get_or}
use Rattle.sasi_filehost.specs.OpenFiles.{is_of}
use Rattle.sasi_filehost.proofs.written_files.WrittenFiles.close.Given as goal

abbrev pub invariant-loop-slot : goal.invariant-loop-slot
invariant-loop-slot l = (at : ℕ) → at < l.slot-index → is_of l.name (get_or l.slot-items at None) ≡ false
