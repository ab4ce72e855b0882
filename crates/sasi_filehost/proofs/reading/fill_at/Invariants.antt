use Rattle.std.proofs.Common.{◌≤◌, length}
use Rattle.sasi_filehost.proofs.reading.fill_at.Given as goal

abbrev pub invariant-loop : goal.invariant-loop
invariant-loop g l = l.done ≤ length l.buf
