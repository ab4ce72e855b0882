use Rattle.std.proofs.Common.{◌≡◌, drop}
use Rattle.sasi_host.specs.Picks.{folder_later}
use Rattle.sasi_host.proofs.crash.is_folder_later.Given as goal

abbrev pub invariant-loop-call : goal.invariant-loop-call
invariant-loop-call l = folder_later l.rest ≡ folder_later (drop l.call-index l.rest)
