use Rattle.std.proofs.Common.{◌≡◌, drop}
use Rattle.sasi_host.specs.Picks.{synced_later}
use Rattle.sasi_host.proofs.crash.is_synced_later.Given as goal

abbrev pub invariant-loop-call : goal.invariant-loop-call
invariant-loop-call l = synced_later l.file l.rest ≡ synced_later l.file (drop l.call-index l.rest)
