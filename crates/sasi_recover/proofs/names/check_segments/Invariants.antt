use Rattle.std.proofs.Common.{ℕ, ◌≤◌, ◌<◌, Contains}
use Rattle.sasi_host.specs.Names.{log_name}
use Rattle.sasi_recover.proofs.names.check_segments.Given as goal

-- those so far are there
abbrev pub invariant-loop-segment : goal.invariant-loop-segment
invariant-loop-segment l = (number : ℕ) → l.floor ≤ number → number < l.segment → Contains l.names (log_name number)
