use Rattle.std.proofs.Common.{◌≤◌, length, take}
use Rattle.std.specs.List.{All}
use Rattle.sasi_segments.specs.Gathering.{term_at}
use Rattle.sasi_segments.specs.Prefixes.{BeginsAs}
use Rattle.sasi_segments.proofs.gathered.shared_length.Given as goal

abbrev pub invariant-loop-posting : goal.invariant-loop-posting
invariant-loop-posting l = (l.shared ≤ length l.front) × All (λ p. BeginsAs l.shared l.front p.list (term_at l.terms p)) (take l.posting-index l.postings)
