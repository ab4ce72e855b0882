use Rattle.std.proofs.Common.{sym, subst}
use Rattle.sasi_segments.specs.Gathering.{Gathering}
use Rattle.sasi_indexwrite.specs.TermsSoFar.{AreSortedPostings}
use Rattle.sasi_indexwrite.proofs.Callers.{none_gathered}
use Rattle.sasi_index_tests.proofs.files.no_postings.Goals as goal

pub write-host-requires-clause-gathered : goal.write-host-requires-clause-gathered
write-host-requires-clause-gathered g c = subst (λ (h : Gathering). AreSortedPostings h.postings) (sym c.new-gather.ensures) none_gathered
