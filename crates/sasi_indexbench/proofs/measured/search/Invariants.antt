use Rattle.sasi_filehost.specs.RealFiles.{told}
use Rattle.sasi_indexread.specs.Searches.{CanSearch}
use Rattle.sasi_indexbench.proofs.measured.search.Given as goal

abbrev pub invariant-loop-turn : goal.invariant-loop-turn
invariant-loop-turn l = CanSearch (told l.host) l.found
