use Rattle.std.proofs.Common.{refl, arith}
use Rattle.sasi_hits.proofs.index_hits.IndexHits.new.Goals as goal

pub returns-clause-leaves : goal.returns-clause-leaves
returns-clause-leaves c files bytes content pairs is are = (pairs, (bytes, content, is, are), refl)

pub returns-clause-pays : goal.returns-clause-pays
returns-clause-pays c files bytes content is = (bytes, content, is, omega arith)
