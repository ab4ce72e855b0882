use Rattle.sasi_engine.proofs.hit_candidates.HitCandidates+Intersection+Hits.new.Goals as goal

pub returns-clause-leaves : goal.returns-clause-leaves
returns-clause-leaves c w world made = (w, c.in_ok-hits.ensures.leaves w world made)

pub returns-clause-pays : goal.returns-clause-pays
returns-clause-pays c w world made short = (w, c.in_ok-hits.ensures.pays w world made short)

pub returns-clause-ready : goal.returns-clause-ready
returns-clause-ready c files book = (c.in_ok-hits.ensures.hits_ready files, c.in_ok-hits.ensures.ready files)
