use Rattle.sasi_engine.proofs.KeyedWorld.{free_is, free_left, free_made, free_owing, free_world}
use Rattle.sasi_engine.proofs.keyed_hits.KeyedHits+Intersection+Hits.new.Goals as goal

pub returns-clause-leaves : goal.returns-clause-leaves
returns-clause-leaves c w world made =
    let free = free_world w in
    (free, free_left w c.args.key c.args.maps.now world _ _ c.in_ok-hits.ensures.none (c.in_ok-hits.ensures.leaves free (free_is w c.args.key c.args.maps.now world) (free_made w c.args.types c.args.relations.now c.args.parts.now made)))

pub returns-clause-pays : goal.returns-clause-pays
returns-clause-pays c w world made short =
    let free = free_world w in
    (free, free_owing w c.args.key c.args.maps.now world _ _ _ _ c.in_ok-hits.ensures.none (c.in_ok-hits.ensures.pays free (free_is w c.args.key c.args.maps.now world) (free_made w c.args.types c.args.relations.now c.args.parts.now made) short))

pub returns-clause-ready : goal.returns-clause-ready
returns-clause-ready c files book = (c.in_ok-hits.ensures.hits_ready files, c.in_ok-hits.ensures.ready files)
