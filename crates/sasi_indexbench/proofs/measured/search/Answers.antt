use Rattle.sasi_filehost.specs.RealFiles.{told}
use Rattle.sasi_indexread.proofs.Callers.{fresh_can}
use Rattle.sasi_indexbench.proofs.measured.search.Goals as goal

pub loop-turn-init : goal.loop-turn-init
loop-turn-init c = fresh_can (told c.args.host.now) c.in_ok-found.found c.in_ok-found.ensures.fresh
