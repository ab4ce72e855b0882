use Rattle.sasi_recover.specs.Replaying.{HasReplayed}
use Rattle.sasi_recover.specs.ReplayState.{seen}
use Rattle.sasi_recover.proofs.replay.replay_older.Given as goal

abbrev pub invariant-loop-number : goal.invariant-loop-number
invariant-loop-number g l = HasReplayed (g.H.Host.view l.fn.host) (g.H.Host.view l.host) l.listing l.number (seen l.replay)
