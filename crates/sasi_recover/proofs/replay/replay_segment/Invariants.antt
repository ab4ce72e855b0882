use Rattle.std.proofs.Common.{◌-◌, ◌^◌}
use Rattle.sasi_recover.specs.ReplayState.{IsReplayOf, seen}
use Rattle.sasi_recover.proofs.ReplayingSegment.{IsReplaying}
use Rattle.sasi_recover.proofs.replay.replay_segment.Given as goal

abbrev pub invariant-merging : goal.invariant-merging
invariant-merging g l = record {
  on : IsReplaying (g.H.Host.view l.fn.host) (g.H.Host.view l.host) l.listing l.number l.log (seen l.fn.replay) (seen l.replay);
  tables : IsReplayOf l.listing (seen l.replay);
}

abbrev pub decreases-merging : goal.decreases-merging
decreases-merging g l = 2 ^ 62 - l.log.at
