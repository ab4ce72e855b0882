use Rattle.sasi_recover.specs.ReplayState.{seen}
use Rattle.sasi_recover.proofs.ReplayLaws.{put_state}
use Rattle.sasi_recover.proofs.replay.put.Goals as goal

pub returns : goal.returns
returns c = put_state c.args.segment c.args.mutation (seen c.args.replay.now) c.put_into.new.tables.items c.max_timestamp-time.result c.max-replay.result c.requires c.in_ok-put_into.ensures c.max_timestamp-time.ensures c.max-replay.ensures
