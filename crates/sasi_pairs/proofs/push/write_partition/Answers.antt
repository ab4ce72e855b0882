use Rattle.std.proofs.Common.{[], ◌∙◌}
use Rattle.sasi_types.specs.Token.{token_of}
use Rattle.sasi_pairs.proofs.PushLaws.{partition_seen}
use Rattle.sasi_pairs.proofs.push.write_partition.Goals as goal

pub returns-clause-pair : goal.returns-clause-pair
returns-clause-pair g c =
    c.in_ok-push.ensures.observed [] c.new-seen.ensures ∙ partition_seen (record { token = 0; place = 0 }) (token_of c.args.writer.now.partitioner c.args.key.now) c.args.writer.now.offset c.args.part.now
