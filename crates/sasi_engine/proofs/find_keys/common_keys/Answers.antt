use Rattle.sasi_engine.specs.inside.Found.{is_in_all}
use Rattle.sasi_engine.proofs.WordLaws.{common_next}
use Rattle.sasi_engine.proofs.find_keys.common_keys.Goals as goal

pub loop-key-preserved : goal.loop-key-preserved
loop-key-preserved c =
    common_next (is_in_all c.args.lists.now) c.args.keys.now c.loop-key.key-index c.key-item.result c.loop-key.common.items c.keep_common.new.common.items c.loop-key-test.true c.key-item.is c.in_ok-keep_common.ensures c.loop-key.invariant
