use Rattle.std.proofs.Common.{arith}
use Rattle.sasi_recover.proofs.SealedStore.{one_more_listed}
use Rattle.sasi_recover.proofs.names.check_segments.Goals as goal

pub loop-segment-preserved : goal.loop-segment-preserved
loop-segment-preserved c = one_more_listed c.args.names.now c.args.floor c.loop-segment.segment c.log.result c.log.ensures
    c.loop-segment.invariant c.in_ok-check_there.ensures.there

pub returns-clause-there : goal.returns-clause-there
returns-clause-there c segment above below =
    one_more_listed c.args.names.now c.args.floor c.args.last c.log-2.result c.log-2.ensures
    (λ number from before. c.loop-segment.invariant number from (omega (arith, before))) c.in_ok-check_there-2.ensures.there segment
    above (omega (arith, below))
