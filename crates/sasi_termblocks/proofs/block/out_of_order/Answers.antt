use Rattle.std.proofs.Common.{List, ℕ, ap, take}
use Rattle.sasi_termblocks.proofs.Faults.{order_at, reader_is}
use Rattle.sasi_termblocks.proofs.block.out_of_order.Goals as goal

pub returns-clause-is : goal.returns-clause-is
returns-clause-is c =
    order_at c.args.block.now c.args.index c.number_at-at.result _ c.broken.result c.number_at-at.ensures.is
    (ap (λ (l : List ℕ). take 8 l) (reader_is c.args.block.now c.args.index c.number_at-at.result c.min.result c.requires.whole c.number_at-at.ensures.is c.min.ensures)) c.broken.ensures.is
