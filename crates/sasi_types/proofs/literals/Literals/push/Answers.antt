use Rattle.sasi_types.proofs.Packing.{counts_more}
use Rattle.sasi_types.proofs.literals.Literals.push.Goals as goal

pub invariant_of-self-2 : goal.invariant_of-self-2
invariant_of-self-2 c =
    rw (c.push_reserved.ensures.items, c.in_ok-reserve.ensures.items, c.in_ok-item.ensures.bytes, c.in_ok-item.ensures.others)
    (counts_more c.self.inside.items.items c.self.inside.bytes.items c.self.inside.others.items c.in_ok-item.item c.args.literal c.in_ok-item.ensures.packs c.self.invariant.0 c.self.invariant.1)
