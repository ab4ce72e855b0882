use Rattle.sasi_pairs.proofs.Replaced.{some_found, taken_at}
use Rattle.sasi_pairs.proofs.builders.take_builder.Goals as goal

pub unreachable-requires : goal.unreachable-requires
unreachable-requires c = some_found c.args.number c.args.builders.now.items c.deref.result.now c.position_of.result c.position_of.ensures c.in-None.is c.deref.ensures.value c.requires

pub returns : goal.returns
returns c =
    taken_at c.args.number c.args.builders.now.items c.deref.result.now c.remove.new.self.items c.position_of.result c.in-Some.at c.remove.result c.position_of.ensures c.in-Some.is c.deref.ensures.value
    c.remove.ensures.value c.remove.ensures.by_index.2
