use Rattle.std.proofs.Common.{List, subst, arith}
use Rattle.sasi_types.specs.declared.decorated_key.DecoratedKey.{DecoratedKey}
use Rattle.sasi_engine.specs.inside.Sources.{IsStream, OfMap}
use Rattle.sasi_engine.proofs.Adding.{map_index, map_positions, one_map}
use Rattle.sasi_engine.proofs.part_plan.add_map.Goals as goal

pub loop-relation-preserved : goal.loop-relation-preserved
loop-relation-preserved c =
    one_map c.args.relations.now c.args.table_map.now c.args.at c.loop-relation.relation-index c.loop-relation.found.items c.loop-relation.positions.items c.args.streams.now c.loop-relation.streams c.loop-relation.invariant
    c.relation-item.result c.loop-relation-test.true c.relation-item.is c.in_ok-keys.keys c.push-in-loop-relation-2.new.self.items c.push.new.self.items c.push-in-loop-relation.new.self c.in_ok-stream.stream
    c.in_ok-keys.ensures c.len-leaf.result (omega (arith, c.len-leaf.ensures, c.loop-relation.found.ok.0))
    (subst (λ (keys : List DecoratedKey). IsStream (OfMap keys) c.len-leaf.result c.args.at c.in_ok-stream.stream) c.as_slice.ensures c.in_ok-stream.ensures) c.in_ok-push-2.ensures.ok c.in_ok-push-3.ensures.items
    _ c.len.ensures c.in_ok-push.ensures.items

pub returns-clause-positions : goal.returns-clause-positions
returns-clause-positions c =
    map_positions c.args.relations.now c.args.table_map.now c.args.at c.loop-relation.relation-index c.loop-relation.found.items c.loop-relation.positions.items c.args.streams.now c.loop-relation.streams
    c.loop-relation.invariant (omega (arith, c.loop-relation-test.false))

pub find_keys-requires-clause-has : goal.find_keys-requires-clause-has
find_keys-requires-clause-has c =
    map_index c.args.relations.now c.args.table_map.now c.args.at c.loop-relation.relation-index c.loop-relation.found.items c.loop-relation.positions.items c.args.streams.now c.loop-relation.streams c.loop-relation.invariant
    c.relation-item.result c.loop-relation-test.true c.relation-item.is
