use Rattle.std.proofs.Common.{◌∙◌, ◌∷◌, ◌++◌, [], ap, arith}
use Rattle.sasi_engine.proofs.Adding.{one_file}
use Rattle.sasi_engine.proofs.part_plan.add_indexes.Goals as goal

pub loop-relation-preserved : goal.loop-relation-preserved
loop-relation-preserved c =
    one_file c.args.relations.now c.args.number c.args.parts.now c.args.at c.args.keys c.loop-relation.relation-index c.loop-relation.indexed.items c.loop-relation.positions.items c.args.streams.now c.loop-relation.streams
    c.loop-relation.invariant c.relation-item.result c.loop-relation-test.true c.relation-item.is c.in_ok-has.has c.push.new.self.items c.push-in-loop-relation.new.self.items c.add_index.new.streams
    c.in_ok-has.ensures.has _ (omega (arith, c.len-leaf.ensures, c.loop-relation.indexed.ok.0)) c.in_ok-has.ensures.adds c.in_ok-push.ensures.items _ c.len-next.ensures
    (c.in_ok-push-2.ensures.items ∙ ap (λ k. c.loop-relation.positions.items ++ k ∷ []) c.position_of.ensures)
