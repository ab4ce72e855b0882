use Rattle.sasi_manifest.proofs.NumberTrees.{tree_more}
use Rattle.sasi_manifest.proofs.number_set.NumberSet.with.Goals as goal

pub invariant_of-result : goal.invariant_of-result
invariant_of-result c = tree_more c.self.inside.numbers c.push.new.self c.args.number c.self.inside.tree c.insert.new.self c.self.invariant c.in_ok-insert.ensures.updates c.in_ok-push.ensures.ok
