use Rattle.sasi_manifest.proofs.NumberTrees.{numbers_more}
use Rattle.sasi_manifest.proofs.new_files.NewFiles.with.Goals as goal

pub invariant_of-result : goal.invariant_of-result
invariant_of-result c = numbers_more c.self.inside.numbers c.in_ok-numbers.numbers c.self.inside.files c.push.new.self c.args.file c.self.invariant c.in_ok-numbers.ensures c.in_ok-push.ensures.ok
