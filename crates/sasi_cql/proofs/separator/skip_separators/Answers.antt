use Rattle.std.proofs.Common.{rules}
use Rattle.sasi_cql.proofs.Placing.{skipped_more}
use Rattle.sasi_cql.proofs.separator.skip_separators.Goals as goal

pub separators-preserved : goal.separators-preserved
separators-preserved c =
    let passes = c.in-Some-separator.ensures.found in
    rw passes.1 (skipped_more c.args.text.now c.separators.left.now c.in-Some.first.now c.in-Some.behind.now c.separators.unclosed
    c.separator.new.unclosed (search rules) passes.0 c.separator.ensures.kept c.separators.invariant)
