use Rattle.std.proofs.Common.{rules}
use Rattle.sasi_formats.specs.Formats.{encoded}
use Rattle.sasi_formats.proofs.Putting.{encoded_more}
use Rattle.sasi_sparse.specs.Inline.{pair}
use Rattle.sasi_sparse.proofs.inline.put_pairs.Goals as goal

pub loop-each-preserved : goal.loop-each-preserved
loop-each-preserved c =
    encoded_more (encoded pair) c.args.pairs.now c.loop-each.each-index _ c.args.out.now.items c.loop-each.out.items c.put_pair.new.out.items (c.loop-each-test.true) (search rules) c.loop-each.invariant c.in_ok-put_pair.ensures
