use Rattle.std.proofs.Common.{refl}
use Rattle.sasi_indexwrite.proofs.TermSteps.{term_written}
use Rattle.sasi_indexwrite.proofs.term_writer.write_tree.Goals as goal

pub returns-clause-ok : goal.returns-clause-ok
returns-clause-ok g c header closed was =
    let writer = c.args.writer.now in
    term_written _ _ writer (record { mode = writer.mode; trees = c.append_tree.new.trees; blocks = c.push.new.self; term = writer.term; pairs = writer.pairs; groups = writer.groups; common = writer.common }) c.args.term
    c.in_ok-tree.tree header closed c.in_ok-tree.ensures.ok c.in_ok-tree.ensures.next c.in_ok-tree.ensures.tree
    (record { short = c.requires.short; some = c.requires.some; pairs = record { rising = c.requires.ready.rising; fit = c.in_ok-tree.ensures.fit } }) c.in_ok-push.ensures refl was
