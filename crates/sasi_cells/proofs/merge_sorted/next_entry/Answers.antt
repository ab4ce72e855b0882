use Rattle.std.proofs.Common.{rules}
use Rattle.sasi_cells.proofs.MergedSorted.{takes_first}
use Rattle.sasi_cells.proofs.merge_sorted.next_entry.Goals as goal

pub returns-in-Some-Less-clause-items : goal.returns-in-Some-Less-clause-items
returns-in-Some-Less-clause-items c =
    takes_first c.args.mine.now.items c.args.theirs.now.items _ c.pop_front.result (search rules) c.pop_front.ensures.items
