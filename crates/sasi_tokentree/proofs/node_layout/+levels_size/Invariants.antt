use Rattle.sasi_tokentree.proofs.node_layout.+levels_size.Given as goal

abbrev pub decreases-levels_size : goal.decreases-levels_size
decreases-levels_size l = l.entries
