use Rattle.sasi_tokentree.proofs.seek.+size_below_root.Given as goal

abbrev pub decreases-size_below_root : goal.decreases-size_below_root
decreases-size_below_root l = l.count
