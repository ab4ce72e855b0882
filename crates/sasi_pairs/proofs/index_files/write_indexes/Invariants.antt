use Rattle.sasi_pairs.proofs.IndexLaws.{HasWritten}
use Rattle.sasi_pairs.proofs.index_files.write_indexes.Given as goal

abbrev pub invariant-loop-part : goal.invariant-loop-part
invariant-loop-part g l = HasWritten (g.H.Host.view l.fn.host) (g.H.Host.view l.host) l.number l.fn.builders.items l.left.items l.parts l.part-index
