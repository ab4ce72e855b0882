use Rattle.sasi_hits.proofs.MapLaws.{HasPlaced}
use Rattle.sasi_hits.proofs.map_stream.map_hits.Given as goal

abbrev pub invariant-loop-key : goal.invariant-loop-key
invariant-loop-key l = HasPlaced l.leaf l.part l.keys l.key-index l.entries.items
