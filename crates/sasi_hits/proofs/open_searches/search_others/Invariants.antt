use Rattle.sasi_hits.proofs.OpenHitLaws.{HasBegun}
use Rattle.sasi_hits.proofs.open_searches.search_others.Given as goal

abbrev pub invariant-loop-word : goal.invariant-loop-word
invariant-loop-word l = HasBegun l.index l.op l.words l.word-index l.others.items
