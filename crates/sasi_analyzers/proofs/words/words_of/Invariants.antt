use Rattle.std.proofs.Common.{◌≡◌, ◌++◌, map}
use Rattle.unicode_segmentation.specs.Iter.{unicode_words_left}
use Rattle.unicode_segmentation.specs.Word.{words}
use Rattle.sasi_terms.specs.Terms.{folded}
use Rattle.sasi_analyzers.proofs.words.words_of.Given as goal

abbrev pub invariant-words : goal.invariant-words
invariant-words l = map (folded l.fold) (words l.text) ≡ l.found ++ map (folded l.fold) (unicode_words_left l.word-iterator)
