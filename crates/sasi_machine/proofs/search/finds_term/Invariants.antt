use Rattle.std.proofs.Common.{◌≡◌, [], ◌∷◌, drop}
use Rattle.std.specs.List.{list_all}
use Rattle.sasi_model.specs.IndexTerms.{any_holds}
use Rattle.sasi_machine.proofs.search.finds_term.Given as goal

-- the words so far find the term
abbrev pub invariant-loop-word : goal.invariant-loop-word
invariant-loop-word l = list_all (λ word. any_holds l.search.op word (l.term ∷ [])) l.search.words ≡ list_all (λ word. any_holds l.search.op word (l.term ∷ [])) (drop l.word-index l.words)
