use Rattle.std.proofs.Common.{◌≡◌, drop}
use Rattle.sasi_model.specs.IndexTerms.{any_holds}
use Rattle.sasi_machine.proofs.search.any_holds.Given as goal

-- the terms so far aren't as asked
abbrev pub invariant-loop-term : goal.invariant-loop-term
invariant-loop-term l = any_holds l.op l.word l.terms ≡ any_holds l.op l.word (drop l.term-index l.terms)
