use Rattle.std.proofs.Common.{◌≡◌, drop}
use Rattle.std.specs.Prelude.{not}
use Rattle.std.specs.List.{list_any}
use Rattle.sasi_postings.specs.Postings.{is_short}
use Rattle.sasi_postings.proofs.gathered.has_long.Given as goal

abbrev pub invariant-loop-term : goal.invariant-loop-term
invariant-loop-term l = list_any (λ term. not (is_short term)) (drop l.term-index l.terms) ≡ list_any (λ term. not (is_short term)) l.terms
