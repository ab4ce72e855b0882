use Rattle.std.proofs.Common.{◌≡◌, ◌++◌, map, drop}
use Rattle.std.specs.List.{filter}
use Rattle.sasi_postings.specs.Postings.{is_short}
use Rattle.sasi_postings.proofs.gathered.short_terms.Given as goal

abbrev pub invariant-loop-term : goal.invariant-loop-term
invariant-loop-term l = map (λ t. t.now) l.short.items ++ filter is_short (drop l.term-index l.terms) ≡ filter is_short l.terms
