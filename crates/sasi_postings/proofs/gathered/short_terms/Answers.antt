use Rattle.std.proofs.Common.{List, ℕ, Bor, map}
use Rattle.std.specs.List.{filter}
use Rattle.std.proofs.lemmas.List.Filters.{dedup_is}
use Rattle.sasi_types.specs.Term.{term_eq}
use Rattle.sasi_postings.specs.Postings.{is_short}
use Rattle.sasi_postings.proofs.Terms.{all_kept, sorted_once}
use Rattle.sasi_postings.proofs.gathered.short_terms.Goals as goal

pub returns : goal.returns
returns c = record {
  once = sorted_once (λ (t : Bor (List ℕ)). t.now) c.loop-term.short.items c.sort_unstable.new.self.items c.dedup.new.self.items (filter is_short c.args.terms.now)
      (all_kept (map (λ (t : Bor (List ℕ)). t.now) c.loop-term.short.items) c.args.terms.now c.loop-term.term-index c.loop-term-test.false c.loop-term.invariant)
      c.sort_unstable.ensures.permutation c.sort_unstable.ensures.sorted
      (dedup_is (λ (a b : Bor (List ℕ)). term_eq a.now b.now) c.sort_unstable.new.self.items c.dedup.new.self.items c.dedup.ensures.filtered);
}
