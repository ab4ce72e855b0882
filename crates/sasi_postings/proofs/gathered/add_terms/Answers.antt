use Rattle.std.proofs.Common.{◌≤◌, List, ℕ, Bor, length, map, ◌∙◌, ap}
use Rattle.std.specs.List.{filter}
use Rattle.sasi_postings.specs.Postings.{distinct, is_short}
use Rattle.sasi_postings.proofs.Terms.{added_both, all_seen, kept_distinct}
use Rattle.sasi_postings.proofs.gathered.add_terms.Goals as goal

pub add_stored-requires : goal.add_stored-requires
add_stored-requires c =
    all_seen (λ (t : Bor (List ℕ)). t.now) (λ (t : List ℕ). length t ≤ 1024) c.deref.result.now (distinct (filter is_short c.args.terms.now))
    (ap (map (λ (t : Bor (List ℕ)). t.now)) c.deref.ensures.value ∙ c.in_ok-short.ensures.once) (kept_distinct is_short (λ term short. short) c.args.terms.now)

pub returns : goal.returns
returns c =
    added_both (λ (t : Bor (List ℕ)). t.now) c.deref.result.now c.args.terms.now c.args.pair c.args.gather.now c.add_stored.new.gather c.add_spilled.new.gather c.add_spilled.result
    (ap (map (λ (t : Bor (List ℕ)). t.now)) c.deref.ensures.value ∙ c.in_ok-short.ensures.once) c.in_ok-add_stored.ensures c.add_spilled.ensures
