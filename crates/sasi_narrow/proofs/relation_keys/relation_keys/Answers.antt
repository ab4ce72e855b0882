use Rattle.std.proofs.Common.{◌∙◌}
use Rattle.std.proofs.lemmas.List.Filters.{dedup_is}
use Rattle.sasi_narrow.proofs.Refs.{ref_eq, sorted_has, sorted_rise}
use Rattle.sasi_narrow.proofs.relation_keys.relation_keys.Goals as goal

pub returns-clause-rise : goal.returns-clause-rise
returns-clause-rise c =
    let sorted = c.sort_unstable.new.self.items in
    let new = c.dedup.new.self.items in
    sorted_rise sorted new c.sort_unstable.ensures.sorted (dedup_is ref_eq sorted new c.dedup.ensures.filtered)

pub returns-clause-are : goal.returns-clause-are
returns-clause-are c = λ order bytes.
    let sorted = c.sort_unstable.new.self.items in
    let new = c.dedup.new.self.items in
    sorted_has c.in_ok-hits.hits.items sorted new c.sort_unstable.ensures.permutation (dedup_is ref_eq sorted new c.dedup.ensures.filtered) bytes
    ∙ c.in_ok-hits.ensures order bytes
