use Rattle.std.proofs.Common.{◌≡◌, ⊎_elim, List, [], ◌∷◌, inl, inr, rules, subst}
use Rattle.sasi_hits.specs.Hits.{Opens}
use Rattle.sasi_hits.specs.declared.hits.Hits.{Hits}
use Rattle.sasi_hits.specs.declared.hits.Hits.TheVariants.{Index, Keys, Map}
use Rattle.sasi_ranges.specs.EachStream.{SomeOpens}
use Rattle.sasi_hits_tests.proofs.parts.streams_of.Goals as goal

pub returns-clause-opens : goal.returns-clause-opens
returns-clause-opens g c name some =
    let are : c.push-3.new.self ≡ Map c.expect-map.result ∷ Keys c.new-keys.result ∷ Index c.new-index.result ∷ [] = search rules in
    ⊎_elim (λ map. absurd map) (λ later. ⊎_elim (λ keys. inl (c.new-keys.ensures.opens name keys)) (λ last. ⊎_elim (λ index. inr (c.new-index.ensures.opens name index)) (λ none. absurd none) last) later)
    (subst (λ (l : List Hits). SomeOpens Opens l name) are some)
