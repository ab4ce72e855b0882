use Rattle.std.proofs.Common.{List, ℕ, subst, inl, inr, ⊎_elim}
use Rattle.sasi_lookup.proofs.Keeping.{same_shows}
use Rattle.sasi_sources.specs.Maps.{IsOneOf}
use Rattle.sasi_engine.proofs.HandLaws.{always_ok, both_ok}
use Rattle.sasi_engine.proofs.StepLaws.{kind_still}
use Rattle.sasi_engine.proofs.hit_candidates.HitCandidatesCandidates.next.Goals as goal

pub returns-clause-uses : goal.returns-clause-uses
returns-clause-uses g c number uses = subst (λ (numbers : List ℕ). IsOneOf numbers number) c.next_candidate.ensures.same.maps_are uses

pub returns-clause-still_prints : goal.returns-clause-still_prints
returns-clause-still_prints g c kind has = always_ok _ c.next_candidate.result (kind_still _ _ c.args.maps.now kind c.next_candidate.ensures.same has)

pub returns-clause-ready : goal.returns-clause-ready
returns-clause-ready g c = both_ok _ _ c.next_candidate.result c.next_candidate.ensures.hits_ready c.next_candidate.ensures.ready

pub returns-clause-shows_less : goal.returns-clause-shows_less
returns-clause-shows_less g c files damage is =
    ⊎_elim (λ hits. inl (c.next_candidate.ensures.hits_show_less files damage hits)) (λ data_files. inr (same_shows _ _ c.next_candidate.ensures.same.files_are files damage data_files)) is
