use Rattle.std.proofs.Common.{◌∙◌, ℕ, List, Some, refl, subst, arith, ⊎_elim}
use Rattle.std.specs.List.{sum_by}
use Rattle.sasi_candidates.specs.Candidates.{candidates}
use Rattle.sasi_candidates.specs.Costs.{file_cost, files_of}
use Rattle.sasi_model.specs.Filters.{where_of}
use Rattle.sasi_lookup.specs.Lookups.{LookupView, Opens, Shows}
use Rattle.sasi_engine.specs.Asked.{asked_of}
use Rattle.sasi_engine.specs.HitCandidates.{looked_groups}
use Rattle.sasi_engine.specs.HitLists.{hit_lists}
use Rattle.sasi_engine.specs.Plans.{of_hits}
use Rattle.sasi_sources.specs.Maps.{IsOneOf}
use Rattle.sasi_engine.proofs.NewLaws.{new_left, new_looks, new_prints, new_told, own_small, planned_as, unopened_open, unopened_show}
use Rattle.sasi_engine.proofs.OwingLaws.{owes_nothing}
use Rattle.sasi_engine.proofs.hit_candidates.begin.Goals as goal

pub returns-clause-leaves : goal.returns-clause-leaves
returns-clause-leaves c w world made =
    let plan = c.in_ok-plan.ensures.leaves w.folder w.partitioner w.table (asked_of w.conditions) w.parts (planned_as w c.args.maps.now world c.args.types c.args.relations.now c.args.parts.now made) in
    let lists = hit_lists w.partitioner (asked_of w.conditions) 0 w.parts in
    new_left w c.args.maps.now world c.args.types c.args.relations.now c.args.parts.now made _ _ refl plan.hits_are c.in_ok-maps.ensures c.new-2.ensures.items
    (new_looks w c.args.maps.now world c.args.types c.args.relations.now c.args.parts.now made c.deref.result.now c.in_ok-lookup.lookup (c.deref.ensures.value ∙ c.in_ok-numbers.ensures) c.in_ok-lookup.ensures.looks)
    _ plan.serving_is (c.in_ok-hits.ensures.leaves (Some w.folder) lists plan.leaves)

pub returns-clause-pays : goal.returns-clause-pays
returns-clause-pays c w world made short =
    let planned = planned_as w c.args.maps.now world c.args.types c.args.relations.now c.args.parts.now made in
    let plan = c.in_ok-plan.ensures.leaves w.folder w.partitioner w.table (asked_of w.conditions) w.parts planned in
    let lists = hit_lists w.partitioner (asked_of w.conditions) 0 w.parts in
    record {
      left = candidates w.parts (where_of w.conditions);
      is_left = new_left w c.args.maps.now world c.args.types c.args.relations.now c.args.parts.now made _ _ refl plan.hits_are c.in_ok-maps.ensures c.new-2.ensures.items
          (new_looks w c.args.maps.now world c.args.types c.args.relations.now c.args.parts.now made c.deref.result.now c.in_ok-lookup.lookup (c.deref.ensures.value ∙ c.in_ok-numbers.ensures) c.in_ok-lookup.ensures.looks)
          _ plan.serving_is (c.in_ok-hits.ensures.leaves (Some w.folder) lists plan.leaves);
      small = own_small w c.args.maps.now world c.args.types c.args.relations.now c.args.parts.now made short;
      hits_pay = c.in_ok-hits.ensures.pays (Some w.folder) (sum_by (file_cost w.partitioner w.conditions) (files_of w.parts)) (c.in_ok-plan.ensures.pays w.folder w.partitioner w.table w.conditions w.parts planned short);
      owes = owes_nothing w 0 (looked_groups w);
    }

pub returns-clause-hits_ready : goal.returns-clause-hits_ready
returns-clause-hits_ready c files = c.in_ok-hits.ensures.ready files (c.in_ok-plan.ensures.ready files)

pub returns-clause-ready : goal.returns-clause-ready
returns-clause-ready c files = record {
  looks = c.in_ok-lookup.ensures.ready files;
  some = c.requires.some;
  few = omega (arith, c.in_ok-plan.ensures.few);
  told = new_told c.args.parts.now c.deref.result.now c.args.types _ _ c.in_ok-lookup.lookup c.in_ok-lookup.ensures.made (c.deref.ensures.value ∙ c.in_ok-numbers.ensures) c.in_ok-plan.ensures.told;
}

pub returns-clause-opens : goal.returns-clause-opens
returns-clause-opens c name opens =
    ⊎_elim (λ hits. c.in_ok-plan.ensures.opens name (c.in_ok-hits.ensures.opens name hits))
    (λ looks. unopened_open c.args.parts.now c.deref.result.now name (c.deref.ensures.value ∙ c.in_ok-numbers.ensures) (subst (λ (l : LookupView). Opens l name) c.in_ok-lookup.ensures.made looks)) opens

pub returns-clause-uses : goal.returns-clause-uses
returns-clause-uses c number uses = subst (λ (numbers : List ℕ). IsOneOf numbers number) c.in_ok-maps.ensures uses

pub returns-clause-shows : goal.returns-clause-shows
returns-clause-shows c files damage shows =
    ⊎_elim (λ hits. of_hits (c.in_ok-plan.ensures.shows files damage (c.in_ok-hits.ensures.shows files damage hits)))
    (λ looks. unopened_show c.args.parts.now c.args.types files c.deref.result.now damage (c.deref.ensures.value ∙ c.in_ok-numbers.ensures) (subst (λ (l : LookupView). Shows l files damage) c.in_ok-lookup.ensures.made looks)) shows

pub returns-clause-prints : goal.returns-clause-prints
returns-clause-prints c files book kind has = new_prints c.args.parts.now c.args.types book kind c.in_ok-lookup.lookup c.in_ok-maps.maps.items c.deref.result.now c.in_ok-lookup.ensures.made c.in_ok-maps.ensures has
