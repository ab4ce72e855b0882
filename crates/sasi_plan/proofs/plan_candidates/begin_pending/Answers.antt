use Rattle.std.proofs.Common.{◌≡◌, true, Some, sym}
use Rattle.sasi_sources.specs.KeyCandidates.{HasKeyType}
use Rattle.sasi_engine.specs.Plans.{is_file_of, map_numbers}
use Rattle.sasi_sources.specs.Maps.{IsOneOf}
use Rattle.sasi_scan.specs.Numbered.{views_numbered}
use Rattle.sasi_plan.specs.declared.plan_candidates.Pending.{Pending}
use Rattle.sasi_plan.specs.Reading.{PendingLeaves, PendingPays, PendingReady, PendingShows}
use Rattle.sasi_plan.proofs.PendingLaws.{at_pending, if_plan, seen_view, since_begun}
use Rattle.sasi_plan.proofs.SinceLaws.{since_now}
use Rattle.sasi_plan.proofs.plan_candidates.begin_pending.Goals as goal

pub begin-requires : goal.begin-requires
begin-requires c =
    at_pending _ (λ (p : Pending). PendingReady p.source c.args.parts.now c.args.maps.now) c.args.pending.now c.in-Some.plan (sym c.in-Some.ensures.value) c.requires

pub returns-clause-leaves : goal.returns-clause-leaves
returns-clause-leaves c files left is =
    let p = c.in-Some.plan in
    let q = at_pending _ (λ (p : Pending). PendingLeaves p.source p.types c.args.parts.now files c.args.maps.now left) c.args.pending.now c.in-Some.plan (sym c.in-Some.ensures.value) is in
    (Some q.0.folder, c.args.maps.now, since_begun p.source p.types c.args.parts.now files c.args.maps.now _ _ c.in_ok-begun.ensures.opens q.0 q.1 q.2, c.in_ok-begun.ensures.leaves q.0 left (seen_view p.source p.types c.args.parts.now files c.args.maps.now q.0 q.1 q.2) q.2.made q.3)

pub returns-clause-pays : goal.returns-clause-pays
returns-clause-pays c files most prices is =
    let p = c.in-Some.plan in
    let q = at_pending _ (λ (p : Pending). PendingPays p.source p.types c.args.parts.now files c.args.maps.now most prices) c.args.pending.now c.in-Some.plan (sym c.in-Some.ensures.value) is in
    (Some q.0.folder, c.args.maps.now, since_begun p.source p.types c.args.parts.now files c.args.maps.now _ _ c.in_ok-begun.ensures.opens q.0 q.1 q.2, c.in_ok-begun.ensures.pays q.0 most prices (seen_view p.source p.types c.args.parts.now files c.args.maps.now q.0 q.1 q.2) q.2.made q.3)

pub returns-clause-ready : goal.returns-clause-ready
returns-clause-ready c files is =
    since_now _ _ _ files c.args.maps.now (c.in_ok-begun.ensures.ready files c.args.maps.now)

pub returns-clause-prints : goal.returns-clause-prints
returns-clause-prints c files kind is =
    since_now _ _ _ files c.args.maps.now (c.in_ok-begun.ensures.prints files c.args.maps.now kind (at_pending _ (λ (p : Pending). HasKeyType p.types (views_numbered c.args.maps.now (map_numbers c.args.parts.now)) kind) c.args.pending.now c.in-Some.plan (sym c.in-Some.ensures.value) is))

pub returns-clause-opens : goal.returns-clause-opens
returns-clause-opens c name opens =
    if_plan _ (λ (p : Pending). is_file_of c.args.parts.now name ≡ true) c.args.pending.now c.in-Some.plan (sym c.in-Some.ensures.value) (c.in_ok-begun.ensures.opens name opens)

pub returns-clause-uses : goal.returns-clause-uses
returns-clause-uses c number uses =
    if_plan _ (λ (p : Pending). IsOneOf (map_numbers c.args.parts.now) number) c.args.pending.now c.in-Some.plan (sym c.in-Some.ensures.value) (c.in_ok-begun.ensures.uses number uses)

pub returns-clause-shows : goal.returns-clause-shows
returns-clause-shows c files damage shows =
    if_plan _ (λ (p : Pending). PendingShows p.types c.args.parts.now files damage) c.args.pending.now c.in-Some.plan (sym c.in-Some.ensures.value) (c.in_ok-begun.ensures.shows files damage shows)
