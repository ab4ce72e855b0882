use Rattle.std.proofs.Common.{◌≡◌, ◌∙◌, true, List, sym, inl, inr, ⊎_elim}
use Rattle.std.proofs.lemmas.Result.{err_from_is_err_and}
use Rattle.sasi_views.specs.declared.part.Part as view
use Rattle.sasi_ranges.proofs.Calling.{on_err, on_ok, streamed_as, streams_nothing}
use Rattle.sasi_sources.specs.KeyCandidates.{HasKeyType}
use Rattle.sasi_engine.specs.Plans.{is_file_of, map_numbers}
use Rattle.sasi_sources.specs.Maps.{IsOneOf}
use Rattle.sasi_scan.specs.Numbered.{views_numbered}
use Rattle.sasi_plan.specs.declared.plan_candidates.Pending.{Pending}
use Rattle.sasi_plan.specs.Reading.{PendingLeaves, PendingPays, PendingReady, PendingShows}
use Rattle.sasi_plan.proofs.PendingLaws.{as_begun, if_begun, if_pending, over_parts}
use Rattle.sasi_plan.proofs.SinceLaws.{memory_lacks, spends_as}
use Rattle.sasi_plan.proofs.plan_candidates.PlanCandidatesCandidates.next.Goals as goal

pub begin_pending-requires : goal.begin_pending-requires
begin_pending-requires g c =
    over_parts _ (λ (vs : List view.Part) (p : Pending). PendingReady p.source vs c.args.maps.now) c.args.self.now.pending c.args.self.now.view c.as_slice-parts.result.now (sym (c.as_slice-parts.ensures ∙ c.parts.ensures)) (if_pending _ _ c.args.self.now.pending c.requires.ready)

pub returns-in_err-begin_pending-clause-uses : goal.returns-in_err-begin_pending-clause-uses
returns-in_err-begin_pending-clause-uses g c number uses =
    over_parts _ (λ (vs : List view.Part) (p : Pending). IsOneOf (map_numbers vs) number) c.args.self.now.pending c.as_slice-parts.result.now c.args.self.now.view (c.as_slice-parts.ensures ∙ c.parts.ensures) (c.begin_pending.ensures.uses number (if_begun _ _ c.begin_pending.new.pending c.begin_pending.ensures.begun uses))

pub returns-in_err-begin_pending-clause-read : goal.returns-in_err-begin_pending-clause-read
returns-in_err-begin_pending-clause-read g c =
    streamed_as _ _ _ _ _ _ (g.H.Host.view c.args.host.now) (g.H.Host.view c.args.host.now) (λ name opens. over_parts _ (λ (vs : List view.Part) (p : Pending). is_file_of vs name ≡ true) c.args.self.now.pending c.as_slice-parts.result.now c.args.self.now.view (c.as_slice-parts.ensures ∙ c.parts.ensures) (c.begin_pending.ensures.opens name (if_begun _ _ c.begin_pending.new.pending c.begin_pending.ensures.begun opens))) (streams_nothing _ _ _ (g.H.Host.view c.args.host.now) c.requires.read.agrees)

pub returns-in_err-begin_pending-clause-faults : goal.returns-in_err-begin_pending-clause-faults
returns-in_err-begin_pending-clause-faults g c =
    let q = err_from_is_err_and c.from_residual.result c.from_residual.ensures.1 in
    rw (q.1, q.2) (memory_lacks _ _ _ (g.H.Host.view c.args.host.now) (λ damage shows. over_parts _ (λ (vs : List view.Part) (p : Pending). PendingShows p.types vs (g.H.Host.view c.args.host.now).files damage) c.args.self.now.pending c.as_slice-parts.result.now c.args.self.now.view (c.as_slice-parts.ensures ∙ c.parts.ensures) (c.begin_pending.ensures.shows (g.H.Host.view c.args.host.now).files damage (if_begun _ _ c.begin_pending.new.pending c.begin_pending.ensures.begun shows))))

pub next_since-requires-clause-read : goal.next_since-requires-clause-read
next_since-requires-clause-read g c =
    record { there = λ name opens. c.requires.read.there name (over_parts _ (λ (vs : List view.Part) (p : Pending). is_file_of vs name ≡ true) c.args.self.now.pending c.as_slice-parts.result.now c.args.self.now.view (c.as_slice-parts.ensures ∙ c.parts.ensures) (c.begin_pending.ensures.opens name opens)); agrees = c.requires.read.agrees }

pub next_since-requires-clause-ready : goal.next_since-requires-clause-ready
next_since-requires-clause-ready g c =
    c.in_ok-begin_pending.ensures.ready (g.H.Host.view c.args.host.now).files (over_parts _ (λ (vs : List view.Part) (p : Pending). PendingReady p.source vs c.args.maps.now) c.args.self.now.pending c.args.self.now.view c.as_slice-parts.result.now (sym (c.as_slice-parts.ensures ∙ c.parts.ensures)) c.requires.ready)

pub returns-clause-gives : goal.returns-clause-gives
returns-clause-gives g c left is =
    rw c.begin_pending.ensures.begun (c.next_since.ensures.gives left (c.in_ok-begin_pending.ensures.leaves (g.H.Host.view c.args.host.now).files left (over_parts _ (λ (vs : List view.Part) (p : Pending). PendingLeaves p.source p.types vs (g.H.Host.view c.args.host.now).files c.args.maps.now left) c.args.self.now.pending c.args.self.now.view c.as_slice-parts.result.now (sym (c.as_slice-parts.ensures ∙ c.parts.ensures)) is)))

pub returns-clause-reads : goal.returns-clause-reads
returns-clause-reads g c most prices is =
    spends_as _ _ _ _ _ c.next_since.result (λ rest is. as_begun _ _ c.begin_pending.new.pending c.begin_pending.ensures.begun is) (c.next_since.ensures.reads most prices (c.in_ok-begin_pending.ensures.pays (g.H.Host.view c.args.host.now).files most prices (over_parts _ (λ (vs : List view.Part) (p : Pending). PendingPays p.source p.types vs (g.H.Host.view c.args.host.now).files c.args.maps.now most prices) c.args.self.now.pending c.args.self.now.view c.as_slice-parts.result.now (sym (c.as_slice-parts.ensures ∙ c.parts.ensures)) is)))

pub returns-clause-ready : goal.returns-clause-ready
returns-clause-ready g c =
    on_ok _ _ c.next_since.result (λ is. as_begun _ _ c.begin_pending.new.pending c.begin_pending.ensures.begun is) c.next_since.ensures.ready

pub returns-clause-uses : goal.returns-clause-uses
returns-clause-uses g c number uses =
    over_parts _ (λ (vs : List view.Part) (p : Pending). IsOneOf (map_numbers vs) number) c.args.self.now.pending c.as_slice-parts.result.now c.args.self.now.view (c.as_slice-parts.ensures ∙ c.parts.ensures) (c.begin_pending.ensures.uses number (c.next_since.ensures.uses number (if_begun _ _ c.begin_pending.new.pending c.begin_pending.ensures.begun uses)))

pub returns-clause-prints : goal.returns-clause-prints
returns-clause-prints g c kind is =
    c.next_since.ensures.prints kind (c.in_ok-begin_pending.ensures.prints (g.H.Host.view c.args.host.now).files kind (over_parts _ (λ (vs : List view.Part) (p : Pending). HasKeyType p.types (views_numbered c.args.maps.now (map_numbers vs)) kind) c.args.self.now.pending c.args.self.now.view c.as_slice-parts.result.now (sym (c.as_slice-parts.ensures ∙ c.parts.ensures)) is))

pub returns-clause-still_prints : goal.returns-clause-still_prints
returns-clause-still_prints g c kind is =
    on_ok _ _ c.next_since.result (λ is. as_begun _ _ c.begin_pending.new.pending c.begin_pending.ensures.begun is) (c.next_since.ensures.still_prints kind (c.in_ok-begin_pending.ensures.prints (g.H.Host.view c.args.host.now).files kind (over_parts _ (λ (vs : List view.Part) (p : Pending). HasKeyType p.types (views_numbered c.args.maps.now (map_numbers vs)) kind) c.args.self.now.pending c.args.self.now.view c.as_slice-parts.result.now (sym (c.as_slice-parts.ensures ∙ c.parts.ensures)) is)))

pub returns-clause-read : goal.returns-clause-read
returns-clause-read g c =
    let one = c.next_since.ensures.read in
    record {
      agrees = one.agrees;
      covers = λ name at. ⊎_elim (λ before. inl before) (λ mine. inr (over_parts _ (λ (vs : List view.Part) (p : Pending). is_file_of vs name ≡ true) c.args.self.now.pending c.as_slice-parts.result.now c.args.self.now.view (c.as_slice-parts.ensures ∙ c.parts.ensures) (c.begin_pending.ensures.opens name mine))) (one.covers name at);
      opens = λ name opens. over_parts _ (λ (vs : List view.Part) (p : Pending). is_file_of vs name ≡ true) c.args.self.now.pending c.as_slice-parts.result.now c.args.self.now.view (c.as_slice-parts.ensures ∙ c.parts.ensures) (c.begin_pending.ensures.opens name (one.opens name (if_begun _ _ c.begin_pending.new.pending c.begin_pending.ensures.begun opens)));
      changes = one.changes;
    }

pub returns-clause-faults : goal.returns-clause-faults
returns-clause-faults g c =
    let one = c.next_since.ensures.faults in
    record {
      causes = one.causes;
      damaged = on_err _ _ c.next_since.result (λ damage shown. over_parts _ (λ (vs : List view.Part) (p : Pending). PendingShows p.types vs (g.H.Host.view c.args.host.now).files damage) c.args.self.now.pending c.as_slice-parts.result.now c.args.self.now.view (c.as_slice-parts.ensures ∙ c.parts.ensures) (c.begin_pending.ensures.shows (g.H.Host.view c.args.host.now).files damage shown)) one.damaged;
      undamaged = on_err _ _ c.next_since.result (λ damage none left is. none left (c.in_ok-begin_pending.ensures.leaves (g.H.Host.view c.args.host.now).files left (over_parts _ (λ (vs : List view.Part) (p : Pending). PendingLeaves p.source p.types vs (g.H.Host.view c.args.host.now).files c.args.maps.now left) c.args.self.now.pending c.args.self.now.view c.as_slice-parts.result.now (sym (c.as_slice-parts.ensures ∙ c.parts.ensures)) is))) one.undamaged;
      shows = λ damage shows. over_parts _ (λ (vs : List view.Part) (p : Pending). PendingShows p.types vs (g.H.Host.view c.args.host.now).files damage) c.args.self.now.pending c.as_slice-parts.result.now c.args.self.now.view (c.as_slice-parts.ensures ∙ c.parts.ensures) (c.begin_pending.ensures.shows (g.H.Host.view c.args.host.now).files damage (one.shows damage (if_begun _ _ c.begin_pending.new.pending c.begin_pending.ensures.begun shows)));
    }

pub returns-in_err-begin_pending-clause-shows_less : goal.returns-in_err-begin_pending-clause-shows_less
returns-in_err-begin_pending-clause-shows_less g c files damage shows =
    over_parts _ (λ (vs : List view.Part) (p : Pending). PendingShows p.types vs files damage) c.args.self.now.pending c.as_slice-parts.result.now c.args.self.now.view (c.as_slice-parts.ensures ∙ c.parts.ensures)
    (c.begin_pending.ensures.shows files damage (if_begun _ _ c.begin_pending.new.pending c.begin_pending.ensures.begun shows))

pub returns-clause-shows_less : goal.returns-clause-shows_less
returns-clause-shows_less g c files damage shows =
    over_parts _ (λ (vs : List view.Part) (p : Pending). PendingShows p.types vs files damage) c.args.self.now.pending c.as_slice-parts.result.now c.args.self.now.view (c.as_slice-parts.ensures ∙ c.parts.ensures)
    (c.begin_pending.ensures.shows files damage (c.next_since.ensures.shows_less files damage (if_begun _ _ c.begin_pending.new.pending c.begin_pending.ensures.begun shows)))
