use Rattle.std.proofs.Common.{sym}
use Rattle.std.specs.Option.{IsSomeAnd}
use Rattle.sasi_host.specs.declared.name.FileName.{FileName}
use Rattle.sasi_types.specs.declared.decorated_key.DecoratedKey.{DecoratedKey}
use Rattle.sasi_ranges.proofs.Calling.{streamed_as, streams_nothing}
use Rattle.sasi_sources.specs.Maps.{IsOneOf}
use Rattle.sasi_engine.specs.inside.Steps.{SourceOpens, SourceShows}
use Rattle.sasi_engine.proofs.HandLaws.{always_ok}
use Rattle.sasi_engine.proofs.KeyedCalls.{all_now, can_once, faults_once, given_once, had_all, had_left, had_owing, none_now, read_once, spent_once}
use Rattle.sasi_engine.proofs.keyed_hits.KeyedHitsCandidates.next.Goals as goal

pub returns-in_default-clause-read : goal.returns-in_default-clause-read
returns-in_default-clause-read g c =
    let s = c.args.self.now in
    let v = g.H.Host.view c.args.host.now in
    let opens : FileName → Type 0 = SourceOpens (g.S.TokenStream.opens s.hits) s.hand in
    let before : FileName → Type 0 = λ name. IsSomeAnd s.key (λ (k : DecoratedKey). opens name) in
    streamed_as _ _ _ before before (λ name. IsSomeAnd c.take.new.self (λ (k : DecoratedKey). opens name)) v v (λ name is. absurd (none_now c.take.new.self c.take.ensures.after (opens name) is)) (streams_nothing _ _ before v c.requires.read.agrees)

pub find_candidate-requires-clause-read : goal.find_candidate-requires-clause-read
find_candidate-requires-clause-read g c = can_once c.take.new.self c.take.ensures.after c.args.self.now.key c.in-Some.key (sym c.in-Some.ensures.value) _ (SourceOpens (g.S.TokenStream.opens c.args.self.now.hits) c.args.self.now.hand) (g.H.Host.view c.args.host.now) c.requires.read

pub find_candidate-requires-clause-hits_ready : goal.find_candidate-requires-clause-hits_ready
find_candidate-requires-clause-hits_ready g c = (had_all c.take.new.self c.take.ensures.after c.args.self.now.key c.in-Some.key (sym c.in-Some.ensures.value) _ c.requires.ready).0

pub find_candidate-requires-clause-ready : goal.find_candidate-requires-clause-ready
find_candidate-requires-clause-ready g c = (had_all c.take.new.self c.take.ensures.after c.args.self.now.key c.in-Some.key (sym c.in-Some.ensures.value) _ c.requires.ready).1

pub returns-clause-gives : goal.returns-clause-gives
returns-clause-gives g c left leaves =
    let s = c.args.self.now in
    let S = g.S.TokenStream in
    let u = g.H.Host.view c.args.host.now in
    let w = g.H.Host.view c.find_candidate.new.host in
    given_once c.take.new.self c.take.ensures.after s.key c.in-Some.key (sym c.in-Some.ensures.value) (S.leaves c.find_candidate.new.hits w.files) c.find_candidate.new.hand w.files c.args.maps.now left c.find_candidate.result
    (c.find_candidate.ensures.gives left (had_left c.take.new.self c.take.ensures.after s.key c.in-Some.key (sym c.in-Some.ensures.value) (S.leaves s.hits u.files) s.hand u.files c.args.maps.now left leaves))

pub returns-clause-reads : goal.returns-clause-reads
returns-clause-reads g c most prices pays =
    let s = c.args.self.now in
    let S = g.S.TokenStream in
    let u = g.H.Host.view c.args.host.now in
    spent_once c.take.new.self c.take.ensures.after _ _ _ _ _ _ _ _ _ c.find_candidate.result
    (c.find_candidate.ensures.reads most prices (had_owing c.take.new.self c.take.ensures.after s.key c.in-Some.key (sym c.in-Some.ensures.value) (S.leaves s.hits u.files) (S.pays s.hits u.files) s.hand u.files c.args.maps.now most prices pays))

pub returns-clause-ready : goal.returns-clause-ready
returns-clause-ready g c = always_ok _ c.find_candidate.result (all_now c.take.new.self c.take.ensures.after _)

pub returns-clause-uses : goal.returns-clause-uses
returns-clause-uses g c number uses = absurd (none_now c.take.new.self c.take.ensures.after (IsOneOf c.find_candidate.new.hand.maps.items number) uses)

pub returns-clause-prints : goal.returns-clause-prints
returns-clause-prints g c kind has = c.find_candidate.ensures.prints kind (had_all c.take.new.self c.take.ensures.after c.args.self.now.key c.in-Some.key (sym c.in-Some.ensures.value) _ has)

pub returns-clause-still_prints : goal.returns-clause-still_prints
returns-clause-still_prints g c kind has = always_ok _ c.find_candidate.result (all_now c.take.new.self c.take.ensures.after _)

pub returns-clause-read : goal.returns-clause-read
returns-clause-read g c =
    let s = c.args.self.now in
    let S = g.S.TokenStream in
    read_once c.take.new.self c.take.ensures.after s.key c.in-Some.key (sym c.in-Some.ensures.value) _ _ _ (SourceOpens (S.opens s.hits) s.hand) (SourceOpens (S.opens c.find_candidate.new.hits) c.find_candidate.new.hand) (SourceOpens (S.opens c.find_candidate.new.hits) c.find_candidate.new.hand)
    (g.H.Host.view c.args.host.now) (g.H.Host.view c.find_candidate.new.host) c.find_candidate.ensures.read

pub returns-clause-faults : goal.returns-clause-faults
returns-clause-faults g c =
    let s = c.args.self.now in
    let S = g.S.TokenStream in
    let u = g.H.Host.view c.args.host.now in
    let w = g.H.Host.view c.find_candidate.new.host in
    faults_once c.take.new.self c.take.ensures.after s.key c.in-Some.key (sym c.in-Some.ensures.value) (SourceShows (S.shows s.hits u.files) s.hand u.files) (SourceShows (S.shows c.find_candidate.new.hits w.files) c.find_candidate.new.hand w.files) _
    (S.leaves s.hits u.files) s.hand u.files c.args.maps.now u w c.find_candidate.result c.find_candidate.ensures.faults

pub returns-clause-shows_less : goal.returns-clause-shows_less
returns-clause-shows_less g c files damage is =
    absurd (none_now c.take.new.self c.take.ensures.after (SourceShows (g.S.TokenStream.shows c.find_candidate.new.hits files) c.find_candidate.new.hand files damage) is)
