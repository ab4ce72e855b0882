use Rattle.std.proofs.Common.{◌≡◌, ℕ, Option, List, sym, subst}
use Rattle.std.proofs.lemmas.Result.{err_from_is_err_and}
use Rattle.sasi_ranges.specs.EachStream.{EachIsReady, EachPays, SomeOpens, SomeShows}
use Rattle.sasi_ranges.specs.inside.Heads.{streams_of}
use Rattle.sasi_ranges.specs.inside.Meets.{MetLeaves, TakesCurrent}
use Rattle.sasi_ranges.proofs.Calling.{faults_as, faults_handed, faults_ok, streamed_as, streams_nothing}
use Rattle.sasi_ranges.proofs.Taking.{takes_current, takes_streams}
use Rattle.sasi_ranges.proofs.intersection.take_current.Goals as goal

pub returns-in_default-clause-read : goal.returns-in_default-clause-read
returns-in_default-clause-read g c = streams_nothing _ _ _ (g.H.Host.view c.args.host.now) c.requires.read.agrees

pub returns-in_err-fill_all-clause-faults : goal.returns-in_err-fill_all-clause-faults
returns-in_err-fill_all-clause-faults g c =
    let p = err_from_is_err_and c.from_residual.result c.from_residual.ensures.1 in
    rw (p.1, p.2) (faults_handed _ _ _ _ (g.H.Host.view c.args.host.now) (g.H.Host.view c.fill_all.new.host) c.fill_all.result c.in_err-fill_all.field-0.0 c.in_err-fill_all.was (λ es met. (met.1.0, met.1.1)) c.fill_all.ensures.faults)

pub returns-clause-takes : goal.returns-clause-takes
returns-clause-takes g c relations es met =
    let leaves = g.S.TokenStream.leaves in
    let files = (g.H.Host.view c.fill_all.new.host).files in
    let here : MetLeaves leaves files c.fill_all.new.streams relations c.args.current es = (met.0, c.in_ok-fill_all.ensures.leaves met.0 met.1, met.2, met.3, met.4, met.5) in
    subst (λ (o : Option ℕ). TakesCurrent leaves files c.take_at.new.streams relations o es c.take_at.result) (sym c.in-Some.is)
    (takes_current leaves files relations c.in-Some.token c.fill_all.new.streams c.take_at.new.streams es c.take_at.result c.in_ok-fill_all.ensures.filled
    (subst (λ (o : Option ℕ). MetLeaves leaves files c.fill_all.new.streams relations o es) c.in-Some.is here) c.take_at.ensures)

pub returns-clause-reads : goal.returns-clause-reads
returns-clause-reads g c most all =
    let kept : streams_of c.take_at.new.streams ≡ streams_of c.fill_all.new.streams = takes_streams c.in-Some.token c.fill_all.new.streams c.take_at.new.streams c.take_at.result c.take_at.ensures in
    let left = c.in_ok-fill_all.ensures.reads most all in
    (left.0, subst (λ (k : List _). EachPays g.S.TokenStream.pays (g.H.Host.view c.fill_all.new.host).files k left.0) (sym kept) left.1, left.2)

pub returns-clause-ready : goal.returns-clause-ready
returns-clause-ready g c =
    let kept : streams_of c.take_at.new.streams ≡ streams_of c.fill_all.new.streams = takes_streams c.in-Some.token c.fill_all.new.streams c.take_at.new.streams c.take_at.result c.take_at.ensures in
    subst (λ (k : List _). EachIsReady g.S.TokenStream.ready (g.H.Host.view c.fill_all.new.host).files k) (sym kept) c.in_ok-fill_all.ensures.ready

pub returns-clause-read : goal.returns-clause-read
returns-clause-read g c =
    let kept : streams_of c.take_at.new.streams ≡ streams_of c.fill_all.new.streams = takes_streams c.in-Some.token c.fill_all.new.streams c.take_at.new.streams c.take_at.result c.take_at.ensures in
    streamed_as _ _ _ _ _ _ (g.H.Host.view c.args.host.now) (g.H.Host.view c.fill_all.new.host) (λ name is. subst (λ (k : List _). SomeOpens g.S.TokenStream.opens k name) kept is) c.fill_all.ensures.read

pub returns-clause-faults : goal.returns-clause-faults
returns-clause-faults g c =
    let kept : streams_of c.take_at.new.streams ≡ streams_of c.fill_all.new.streams = takes_streams c.in-Some.token c.fill_all.new.streams c.take_at.new.streams c.take_at.result c.take_at.ensures in
    let v = g.H.Host.view c.fill_all.new.host in
    faults_ok _ _ _ _ (g.H.Host.view c.args.host.now) v _ _
    (faults_as _ _ _ _ _ (g.H.Host.view c.args.host.now) v _ (λ damage is. subst (λ (k : List _). SomeShows g.S.TokenStream.shows v.files k damage) kept is) (λ lists all. (lists, all)) c.in_ok-fill_all.ensures.faults)

pub returns-clause-shows_less : goal.returns-clause-shows_less
returns-clause-shows_less g c files damage is =
    let kept : streams_of c.take_at.new.streams ≡ streams_of c.fill_all.new.streams = takes_streams c.in-Some.token c.fill_all.new.streams c.take_at.new.streams c.take_at.result c.take_at.ensures in
    c.fill_all.ensures.shows_less files damage (subst (λ (k : List _). SomeShows g.S.TokenStream.shows files k damage) kept is)
