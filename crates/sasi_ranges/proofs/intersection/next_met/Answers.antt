use Rattle.std.proofs.Common.{◌≡◌, ℕ, Option, List, sym, subst, arith}
use Rattle.std.proofs.lemmas.Result.{err_from_is_err_and}
use Rattle.sasi_ranges.specs.declared.entry.Entry.{Entry}
use Rattle.sasi_ranges.specs.EachStream.{EachIsReady, EachPays, SomeOpens, SomeShows}
use Rattle.sasi_ranges.specs.inside.Heads.{streams_of}
use Rattle.sasi_ranges.specs.inside.Meets.{Agrees, MetLeaves, TakesCurrent}
use Rattle.sasi_ranges.proofs.Calling.{faults_as, faults_handed, faults_ok, faults_then, streamed_as, streamed_then}
use Rattle.sasi_ranges.proofs.Taking.{takes_agreed, takes_streams}
use Rattle.sasi_ranges.proofs.intersection.next_met.Goals as goal

pub returns-in_err-entry-clause-faults : goal.returns-in_err-entry-clause-faults
returns-in_err-entry-clause-faults g c =
    let p = err_from_is_err_and c.from_residual.result c.from_residual.ensures.1 in
    rw (p.1, p.2) (faults_handed _ _ _ _ (g.H.Host.view c.args.host.now) (g.H.Host.view c.take_current.new.host) c.take_current.result c.in_err-entry.field-0.0 c.in_err-entry.was (λ es met. (es, (c.args.relations.now, met))) c.take_current.ensures.faults)

pub returns-in-Some-clause-gives : goal.returns-in-Some-clause-gives
returns-in-Some-clause-gives g c es met =
    subst (λ (o : Option Entry). TakesCurrent g.S.TokenStream.leaves (g.H.Host.view c.take_current.new.host).files c.take_current.new.streams c.args.relations.now c.args.current.now es o) c.in-Some.is (c.in_ok-entry.ensures.takes c.args.relations.now es met)

pub returns-in-Some-clause-faults : goal.returns-in-Some-clause-faults
returns-in-Some-clause-faults g c = faults_ok _ _ _ _ (g.H.Host.view c.args.host.now) (g.H.Host.view c.take_current.new.host) _ _ c.in_ok-entry.ensures.faults

pub returns-in_err-token-clause-read : goal.returns-in_err-token-clause-read
returns-in_err-token-clause-read g c = streamed_then _ _ _ _ _ _ _ _ (g.H.Host.view c.args.host.now) (g.H.Host.view c.take_current.new.host) (g.H.Host.view c.next_agreed.new.host) c.take_current.ensures.read c.next_agreed.ensures.read

pub returns-in_err-token-clause-faults : goal.returns-in_err-token-clause-faults
returns-in_err-token-clause-faults g c =
    let p = err_from_is_err_and c.from_residual-in_err-token.result c.from_residual-in_err-token.ensures.1 in
    rw (p.1, p.2) (faults_then _ _ _ _ _ (g.H.Host.view c.args.host.now) (g.H.Host.view c.take_current.new.host) (g.H.Host.view c.next_agreed.new.host) _ _ (λ es met. (es, subst (λ (o : Option Entry). TakesCurrent g.S.TokenStream.leaves (g.H.Host.view c.take_current.new.host).files c.take_current.new.streams c.args.relations.now c.args.current.now es o) c.in_default.is (c.in_ok-entry.ensures.takes c.args.relations.now es met))) (faults_as _ _ _ _ (MetLeaves g.S.TokenStream.leaves (g.H.Host.view c.args.host.now).files c.args.streams.now c.args.relations.now c.args.current.now) (g.H.Host.view c.args.host.now) (g.H.Host.view c.take_current.new.host) _ (λ damage is. is) (λ es met. (es, (c.args.relations.now, met))) c.in_ok-entry.ensures.faults)
    (faults_handed _ _ _ _ (g.H.Host.view c.take_current.new.host) (g.H.Host.view c.next_agreed.new.host) c.next_agreed.result c.in_err-token.field-0.0 c.in_err-token.was (λ es met. (es, met)) c.next_agreed.ensures.faults))

pub returns-in_default-2-clause-gives : goal.returns-in_default-2-clause-gives
returns-in_default-2-clause-gives g c es met =
    subst (λ (o : Option ℕ). Agrees g.S.TokenStream.leaves (g.H.Host.view c.next_agreed.new.host).files c.next_agreed.new.streams c.args.relations.now es o) c.in_default-2.is
    (c.in_ok-token.ensures.found es (subst (λ (o : Option Entry). TakesCurrent g.S.TokenStream.leaves (g.H.Host.view c.take_current.new.host).files c.take_current.new.streams c.args.relations.now c.args.current.now es o) c.in_default.is (c.in_ok-entry.ensures.takes c.args.relations.now es met)))

pub returns-in_default-2-clause-read : goal.returns-in_default-2-clause-read
returns-in_default-2-clause-read g c = streamed_then _ _ _ _ _ _ _ _ (g.H.Host.view c.args.host.now) (g.H.Host.view c.take_current.new.host) (g.H.Host.view c.next_agreed.new.host) c.take_current.ensures.read c.next_agreed.ensures.read

pub returns-in_default-2-clause-faults : goal.returns-in_default-2-clause-faults
returns-in_default-2-clause-faults g c = faults_ok _ _ _ _ (g.H.Host.view c.args.host.now) (g.H.Host.view c.next_agreed.new.host) _ _ (faults_then _ _ _ _ _ (g.H.Host.view c.args.host.now) (g.H.Host.view c.take_current.new.host) (g.H.Host.view c.next_agreed.new.host) _ _ (λ es met. (es, subst (λ (o : Option Entry). TakesCurrent g.S.TokenStream.leaves (g.H.Host.view c.take_current.new.host).files c.take_current.new.streams c.args.relations.now c.args.current.now es o) c.in_default.is (c.in_ok-entry.ensures.takes c.args.relations.now es met))) (faults_as _ _ _ _ (MetLeaves g.S.TokenStream.leaves (g.H.Host.view c.args.host.now).files c.args.streams.now c.args.relations.now c.args.current.now) (g.H.Host.view c.args.host.now) (g.H.Host.view c.take_current.new.host) _ (λ damage is. is) (λ es met. (es, (c.args.relations.now, met))) c.in_ok-entry.ensures.faults) c.in_ok-token.ensures.faults)

pub returns-clause-gives : goal.returns-clause-gives
returns-clause-gives g c es met =
    takes_agreed g.S.TokenStream.leaves (g.H.Host.view c.next_agreed.new.host).files c.args.relations.now c.in-Some-2.token c.next_agreed.new.streams c.take_at.new.streams es c.take_at.result
    (subst (λ (o : Option ℕ). Agrees g.S.TokenStream.leaves (g.H.Host.view c.next_agreed.new.host).files c.next_agreed.new.streams c.args.relations.now es o) c.in-Some-2.is
    (c.in_ok-token.ensures.found es (subst (λ (o : Option Entry). TakesCurrent g.S.TokenStream.leaves (g.H.Host.view c.take_current.new.host).files c.take_current.new.streams c.args.relations.now c.args.current.now es o) c.in_default.is (c.in_ok-entry.ensures.takes c.args.relations.now es met))))
    c.take_at.ensures

pub returns-clause-reads : goal.returns-clause-reads
returns-clause-reads g c most all =
    let kept : streams_of c.take_at.new.streams ≡ streams_of c.next_agreed.new.streams = takes_streams c.in-Some-2.token c.next_agreed.new.streams c.take_at.new.streams c.take_at.result c.take_at.ensures in
    let first = c.in_ok-entry.ensures.reads most all in
    let second = c.in_ok-token.ensures.reads first.0 first.1 in
    (second.0, subst (λ (k : List _). EachPays g.S.TokenStream.pays (g.H.Host.view c.next_agreed.new.host).files k second.0) (sym kept) second.1, omega (arith, first.2, second.2))

pub returns-clause-ready : goal.returns-clause-ready
returns-clause-ready g c =
    let kept : streams_of c.take_at.new.streams ≡ streams_of c.next_agreed.new.streams = takes_streams c.in-Some-2.token c.next_agreed.new.streams c.take_at.new.streams c.take_at.result c.take_at.ensures in
    subst (λ (k : List _). EachIsReady g.S.TokenStream.ready (g.H.Host.view c.next_agreed.new.host).files k) (sym kept) c.in_ok-token.ensures.ready

pub returns-clause-read : goal.returns-clause-read
returns-clause-read g c =
    let kept : streams_of c.take_at.new.streams ≡ streams_of c.next_agreed.new.streams = takes_streams c.in-Some-2.token c.next_agreed.new.streams c.take_at.new.streams c.take_at.result c.take_at.ensures in
    streamed_as _ _ _ _ _ _ (g.H.Host.view c.args.host.now) (g.H.Host.view c.next_agreed.new.host) (λ name is. subst (λ (k : List _). SomeOpens g.S.TokenStream.opens k name) kept is)
    (streamed_then _ _ _ _ _ _ _ _ (g.H.Host.view c.args.host.now) (g.H.Host.view c.take_current.new.host) (g.H.Host.view c.next_agreed.new.host) c.take_current.ensures.read c.next_agreed.ensures.read)

pub returns-clause-faults : goal.returns-clause-faults
returns-clause-faults g c =
    let kept : streams_of c.take_at.new.streams ≡ streams_of c.next_agreed.new.streams = takes_streams c.in-Some-2.token c.next_agreed.new.streams c.take_at.new.streams c.take_at.result c.take_at.ensures in
    faults_as _ _ _ _ _ (g.H.Host.view c.args.host.now) (g.H.Host.view c.next_agreed.new.host) _ (λ damage is. subst (λ (k : List _). SomeShows g.S.TokenStream.shows (g.H.Host.view c.next_agreed.new.host).files k damage) kept is) (λ es met. (es, met))
    (faults_ok _ _ _ _ (g.H.Host.view c.args.host.now) (g.H.Host.view c.next_agreed.new.host) _ _ (faults_then _ _ _ _ _ (g.H.Host.view c.args.host.now) (g.H.Host.view c.take_current.new.host) (g.H.Host.view c.next_agreed.new.host) _ _ (λ es met. (es, subst (λ (o : Option Entry). TakesCurrent g.S.TokenStream.leaves (g.H.Host.view c.take_current.new.host).files c.take_current.new.streams c.args.relations.now c.args.current.now es o) c.in_default.is (c.in_ok-entry.ensures.takes c.args.relations.now es met))) (faults_as _ _ _ _ (MetLeaves g.S.TokenStream.leaves (g.H.Host.view c.args.host.now).files c.args.streams.now c.args.relations.now c.args.current.now) (g.H.Host.view c.args.host.now) (g.H.Host.view c.take_current.new.host) _ (λ damage is. is) (λ es met. (es, (c.args.relations.now, met))) c.in_ok-entry.ensures.faults) c.in_ok-token.ensures.faults))

pub returns-clause-shows_less : goal.returns-clause-shows_less
returns-clause-shows_less g c files damage is =
    let kept : streams_of c.take_at.new.streams ≡ streams_of c.next_agreed.new.streams = takes_streams c.in-Some-2.token c.next_agreed.new.streams c.take_at.new.streams c.take_at.result c.take_at.ensures in
    c.take_current.ensures.shows_less files damage (c.next_agreed.ensures.shows_less files damage (subst (λ (k : List _). SomeShows g.S.TokenStream.shows files k damage) kept is))
