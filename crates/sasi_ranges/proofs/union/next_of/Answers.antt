use Rattle.std.proofs.Common.{◌≡◌, ◌∙◌, List, map, ap, sym, subst}
use Rattle.std.proofs.lemmas.Result.{err_from_is_err_and}
use Rattle.sasi_ranges.specs.EachStream.{EachIsReady, EachPays, SomeOpens, SomeShows}
use Rattle.sasi_ranges.specs.inside.Heads.{AllLeave, streams_of}
use Rattle.sasi_ranges.specs.inside.Unions.{drop_if}
use Rattle.sasi_ranges.proofs.Calling.{faults_as, faults_handed, faults_ok, streamed_as}
use Rattle.sasi_ranges.proofs.Least.{all_dropped, all_ended, least_is, streams_dropped, unites_least, unites_none}
use Rattle.sasi_ranges.proofs.Taking.{all_drop_rise}
use Rattle.sasi_ranges.proofs.union.next_of.Goals as goal

pub returns-in_err-fill_all-clause-faults : goal.returns-in_err-fill_all-clause-faults
returns-in_err-fill_all-clause-faults g c =
    let p = err_from_is_err_and c.from_residual.result c.from_residual.ensures.1 in
    rw (p.1, p.2) (faults_handed _ _ _ _ (g.H.Host.view c.args.host.now) (g.H.Host.view c.fill_all.new.host) c.fill_all.result c.in_err-fill_all.field-0.0 c.in_err-fill_all.was (λ es left. (left.0, left.1)) c.fill_all.ensures.faults)

pub returns-in-None-clause-gives : goal.returns-in-None-clause-gives
returns-in-None-clause-gives g c es all =
    let leaves = g.S.TokenStream.leaves in
    let files = (g.H.Host.view c.fill_all.new.host).files in
    let now = c.in_ok-fill_all.ensures.leaves all.0 all.1 in
    let empty = all_ended leaves files c.fill_all.new.streams all.0 c.in_ok-fill_all.ensures.filled now (sym c.in-None.ensures) in
    (unites_none all.0 es empty all.3, (all.0, now, all.2, empty))

pub returns-in-None-clause-faults : goal.returns-in-None-clause-faults
returns-in-None-clause-faults g c = faults_ok _ _ _ _ (g.H.Host.view c.args.host.now) (g.H.Host.view c.fill_all.new.host) _ _ c.in_ok-fill_all.ensures.faults

pub returns-in-Some-clause-gives : goal.returns-in-Some-clause-gives
returns-in-Some-clause-gives g c es all =
    let leaves = g.S.TokenStream.leaves in
    let files = (g.H.Host.view c.fill_all.new.host).files in
    let hs = c.fill_all.new.streams in
    let e = c.in-Some.least in
    let now = c.in_ok-fill_all.ensures.leaves all.0 all.1 in
    let least = least_is leaves files hs all.0 e c.in_ok-fill_all.ensures.filled now (sym c.in-Some.ensures) in
    let rest = unites_least e all.0 es least all.3 in
    (rest.0, rest.1, (map (drop_if e) all.0, subst (λ (k : List _). AllLeave leaves files k (map (drop_if e) all.0)) (sym c.drop_all.ensures) (all_dropped leaves files e hs all.0 c.in_ok-fill_all.ensures.filled now), all_drop_rise e all.0 all.2, rest.2))

pub returns-in-Some-clause-reads : goal.returns-in-Some-clause-reads
returns-in-Some-clause-reads g c most all =
    let kept : streams_of c.drop_all.new.streams ≡ streams_of c.fill_all.new.streams = ap streams_of c.drop_all.ensures ∙ streams_dropped c.in-Some.least c.fill_all.new.streams in
    let left = c.in_ok-fill_all.ensures.reads most all in
    (left.0, subst (λ (k : List _). EachPays g.S.TokenStream.pays (g.H.Host.view c.fill_all.new.host).files k left.0) (sym kept) left.1, left.2)

pub returns-in-Some-clause-ready : goal.returns-in-Some-clause-ready
returns-in-Some-clause-ready g c =
    let kept : streams_of c.drop_all.new.streams ≡ streams_of c.fill_all.new.streams = ap streams_of c.drop_all.ensures ∙ streams_dropped c.in-Some.least c.fill_all.new.streams in
    subst (λ (k : List _). EachIsReady g.S.TokenStream.ready (g.H.Host.view c.fill_all.new.host).files k) (sym kept) c.in_ok-fill_all.ensures.ready

pub returns-in-Some-clause-read : goal.returns-in-Some-clause-read
returns-in-Some-clause-read g c =
    let kept : streams_of c.drop_all.new.streams ≡ streams_of c.fill_all.new.streams = ap streams_of c.drop_all.ensures ∙ streams_dropped c.in-Some.least c.fill_all.new.streams in
    streamed_as _ _ _ _ _ _ (g.H.Host.view c.args.host.now) (g.H.Host.view c.fill_all.new.host) (λ name is. subst (λ (k : List _). SomeOpens g.S.TokenStream.opens k name) kept is) c.fill_all.ensures.read

pub returns-in-Some-clause-faults : goal.returns-in-Some-clause-faults
returns-in-Some-clause-faults g c =
    let kept : streams_of c.drop_all.new.streams ≡ streams_of c.fill_all.new.streams = ap streams_of c.drop_all.ensures ∙ streams_dropped c.in-Some.least c.fill_all.new.streams in
    let v = g.H.Host.view c.fill_all.new.host in
    faults_ok _ _ _ _ (g.H.Host.view c.args.host.now) v _ _
    (faults_as _ _ _ _ _ (g.H.Host.view c.args.host.now) v _ (λ damage is. subst (λ (k : List _). SomeShows g.S.TokenStream.shows v.files k damage) kept is) (λ lists all. (lists, all)) c.in_ok-fill_all.ensures.faults)

pub returns-in-Some-clause-shows_less : goal.returns-in-Some-clause-shows_less
returns-in-Some-clause-shows_less g c files damage is =
    let kept : streams_of c.drop_all.new.streams ≡ streams_of c.fill_all.new.streams = ap streams_of c.drop_all.ensures ∙ streams_dropped c.in-Some.least c.fill_all.new.streams in
    c.fill_all.ensures.shows_less files damage (subst (λ (k : List _). SomeShows g.S.TokenStream.shows files k damage) kept is)
