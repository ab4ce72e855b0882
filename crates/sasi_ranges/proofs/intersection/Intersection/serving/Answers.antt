use Rattle.std.proofs.Common.{◌≡◌, List, sym, subst}
use Rattle.sasi_ranges.specs.EachStream.{EachIsReady, EachPays, SomeOpens, SomeShows}
use Rattle.sasi_ranges.specs.inside.Heads.{streams_of}
use Rattle.sasi_ranges.proofs.Making.{intersection_made, streams_are}
use Rattle.sasi_ranges.proofs.ListLaws.{intersection_by_rises}
use Rattle.sasi_ranges.proofs.intersection.Intersection.serving.Goals as goal

pub returns-clause-leaves : goal.returns-clause-leaves
returns-clause-leaves g c files lists all =
    (intersection_made g.S.TokenStream.leaves files (λ s es is. g.met.S.TokenStream.rises s files es is) c.in_ok-streams.streams.items c.args.streams c.args.relations lists c.in_ok-streams.ensures c.requires.some all, intersection_by_rises c.args.relations lists)

pub returns-clause-pays : goal.returns-clause-pays
returns-clause-pays g c files most all =
    let kept : streams_of c.in_ok-streams.streams.items ≡ c.args.streams = streams_are c.in_ok-streams.streams.items c.args.streams c.in_ok-streams.ensures in
    subst (λ (k : List _). EachPays g.S.TokenStream.pays files k most) (sym kept) all

pub returns-clause-opens : goal.returns-clause-opens
returns-clause-opens g c name is =
    let kept : streams_of c.in_ok-streams.streams.items ≡ c.args.streams = streams_are c.in_ok-streams.streams.items c.args.streams c.in_ok-streams.ensures in
    subst (λ (k : List _). SomeOpens g.S.TokenStream.opens k name) kept is

pub returns-clause-ready : goal.returns-clause-ready
returns-clause-ready g c files all =
    let kept : streams_of c.in_ok-streams.streams.items ≡ c.args.streams = streams_are c.in_ok-streams.streams.items c.args.streams c.in_ok-streams.ensures in
    subst (λ (k : List _). EachIsReady g.S.TokenStream.ready files k) (sym kept) all

pub returns-clause-shows : goal.returns-clause-shows
returns-clause-shows g c files damage is =
    let kept : streams_of c.in_ok-streams.streams.items ≡ c.args.streams = streams_are c.in_ok-streams.streams.items c.args.streams c.in_ok-streams.ensures in
    subst (λ (k : List _). SomeShows g.S.TokenStream.shows files k damage) kept is
