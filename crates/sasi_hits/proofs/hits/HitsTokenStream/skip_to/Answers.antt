use Rattle.std.proofs.Common.{sym, subst}
use Rattle.sasi_ranges.specs.StreamCalls.{CanStream, HasStreamed, StreamFaults}
use Rattle.sasi_hits.specs.declared.hits.Hits.{Hits}
use Rattle.sasi_hits.specs.declared.hits.Hits.TheVariants.{Index, Keys, Map}
use Rattle.sasi_hits.specs.Hits.{Leaves, Opens, Pays, Ready, Shows}
use Rattle.sasi_hits.proofs.hits.HitsTokenStream.skip_to.Goals as goal

pub skip_to-requires-clause-read : goal.skip_to-requires-clause-read
skip_to-requires-clause-read g c =
    subst (λ (s : Hits). CanStream (g.P.PageReader.agrees c.args.pages.now) (Opens s) (g.H.Host.view c.args.host.now)) c.in-Index.is c.requires.read

pub skip_to-requires-clause-ready : goal.skip_to-requires-clause-ready
skip_to-requires-clause-ready g c =
    subst (λ (s : Hits). Ready s (g.H.Host.view c.args.host.now).files) c.in-Index.is c.requires.ready

pub returns-in-Index-clause-skips : goal.returns-in-Index-clause-skips
returns-in-Index-clause-skips g c es left =
    c.skip_to.ensures.skips es (subst (λ (s : Hits). Leaves s (g.H.Host.view c.args.host.now).files es) c.in-Index.is left)

pub returns-in-Index-clause-reads : goal.returns-in-Index-clause-reads
returns-in-Index-clause-reads g c most pays =
    c.skip_to.ensures.reads most (subst (λ (s : Hits). Pays s (g.H.Host.view c.args.host.now).files most) c.in-Index.is pays)

pub returns-in-Index-clause-ready : goal.returns-in-Index-clause-ready
returns-in-Index-clause-ready g c =
    c.skip_to.ensures.ready

pub returns-in-Index-clause-read : goal.returns-in-Index-clause-read
returns-in-Index-clause-read g c =
    subst (λ (s : Hits). HasStreamed (g.P.PageReader.agrees c.skip_to.new.pages) (g.P.PageReader.covers c.args.pages.now) (g.P.PageReader.covers c.skip_to.new.pages) (Opens s) (Opens (Index c.skip_to.new.self)) (g.H.Host.view c.args.host.now) (g.H.Host.view c.skip_to.new.host)) (sym c.in-Index.is) c.skip_to.ensures.read

pub returns-in-Index-clause-faults : goal.returns-in-Index-clause-faults
returns-in-Index-clause-faults g c =
    subst (λ (s : Hits). StreamFaults (Shows s (g.H.Host.view c.args.host.now).files) (Shows (Index c.skip_to.new.self) (g.H.Host.view c.skip_to.new.host).files) (Leaves s (g.H.Host.view c.args.host.now).files) (g.H.Host.view c.args.host.now) (g.H.Host.view c.skip_to.new.host) c.skip_to.result) (sym c.in-Index.is) c.skip_to.ensures.faults

pub skip_to-requires-in-Keys-clause-read : goal.skip_to-requires-in-Keys-clause-read
skip_to-requires-in-Keys-clause-read g c =
    subst (λ (s : Hits). CanStream (g.P.PageReader.agrees c.args.pages.now) (Opens s) (g.H.Host.view c.args.host.now)) c.in-Keys.is c.requires.read

pub skip_to-requires-in-Keys-clause-ready : goal.skip_to-requires-in-Keys-clause-ready
skip_to-requires-in-Keys-clause-ready g c =
    subst (λ (s : Hits). Ready s (g.H.Host.view c.args.host.now).files) c.in-Keys.is c.requires.ready

pub returns-in-Keys-clause-skips : goal.returns-in-Keys-clause-skips
returns-in-Keys-clause-skips g c es left =
    c.skip_to-in-Keys.ensures.skips es (subst (λ (s : Hits). Leaves s (g.H.Host.view c.args.host.now).files es) c.in-Keys.is left)

pub returns-in-Keys-clause-reads : goal.returns-in-Keys-clause-reads
returns-in-Keys-clause-reads g c most pays =
    c.skip_to-in-Keys.ensures.reads most (subst (λ (s : Hits). Pays s (g.H.Host.view c.args.host.now).files most) c.in-Keys.is pays)

pub returns-in-Keys-clause-ready : goal.returns-in-Keys-clause-ready
returns-in-Keys-clause-ready g c =
    c.skip_to-in-Keys.ensures.ready

pub returns-in-Keys-clause-read : goal.returns-in-Keys-clause-read
returns-in-Keys-clause-read g c =
    subst (λ (s : Hits). HasStreamed (g.P.PageReader.agrees c.skip_to-in-Keys.new.pages) (g.P.PageReader.covers c.args.pages.now) (g.P.PageReader.covers c.skip_to-in-Keys.new.pages) (Opens s) (Opens (Keys c.skip_to-in-Keys.new.self)) (g.H.Host.view c.args.host.now) (g.H.Host.view c.skip_to-in-Keys.new.host)) (sym c.in-Keys.is) c.skip_to-in-Keys.ensures.read

pub returns-in-Keys-clause-faults : goal.returns-in-Keys-clause-faults
returns-in-Keys-clause-faults g c =
    subst (λ (s : Hits). StreamFaults (Shows s (g.H.Host.view c.args.host.now).files) (Shows (Keys c.skip_to-in-Keys.new.self) (g.H.Host.view c.skip_to-in-Keys.new.host).files) (Leaves s (g.H.Host.view c.args.host.now).files) (g.H.Host.view c.args.host.now) (g.H.Host.view c.skip_to-in-Keys.new.host) c.skip_to-in-Keys.result) (sym c.in-Keys.is) c.skip_to-in-Keys.ensures.faults

pub skip_to-requires-in-Map-clause-read : goal.skip_to-requires-in-Map-clause-read
skip_to-requires-in-Map-clause-read g c =
    subst (λ (s : Hits). CanStream (g.P.PageReader.agrees c.args.pages.now) (Opens s) (g.H.Host.view c.args.host.now)) c.in-Map.is c.requires.read

pub skip_to-requires-in-Map-clause-ready : goal.skip_to-requires-in-Map-clause-ready
skip_to-requires-in-Map-clause-ready g c =
    subst (λ (s : Hits). Ready s (g.H.Host.view c.args.host.now).files) c.in-Map.is c.requires.ready

pub returns-in-Map-clause-skips : goal.returns-in-Map-clause-skips
returns-in-Map-clause-skips g c es left =
    c.skip_to-in-Map.ensures.skips es (subst (λ (s : Hits). Leaves s (g.H.Host.view c.args.host.now).files es) c.in-Map.is left)

pub returns-in-Map-clause-reads : goal.returns-in-Map-clause-reads
returns-in-Map-clause-reads g c most pays =
    c.skip_to-in-Map.ensures.reads most (subst (λ (s : Hits). Pays s (g.H.Host.view c.args.host.now).files most) c.in-Map.is pays)

pub returns-in-Map-clause-ready : goal.returns-in-Map-clause-ready
returns-in-Map-clause-ready g c =
    c.skip_to-in-Map.ensures.ready

pub returns-in-Map-clause-read : goal.returns-in-Map-clause-read
returns-in-Map-clause-read g c =
    subst (λ (s : Hits). HasStreamed (g.P.PageReader.agrees c.skip_to-in-Map.new.pages) (g.P.PageReader.covers c.args.pages.now) (g.P.PageReader.covers c.skip_to-in-Map.new.pages) (Opens s) (Opens (Map c.skip_to-in-Map.new.self)) (g.H.Host.view c.args.host.now) (g.H.Host.view c.skip_to-in-Map.new.host)) (sym c.in-Map.is) c.skip_to-in-Map.ensures.read

pub returns-in-Map-clause-faults : goal.returns-in-Map-clause-faults
returns-in-Map-clause-faults g c =
    subst (λ (s : Hits). StreamFaults (Shows s (g.H.Host.view c.args.host.now).files) (Shows (Map c.skip_to-in-Map.new.self) (g.H.Host.view c.skip_to-in-Map.new.host).files) (Leaves s (g.H.Host.view c.args.host.now).files) (g.H.Host.view c.args.host.now) (g.H.Host.view c.skip_to-in-Map.new.host) c.skip_to-in-Map.result) (sym c.in-Map.is) c.skip_to-in-Map.ensures.faults

pub returns-in-Index-clause-shows_less : goal.returns-in-Index-clause-shows_less
returns-in-Index-clause-shows_less g c files damage is =
    subst (λ (s : Hits). Shows s files damage) (sym c.in-Index.is) (c.skip_to.ensures.shows_less files damage is)

pub returns-in-Keys-clause-shows_less : goal.returns-in-Keys-clause-shows_less
returns-in-Keys-clause-shows_less g c files damage is =
    subst (λ (s : Hits). Shows s files damage) (sym c.in-Keys.is) (c.skip_to-in-Keys.ensures.shows_less files damage is)

pub returns-in-Map-clause-shows_less : goal.returns-in-Map-clause-shows_less
returns-in-Map-clause-shows_less g c files damage is =
    subst (λ (s : Hits). Shows s files damage) (sym c.in-Map.is) (c.skip_to-in-Map.ensures.shows_less files damage is)
