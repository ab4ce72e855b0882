use Rattle.std.proofs.Common.{◌≡◌, List, IfOk, OnOk, sym, subst, arith}
use Rattle.std.proofs.lemmas.Result.{IfOk-weaker}
use Rattle.std.proofs.lemmas.List.{with_items_is}
use Rattle.std.specs.Vec.{with_items}
use Rattle.sasi_ranges.specs.declared.entry.Entry.{Entry}
use Rattle.sasi_ranges.specs.Entries.{Rises}
use Rattle.sasi_ranges.specs.StreamCalls.{Gives, HasStreamed, Spends, StreamFaults}
use Rattle.sasi_ranges.specs.inside.Heads.{HeadsOpen, HeadsPay, HeadsReady, HeadsShow}
use Rattle.sasi_ranges.specs.inside.Meets.{MetLeaves}
use Rattle.sasi_ranges.proofs.Calling.{faults_as}
use Rattle.sasi_ranges.proofs.Rising.{gives_rising, met_rises_on}
use Rattle.sasi_ranges.proofs.intersection.IntersectionTokenStream.next.Goals as goal

pub returns-clause-gives : goal.returns-clause-gives
returns-clause-gives g c es left =
    let back : (with_items c.args.self.now.streams c.next_met.new.streams).items ≡ c.next_met.new.streams = with_items_is c.args.self.now.streams c.next_met.new.streams (omega (arith, c.next_met.auto.streams, c.deref_mut.ensures.len)) in
    let u = g.H.Host.view c.args.host.now in
    let v = g.H.Host.view c.next_met.new.host in
    let Left : List Entry → Type 0 = MetLeaves g.S.TokenStream.leaves v.files c.next_met.new.streams c.args.self.now.relations c.next_met.new.current in
    subst (λ (k : List _). IfOk c.next_met.result (Gives (λ (rest : List Entry). MetLeaves g.S.TokenStream.leaves v.files k c.args.self.now.relations c.next_met.new.current rest × Rises rest) es)) (sym back)
    (IfOk-weaker c.next_met.result (Gives Left es) (Gives (λ (rest : List Entry). Left rest × Rises rest) es)
    (λ found gives. gives_rising Left es found (λ rest is. met_rises_on g.S.TokenStream.leaves v.files c.next_met.new.streams c.args.self.now.relations c.next_met.new.current rest is) gives)
    (c.next_met.ensures.gives es (subst (λ (k : List _). MetLeaves g.S.TokenStream.leaves u.files k c.args.self.now.relations c.args.self.now.current es) (sym c.deref_mut.ensures.value) left.0)))

pub returns-clause-reads : goal.returns-clause-reads
returns-clause-reads g c most all =
    let back : (with_items c.args.self.now.streams c.next_met.new.streams).items ≡ c.next_met.new.streams = with_items_is c.args.self.now.streams c.next_met.new.streams (omega (arith, c.next_met.auto.streams, c.deref_mut.ensures.len)) in
    let u = g.H.Host.view c.args.host.now in
    let v = g.H.Host.view c.next_met.new.host in
    subst (λ (k : List _). Spends (HeadsPay g.S.TokenStream.pays v.files k) most u.reads v.reads c.next_met.result) (sym back)
    (c.next_met.ensures.reads most (subst (λ (k : List _). HeadsPay g.S.TokenStream.pays u.files k most) (sym c.deref_mut.ensures.value) all))

pub returns-clause-ready : goal.returns-clause-ready
returns-clause-ready g c =
    let back : (with_items c.args.self.now.streams c.next_met.new.streams).items ≡ c.next_met.new.streams = with_items_is c.args.self.now.streams c.next_met.new.streams (omega (arith, c.next_met.auto.streams, c.deref_mut.ensures.len)) in
    let u = g.H.Host.view c.args.host.now in
    let v = g.H.Host.view c.next_met.new.host in
    subst (λ (k : List _). OnOk c.next_met.result (HeadsReady g.S.TokenStream.ready v.files k)) (sym back) c.next_met.ensures.ready

pub returns-clause-read : goal.returns-clause-read
returns-clause-read g c =
    let back : (with_items c.args.self.now.streams c.next_met.new.streams).items ≡ c.next_met.new.streams = with_items_is c.args.self.now.streams c.next_met.new.streams (omega (arith, c.next_met.auto.streams, c.deref_mut.ensures.len)) in
    let u = g.H.Host.view c.args.host.now in
    let v = g.H.Host.view c.next_met.new.host in
    let agrees = g.P.PageReader.agrees c.next_met.new.pages in
    let before = g.P.PageReader.covers c.args.pages.now in
    let after = g.P.PageReader.covers c.next_met.new.pages in
    subst (λ (k : List _). HasStreamed agrees before after (HeadsOpen g.S.TokenStream.opens c.args.self.now.streams.items) (HeadsOpen g.S.TokenStream.opens k) u v) (sym back)
    (subst (λ (k : List _). HasStreamed agrees before after (HeadsOpen g.S.TokenStream.opens k) (HeadsOpen g.S.TokenStream.opens c.next_met.new.streams) u v) c.deref_mut.ensures.value c.next_met.ensures.read)

pub returns-clause-faults : goal.returns-clause-faults
returns-clause-faults g c =
    let back : (with_items c.args.self.now.streams c.next_met.new.streams).items ≡ c.next_met.new.streams = with_items_is c.args.self.now.streams c.next_met.new.streams (omega (arith, c.next_met.auto.streams, c.deref_mut.ensures.len)) in
    let u = g.H.Host.view c.args.host.now in
    let v = g.H.Host.view c.next_met.new.host in
    faults_as _ _ _ _ _ u v c.next_met.result (λ damage is. is) (λ es left. (es, left.0))
    (subst (λ (k : List _). StreamFaults (HeadsShow g.S.TokenStream.shows u.files c.args.self.now.streams.items) (HeadsShow g.S.TokenStream.shows v.files k) (MetLeaves g.S.TokenStream.leaves u.files c.args.self.now.streams.items c.args.self.now.relations c.args.self.now.current) u v c.next_met.result) (sym back)
    (subst (λ (k : List _). StreamFaults (HeadsShow g.S.TokenStream.shows u.files k) (HeadsShow g.S.TokenStream.shows v.files c.next_met.new.streams) (MetLeaves g.S.TokenStream.leaves u.files k c.args.self.now.relations c.args.self.now.current) u v c.next_met.result) c.deref_mut.ensures.value c.next_met.ensures.faults))

pub returns-clause-shows_less : goal.returns-clause-shows_less
returns-clause-shows_less g c files damage is =
    let back : (with_items c.args.self.now.streams c.next_met.new.streams).items ≡ c.next_met.new.streams = with_items_is c.args.self.now.streams c.next_met.new.streams (omega (arith, c.next_met.auto.streams, c.deref_mut.ensures.len)) in
    let shows = g.S.TokenStream.shows in
    subst (λ (k : List _). HeadsShow shows files k damage) c.deref_mut.ensures.value
    (c.next_met.ensures.shows_less files damage (subst (λ (k : List _). HeadsShow shows files k damage) back is))
