use Rattle.std.proofs.Common.{◌≡◌, List, IfOk, OnOk, sym, subst, arith}
use Rattle.std.proofs.lemmas.Result.{IfOk-weaker}
use Rattle.std.proofs.lemmas.List.{with_items_is}
use Rattle.std.specs.Vec.{with_items}
use Rattle.sasi_ranges.specs.declared.entry.Entry.{Entry}
use Rattle.sasi_ranges.specs.Entries.{Rises}
use Rattle.sasi_ranges.specs.StreamCalls.{Gives, HasStreamed, Spends, StreamFaults}
use Rattle.sasi_ranges.specs.inside.Heads.{HeadsOpen, HeadsPay, HeadsReady, HeadsShow}
use Rattle.sasi_ranges.specs.inside.Unions.{UnionLeaves}
use Rattle.sasi_ranges.proofs.Calling.{faults_as}
use Rattle.sasi_ranges.proofs.Rising.{gives_rising, union_rises_on}
use Rattle.sasi_ranges.proofs.union.UnionTokenStream.next.Goals as goal

pub returns-clause-gives : goal.returns-clause-gives
returns-clause-gives g c es left =
    let back : (with_items c.args.self.now.streams c.next_of.new.streams).items ≡ c.next_of.new.streams = with_items_is c.args.self.now.streams c.next_of.new.streams (omega (arith, c.next_of.auto.streams, c.deref_mut.ensures.len)) in
    let u = g.H.Host.view c.args.host.now in
    let v = g.H.Host.view c.next_of.new.host in
    let Left : List Entry → Type 0 = UnionLeaves g.S.TokenStream.leaves v.files c.next_of.new.streams in
    subst (λ (k : List _). IfOk c.next_of.result (Gives (λ (rest : List Entry). UnionLeaves g.S.TokenStream.leaves v.files k rest × Rises rest) es)) (sym back)
    (IfOk-weaker c.next_of.result (Gives Left es) (Gives (λ (rest : List Entry). Left rest × Rises rest) es)
    (λ found gives. gives_rising Left es found (λ rest is. union_rises_on g.S.TokenStream.leaves v.files c.next_of.new.streams rest is) gives)
    (c.next_of.ensures.gives es (subst (λ (k : List _). UnionLeaves g.S.TokenStream.leaves u.files k es) (sym c.deref_mut.ensures.value) left.0)))

pub returns-clause-reads : goal.returns-clause-reads
returns-clause-reads g c most all =
    let back : (with_items c.args.self.now.streams c.next_of.new.streams).items ≡ c.next_of.new.streams = with_items_is c.args.self.now.streams c.next_of.new.streams (omega (arith, c.next_of.auto.streams, c.deref_mut.ensures.len)) in
    let u = g.H.Host.view c.args.host.now in
    let v = g.H.Host.view c.next_of.new.host in
    subst (λ (k : List _). Spends (HeadsPay g.S.TokenStream.pays v.files k) most u.reads v.reads c.next_of.result) (sym back)
    (c.next_of.ensures.reads most (subst (λ (k : List _). HeadsPay g.S.TokenStream.pays u.files k most) (sym c.deref_mut.ensures.value) all))

pub returns-clause-ready : goal.returns-clause-ready
returns-clause-ready g c =
    let back : (with_items c.args.self.now.streams c.next_of.new.streams).items ≡ c.next_of.new.streams = with_items_is c.args.self.now.streams c.next_of.new.streams (omega (arith, c.next_of.auto.streams, c.deref_mut.ensures.len)) in
    let u = g.H.Host.view c.args.host.now in
    let v = g.H.Host.view c.next_of.new.host in
    subst (λ (k : List _). OnOk c.next_of.result (HeadsReady g.S.TokenStream.ready v.files k)) (sym back) c.next_of.ensures.ready

pub returns-clause-read : goal.returns-clause-read
returns-clause-read g c =
    let back : (with_items c.args.self.now.streams c.next_of.new.streams).items ≡ c.next_of.new.streams = with_items_is c.args.self.now.streams c.next_of.new.streams (omega (arith, c.next_of.auto.streams, c.deref_mut.ensures.len)) in
    let u = g.H.Host.view c.args.host.now in
    let v = g.H.Host.view c.next_of.new.host in
    let agrees = g.P.PageReader.agrees c.next_of.new.pages in
    let before = g.P.PageReader.covers c.args.pages.now in
    let after = g.P.PageReader.covers c.next_of.new.pages in
    subst (λ (k : List _). HasStreamed agrees before after (HeadsOpen g.S.TokenStream.opens c.args.self.now.streams.items) (HeadsOpen g.S.TokenStream.opens k) u v) (sym back)
    (subst (λ (k : List _). HasStreamed agrees before after (HeadsOpen g.S.TokenStream.opens k) (HeadsOpen g.S.TokenStream.opens c.next_of.new.streams) u v) c.deref_mut.ensures.value c.next_of.ensures.read)

pub returns-clause-faults : goal.returns-clause-faults
returns-clause-faults g c =
    let back : (with_items c.args.self.now.streams c.next_of.new.streams).items ≡ c.next_of.new.streams = with_items_is c.args.self.now.streams c.next_of.new.streams (omega (arith, c.next_of.auto.streams, c.deref_mut.ensures.len)) in
    let u = g.H.Host.view c.args.host.now in
    let v = g.H.Host.view c.next_of.new.host in
    faults_as _ _ _ _ _ u v c.next_of.result (λ damage is. is) (λ es left. (es, left.0))
    (subst (λ (k : List _). StreamFaults (HeadsShow g.S.TokenStream.shows u.files c.args.self.now.streams.items) (HeadsShow g.S.TokenStream.shows v.files k) (UnionLeaves g.S.TokenStream.leaves u.files c.args.self.now.streams.items) u v c.next_of.result) (sym back)
    (subst (λ (k : List _). StreamFaults (HeadsShow g.S.TokenStream.shows u.files k) (HeadsShow g.S.TokenStream.shows v.files c.next_of.new.streams) (UnionLeaves g.S.TokenStream.leaves u.files k) u v c.next_of.result) c.deref_mut.ensures.value c.next_of.ensures.faults))

pub returns-clause-shows_less : goal.returns-clause-shows_less
returns-clause-shows_less g c files damage is =
    let back : (with_items c.args.self.now.streams c.next_of.new.streams).items ≡ c.next_of.new.streams = with_items_is c.args.self.now.streams c.next_of.new.streams (omega (arith, c.next_of.auto.streams, c.deref_mut.ensures.len)) in
    let shows = g.S.TokenStream.shows in
    subst (λ (k : List _). HeadsShow shows files k damage) c.deref_mut.ensures.value
    (c.next_of.ensures.shows_less files damage (subst (λ (k : List _). HeadsShow shows files k damage) back is))
