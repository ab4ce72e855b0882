use Rattle.std.proofs.Common.{◌≡◌, List, OnOk, map, sym, subst, arith}
use Rattle.std.proofs.lemmas.List.{with_items_is}
use Rattle.std.specs.Vec.{with_items}
use Rattle.sasi_ranges.specs.Entries.{Rises, from_token}
use Rattle.sasi_ranges.specs.StreamCalls.{HasStreamed, Spends, StreamFaults}
use Rattle.sasi_ranges.specs.inside.Heads.{AllLeave, HeadsOpen, HeadsPay, HeadsReady, HeadsShow}
use Rattle.sasi_ranges.specs.inside.Unions.{UnionLeaves}
use Rattle.sasi_ranges.proofs.Agreeing.{all_rise_from, rises_from}
use Rattle.sasi_ranges.proofs.Calling.{faults_as, on_ok}
use Rattle.sasi_ranges.proofs.Least.{unites_skip}
use Rattle.sasi_ranges.proofs.union.UnionTokenStream.skip_to.Goals as goal

pub returns-clause-skips : goal.returns-clause-skips
returns-clause-skips g c es left =
    let back : (with_items c.args.self.now.streams c.skip_all.new.streams).items ≡ c.skip_all.new.streams =
    with_items_is c.args.self.now.streams c.skip_all.new.streams (omega (arith, c.skip_all.auto.streams, c.deref_mut.ensures.len)) in
    let u = g.H.Host.view c.args.host.now in
    let v = g.H.Host.view c.skip_all.new.host in
    let token = c.args.token in
    let rest = from_token token es in
    let lists = map (from_token token) left.0.0 in
    subst (λ (k : List _). OnOk c.skip_all.result (UnionLeaves g.S.TokenStream.leaves v.files k rest × Rises rest)) (sym back)
    (on_ok (AllLeave g.S.TokenStream.leaves v.files c.skip_all.new.streams lists) (UnionLeaves g.S.TokenStream.leaves v.files c.skip_all.new.streams rest × Rises rest) c.skip_all.result
    (λ all. (
      (lists, all, all_rise_from token left.0.0 left.0.2, unites_skip token left.0.0 es left.0.3),
      rises_from token es left.1,
    ))
    (c.skip_all.ensures.skips left.0.0 (subst (λ (k : List _). AllLeave g.S.TokenStream.leaves u.files k left.0.0) (sym c.deref_mut.ensures.value) left.0.1)))

pub returns-clause-reads : goal.returns-clause-reads
returns-clause-reads g c most all =
    let back : (with_items c.args.self.now.streams c.skip_all.new.streams).items ≡ c.skip_all.new.streams =
    with_items_is c.args.self.now.streams c.skip_all.new.streams (omega (arith, c.skip_all.auto.streams, c.deref_mut.ensures.len)) in
    let u = g.H.Host.view c.args.host.now in
    let v = g.H.Host.view c.skip_all.new.host in
    subst (λ (k : List _). Spends (HeadsPay g.S.TokenStream.pays v.files k) most u.reads v.reads c.skip_all.result) (sym back)
    (c.skip_all.ensures.reads most (subst (λ (k : List _). HeadsPay g.S.TokenStream.pays u.files k most) (sym c.deref_mut.ensures.value) all))

pub returns-clause-ready : goal.returns-clause-ready
returns-clause-ready g c =
    let back : (with_items c.args.self.now.streams c.skip_all.new.streams).items ≡ c.skip_all.new.streams =
    with_items_is c.args.self.now.streams c.skip_all.new.streams (omega (arith, c.skip_all.auto.streams, c.deref_mut.ensures.len)) in
    let u = g.H.Host.view c.args.host.now in
    let v = g.H.Host.view c.skip_all.new.host in
    subst (λ (k : List _). OnOk c.skip_all.result (HeadsReady g.S.TokenStream.ready v.files k)) (sym back) c.skip_all.ensures.ready

pub returns-clause-read : goal.returns-clause-read
returns-clause-read g c =
    let back : (with_items c.args.self.now.streams c.skip_all.new.streams).items ≡ c.skip_all.new.streams =
    with_items_is c.args.self.now.streams c.skip_all.new.streams (omega (arith, c.skip_all.auto.streams, c.deref_mut.ensures.len)) in
    let u = g.H.Host.view c.args.host.now in
    let v = g.H.Host.view c.skip_all.new.host in
    let agrees = g.P.PageReader.agrees c.skip_all.new.pages in
    let before = g.P.PageReader.covers c.args.pages.now in
    let after = g.P.PageReader.covers c.skip_all.new.pages in
    let opens = g.S.TokenStream.opens in
    subst (λ (k : List _). HasStreamed agrees before after (HeadsOpen opens c.args.self.now.streams.items) (HeadsOpen opens k) u v) (sym back)
    (subst (λ (k : List _). HasStreamed agrees before after (HeadsOpen opens k) (HeadsOpen opens c.skip_all.new.streams) u v) c.deref_mut.ensures.value c.skip_all.ensures.read)

pub returns-clause-faults : goal.returns-clause-faults
returns-clause-faults g c =
    let back : (with_items c.args.self.now.streams c.skip_all.new.streams).items ≡ c.skip_all.new.streams =
    with_items_is c.args.self.now.streams c.skip_all.new.streams (omega (arith, c.skip_all.auto.streams, c.deref_mut.ensures.len)) in
    let u = g.H.Host.view c.args.host.now in
    let v = g.H.Host.view c.skip_all.new.host in
    let shows = g.S.TokenStream.shows in
    let leaves = g.S.TokenStream.leaves in
    let items = c.args.self.now.streams.items in
    faults_as _ _ _ _ _ u v c.skip_all.result (λ damage is. is) (λ es left. (left.0.0, left.0.1))
    (subst (λ (k : List _). StreamFaults (HeadsShow shows u.files items) (HeadsShow shows v.files k) (AllLeave leaves u.files items) u v c.skip_all.result) (sym back)
    (subst (λ (k : List _). StreamFaults (HeadsShow shows u.files k) (HeadsShow shows v.files c.skip_all.new.streams) (AllLeave leaves u.files k) u v c.skip_all.result) c.deref_mut.ensures.value c.skip_all.ensures.faults))

pub returns-clause-shows_less : goal.returns-clause-shows_less
returns-clause-shows_less g c files damage is =
    let back : (with_items c.args.self.now.streams c.skip_all.new.streams).items ≡ c.skip_all.new.streams = with_items_is c.args.self.now.streams c.skip_all.new.streams (omega (arith, c.skip_all.auto.streams, c.deref_mut.ensures.len)) in
    let shows = g.S.TokenStream.shows in
    subst (λ (k : List _). HeadsShow shows files k damage) c.deref_mut.ensures.value
    (c.skip_all.ensures.shows_less files damage (subst (λ (k : List _). HeadsShow shows files k damage) back is))
