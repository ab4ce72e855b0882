use Rattle.std.proofs.Common.{◌∙◌, subst, sym, arith, List, Option, Some, Result, Ok}
use Rattle.std.proofs.lemmas.Result.{err_from_is_err_and}
use Rattle.sasi_types.specs.declared.tree.Pair.{Pair}
use Rattle.sasi_host.specs.declared.name.FileName.{FileName}
use Rattle.sasi_host.specs.declared.fault.ReadFault.{ReadFault}
use Rattle.sasi_ranges.specs.declared.entry.Entry.{Entry}
use Rattle.sasi_ranges.specs.StreamCalls.{Gives, StreamFaults}
use Rattle.sasi_ranges.proofs.Calling.{can_still, faults_handed, faults_ok, faults_then, spent_err, streamed_then}
use Rattle.sasi_hits.specs.declared.open_searches.WordSearches.{WordSearches}
use Rattle.sasi_hits.specs.Calls.{SpendsOn}
use Rattle.sasi_hits.specs.IndexHits.{AreOpen, HitEntries, HitsLeave, HitsPay, HitsReady, HitsShow, SearchesLeave, SearchesPay}
use Rattle.sasi_hits.proofs.CallLaws.{can_as_file, streamed_as_file}
use Rattle.sasi_hits.proofs.NextLaws.{LeaveSome, gives_as}
use Rattle.sasi_hits.proofs.StreamLaws.{entries_give, spends_then}
use Rattle.sasi_hits.proofs.index_hits.IndexHitsTokenStream.next.Goals as goal

pub open_searches-requires-clause-ready : goal.open_searches-requires-clause-ready
open_searches-requires-clause-ready g c =
    subst (λ (t : Option WordSearches). HitsReady c.args.self.now.file t (g.H.Host.view c.args.host.now).files) (sym c.take-searches.ensures.value) c.requires.ready

pub next_of-requires-clause-read : goal.next_of-requires-clause-read
next_of-requires-clause-read g c =
    let v = g.H.Host.view c.args.host.now in
    let w = g.H.Host.view c.open_searches.new.host in
    can_as_file _ w c.args.self.now.file c.in_ok-searches.searches.first.index.file c.in_ok-searches.ensures.ready.named (can_still _ _ _ _ _ _ v w c.requires.read c.open_searches.ensures.read)

pub next_of-requires-clause-ready : goal.next_of-requires-clause-ready
next_of-requires-clause-ready g c =
    let w = g.H.Host.view c.open_searches.new.host in
    subst (λ (n : FileName). AreOpen n c.in_ok-searches.searches w.files) (sym c.in_ok-searches.ensures.ready.named) c.in_ok-searches.ensures.ready

pub returns-clause-gives : goal.returns-clause-gives
returns-clause-gives g c es is =
    let s = c.args.self.now in
    let v = g.H.Host.view c.args.host.now in
    let u = g.H.Host.view c.next_of.new.host in
    let after = c.next_of.new.searches in
    let opened = c.in_ok-searches.ensures.leaves s.floor is.0 (subst (λ (t : Option WordSearches). HitsLeave s.file s.op s.words s.floor t v.files is.0) (sym c.take-searches.ensures.value) is.1) in
    let named = c.in_ok-found.ensures.ready.named ∙ opened.0 in
    let Left : List Pair → Type 0 = HitsLeave s.file s.op s.words s.floor (Some after) u.files in
    let given = gives_as (SearchesLeave s.op s.words s.floor after u.files) Left is.0 c.in_ok-found.found (λ rest left. (named, left)) (c.in_ok-found.ensures.gives s.op s.words is.0 opened.1) in
    subst (λ (o : Option Entry). Gives (HitEntries s.file s.op s.words s.leaf s.part s.floor (Some after) u.files) es o) (sym c.hit_of.ensures)
    (entries_give s.leaf s.part Left is.0 es _ is.2 given)

pub returns-clause-reads : goal.returns-clause-reads
returns-clause-reads g c most is =
    let s = c.args.self.now in
    let v = g.H.Host.view c.args.host.now in
    let w = g.H.Host.view c.open_searches.new.host in
    let u = g.H.Host.view c.next_of.new.host in
    let after = c.next_of.new.searches in
    spends_then (λ opened rest. HitsPay s.file s.op s.words (Some opened) w.files rest) (λ rest. HitsPay s.file s.op s.words (Some after) u.files rest) most v.reads w.reads u.reads c.in_ok-searches.searches c.in_ok-found.found
    (c.in_ok-searches.ensures.reads most (subst (λ (t : Option WordSearches). HitsPay s.file s.op s.words t v.files most) (sym c.take-searches.ensures.value) is))
    (λ rest pays. (let one = c.in_ok-found.ensures.reads s.op s.words rest pays.1 in (one.0, (c.in_ok-found.ensures.ready.named ∙ pays.0, one.1), one.2)))

pub returns-clause-ready : goal.returns-clause-ready
returns-clause-ready g c =
    let u = g.H.Host.view c.next_of.new.host in
    subst (λ (n : FileName). AreOpen n c.next_of.new.searches u.files) c.in_ok-searches.ensures.ready.named c.in_ok-found.ensures.ready

pub returns-clause-read : goal.returns-clause-read
returns-clause-read g c =
    let v = g.H.Host.view c.args.host.now in
    let w = g.H.Host.view c.open_searches.new.host in
    let u = g.H.Host.view c.next_of.new.host in
    streamed_then _ _ _ _ _ _ _ _ v w u c.open_searches.ensures.read
    (streamed_as_file _ _ _ w u c.args.self.now.file c.in_ok-searches.searches.first.index.file c.in_ok-searches.ensures.ready.named c.next_of.ensures.read)

pub returns-clause-faults : goal.returns-clause-faults
returns-clause-faults g c =
    let s = c.args.self.now in
    let v = g.H.Host.view c.args.host.now in
    let w = g.H.Host.view c.open_searches.new.host in
    let u = g.H.Host.view c.next_of.new.host in
    let opened = c.in_ok-searches.searches in
    let Later : List Pair → Type 0 = LeaveSome opened w.files in
    faults_ok _ _ _ _ v u c.in_ok-found.found _ (faults_then _ _ _ _ Later v w u opened (Ok c.in_ok-found.found)
    (λ left is. (left, (s.op, s.words, is.0, (c.in_ok-searches.ensures.leaves is.0 left is.1).1))) c.in_ok-searches.ensures.faults
    (subst (λ (n : FileName). StreamFaults (HitsShow n w.files) (HitsShow n u.files) Later w u (Ok c.in_ok-found.found)) c.in_ok-searches.ensures.ready.named c.in_ok-found.ensures.faults))

pub returns-in_err-searches-clause-reads : goal.returns-in_err-searches-clause-reads
returns-in_err-searches-clause-reads g c most is =
    let p = err_from_is_err_and c.from_residual.result c.from_residual.ensures.1 in
    let s = c.args.self.now in
    let v = g.H.Host.view c.args.host.now in
    let w = g.H.Host.view c.open_searches.new.host in
    rw p.1 (subst (λ (r : Result WordSearches ReadFault). SpendsOn (λ opened rest. HitsPay s.file s.op s.words (Some opened) w.files rest) most v.reads w.reads r) c.in_err-searches.was
    (c.open_searches.ensures.reads most (subst (λ (t : Option WordSearches). HitsPay s.file s.op s.words t v.files most) (sym c.take-searches.ensures.value) is)))

pub returns-in_err-searches-clause-read : goal.returns-in_err-searches-clause-read
returns-in_err-searches-clause-read g c = c.open_searches.ensures.read

pub returns-in_err-searches-clause-faults : goal.returns-in_err-searches-clause-faults
returns-in_err-searches-clause-faults g c =
    let p = err_from_is_err_and c.from_residual.result c.from_residual.ensures.1 in
    let s = c.args.self.now in
    let v = g.H.Host.view c.args.host.now in
    let w = g.H.Host.view c.open_searches.new.host in
    rw (p.1, p.2) (faults_handed _ _ _ _ v w c.open_searches.result c.in_err-searches.field-0.0 c.in_err-searches.was
    (λ es is. (is.0, (s.floor, subst (λ (t : Option WordSearches). HitsLeave s.file s.op s.words s.floor t v.files is.0) (sym c.take-searches.ensures.value) is.1))) c.open_searches.ensures.faults)

pub returns-in_err-found-clause-reads : goal.returns-in_err-found-clause-reads
returns-in_err-found-clause-reads g c most is =
    let p = err_from_is_err_and c.from_residual-in_err-found.result c.from_residual-in_err-found.ensures.1 in
    let s = c.args.self.now in
    let v = g.H.Host.view c.args.host.now in
    let w = g.H.Host.view c.open_searches.new.host in
    let u = g.H.Host.view c.next_of.new.host in
    let first = c.in_ok-searches.ensures.reads most (subst (λ (t : Option WordSearches). HitsPay s.file s.op s.words t v.files most) (sym c.take-searches.ensures.value) is) in
    let one = spent_err (SearchesPay s.op s.words c.next_of.new.searches u.files) first.0 w.reads u.reads c.next_of.result c.in_err-found.field-0.0 c.in_err-found.was (c.next_of.ensures.reads s.op s.words first.0 first.1.1) in
    rw p.1 (omega (arith, first.2, one))

pub returns-in_err-found-clause-read : goal.returns-in_err-found-clause-read
returns-in_err-found-clause-read g c =
    let v = g.H.Host.view c.args.host.now in
    let w = g.H.Host.view c.open_searches.new.host in
    let u = g.H.Host.view c.next_of.new.host in
    streamed_then _ _ _ _ _ _ _ _ v w u c.open_searches.ensures.read
    (streamed_as_file _ _ _ w u c.args.self.now.file c.in_ok-searches.searches.first.index.file c.in_ok-searches.ensures.ready.named c.next_of.ensures.read)

pub returns-in_err-found-clause-faults : goal.returns-in_err-found-clause-faults
returns-in_err-found-clause-faults g c =
    let p = err_from_is_err_and c.from_residual-in_err-found.result c.from_residual-in_err-found.ensures.1 in
    let s = c.args.self.now in
    let v = g.H.Host.view c.args.host.now in
    let w = g.H.Host.view c.open_searches.new.host in
    let u = g.H.Host.view c.next_of.new.host in
    let opened = c.in_ok-searches.searches in
    let Later : List Pair → Type 0 = LeaveSome opened w.files in
    rw (p.1, p.2) (faults_then _ _ _ _ Later v w u opened _
    (λ es is. (is.0, (s.op, s.words, s.floor, (c.in_ok-searches.ensures.leaves s.floor is.0 (subst (λ (t : Option WordSearches). HitsLeave s.file s.op s.words s.floor t v.files is.0) (sym c.take-searches.ensures.value) is.1)).1)))
    (faults_ok _ _ _ (HitEntries s.file s.op s.words s.leaf s.part s.floor s.searches v.files) v w opened opened c.in_ok-searches.ensures.faults)
    (faults_handed _ _ Later Later w u c.next_of.result c.in_err-found.field-0.0 c.in_err-found.was (λ left is. (left, is))
    (subst (λ (n : FileName). StreamFaults (HitsShow n w.files) (HitsShow n u.files) Later w u c.next_of.result) c.in_ok-searches.ensures.ready.named c.next_of.ensures.faults)))
