use Rattle.std.proofs.Common.{◌≡◌, List, IfOk, OnOk, refl, sym, subst, arith}
use Rattle.std.proofs.lemmas.List.{with_items_is}
use Rattle.std.specs.Vec.{with_items}
use Rattle.sasi_host.specs.Names.{Bytes}
use Rattle.sasi_terms.specs.declared.op.Op.{Op}
use Rattle.sasi_treemerge.specs.Merges.{SpendsReads}
use Rattle.sasi_indexwrite.specs.Content.{IndexContent}
use Rattle.sasi_ranges.specs.StreamCalls.{Spends}
use Rattle.sasi_ranges.proofs.Calling.{faults_as, on_ok}
use Rattle.sasi_hits.specs.declared.word_search.WordSearch.{WordSearch}
use Rattle.sasi_hits.specs.Calls.{quiet}
use Rattle.sasi_hits.specs.Pairs.{GivesPair}
use Rattle.sasi_hits.specs.WordSearches.{AreSearching, AskedOf, CanMeet, MeetLeaves, MeetPays, words_cost}
use Rattle.sasi_hits.proofs.NextLaws.{hit_faults, leaves_on, meet_at, open_on, pays_on, searching_at}
use Rattle.sasi_hits.proofs.next_of.next_of.Goals as goal

pub next_hit-requires-clause-can : goal.next_hit-requires-clause-can
next_hit-requires-clause-can g c =
    let s = c.args.searches.now in
    let v = g.H.Host.view c.args.host.now in
    subst (λ (k : List WordSearch). CanMeet v s.first k) (sym c.deref_mut.ensures.value) (meet_at v s.first s.others.items c.requires.ready.can)

pub returns-clause-gives : goal.returns-clause-gives
returns-clause-gives g c op words left is =
    let s = c.args.searches.now in
    let now = c.next_hit.new.first in
    let new = c.next_hit.new.others in
    let v = g.H.Host.view c.args.host.now in
    let w = g.H.Host.view c.next_hit.new.host in
    let back : (with_items s.others new).items ≡ new = with_items_is s.others new (omega (arith, c.next_hit.auto.others, c.deref_mut.ensures.len)) in
    let value = c.deref_mut.ensures.value in
    let goes = subst (λ (k : List WordSearch). OnOk c.next_hit.result ((op : Op) (words : List Bytes) (content : IndexContent) → AreSearching v op words s.first k content → AreSearching w op words now new content)) value c.next_hit.ensures.searching in
    let at = subst (λ (k : List WordSearch). AreSearching v op words s.first k is.0) (sym value) (searching_at v op words s.first s.others.items is.0 is.1) in
    subst (λ (k : List WordSearch). IfOk c.next_hit.result (GivesPair (MeetLeaves (quiet w.files) op words c.args.floor now k) left)) (sym back)
    (leaves_on v w op words s.first now s.others.items new is.0 is.1 c.args.floor left c.next_hit.result goes (c.next_hit.ensures.gives op words is.0 left at is.2))

pub returns-clause-reads : goal.returns-clause-reads
returns-clause-reads g c op words most is =
    let s = c.args.searches.now in
    let now = c.next_hit.new.first in
    let new = c.next_hit.new.others in
    let v = g.H.Host.view c.args.host.now in
    let w = g.H.Host.view c.next_hit.new.host in
    let back : (with_items s.others new).items ≡ new = with_items_is s.others new (omega (arith, c.next_hit.auto.others, c.deref_mut.ensures.len)) in
    let value = c.deref_mut.ensures.value in
    let goes = subst (λ (k : List WordSearch). OnOk c.next_hit.result ((op : Op) (words : List Bytes) (content : IndexContent) → AreSearching v op words s.first k content → AreSearching w op words now new content)) value c.next_hit.ensures.searching in
    let at = subst (λ (k : List WordSearch). AreSearching v op words s.first k is.0) (sym value) (searching_at v op words s.first s.others.items is.0 is.1) in
    let spent = subst (λ (k : List WordSearch). SpendsReads v w (words_cost is.0 s.first k) (words_cost is.0 now new) c.next_hit.result) value (c.next_hit.ensures.reads op words is.0 at) in
    subst (λ (k : List WordSearch). Spends (MeetPays (quiet w.files) op words now k) most v.reads w.reads c.next_hit.result) (sym back)
    (pays_on v w op words s.first now s.others.items new is.0 is.1 most c.next_hit.result is.2 goes spent)

pub returns-clause-ready : goal.returns-clause-ready
returns-clause-ready g c =
    let s = c.args.searches.now in
    let now = c.next_hit.new.first in
    let new = c.next_hit.new.others in
    let v = g.H.Host.view c.args.host.now in
    let w = g.H.Host.view c.next_hit.new.host in
    let back : (with_items s.others new).items ≡ new = with_items_is s.others new (omega (arith, c.next_hit.auto.others, c.deref_mut.ensures.len)) in
    on_ok (CanMeet w now new) _ c.next_hit.result (λ can. open_on v w s.first.index.file s _ now new c.next_hit.ensures.read.changes refl back c.next_hit.ensures.index c.requires.ready can) c.next_hit.ensures.can

pub returns-clause-faults : goal.returns-clause-faults
returns-clause-faults g c =
    let s = c.args.searches.now in
    let v = g.H.Host.view c.args.host.now in
    let w = g.H.Host.view c.next_hit.new.host in
    let k = c.deref_mut.result.now in
    let value = c.deref_mut.ensures.value in
    faults_as _ _ _ (AskedOf v s.first k) _ v w c.next_hit.result (λ damage is. is)
    (λ left is. (is.3.0, (is.0, is.1, subst (λ (l : List WordSearch). AreSearching v is.0 is.1 s.first l is.3.0) (sym value) (searching_at v is.0 is.1 s.first s.others.items is.3.0 is.3.1))))
    (hit_faults s.first.index (AskedOf v s.first k) v w c.next_hit.result c.next_hit.ensures.read.changes c.requires.ready.opened c.next_hit.ensures.faults)
