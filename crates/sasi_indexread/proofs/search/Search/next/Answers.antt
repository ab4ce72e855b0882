use Rattle.std.proofs.Common.{◌≡◌, List, ℕ, subst, true}
use Rattle.std.specs.Prelude.{IfOk, IfSome}
use Rattle.sasi_treemerge.specs.Merges.{IsLeast, SpendsReads, is_left}
use Rattle.sasi_indexwrite.specs.Content.{IndexContent}
use Rattle.sasi_indexread.specs.Asked.{asked_lists}
use Rattle.sasi_indexread.specs.Costs.{cost_left}
use Rattle.sasi_indexread.specs.Searches.{IsSearching, Searching, searching}
use Rattle.sasi_indexread.proofs.RangeLaws.{least_holding}
use Rattle.sasi_indexread.proofs.search.Search.next.Goals as goal

pub returns-clause-ok : goal.returns-clause-ok
returns-clause-ok g c =
    let v = g.H.Host.view c.args.host.now in
    let w = g.H.Host.view c.next_pair.new.host in
    let here = c.self.inside in
    let now = searching here.index here.op here.body.items c.next_pair.new.is_collected c.next_pair.new.merge in
    let own = subst (λ (b : List ℕ). IfOk c.next_pair.result (λ found. (content : IndexContent) → IsSearching v (searching here.index here.op b here.is_collected here.merge) content
    → IsLeast (asked_lists content here.op b) here.merge.last here.merge.floor found × IsSearching w (searching here.index here.op b c.next_pair.new.is_collected c.next_pair.new.merge) content)) c.deref.ensures.value c.next_pair.ensures.ok in
    subst (λ (s : Searching). IfOk c.next_pair.result (λ found. (content : IndexContent) → IsSearching v s content → IsLeast (asked_lists content s.op s.body) s.merge.last s.merge.floor found × IsSearching w now content)) c.self.view_is own

pub returns-clause-numbers : goal.returns-clause-numbers
returns-clause-numbers g c =
    let v = g.H.Host.view c.args.host.now in
    let w = g.H.Host.view c.next_pair.new.host in
    let here = c.self.inside in
    let now = searching here.index here.op here.body.items c.next_pair.new.is_collected c.next_pair.new.merge in
    least_holding c.args.self.now (λ content. IsSearching v c.args.self.now content) (λ content. IsSearching w now content) c.next_pair.result (returns-clause-ok g c)

pub returns-clause-reads : goal.returns-clause-reads
returns-clause-reads g c =
    let v = g.H.Host.view c.args.host.now in
    let w = g.H.Host.view c.next_pair.new.host in
    let here = c.self.inside in
    let now = searching here.index here.op here.body.items c.next_pair.new.is_collected c.next_pair.new.merge in
    let own = subst (λ (b : List ℕ). (content : IndexContent) → IsSearching v (searching here.index here.op b here.is_collected here.merge) content
    → SpendsReads v w (cost_left (searching here.index here.op b here.is_collected here.merge) content) (cost_left (searching here.index here.op b c.next_pair.new.is_collected c.next_pair.new.merge) content) c.next_pair.result) c.deref.ensures.value c.next_pair.ensures.reads in
    subst (λ (s : Searching). (content : IndexContent) → IsSearching v s content → SpendsReads v w (cost_left s content) (cost_left now content) c.next_pair.result) c.self.view_is own

pub returns-clause-behind : goal.returns-clause-behind
returns-clause-behind g c =
    subst (λ (s : Searching). IfOk c.next_pair.result (λ found. IfSome found (λ pair. is_left s.merge.last s.merge.floor pair ≡ true))) c.self.view_is c.next_pair.ensures.behind
