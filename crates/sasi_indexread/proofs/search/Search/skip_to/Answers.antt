use Rattle.std.proofs.Common.{arith, subst, sym}
use Rattle.sasi_indexread.specs.Searches.{IsSearching, Searching}
use Rattle.sasi_indexread.proofs.Callers.{skip_searches}
use Rattle.sasi_indexread.proofs.search.Search.skip_to.Goals as goal

pub returns-clause-searching : goal.returns-clause-searching
returns-clause-searching g c content was =
    let v = g.H.Host.view c.args.host.now in
    skip_searches v c.self.inside.index c.self.inside.op c.self.inside.body.items c.self.inside.is_collected c.self.inside.merge c.skip_to.new.self content c.skip_to.ensures.same.1
    (omega (arith, c.skip_to.ensures.floor)) c.skip_to.ensures.same.2 (subst (λ (s : Searching). IsSearching v s content) (sym c.self.view_is) was)
