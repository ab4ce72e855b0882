use Rattle.std.proofs.Common.{List, subst, sym}
use Rattle.sasi_types.specs.declared.decorated_key.DecoratedKey.{DecoratedKey}
use Rattle.sasi_memindex.specs.Hits.{AreHits, keys_in}
use Rattle.sasi_memindex.specs.MemIndexView.{MemIndexView}
use Rattle.sasi_memindex.proofs.SearchLaws.{are_hits, found_in}
use Rattle.sasi_memindex.proofs.mem_index.MemIndex.search.Goals as goal

pub returns-clause-hits : goal.returns-clause-hits
returns-clause-hits c =
    let op = c.args.op.now in
    let body = c.args.body.now in
    let hits = are_hits op body c.self.inside.postings c.in_ok-keys.keys.items c.in_ok-keys-2.keys.items c.in_ok-keys.ensures.keys c.in_ok-keys-2.ensures.rises c.in_ok-keys-2.ensures.keys in
    subst (λ (l : List DecoratedKey). AreHits op body c.args.self.now.postings l) (sym c.new.ensures)
    (subst (λ (i : MemIndexView). AreHits op body i.postings c.in_ok-keys-2.keys.items) c.self.view_is hits)

pub returns-clause-of_map : goal.returns-clause-of_map
returns-clause-of_map c = λ m is. found_in c.args.op.now c.args.body.now c.args.self.now m is c.new.result (returns-clause-hits c)
