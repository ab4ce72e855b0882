use Rattle.std.proofs.Common.{◌≡◌, rules, sym, subst}
use Rattle.sasi_memindex.specs.Hits.{keys_of_hits}
use Rattle.sasi_memindex.specs.Runs.{RiseForEq}
use Rattle.sasi_memindex.proofs.OneTerm.{rise_for_eq}
use Rattle.sasi_memindex.proofs.hits.hits_in_all.Goals as goal

pub returns-clause-keys : goal.returns-clause-keys
returns-clause-keys c = search rules

pub returns-clause-rise : goal.returns-clause-rise
returns-clause-rise c =
    let op = c.args.op.now in
    let body = c.args.body.now in
    let s = c.args.postings.now in
    subst (RiseForEq op) (sym (returns-clause-keys c)) (rise_for_eq op body s.keys c.into_iter-posting-iterator.ensures.into_iter_gives.4)
