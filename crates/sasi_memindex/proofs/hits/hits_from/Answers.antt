use Rattle.std.proofs.Common.{◌≡◌, ◌++◌, ◌∙◌, List, rules, sym, ap, subst}
use Rattle.std.specs.List.{filter}
use Rattle.sasi_types.specs.declared.decorated_key.DecoratedKey.{DecoratedKey}
use Rattle.sasi_memindex.specs.declared.posting.Posting.{Posting}
use Rattle.sasi_memindex.specs.Hits.{keys_of_hits}
use Rattle.sasi_memindex.specs.Runs.{EndsAtFirst, RiseForEq}
use Rattle.sasi_memindex.proofs.HitLaws.{ends_first, from, hits_kept}
use Rattle.sasi_memindex.proofs.OneTerm.{rise_for_eq}
use Rattle.sasi_memindex.proofs.hits.hits_from.Goals as goal

pub hits-init : goal.hits-init
hits-init c =
    let op = c.args.op.now in
    let body = c.args.body.now in
    let s = c.args.postings.now in
    let iter : c.into_iter-posting-iterator.result ≡ filter (from c.args.first) s.keys = c.into_iter-posting-iterator.ensures.into_iter_gives ∙ c.range-posting-items.ensures.between tt in
    record {
      hits =
          sym (hits_kept op body c.args.first s c.requires) ∙ ap (λ (l : List Posting). keys_of_hits op body l) (sym iter)
          ∙ ap (λ (l : List DecoratedKey). l ++ keys_of_hits op body c.into_iter-posting-iterator.result) (sym c.new-keys.ensures.items);
      ends = subst (λ (l : List Posting). EndsAtFirst op body l) (sym iter) (ends_first op body c.args.first s c.requires c.range-posting-items.ensures.ordered);
    }

pub returns-then-not-holds-clause-keys : goal.returns-then-not-holds-clause-keys
returns-then-not-holds-clause-keys c = search rules

pub returns-then-not-holds-clause-rise : goal.returns-then-not-holds-clause-rise
returns-then-not-holds-clause-rise c =
    let op = c.args.op.now in
    let body = c.args.body.now in
    subst (RiseForEq op) (sym (returns-then-not-holds-clause-keys c)) (rise_for_eq op body c.args.postings.now.keys c.range-posting-items.ensures.ordered)

pub returns-clause-keys : goal.returns-clause-keys
returns-clause-keys c = search rules

pub returns-clause-rise : goal.returns-clause-rise
returns-clause-rise c =
    let op = c.args.op.now in
    let body = c.args.body.now in
    subst (RiseForEq op) (sym (returns-clause-keys c)) (rise_for_eq op body c.args.postings.now.keys c.range-posting-items.ensures.ordered)
