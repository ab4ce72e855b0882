use Rattle.std.proofs.Common.{arith}
use Rattle.std.proofs.lemmas.Iterator.Adapters.{YieldsList-from_vec, fact_from_collect}
use Rattle.std.specs.BTreeSet.{IsFromIterResult}
use Rattle.sasi_types.specs.DecoratedKey.{decorated_cmp}
use Rattle.sasi_memindex.proofs.hits.set_of_keys.Goals as goal

pub returns : goal.returns
returns c =
    fact_from_collect (IsFromIterResult decorated_cmp) c.collect.result c.collect.ensures.ran
    (YieldsList-from_vec c.args.keys.items c.into_iter.ensures.rest (omega (arith, c.into_iter.ensures.len)))
