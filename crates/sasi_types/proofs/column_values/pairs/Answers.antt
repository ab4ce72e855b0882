use Rattle.std.proofs.Common.{ap, ◌∙◌}
use Rattle.std.proofs.lemmas.Iterator.{items_from_collect, YieldsList-from_zip}
use Rattle.std.proofs.lemmas.Iterator.Adapters.{YieldsList-from_vec}
use Rattle.std.specs.Vec.Iter.{into_iter_items, into_iter_len}
use Rattle.sasi_types.proofs.column_values.pairs.Goals as goal

pub returns : goal.returns
returns c =
    items_from_collect c.collect.result c.collect.ensures.ran
    (YieldsList-from_zip
    (YieldsList-from_vec c.args.columns.items (ap into_iter_items c.zip.ensures.first ∙ c.into_iter.ensures.rest)
    (ap into_iter_len c.zip.ensures.first ∙ c.into_iter.ensures.len ∙ c.args.columns.ok.0))
    (YieldsList-from_vec c.args.values.items (ap into_iter_items c.zip.ensures.second ∙ c.into_iter-2.ensures.rest)
    (ap into_iter_len c.zip.ensures.second ∙ c.into_iter-2.ensures.len ∙ c.args.values.ok.0)))
