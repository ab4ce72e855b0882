use Rattle.std.proofs.Common.{◌∙◌, ℕ, List, subst}
use Rattle.sasi_hits.specs.declared.hits.Hits.TheVariants.{Index}
use Rattle.sasi_engine.specs.inside.Sources.{IsIndexStream}
use Rattle.sasi_engine.proofs.streams.index_stream.Goals as goal

pub returns : goal.returns
returns c =
    subst (λ (words : List (List ℕ)). IsIndexStream c.args.file c.args.relation.now.op words c.args.leaf c.args.part (Index c.new-hits.result)) (c.in_ok-words.ensures ∙ c.as_slice.ensures)
    (record { leaves = c.new-hits.ensures.leaves; pays = c.new-hits.ensures.pays; opens = c.new-hits.ensures.opens; ready = c.new-hits.ensures.ready; shows = c.new-hits.ensures.shows })
