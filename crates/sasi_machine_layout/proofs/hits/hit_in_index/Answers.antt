use Rattle.std.proofs.Common.{sym, ◌∙◌}
use Rattle.sasi_machine.specs.Where.{model_search}
use Rattle.sasi_model.specs.Indexes.{index_of}
use Rattle.sasi_machine_layout.proofs.PartHits.{stored_found}
use Rattle.sasi_machine_layout.proofs.hits.hit_in_index.Goals as goal

pub returns-clause-found : goal.returns-clause-found
returns-clause-found g c =
    stored_found (index_of c.args.index.now) (model_search c.args.search.now) c.args.holds.now.partitions c.args.key.now c.as_slice.result.now c.as_slice-2.result.now c.finds_among.result
    (c.as_slice.ensures ∙ c.in_ok-terms.ensures.terms) (c.as_slice-2.ensures ∙ c.in_ok-terms.ensures.terms) (sym c.in_ok-any_unstored.ensures.found ∙ c.if-branch.false) c.finds_among.ensures
