use Rattle.std.proofs.Common.{◌∙◌}
use Rattle.sasi_engine.proofs.KeySearch.{found_among}
use Rattle.sasi_engine.proofs.find_keys.has_key.Goals as goal

pub returns : goal.returns
returns c = c.is_ok.ensures.value ∙ found_among c.args.keys.now c.args.key.now c.binary_search.result c.requires c.binary_search.ensures.bound c.binary_search.ensures.position
