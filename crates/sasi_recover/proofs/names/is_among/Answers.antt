use Rattle.std.proofs.Common.{◌∙◌}
use Rattle.sasi_recover.proofs.FoundNames.{found_among}
use Rattle.sasi_recover.proofs.names.is_among.Goals as goal

pub returns : goal.returns
returns c = c.is_ok.ensures.value ∙ found_among c.args.names.now c.args.file c.binary_search.result c.requires c.binary_search.ensures.bound c.binary_search.ensures.position
