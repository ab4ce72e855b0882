use Rattle.std.proofs.Common.{◌∙◌}
use Rattle.sasi_terms.proofs.Searches.{searched}
use Rattle.sasi_terms.proofs.matching.contains.Goals as goal

pub returns : goal.returns
returns c = c.is_some.ensures ∙ searched c.args.term.now c.args.body.now c.find.result c.find.ensures
