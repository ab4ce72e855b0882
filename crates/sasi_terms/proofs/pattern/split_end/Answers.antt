use Rattle.sasi_terms.proofs.Percents.{without}
use Rattle.sasi_terms.proofs.pattern.split_end.Goals as goal

pub returns-in-Some : goal.returns-in-Some
returns-in-Some c = without c.args.text.now c.in-Some.body.now c.in-Some.ensures
