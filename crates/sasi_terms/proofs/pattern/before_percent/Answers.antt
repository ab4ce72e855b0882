use Rattle.std.proofs.Common.{arith}
use Rattle.std.proofs.lemmas.Str.Pattern.{strip_suffix_char}
use Rattle.sasi_terms.proofs.Percents.{before}
use Rattle.sasi_terms.proofs.pattern.before_percent.Goals as goal

pub returns : goal.returns
returns c = before c.args.text.now c.strip_suffix.result (strip_suffix_char 37 c.args.text.now c.strip_suffix.result c.strip_suffix.ensures.cases (omega arith))
