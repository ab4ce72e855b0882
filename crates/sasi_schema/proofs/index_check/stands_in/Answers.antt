use Rattle.std.proofs.Common.{◌∙◌}
use Rattle.sasi_schema.proofs.OptionsGiven.{found_value}
use Rattle.sasi_schema.proofs.index_check.stands_in.Goals as goal

pub returns : goal.returns
returns c = c.is_some.ensures ∙ found_value c.option_value.result c.args.name.now c.args.options.now c.option_value.ensures
