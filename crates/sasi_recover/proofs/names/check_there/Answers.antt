use Rattle.std.proofs.Common.{◌∙◌, sym}
use Rattle.sasi_recover.proofs.FoundNames.{sorted_strictly}
use Rattle.sasi_recover.proofs.NameLists.{of_any}
use Rattle.sasi_recover.proofs.names.check_there.Goals as goal

pub is_among-requires : goal.is_among-requires
is_among-requires c = sorted_strictly c.args.names.now c.requires

pub returns-then-is_among-clause-there : goal.returns-then-is_among-clause-there
returns-then-is_among-clause-there c = of_any c.args.names.now c.args.file (sym c.is_among.ensures ∙ c.if-is_among.true)
