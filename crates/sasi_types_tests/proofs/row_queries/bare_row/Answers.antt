use Rattle.std.proofs.Common.{subst, sym}
use Rattle.sasi_machine.specs.Where.{HasTexts}
use Rattle.sasi_machine.proofs.Texts.{empty_texts}
use Rattle.sasi_types_tests.proofs.row_queries.bare_row.Goals as goal

pub put-requires-clause-texts : goal.put-requires-clause-texts
put-requires-clause-texts g c = subst HasTexts (sym c.new-part.ensures) empty_texts
