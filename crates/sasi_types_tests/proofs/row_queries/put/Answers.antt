use Rattle.std.proofs.Common.{subst, sym}
use Rattle.sasi_machine.specs.Where.{HasTexts}
use Rattle.sasi_types_tests.proofs.RowQueryLaws.{texts_put}
use Rattle.sasi_types_tests.proofs.row_queries.put.Goals as goal

pub returns-clause-texts : goal.returns-clause-texts
returns-clause-texts g c = subst HasTexts (sym (rw c.expect.ensures at c.put.ensures.ok)) (texts_put c.args.part.now c.args.column 1 c.args.value c.requires.texts c.requires.value)
