use Rattle.std.proofs.Common.{sym}
use Rattle.sasi_schema.specs.Defined.{definition}
use Rattle.sasi_sources_tests.proofs.queries.query_of.Goals as goal

pub new-requires : goal.new-requires
new-requires g c = c.selection_of-rows.ensures (definition c.expect-table.result.now) (sym (rw c.expect-table.ensures at c.table.ensures.definition))
