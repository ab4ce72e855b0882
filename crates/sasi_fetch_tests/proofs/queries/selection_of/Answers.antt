use Rattle.sasi_types_tests.proofs.RowQueryLaws.{can_select}
use Rattle.sasi_fetch_tests.proofs.queries.selection_of.Goals as goal

pub returns : goal.returns
returns g c = can_select c.args.schema.now.definitions _ _ c.in-Select.rows (λ s same. (rw (c.expect-prepared.ensures, c.in-Select.is) at c.prepare.ensures.timeless) tt s same)
