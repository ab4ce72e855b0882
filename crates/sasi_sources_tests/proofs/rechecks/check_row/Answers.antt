use Rattle.std.proofs.Common.{List, subst, sym}
use Rattle.sasi_types.specs.declared.class.Class.{Class}
use Rattle.sasi_types.specs.declared.column.ColumnType.TheVariants as kinds
use Rattle.sasi_model.specs.Conditions.{Condition}
use Rattle.sasi_recheck.specs.Rows.{KnowsWhere}
use Rattle.sasi_sources_tests.proofs.rechecks.check_row.Goals as goal

pub next-requires-clause-prints : goal.next-requires-clause-prints
next-requires-clause-prints g c = (kinds.Text, c.requires.prints)

pub next-requires-clause-known : goal.next-requires-clause-known
next-requires-clause-known g c = c.requires.known _

pub returns-clause-known : goal.returns-clause-known
returns-clause-known g c = subst (λ (filter : List Condition). (classes : List Class) → KnowsWhere classes filter) (sym c.next.ensures.filter) c.requires.known
