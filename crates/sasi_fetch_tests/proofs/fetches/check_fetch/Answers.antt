use Rattle.std.proofs.Common.{List, sym, subst}
use Rattle.std.specs.List.{AllByRecursion}
use Rattle.sasi_host.specs.View.{IsThere}
use Rattle.sasi_model.specs.Conditions.{Condition}
use Rattle.sasi_recheck.specs.Rows.{KnowsWhere}
use Rattle.sasi_plan_tests.proofs.MapLaws.{own_file}
use Rattle.sasi_plan_tests.specs.Fixture.{IsOwnPart}
use Rattle.sasi_fetch.specs.Cursors.{view_of}
use Rattle.sasi_fetch_tests.proofs.OwnCursors.{there_after}
use Rattle.sasi_fetch_tests.proofs.fetches.check_fetch.Goals as goal

pub fetch-requires-clause-readable : goal.fetch-requires-clause-readable
fetch-requires-clause-readable g c = (c.requires.cursor.types, c.requires.cursor.readable)

pub fetch-requires-clause-there : goal.fetch-requires-clause-there
fetch-requires-clause-there g c name at = subst (IsThere (g.H.Host.view c.args.host.now)) (sym (own_file (view_of c.args.cursor.now) c.requires.cursor.own name at)) c.requires.there

pub fetch-requires-clause-known : goal.fetch-requires-clause-known
fetch-requires-clause-known g c = c.requires.cursor.known _

pub returns-clause-cursor : goal.returns-clause-cursor
returns-clause-cursor g c = record {
  types = c.requires.cursor.types;
  readable = rw c.expect.ensures at (c.fetch.ensures.readable c.requires.cursor.types c.requires.cursor.readable);
  own = subst (AllByRecursion IsOwnPart) (sym c.fetch.ensures.view) c.requires.cursor.own;
  known = λ classes. subst (λ (cs : List Condition). KnowsWhere classes cs) (sym c.fetch.ensures.conditions) (c.requires.cursor.known classes);
}

pub returns-clause-there : goal.returns-clause-there
returns-clause-there g c = there_after _ _ _ c.fetch.ensures.changes c.requires.there

pub returns-clause-view : goal.returns-clause-view
returns-clause-view g c = c.fetch.ensures.view
