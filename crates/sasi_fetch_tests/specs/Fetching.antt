-- The plans of the fixture, and its cursors between two FETCHes.
use Rattle.std.specs.Prelude.{◌≡◌, ℕ, List, [], Option}
use Rattle.std.specs.List.{AllByRecursion}
use Rattle.sasi_types.specs.declared.class.Class.{Class}
use Rattle.sasi_types.specs.declared.column.ColumnType.{ColumnType}
use Rattle.sasi_types.specs.declared.column.ColumnType.TheVariants as kinds
use Rattle.sasi_host.specs.Names.{Folder}
use Rattle.sasi_memindex.specs.Book.{Book}
use Rattle.sasi_model.specs.Cells.{Partition}
use Rattle.sasi_recheck.specs.Rows.{KnowsWhere}
use Rattle.sasi_plan.specs.Answers.{ReadsLeft, ReadsUpTo, RowsLeft}
use Rattle.sasi_plan.specs.contracts.plan_candidates.PlanCandidatesCandidates.TheImpl as source
use Rattle.sasi_plan.specs.Plans.{PlanView}
use Rattle.sasi_plan_tests.specs.Fixture.{IsOwnPart, IsPlanOn}
use Rattle.sasi_fetch.specs.Cursors.{IsReadable, view_of}
use Rattle.sasi_fetch.specs.declared.cursor.Cursor.{Cursor}

-- a plan on the table, which has no index and whose keys are texts
pub record IsOwnPlan (plan : PlanView) : Type 0 where
  pub planned : IsPlanOn [] plan
  pub text : plan.picked.key ≡ kinds.Text
  pub known : (classes : List Class) → KnowsWhere classes plan.conditions

-- it can be read on over the parts of the fixture, and its WHERE needs no analyzer
pub record IsOwnCursor (files : Option Folder) (book : Book) (c : Cursor) : Type 0 where
  pub types : List ColumnType
  pub readable : IsReadable types files book c
  pub own : AllByRecursion IsOwnPart (view_of c)
  pub known : (classes : List Class) → KnowsWhere classes c.reader.rows.filter

-- it has the same rows left, and they cost no more, in all and up to the last of those that are asked for
pub record StillLeaves (old new : Option Folder) (was now : Book) (c : Cursor) : Type 0 where
  pub rows : (rows : List (List ℕ × Partition)) → RowsLeft source.leaves-value.it c.reader.rows old was rows → RowsLeft source.leaves-value.it c.reader.rows new now rows
  pub reads : (most : ℕ) → ReadsLeft source.leaves-value.it source.pays-value.it c.reader.rows old was most → ReadsLeft source.leaves-value.it source.pays-value.it c.reader.rows new now most
  pub reads_up_to : (asked : Option ℕ) (most : ℕ) → ReadsUpTo source.leaves-value.it source.pays-value.it c.reader.rows old was asked most → ReadsUpTo source.leaves-value.it source.pays-value.it c.reader.rows new now asked most
