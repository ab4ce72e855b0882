use Rattle.std.specs.Prelude.{List}
use Rattle.sasi_types.specs.declared.class.Class.{Class}
use Rattle.sasi_types.specs.declared.column.ColumnType.TheVariants as kinds
use Rattle.sasi_ranges.specs.StreamCalls.{CanStream}
use Rattle.sasi_recheck.specs.Rows.{KnowsWhere}
use Rattle.sasi_sources_tests.proofs.rechecks.check_rows.Given as goal

abbrev pub invariant-loop-key : goal.invariant-loop-key
invariant-loop-key g l = record {
  can : CanStream (g.P.PageReader.agrees l.pages) (g.C.Candidates.opens l.recheck.candidates) (g.H.Host.view l.host);
  still_ready : g.C.Candidates.ready l.recheck.candidates (g.H.Host.view l.host).files l.maps;
  still_prints : g.C.Candidates.prints l.recheck.candidates (g.H.Host.view l.host).files l.maps kinds.Text;
  still_known : (classes : List Class) → KnowsWhere classes l.recheck.filter;
}
