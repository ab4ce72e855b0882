use Rattle.std.proofs.Common.{◌≡◌, ◌&&◌, not, drop}
use Rattle.std.specs.FinSet as set
use Rattle.sasi_types.specs.declared.column.ColumnType.{ColumnType}
use Rattle.sasi_memindex.specs.declared.posting.Posting.{Posting as Seen}
use Rattle.sasi_memindex.specs.Kept.{AreOf, is_among, set_of}
use Rattle.sasi_memindex.proofs.replaced.remove_terms.Given as goal

abbrev pub invariant-loop-term : goal.invariant-loop-term
invariant-loop-term l = record {
  now : (p : Seen) → (set.contains (set_of l.postings) p && not (is_among l.key (drop l.term-index l.terms) p)) ≡ (set.contains (set_of l.fn.postings) p && not (is_among l.key l.terms p));
  of : (type : ColumnType) → AreOf type (set_of l.fn.postings) → AreOf type (set_of l.postings);
}
