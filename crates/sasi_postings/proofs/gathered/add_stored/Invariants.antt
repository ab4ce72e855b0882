use Rattle.std.proofs.Common.{◌≡◌, ◌≤◌, length, map, drop}
use Rattle.std.specs.List.{AllByRecursion}
use Rattle.sasi_types.specs.declared.list_kind.ListKind.TheVariants.{Stored}
use Rattle.sasi_segments.specs.Postings.{posting_of}
use Rattle.sasi_postings.specs.Postings.{with_postings}
use Rattle.sasi_postings.proofs.gathered.add_stored.Given as goal

abbrev pub invariant-loop-term : goal.invariant-loop-term
invariant-loop-term l = record {
  left : AllByRecursion (λ t. length t.now ≤ 1024) (drop l.term-index l.terms);
  adds : record l.gather { postings = with_postings l.gather.postings (map (λ t. posting_of t.now Stored l.pair) (drop l.term-index l.terms)) }
      ≡ record l.fn.gather { postings = with_postings l.fn.gather.postings (map (λ t. posting_of t.now Stored l.pair) l.terms) };
}
