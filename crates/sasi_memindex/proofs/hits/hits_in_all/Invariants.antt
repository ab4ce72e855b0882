use Rattle.std.proofs.Common.{◌≡◌, ◌++◌, IfSome}
use Rattle.std.specs.Option.{option_copied}
use Rattle.sasi_terms.specs.Holds.{holds}
use Rattle.sasi_memindex.specs.Hits.{keys_of_hits}
use Rattle.sasi_memindex.proofs.hits.hits_in_all.Given as goal

abbrev pub invariant-hits : goal.invariant-hits
invariant-hits l = record {
  hits : keys_of_hits l.op l.body l.postings.keys ≡ l.keys.items ++ keys_of_hits l.op l.body l.posting-iterator;
  tested : IfSome (option_copied l.tested) (λ term. l.is_hit ≡ holds l.op term l.body);
}
