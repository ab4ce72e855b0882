use Rattle.std.proofs.Common.{◌≡◌, ◌++◌}
use Rattle.sasi_memindex.specs.Hits.{keys_of_hits}
use Rattle.sasi_memindex.specs.Runs.{EndsAtFirst}
use Rattle.sasi_memindex.proofs.hits.hits_from.Given as goal

abbrev pub invariant-hits : goal.invariant-hits
invariant-hits l = record {
  hits : keys_of_hits l.op l.body l.postings.keys ≡ l.keys.items ++ keys_of_hits l.op l.body l.posting-iterator;
  ends : EndsAtFirst l.op l.body l.posting-iterator;
}
