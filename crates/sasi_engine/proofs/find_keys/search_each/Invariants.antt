use Rattle.std.proofs.Common.{◌≡◌, ◌++◌, drop, map}
use Rattle.std.specs.List.{AllByRecursion}
use Rattle.std.specs.List.Sorted.{IsStrictlySortedBy}
use Rattle.sasi_types.specs.DecoratedKey.{decorated_cmp}
use Rattle.sasi_model.specs.Abbreviations.{Partitions}
use Rattle.sasi_memindex.specs.Hits.{keys_in}
use Rattle.sasi_memindex.specs.IndexOf.{IsIndexOf}
use Rattle.sasi_engine.proofs.find_keys.search_each.Given as goal

abbrev pub invariant-loop-word : goal.invariant-loop-word
invariant-loop-word l = record {
  sorted : AllByRecursion (IsStrictlySortedBy decorated_cmp) l.lists.items;
  found : (m : Partitions) → IsIndexOf m l.index → l.lists.items ++ map (λ word. keys_in l.op word l.index m) (drop l.word-index l.words) ≡ map (λ word. keys_in l.op word l.index m) l.words;
}
