use Rattle.std.proofs.Common.{◌≡◌, drop}
use Rattle.std.specs.List.{AllByRecursion}
use Rattle.std.specs.List.Sorted.{IsStrictlySortedBy}
use Rattle.sasi_types.specs.DecoratedKey.{decorated_cmp}
use Rattle.sasi_engine.specs.inside.Found.{is_in_all}
use Rattle.sasi_engine.proofs.find_keys.is_in_all.Given as goal

abbrev pub invariant-loop-list : goal.invariant-loop-list
invariant-loop-list l = record {
  sorted : AllByRecursion (IsStrictlySortedBy decorated_cmp) (drop l.list-index l.lists);
  rest : is_in_all (drop l.list-index l.lists) l.key ≡ is_in_all l.lists l.key;
}
