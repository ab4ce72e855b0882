use Rattle.std.proofs.Common.{◌≡◌, ℕ, List, map}
use Rattle.std.specs.List.Sorted.{IsStrictlySortedBy}
use Rattle.sasi_narrow.specs.Narrowing.{AreInOrder, has_entry, is_left}
use Rattle.sasi_narrow.specs.inside.KeyRefs.{has_key, ref_cmp}
use Rattle.sasi_narrow.proofs.candidates.shared_keys.Given as goal

abbrev pub invariant-loop-leaf : goal.invariant-loop-leaf
invariant-loop-leaf l = record {
  rise : IsStrictlySortedBy ref_cmp l.left.items;
  are : AreInOrder l.entries l.parts → (bytes : List ℕ) → has_key bytes l.left.items ≡ is_left l.token (has_entry l.entries) (map (λ v. v.now) l.keys) l.parts l.leaf bytes;
}
