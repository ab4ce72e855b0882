use Rattle.std.proofs.Common.{◌≡◌, ◌||◌, ℕ, List, drop, map}
use Rattle.sasi_narrow.specs.Narrowing.{AreInOrder, has_entry, hit_from, some_hit}
use Rattle.sasi_narrow.specs.inside.KeyRefs.{has_key}
use Rattle.sasi_narrow.proofs.relation_keys.all_hits.Given as goal

abbrev pub invariant-loop-at : goal.invariant-loop-at
invariant-loop-at l = AreInOrder l.entries l.parts → (bytes : List ℕ)
    → (has_key bytes l.hits.items || hit_from l.token (has_entry l.entries) (map (λ v. v.now) l.keys) l.leaf l.at (drop l.at l.parts) bytes)
    ≡ some_hit l.token (has_entry l.entries) (map (λ v. v.now) l.keys) l.parts l.leaf bytes
