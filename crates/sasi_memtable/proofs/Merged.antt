-- Partitions by their decorated keys, after a change.
use Rattle.std.proofs.Common.{◌≡◌, cond, if◌then◌else◌, List, None, Some, unwrap_or, refl, sym, ap, ◌∙◌}
use Rattle.std.specs.BTreeMap.{BTreeMap, get, is_at}
use Rattle.std.specs.Map.{lookup, set_value}
use Rattle.std.proofs.lemmas.Map.Steps.{set_value_same}
use Rattle.sasi_types.specs.declared.decorated_key.DecoratedKey.{DecoratedKey}
use Rattle.sasi_types.specs.DecoratedKey.{decorated_cmp}
use Rattle.sasi_model.specs.Cells.{Partition, empty_partition, merge}

-- what was read, written back, changes nothing
pub same_write : (m n : BTreeMap DecoratedKey Partition) (decorated_key : DecoratedKey) (old new : Partition) → Some old ≡ get decorated_cmp m decorated_key → new ≡ old
    → n.entries ≡ set_value (is_at (decorated_cmp decorated_key)) m.entries new → (q : DecoratedKey) → get decorated_cmp n q ≡ get decorated_cmp m q
same_write m n decorated_key old new was same written q =
    ap (λ (entries : List (DecoratedKey × Partition)). lookup (is_at (decorated_cmp q)) entries) (written ∙ set_value_same (is_at (decorated_cmp decorated_key)) m.entries new (sym was ∙ ap Some (sym same)))

-- a partition of a new key
pub new_write : (m k n : BTreeMap DecoratedKey Partition) (decorated_key : DecoratedKey) (change new : Partition) → None ≡ get decorated_cmp m decorated_key → k ≡ m → new ≡ merge empty_partition change
    → ((q : DecoratedKey) → get decorated_cmp n q ≡ cond (is_at (decorated_cmp decorated_key) q) (Some new) (get decorated_cmp k q))
    → (q : DecoratedKey) → get decorated_cmp n q ≡ (if is_at (decorated_cmp decorated_key) q then Some (merge (unwrap_or (get decorated_cmp m decorated_key) empty_partition) change) else get decorated_cmp m q)
new_write m k n decorated_key change new none same is written q = written q ∙ rw (same, is, ← none) refl
