-- The largest timestamp of a state after a change.
use Rattle.std.proofs.Common.{◌≡◌, ℕ, zero, suc, ◌-◌, ◌<◌, List, [], ◌∷◌, slice_get, Some, sym, ap, ◌∙◌, arith}
use Rattle.std.specs.Prelude.{max}
use Rattle.sasi_types.specs.declared.decorated_key.DecoratedKey.{DecoratedKey}
use Rattle.sasi_cells.specs.Mutations.{state_with_mutation}
use Rattle.sasi_cells.specs.declared.mutation.Mutation.{Mutation}
use Rattle.sasi_machine.proofs.MaxTimestamps.{max_timestamp_put}
use Rattle.sasi_model.specs.Abbreviations.{max_timestamp_of_tables}
use Rattle.sasi_model.specs.Cells.{Partition, max_timestamp_of}
use Rattle.sasi_model.specs.Changes.{changed_behind, changed_tables}
use Rattle.sasi_model.specs.State.{State, Table, decorated, max_timestamp}

changed_behind_times : (at : ℕ) (key : DecoratedKey) (change : Partition) (ts : List Table) (t : Table) → slice_get ts at ≡ Some t
    → max_timestamp_of_tables (changed_behind at key change ts) ≡ max (max_timestamp_of_tables ts) (max_timestamp_of change)
changed_behind_times at key change [] t there = cc
changed_behind_times zero key change (x ∷ ts) t there = omega (arith, max_timestamp_put x.partitions key change)
changed_behind_times (suc at) key change (x ∷ ts) t there = omega (arith, changed_behind_times at key change ts t there)

changed_times : (number : ℕ) (key : DecoratedKey) (change : Partition) (ts : List Table) (t : Table) → 0 < number → slice_get ts (number - 1) ≡ Some t
    → max_timestamp_of_tables (changed_tables number key change ts) ≡ max (max_timestamp_of_tables ts) (max_timestamp_of change)
changed_times zero key change ts t some there = absurd (omega (arith, some))
changed_times (suc at) key change ts t some there =
    let e : suc at - 1 ≡ at = omega arith in
    changed_behind_times at key change ts t (ap (slice_get ts) (sym e) ∙ there)

-- a mutation of a table that is there
pub put_timestamp : (s : State) (m : Mutation) (t : Table) → 0 < m.table → slice_get s.tables (m.table - 1) ≡ Some t → max_timestamp (state_with_mutation s m) ≡ max (max_timestamp s) (max_timestamp_of m.change)
unfolding max_timestamp
put_timestamp s m t some there = changed_times m.table (decorated s.partitioner m.key) m.change s.tables t some there
