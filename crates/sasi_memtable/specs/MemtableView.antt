-- The content of a memtable.
use Rattle.std.specs.Prelude.{◌≡◌, ℕ, true, List, Option, None, Some, is_some, refl}
use Rattle.std.specs.BTreeMap.Range.{entries_between}
use Rattle.std.specs.Coded.{Coded, code_by, coded×}
use Rattle.std.specs.FinMap as map_
use Rattle.std.specs.declared.ops.Bound.TheVariants.{Excluded, Unbounded}
use Rattle.sasi_types.specs.DecoratedKey.{decorated_cmp}
use Rattle.sasi_types.specs.declared.decorated_key.DecoratedKey.{DecoratedKey}
use Rattle.sasi_types.specs.declared.partitioner.Partitioner.{Partitioner}
use Rattle.sasi_cells.specs.Maps.{put}
use Rattle.sasi_model.specs.Cells.{Partition}
use Rattle.sasi_model.specs.State.{decorated}
use Rattle.sasi_model.specs.Abbreviations.{Partitions}
use Rattle.sasi_model.specs.Codes.{coded_partitioner, coded_partitions}

-- the partitions of a table, whose keys have tokens of this partitioner
pub record MemtableView : Type 0 where
  pub partitioner : Partitioner
  pub partitions : Partitions

abbrev pub empty_memtable : Partitioner → MemtableView
empty_memtable partitioner = record { partitioner = partitioner; partitions = map_.empty }

-- the memtable after a change of the partition of a key
abbrev pub with_change : MemtableView → List ℕ → Partition → MemtableView
with_change m key change = record m { partitions = put m.partitions (decorated m.partitioner key) change }

-- each decorated key is that of its key
abbrev pub AreDecorated : Partitioner → Partitions → Type 0
AreDecorated partitioner m = (k : DecoratedKey) → is_some (map_.get m k) ≡ true → k ≡ decorated partitioner k.key

-- the entries behind a key, and all of them where none is given
abbrev pub entries_after : Option DecoratedKey → List (DecoratedKey × Partition) → List (DecoratedKey × Partition)
entries_after None entries = entries
entries_after (Some key) entries = entries_between decorated_cmp (Excluded key) Unbounded entries

-- a token and a key
abbrev pub with_token : ℕ → List ℕ → DecoratedKey
with_token token key = record { token = token; key = key }

abbrev pub coded_memtable : Coded MemtableView
coded_memtable =
    code_by (Partitioner × Partitions) (coded× coded_partitioner coded_partitions)
    (λ m. (m.partitioner, m.partitions)) (λ p. record { partitioner = p.0; partitions = p.1 }) (λ _. refl)
