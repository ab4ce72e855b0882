-- The largest timestamps of data files.
use Rattle.std.proofs.Common.{◌≡◌, ◌≤◌, List, [], ◌∷◌, map, refl, ap, subst, ◌∙◌, arith}
use Rattle.std.specs.Prelude.{max}
use Rattle.std.specs.List.{AllByRecursion}
use Rattle.std.specs.List.Sorted.{IsStrictlySortedBy}
use Rattle.sasi_types.specs.declared.column.ColumnType.{ColumnType}
use Rattle.sasi_types.specs.declared.decorated_key.DecoratedKey.{DecoratedKey}
use Rattle.sasi_types.specs.declared.partitioner.Partitioner.{Partitioner}
use Rattle.sasi_types.specs.DecoratedKey.{decorated_cmp}
use Rattle.sasi_host.specs.Names.{Bytes}
use Rattle.sasi_cells.proofs.Laws.Times.{body_limit}
use Rattle.sasi_model.specs.Cells.{Partition, max_timestamp_of}
use Rattle.sasi_model.specs.State.{decorated}
use Rattle.sasi_model.specs.Stored.{IsBodyOf}
use Rattle.sasi_model.specs.Abbreviations.{TIME_LIMIT, max_timestamp_of_partitions}
use Rattle.sasi_memtable.proofs.Ordered.{entries-from_ordered}
use Rattle.sasi_datawrite.specs.Files.{IsDataFile}
use Rattle.sasi_datawrite.specs.Format.{Content, content_max_timestamp, decorated_key}
use Rattle.sasi_layout.proofs.TimeLaws.{map_timestamp}
use Rattle.sasi_layout.specs.Shape.{map_of}

-- ---- what a data file has

all_limit : (types : List ColumnType) (content : Content) → AllByRecursion (λ one. IsBodyOf types one.0 one.1) content → content_max_timestamp content ≤ TIME_LIMIT
all_limit types [] all = omega arith
all_limit types (one ∷ content) all = omega (arith, body_limit types one.0 one.1 all.0, all_limit types content all.1)

pub data_limit : (p : Partitioner) (types : List ColumnType) (bytes : Bytes) (content : Content) → IsDataFile p types bytes content → content_max_timestamp content ≤ TIME_LIMIT
data_limit p types bytes content is = all_limit types content is.typed

-- ---- the map of a data file

abbrev entries_of : Partitioner → Content → List (DecoratedKey × Partition)
entries_of p content = map (λ one. (decorated p one.0, one.1)) content

keys_are : (p : Partitioner) (content : Content) → map (decorated_key p) content ≡ map (λ (e : DecoratedKey × Partition). e.0) (entries_of p content)
keys_are p [] = refl
keys_are p (one ∷ content) = ap (λ (l : List DecoratedKey). decorated p one.0 ∷ l) (keys_are p content)

times_are : (p : Partitioner) (content : Content) → max_timestamp_of_partitions (map (λ (e : DecoratedKey × Partition). e.1) (entries_of p content)) ≡ content_max_timestamp content
times_are p [] = refl
times_are p (one ∷ content) = ap (max (max_timestamp_of one.1)) (times_are p content)

pub file_time : (p : Partitioner) (content : Content) → IsStrictlySortedBy decorated_cmp (map (decorated_key p) content) → map_timestamp (map_of p content) ≡ content_max_timestamp content
file_time p content rising =
    ap (λ (es : List (DecoratedKey × Partition)). max_timestamp_of_partitions (map (λ (e : DecoratedKey × Partition). e.1) es)) (entries-from_ordered (entries_of p content) (subst (IsStrictlySortedBy decorated_cmp) (keys_are p content) rising))
    ∙ times_are p content
