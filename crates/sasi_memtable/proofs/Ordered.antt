-- Entries in the order of their decorated keys, as a finite map.
use Rattle.std.proofs.Common.{◌≡◌, cond, if◌then◌else◌, List, [], ◌∷◌, map, length, arith, Option, Some, unwrap_or, refl, sym, ap, ◌∙◌}
use Rattle.std.specs.Ordering.{eq_by_cmp}
use Rattle.std.specs.Cmp.{eq_by_cmp_equiv}
use Rattle.std.specs.BTreeMap.{is_at}
use Rattle.std.specs.Map.{lookup}
use Rattle.std.specs.List.{AllByRecursion}
use Rattle.std.specs.List.Sorted.{IsStrictlySortedBy}
use Rattle.std.specs.FinMap as fin
use Rattle.std.specs.declared.cmp.Ordering.TheVariants.{Less}
use Rattle.sasi_types.specs.declared.decorated_key.DecoratedKey.{DecoratedKey}
use Rattle.sasi_types.specs.DecoratedKey.{decorated_cmp, decorated_total}
use Rattle.sasi_cells.proofs.Laws.Decorated.{same_maps}
use Rattle.sasi_cells.specs.Maps.{put}
use Rattle.sasi_model.specs.Cells.{Partition, empty_partition, merge}

-- partitions with their decorated keys
abbrev pub Entries : Type 0
Entries = List (DecoratedKey × Partition)

-- the first partition of a decorated key
abbrev pub partition_at : Entries → DecoratedKey → Option Partition
partition_at entries key = lookup (is_at (decorated_cmp key)) entries

pub find-partition_at : (entries : Entries) (key : DecoratedKey) → fin.find decorated_cmp key entries ≡ partition_at entries key
find-partition_at [] key = refl
find-partition_at (e ∷ es) key = ap (cond (is_at (decorated_cmp key) e.0) (Some e.1)) (find-partition_at es key)

-- the look-up of a key in the map of the entries
pub get-from_partitions : (entries : Entries) (key : DecoratedKey) → fin.get (fin.from_entries {R = decorated_cmp} entries) key ≡ partition_at entries key
get-from_partitions entries key = fin.get-from_entries decorated_total entries key ∙ find-partition_at entries key

-- entries that differ at one key make maps that differ there
put_is_insert : (old new : Entries) (key : DecoratedKey) (partition : Partition)
    → ((q : DecoratedKey) → partition_at new q ≡ cond (is_at (decorated_cmp key) q) (Some partition) (partition_at old q))
    → fin.from_entries {R = decorated_cmp} new ≡ fin.insert (fin.from_entries old) key partition
put_is_insert old new key partition differs = same_maps _ _ (λ q.
    get-from_partitions new q ∙ differs q ∙ ap (λ b. cond b (Some partition) (partition_at old q)) ((eq_by_cmp_equiv decorated_total).symm key q)
    ∙ sym (fin.get-insert decorated_total (fin.from_entries old) key partition q ∙ ap (cond (eq_by_cmp decorated_cmp q key) (Some partition)) (get-from_partitions old q)))

-- entries after a change make the map after it
pub put_is : (old new : Entries) (key : DecoratedKey) (change : Partition)
    → ((q : DecoratedKey) → partition_at new q ≡ (if is_at (decorated_cmp key) q then Some (merge (unwrap_or (partition_at old key) empty_partition) change) else partition_at old q))
    → fin.from_entries {R = decorated_cmp} new ≡ put (fin.from_entries old) key change
put_is old new key change differs =
    put_is_insert old new key (merge (unwrap_or (partition_at old key) empty_partition) change) differs
    ∙ ap (λ p. fin.insert (fin.from_entries {R = decorated_cmp} old) key (merge (unwrap_or p empty_partition) change)) (sym (get-from_partitions old key))

-- entries that answer alike make the same map
pub alike_are : (old new : Entries) → ((q : DecoratedKey) → partition_at new q ≡ partition_at old q) → fin.from_entries {R = decorated_cmp} new ≡ fin.from_entries old
alike_are old new alike = same_maps _ _ (λ q. get-from_partitions new q ∙ alike q ∙ sym (get-from_partitions old q))

-- an entry below all others is put before them
put_in_front : (e : DecoratedKey × Partition) (es : Entries) → AllByRecursion (λ y. decorated_cmp e.0 y ≡ Less) (map (λ x. x.0) es) → fin.put decorated_cmp e.0 e.1 es ≡ e ∷ es
put_in_front e [] below = refl
put_in_front e (x ∷ es) below = rw below.0 refl

pub no_entries : (es : Entries) → length es ≡ 0 → es ≡ []
no_entries [] none = refl
no_entries (e ∷ es) none = absurd (omega arith)

pub entries_of_none : fin.entries (fin.empty {X = Partition} {R = decorated_cmp}) ≡ []
entries_of_none = no_entries _ (sym (fin.len-entries (fin.empty {R = decorated_cmp})) ∙ fin.len-empty decorated_cmp Partition)

-- entries in order are those of the map that they make
pub entries-from_ordered : (es : Entries) → IsStrictlySortedBy decorated_cmp (map (λ e. e.0) es) → fin.entries (fin.from_entries {R = decorated_cmp} es) ≡ es
unfolding IsStrictlySortedBy
entries-from_ordered [] ordered = entries_of_none
entries-from_ordered (e ∷ es) ordered =
    fin.entries-insert decorated_total (fin.from_entries es) e.0 e.1
    ∙ ap (fin.put decorated_cmp e.0 e.1) (entries-from_ordered es ordered.1)
    ∙ put_in_front e es ordered.0
