-- The largest timestamp of a layout's state is that of its parts.
use Rattle.std.specs.Prelude.{◌≡◌, ◌≤◌, ℕ, max, Bool, true, false, cond, List, [], ◌∷◌, map, Option, None, Some, unwrap_or, refl}
use Rattle.std.proofs.Common.{sym, ap, ◌∙◌, arith}
use Rattle.std.proofs.lemmas.Cmp.{tied_itself}
use Rattle.std.specs.Ordering.{eq_by_cmp, is_eq, nat_cmp}
use Rattle.std.specs.FinMap as map_
use Rattle.std.specs.FinMap.{find, get}
use Rattle.std.specs.List.{AllByRecursion}
use Rattle.std.specs.List.Sorted.{IsStrictlySortedBy}
use Rattle.std.specs.declared.cmp.Ordering.TheVariants.{Less}
use Rattle.sasi_types.specs.declared.partitioner.Partitioner.{Partitioner}
use Rattle.sasi_types.specs.declared.decorated_key.DecoratedKey.{DecoratedKey}
use Rattle.sasi_types.specs.DecoratedKey.{decorated_cmp, decorated_total}
use Rattle.sasi_model.specs.Abbreviations.{Partitions, max_timestamp_of_partitions}
use Rattle.sasi_model.specs.Cells.{Partition, empty_partition, largest, max_timestamp_of, merge}
use Rattle.sasi_model.specs.State.{Table, decorated, max_timestamp}
use Rattle.sasi_cells.specs.Maps.{joined, merge_maps, merged, merged_onto, put}
use Rattle.sasi_cells.proofs.Laws.Decorated.{entries_have, equal_keys}
use Rattle.sasi_cells.proofs.Laws.Maps.{get_merge_maps}
use Rattle.sasi_cells.proofs.Laws.Times.{max_timestamp_merge, values_below}
use Rattle.sasi_datawrite.specs.Format.{Content, content_max_timestamp, decorated_key}
use Rattle.sasi_layout.specs.Layout.{Layout, TableParts, parts, state_of, table_of}

-- ---- a map

-- the largest timestamp of a map
abbrev pub map_timestamp : Partitions → ℕ
map_timestamp m = max_timestamp_of_partitions (map_.values m)

-- the same of entries
abbrev times : List (DecoratedKey × Partition) → ℕ
times es = max_timestamp_of_partitions (map (λ e. e.1) es)

found_time : (key : DecoratedKey) (es : List (DecoratedKey × Partition)) (part : Partition) → find decorated_cmp key es ≡ Some part → max_timestamp_of part ≤ times es
found_time key [] part found = cc
found_time key (e ∷ es) part found =
    elim (eq_by_cmp decorated_cmp key e.0) as (λ b. cond b (Some e.1) (find decorated_cmp key es) ≡ Some part → max_timestamp_of part ≤ max (max_timestamp_of e.1) (times es)) [
      | true ↦ λ is. let same : e.1 ≡ part = cc in omega (arith, ap max_timestamp_of same)
      | false ↦ λ is. omega (arith, found_time key es part is)
    ] found

all_below : (t : ℕ) (es : List (DecoratedKey × Partition)) → AllByRecursion (λ e. max_timestamp_of e.1 ≤ t) es → times es ≤ t
all_below t [] all = omega arith
all_below t (e ∷ es) all = omega (arith, all.0, all_below t es all.1)

-- no partition is newer than it
pub get_timestamp : (m : Partitions) (key : DecoratedKey) (part : Partition) → get m key ≡ Some part → max_timestamp_of part ≤ map_timestamp m
get_timestamp m key part found = found_time key (map_.entries m) part (sym (map_.get-entries m key) ∙ found)

-- a bound of all partitions bounds it
pub map_below : (t : ℕ) (m : Partitions) → ((key : DecoratedKey) (part : Partition) → get m key ≡ Some part → max_timestamp_of part ≤ t) → map_timestamp m ≤ t
map_below t m each = all_below t (map_.entries m) (entries_have (λ e. max_timestamp_of e.1 ≤ t) m each)

pub empty_timestamp : map_timestamp map_.empty ≡ 0
empty_timestamp = let below = map_below 0 map_.empty (λ key part found. (let none : None ≡ Some part = sym (map_.get-empty decorated_cmp key) ∙ found in cc)) in omega (arith, below)

-- ---- a merge

none_time : max_timestamp_of empty_partition ≡ 0
none_time =
    let below = values_below 0 empty_partition.cells (λ column cell found. (let none : None ≡ Some cell = sym (map_.get-empty nat_cmp column) ∙ found in cc)) in
    omega (arith, below)

onto_time : (o : Option Partition) (q : Partition) (t : ℕ) → ((part : Partition) → o ≡ Some part → max_timestamp_of part ≤ t) → max_timestamp_of q ≤ t → max_timestamp_of (merge (unwrap_or o empty_partition) q) ≤ t
onto_time None q t older later = omega (arith, none_time, max_timestamp_merge empty_partition q, later)
onto_time (Some p) q t older later = omega (arith, max_timestamp_merge p q, older p refl, later)

joined_below : (a b : Option Partition) (part : Partition) (t : ℕ) → ((part : Partition) → a ≡ Some part → max_timestamp_of part ≤ t) → ((part : Partition) → b ≡ Some part → max_timestamp_of part ≤ t) → joined a b ≡ Some part → max_timestamp_of part ≤ t
joined_below a None part t older later is = older part is
joined_below a (Some q) part t older later is =
    let same : merge (unwrap_or a empty_partition) q ≡ part = cc in
    omega (arith, ap max_timestamp_of same, onto_time a q t older (later q refl))

-- what is joined is as new as each of the two
joined_older : (p : Partition) (b : Option Partition) (t : ℕ) → ((part : Partition) → joined (Some p) b ≡ Some part → max_timestamp_of part ≤ t) → max_timestamp_of p ≤ t
joined_older p None t each = each p refl
joined_older p (Some q) t each = omega (arith, max_timestamp_merge p q, each (merge p q) refl)

joined_later : (a : Option Partition) (q : Partition) (t : ℕ) → ((part : Partition) → joined a (Some q) ≡ Some part → max_timestamp_of part ≤ t) → max_timestamp_of q ≤ t
joined_later None q t each = omega (arith, none_time, max_timestamp_merge empty_partition q, each (merge empty_partition q) refl)
joined_later (Some p) q t each = omega (arith, max_timestamp_merge p q, each (merge p q) refl)

-- The largest timestamp of two merged maps is the larger one of theirs.
pub merge_timestamp : (a b : Partitions) → map_timestamp (merge_maps a b) ≡ max (map_timestamp a) (map_timestamp b)
merge_timestamp a b =
    let both = merge_maps a b in
    let most : ℕ = max (map_timestamp a) (map_timestamp b) in
    let within : map_timestamp both ≤ most = map_below most both (λ key part found.
    joined_below (get a key) (get b key) part most (λ p is. omega (arith, get_timestamp a key p is)) (λ p is. omega (arith, get_timestamp b key p is)) (sym (get_merge_maps a b key) ∙ found)) in
    let first : map_timestamp a ≤ map_timestamp both = map_below (map_timestamp both) a (λ key p found.
    joined_older p (get b key) (map_timestamp both) (λ part is. get_timestamp both key part (get_merge_maps a b key ∙ ap (λ o. joined o (get b key)) found ∙ is))) in
    let second : map_timestamp b ≤ map_timestamp both = map_below (map_timestamp both) b (λ key q found.
    joined_later (get a key) q (map_timestamp both) (λ part is. get_timestamp both key part (get_merge_maps a b key ∙ ap (λ o. joined (get a key) o) found ∙ is))) in
    omega (arith, within, first, second)

-- the largest timestamp of maps
abbrev pub maps_timestamp : List Partitions → ℕ
maps_timestamp ms = largest (map map_timestamp ms)

onto_timestamp : (base : Partitions) (ms : List Partitions) → map_timestamp (merged_onto base ms) ≡ max (map_timestamp base) (maps_timestamp ms)
onto_timestamp base [] = omega arith
onto_timestamp base (m ∷ ms) = omega (arith, onto_timestamp (merge_maps base m) ms, merge_timestamp base m)

pub merged_timestamp : (ms : List Partitions) → map_timestamp (merged ms) ≡ maps_timestamp ms
merged_timestamp ms = omega (arith, onto_timestamp map_.empty ms, empty_timestamp)

-- ---- a put

pub put_timestamp : (m : Partitions) (key : DecoratedKey) (change : Partition) → map_timestamp (put m key change) ≡ max (map_timestamp m) (max_timestamp_of change)
put_timestamp m key change =
    let new = merge (unwrap_or (get m key) empty_partition) change in
    let after = put m key change in
    let most : ℕ = max (map_timestamp m) (max_timestamp_of change) in
    let here : get after key ≡ Some new = map_.get-insert decorated_total m key new key ∙ ap (λ b. cond b (Some new) (get m key)) (itself key) in
    let within : map_timestamp after ≤ most = map_below most after (λ q part found. below q part (eq_by_cmp decorated_cmp q key) refl (sym (map_.get-insert decorated_total m key new q) ∙ found)) in
    let changed : max_timestamp_of change ≤ map_timestamp after = omega (arith, get_timestamp after key new here, change_time (get m key)) in
    let older : map_timestamp m ≤ map_timestamp after = map_below (map_timestamp after) m (λ q part found. above q part (eq_by_cmp decorated_cmp q key) refl found here) in
    omega (arith, within, changed, older)
  where
    itself : (k : DecoratedKey) → eq_by_cmp decorated_cmp k k ≡ true
    itself k = ap is_eq (tied_itself decorated_total k)

    change_time : (o : Option Partition) → max_timestamp_of change ≤ max_timestamp_of (merge (unwrap_or o empty_partition) change)
    change_time None = omega (arith, none_time, max_timestamp_merge empty_partition change)
    change_time (Some p) = omega (arith, max_timestamp_merge p change)

    below : (q : DecoratedKey) (part : Partition) (b : Bool) → eq_by_cmp decorated_cmp q key ≡ b → cond b (Some (merge (unwrap_or (get m key) empty_partition) change)) (get m q) ≡ Some part → max_timestamp_of part ≤ max (map_timestamp m) (max_timestamp_of change)
    below q part true e is =
        let same : merge (unwrap_or (get m key) empty_partition) change ≡ part = cc in
        omega (arith, ap max_timestamp_of same, onto_time (get m key) change (max (map_timestamp m) (max_timestamp_of change)) (λ p found. omega (arith, get_timestamp m key p found)) (omega arith))
    below q part false e is = omega (arith, get_timestamp m q part is)

    onto_older : (o : Option Partition) (part : Partition) → o ≡ Some part → max_timestamp_of part ≤ max_timestamp_of (merge (unwrap_or o empty_partition) change)
    onto_older None part is = cc
    onto_older (Some p) part is = let same : p ≡ part = cc in omega (arith, ap max_timestamp_of same, max_timestamp_merge p change)

    above : (q : DecoratedKey) (part : Partition) (b : Bool) → eq_by_cmp decorated_cmp q key ≡ b → get m q ≡ Some part → get (put m key change) key ≡ Some (merge (unwrap_or (get m key) empty_partition) change) → max_timestamp_of part ≤ map_timestamp (put m key change)
    above q part true e found here =
        let same : q ≡ key = equal_keys q key e in
        omega (arith, onto_older (get m key) part (sym (ap (λ (k : DecoratedKey). get m k) same) ∙ found), get_timestamp (put m key change) key _ here)
    above q part false e found here =
        get_timestamp (put m key change) q part (map_.get-insert decorated_total m key (merge (unwrap_or (get m key) empty_partition) change) q ∙ ap (λ b. cond b (Some (merge (unwrap_or (get m key) empty_partition) change)) (get m q)) e ∙ found)

-- ---- a data file

none_after : (key : DecoratedKey) (es : List (DecoratedKey × Partition)) → AllByRecursion (λ q. decorated_cmp key q ≡ Less) (map (λ (e : DecoratedKey × Partition). e.0) es) → find decorated_cmp key es ≡ None
none_after key [] after = refl
none_after key (e ∷ es) after = ap (λ r. cond (is_eq r) (Some e.1) (find decorated_cmp key es)) after.0 ∙ none_after key es after.1

times_sorted : (t : ℕ) (es : List (DecoratedKey × Partition)) → IsStrictlySortedBy decorated_cmp (map (λ (e : DecoratedKey × Partition). e.0) es) → ((key : DecoratedKey) (part : Partition) → find decorated_cmp key es ≡ Some part → max_timestamp_of part ≤ t) → times es ≤ t
unfolding IsStrictlySortedBy
times_sorted t [] sorted each = omega arith
times_sorted t (e ∷ es) sorted each =
    let first = each e.0 e.1 (ap (λ r. cond (is_eq r) (Some e.1) (find decorated_cmp e.0 es)) (tied_itself decorated_total e.0)) in
    let rest = times_sorted t es sorted.1 (λ key part found. each key part (behind key part (eq_by_cmp decorated_cmp key e.0) refl found)) in
    omega (arith, first, rest)
  where
    behind : (key : DecoratedKey) (part : Partition) (b : Bool) → eq_by_cmp decorated_cmp key e.0 ≡ b → find decorated_cmp key es ≡ Some part → cond (eq_by_cmp decorated_cmp key e.0) (Some e.1) (find decorated_cmp key es) ≡ Some part
    behind key part true same found =
        let equal : key ≡ e.0 = equal_keys key e.0 same in
        let no : None ≡ Some part = sym (none_after e.0 es sorted.0) ∙ ap (λ (k : DecoratedKey). find decorated_cmp k es) (sym equal) ∙ found in
        cc
    behind key part false other found = ap (λ b. cond b (Some e.1) (find decorated_cmp key es)) other ∙ found

module _ (p : Partitioner) where
  -- the entries of a content
  abbrev entries_of : Content → List (DecoratedKey × Partition)
  entries_of content = map (λ one. (decorated p one.0, one.1)) content

  times_are : (content : Content) → times (entries_of content) ≡ content_max_timestamp content
  times_are [] = refl
  times_are (one ∷ others) = ap (λ n. max (max_timestamp_of one.1) n) (times_are others)

  keys_are : (content : Content) → map (λ (e : DecoratedKey × Partition). e.0) (entries_of content) ≡ map (decorated_key p) content
  keys_are [] = refl
  keys_are (one ∷ others) = ap (λ (l : List DecoratedKey). decorated p one.0 ∷ l) (keys_are others)

-- ---- a layout

-- the largest timestamp of a table's parts
abbrev pub parts_timestamp : TableParts → ℕ
parts_timestamp t = maps_timestamp (parts t)

tables_timestamp : (ts : List TableParts) → largest (map (λ (t : Table). map_timestamp t.partitions) (map table_of ts)) ≡ largest (map parts_timestamp ts)
tables_timestamp [] = refl
tables_timestamp (t ∷ ts) = omega (arith, merged_timestamp (parts t), tables_timestamp ts)

-- It is that of all parts of all tables.
pub layout_timestamp : (l : Layout) → max_timestamp (state_of l) ≡ largest (map parts_timestamp l.tables)
unfolding max_timestamp
layout_timestamp l = tables_timestamp l.tables
