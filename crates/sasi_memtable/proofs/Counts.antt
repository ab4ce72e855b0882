-- Sums over the entries of a map, as one of them changes.
use Rattle.std.proofs.Common.{◌≡◌, ℕ, ◌+◌, ◌-◌, ◌^◌, ◌<◌, ◌≤◌, ◌&&◌, ◌==◌, length, drop, get_or, Bool, true, false, cond, if◌then◌else◌, List, [], ◌∷◌, map, Option, None, Some, is_some, unwrap_or, Result, Ok, Err, OnOk, OnErr, refl, sym, ap, subst, ◌∙◌, arith}
use Rattle.std.specs.Prelude.{T}
use Rattle.std.specs.declared.cmp.Ordering.{Ordering}
use Rattle.std.specs.declared.cmp.Ordering.TheVariants.{Less, Equal, Greater}
use Rattle.std.specs.Ordering.{eq_by_cmp, is_eq, is_lt}
use Rattle.std.specs.List.{sum_by}
use Rattle.std.specs.List.Sorted.{IsStrictlySortedBy}
use Rattle.std.specs.Option.{option_map_or}
use Rattle.std.specs.FinMap as fin
use Rattle.std.specs.FinMap.{find, is_sorted}
use Rattle.std.specs.FinMap.Entries.{below_all, by_order}
use Rattle.std.proofs.lemmas.Bool.Decides.{nat_tests}
use Rattle.std.proofs.lemmas.List.{drop_all}
use Rattle.std.proofs.lemmas.List.Sums.{sum_by-cons, sum_by-drop_more}
use Rattle.sasi_types.specs.declared.decorated_key.DecoratedKey.{DecoratedKey}
use Rattle.sasi_types.specs.declared.partitioner.Partitioner.{Partitioner}
use Rattle.sasi_types.specs.DecoratedKey.{decorated_cmp, decorated_total}
use Rattle.sasi_cells.proofs.Laws.Decorated.{decorated_same, equal_keys, none_below}
use Rattle.sasi_cells.specs.Maps.{put}
use Rattle.sasi_model.specs.Cells.{Partition, empty_partition, merge}
use Rattle.sasi_model.specs.State.{decorated}
use Rattle.sasi_model.specs.Abbreviations.{Partitions}
use Rattle.sasi_memtable.specs.declared.size.SizeChange.{SizeChange}
use Rattle.sasi_memtable.specs.declared.size.Size.{Size}
use Rattle.sasi_memtable.specs.MemtableView.{AreDecorated}
use Rattle.sasi_memtable.specs.Sizes.{byte_count, bytes_in, cell_count, cells_in, saturated}
use Rattle.sasi_memtable.specs.Sized.{IsGrowth, IsMemtable, IsResized, IsSizeAt, IsTotal, replaced}
use Rattle.sasi_memtable.proofs.Ordered.{Entries, entries_of_none, entries-from_ordered, get-from_partitions, partition_at}

first_true : (a b : Bool) → T (a && b) → T a
first_true true b h = tt
first_true false b h = absurd h

second_true : (a b : Bool) → T (a && b) → T b
second_true true b h = h
second_true false b h = absurd h

both_true : (a b : Bool) → T a → T b → T (a && b)
both_true true b p q = q
both_true false b p q = p

is_less : (o : Ordering) → T (is_lt o) → o ≡ Less
is_less Less h = refl
is_less Equal h = absurd h
is_less Greater h = absurd h

below_lower : (x y : DecoratedKey) (es : Entries) → decorated_cmp x y ≡ Less → T (below_all decorated_cmp y es) → T (below_all decorated_cmp x es)
below_lower x y [] lower below = tt
below_lower x y (e ∷ es) lower below =
    both_true _ _ (subst (λ r. T (is_lt r)) (sym (decorated_total.trans x y e.0 lower (is_less _ (first_true _ _ below)))) tt)
    (below_lower x y es lower (second_true _ _ below))

module _ (f : DecoratedKey × Partition → ℕ) where
  -- what it counts for a key
  abbrev pub at_key : DecoratedKey → Option Partition → ℕ
  at_key key found = option_map_or (λ p. f (key, p)) found 0

  put_sum : (k : DecoratedKey) (v : Partition) (es : Entries) → T (is_sorted decorated_cmp es) → sum_by f (fin.put decorated_cmp k v es) + at_key k (find decorated_cmp k es) ≡ sum_by f es + f (k, v)
  put_sum k v [] sorted = omega arith
  put_sum k v (e ∷ es) sorted = by (decorated_cmp k e.0) refl (put_sum k v es (second_true _ _ sorted))
    where
      by : (o : Ordering) → decorated_cmp k e.0 ≡ o → sum_by f (fin.put decorated_cmp k v es) + at_key k (find decorated_cmp k es) ≡ sum_by f es + f (k, v)
          → sum_by f (by_order o ((k, v) ∷ e ∷ es) ((e.0, v) ∷ es) (e ∷ fin.put decorated_cmp k v es)) + at_key k (cond (is_eq o) (Some e.1) (find decorated_cmp k es)) ≡ sum_by f (e ∷ es) + f (k, v)
      by Less is rest =
          let none : find decorated_cmp k es ≡ None = none_below k es (below_lower k e.0 es is (first_true _ _ sorted)) in
          omega (arith, sum_by-cons f (k, v) (e ∷ es), ap (at_key k) none)
      by Equal is rest =
          let same : k ≡ e.0 = decorated_same k e.0 is in
          omega (arith, sum_by-cons f (e.0, v) es, sum_by-cons f e es, ap (λ (x : DecoratedKey). f (x, v)) same, ap (λ (x : DecoratedKey). f (x, e.1)) same)
      by Greater is rest = omega (arith, rest, sum_by-cons f e (fin.put decorated_cmp k v es), sum_by-cons f e es)

  found_sum : (k : DecoratedKey) (es : Entries) → at_key k (find decorated_cmp k es) ≤ sum_by f es
  found_sum k [] = omega arith
  found_sum k (e ∷ es) =
      elim (eq_by_cmp decorated_cmp k e.0) as (λ b. eq_by_cmp decorated_cmp k e.0 ≡ b → at_key k (cond b (Some e.1) (find decorated_cmp k es)) ≤ sum_by f (e ∷ es)) [
        | true ↦ λ is. let same : k ≡ e.0 = equal_keys k e.0 is in omega (arith, sum_by-cons f e es, ap (λ (x : DecoratedKey). f (x, e.1)) same)
        | false ↦ λ is. omega (arith, sum_by-cons f e es, found_sum k es)
      ] refl

  -- the sum after a change of one partition
  sum_inserted : (m : Partitions) (k : DecoratedKey) (v : Partition) → sum_by f (fin.entries (fin.insert m k v)) + at_key k (fin.get m k) ≡ sum_by f (fin.entries m) + f (k, v)
  sum_inserted m k v =
      ap (λ (es : Entries). sum_by f es + at_key k (fin.get m k)) (fin.entries-insert decorated_total m k v)
      ∙ ap (λ x. sum_by f (fin.put decorated_cmp k v (fin.entries m)) + at_key k x) (fin.get-entries m k)
      ∙ put_sum k v (fin.entries m) (fin.entries_sorted m)

  sum_found : (m : Partitions) (k : DecoratedKey) → at_key k (fin.get m k) ≤ sum_by f (fin.entries m)
  sum_found m k = subst (λ x. at_key k x ≤ sum_by f (fin.entries m)) (sym (fin.get-entries m k)) (found_sum k (fin.entries m))

-- what a change does to the sizes
pub is_resized : (old : Partitions) (key : DecoratedKey) (change : Partition) (was : Size) (growth : SizeChange) → IsTotal old was → IsGrowth old key change growth → IsResized (put old key change) was growth
is_resized old key change was growth total is =
    let merged : Partition = merge (unwrap_or (fin.get old key) empty_partition) change in
    let cells_before : ℕ = option_map_or cells_in (fin.get old key) 0 in
    let bytes_before : ℕ = option_map_or (λ p. bytes_in (key, p)) (fin.get old key) 0 in
    let cells_found : cells_before ≤ cell_count old = sum_found (λ e. cells_in e.1) old key in
    let bytes_found : bytes_before ≤ byte_count old = sum_found bytes_in old key in
    let all_cells : (cell_count old - cells_before) + cells_before ≡ cell_count old = omega arith in
    let all_bytes : (byte_count old - bytes_before) + bytes_before ≡ byte_count old = omega arith in
    record {
      cells = cell_count old - cells_before;
      cells_before = cells_before;
      cells_after = cells_in merged;
      bytes = byte_count old - bytes_before;
      bytes_before = bytes_before;
      bytes_after = bytes_in (key, merged);
      was_is = record { cells_are = total.cells_are ∙ ap saturated (sym all_cells); bytes_are = total.bytes_are ∙ ap saturated (sym all_bytes) };
      before_is = is.before;
      after_is = is.after;
      cells_are = omega (arith, sum_inserted (λ e. cells_in e.1) old key merged);
      bytes_are = omega (arith, sum_inserted bytes_in old key merged);
    }

-- a count that hasn't saturated stays right as one part of it is replaced by another
pub replaced_is : (count before after others b a new : ℕ) → count ≡ saturated (others + b) → before ≡ saturated b → after ≡ saturated a → replaced count before after ≡ Some new → new ≡ saturated (others + a)
replaced_is count before after others b a new count_is before_is after_is is =
    elim (count == 2 ^ 64 - 1) as (λ t. (count == 2 ^ 64 - 1) ≡ t → (if t then None else Some (saturated ((count - before) + after))) ≡ Some new → new ≡ saturated (others + a)) [
      | true ↦ λ full e. cc
      | false ↦ λ free e.
          let same : saturated ((count - before) + after) ≡ new = cc in
          let below : count < 2 ^ 64 - 1 = grind (arith, nat_tests) in
          omega arith
    ] refl is

-- ---- loops that add up

-- one more part
pub added : (part rest all size counted : ℕ) → size ≤ 2 ^ 64 - 1 → saturated (size + (part + rest)) ≡ saturated all → counted ≡ saturated (size + saturated part) → saturated (counted + rest) ≡ saturated all
added part rest all size counted fits so_far is = omega (arith, fits, so_far, is)

-- the parts of a list
pub part_added : {A : Type 0} (f : A → ℕ) (xs : List A) (i : ℕ) (x : A) (size counted : ℕ) → i < length xs → x ≡ get_or xs i x → size ≤ 2 ^ 64 - 1 → counted ≡ saturated (size + saturated (f x))
    → saturated (size + sum_by f (drop i xs)) ≡ saturated (sum_by f xs) → saturated (counted + sum_by f (drop (i + 1) xs)) ≡ saturated (sum_by f xs)
part_added f xs i x size counted within is fits counted_is so_far =
    added (f x) (sum_by f (drop (i + 1) xs)) (sum_by f xs) size counted fits
    (ap (λ n. saturated (size + n)) (sym (sum_by-drop_more f xs i x within ∙ ap (λ y. f y + sum_by f (drop (i + 1) xs)) (sym is))) ∙ so_far) counted_is

pub all_added : {A : Type 0} (f : A → ℕ) (xs : List A) (i size : ℕ) → length xs ≤ i → size ≤ 2 ^ 64 - 1 → saturated (size + sum_by f (drop i xs)) ≡ saturated (sum_by f xs) → size ≡ saturated (sum_by f xs)
all_added {A = A} f xs i size end fits so_far =
    let none : sum_by f (drop i xs) ≡ 0 = ap (λ (l : List A). sum_by f l) (drop_all i xs end) in
    omega (arith, none, fits, so_far)

-- ---- the empty memtable

pub empty_is : (p : Partitioner) (entries : Entries) (size : Size) → entries ≡ [] → size ≡ record { cells = 0; bytes = 0 } → IsMemtable p (fin.from_entries entries) size
empty_is p entries size none is = rw (none, is) (record {
  decorated = λ k there. (let no : false ≡ true = sym (ap is_some (fin.get-empty decorated_cmp k)) ∙ there in cc);
  total = record {
    cells_are = ap (λ (es : Entries). saturated (sum_by (λ e. cells_in e.1) es)) (sym entries_of_none);
    bytes_are = ap (λ (es : Entries). saturated (sum_by bytes_in es)) (sym entries_of_none);
  };
})

-- ---- all partitions

-- nothing is left to be counted
pub total_is : (entries left : Entries) (size : Size) → IsStrictlySortedBy decorated_cmp (map (λ e. e.0) entries) → left ≡ [] → size.cells ≤ 2 ^ 64 - 1 → size.bytes ≤ 2 ^ 64 - 1
    → saturated (size.cells + sum_by (λ e. cells_in e.1) left) ≡ saturated (sum_by (λ e. cells_in e.1) entries) → saturated (size.bytes + sum_by bytes_in left) ≡ saturated (sum_by bytes_in entries)
    → IsTotal (fin.from_entries entries) size
total_is entries left size ordered none cells_fit bytes_fit cells bytes =
    let same = entries-from_ordered entries ordered in
    let no_cells : sum_by (λ e. cells_in e.1) left ≡ 0 = ap (λ (es : Entries). sum_by (λ e. cells_in e.1) es) none in
    let no_bytes : sum_by bytes_in left ≡ 0 = ap (λ (es : Entries). sum_by bytes_in es) none in
    let cells_are : size.cells ≡ saturated (sum_by (λ e. cells_in e.1) entries) = omega (arith, cells_fit, no_cells, cells) in
    let bytes_are : size.bytes ≡ saturated (sum_by bytes_in entries) = omega (arith, bytes_fit, no_bytes, bytes) in
    record {
      cells_are = cells_are ∙ ap (λ (es : Entries). saturated (sum_by (λ e. cells_in e.1) es)) (sym same);
      bytes_are = bytes_are ∙ ap (λ (es : Entries). saturated (sum_by bytes_in es)) (sym same);
    }

-- one partition after another
pub entry_added : (f : DecoratedKey × Partition → ℕ) (entry : DecoratedKey × Partition) (left rest : Entries) (size counted part all : ℕ) → left ≡ entry ∷ rest → size ≤ 2 ^ 64 - 1 → part ≡ saturated (f entry) → counted ≡ saturated (size + part)
    → saturated (size + sum_by f left) ≡ all → saturated (counted + sum_by f rest) ≡ all
entry_added f entry left rest size counted part all is fits part_is counted_is so_far =
    let more : sum_by f left ≡ f entry + sum_by f rest = ap (λ (es : Entries). sum_by f es) is ∙ sum_by-cons f entry rest in
    omega (arith, more, fits, part_is, counted_is, so_far)

-- ---- a change

-- the sizes of a key's partition before and after, by the entries
pub growth_is : (entries : Entries) (key : DecoratedKey) (change : Partition) (growth : SizeChange) → IsSizeAt key (partition_at entries key) growth.before
    → IsSizeAt key (Some (merge (unwrap_or (partition_at entries key) empty_partition) change)) growth.after → IsGrowth (fin.from_entries entries) key change growth
growth_is entries key change growth before after =
    let same = sym (get-from_partitions entries key) in
    record {
      before = subst (λ (o : Option Partition). IsSizeAt key o growth.before) same before;
      after = subst (λ (o : Option Partition). IsSizeAt key (Some (merge (unwrap_or o empty_partition) change)) growth.after) same after;
    }

decorated_put : (p : Partitioner) (m : Partitions) (key : DecoratedKey) (change : Partition) → key ≡ decorated p key.key → AreDecorated p m → AreDecorated p (put m key change)
decorated_put p m key change is all q there =
    let new : Partition = merge (unwrap_or (fin.get m key) empty_partition) change in
    elim (eq_by_cmp decorated_cmp q key) as (λ b. eq_by_cmp decorated_cmp q key ≡ b → is_some (cond b (Some new) (fin.get m q)) ≡ true → q ≡ decorated p q.key) [
      | true ↦ λ at _. subst (λ (k : DecoratedKey). k ≡ decorated p k.key) (sym (equal_keys q key at)) is
      | false ↦ λ _ old_there. all q old_there
    ] refl (sym (ap is_some (fin.get-insert decorated_total m key new q)) ∙ there)

-- a memtable stays one
pub put_held : {A E : Type 0} (p : Partitioner) (old new : Partitions) (key : DecoratedKey) (bytes : List ℕ) (change : Partition) (size : Size) (result : Result A E) → key ≡ decorated p bytes → AreDecorated p old
    → OnOk result (new ≡ put old key change) → OnErr result (new ≡ old) → IsTotal new size → IsMemtable p new size
put_held p old new key bytes change size (Ok a) is all ok err total =
    record { decorated = subst (AreDecorated p) (sym ok) (decorated_put p old key change (is ∙ ap (λ (k : DecoratedKey). decorated p k.key) (sym is)) all); total = total }
put_held p old new key bytes change size (Err e) is all ok err total = record { decorated = subst (AreDecorated p) (sym err) all; total = total }
