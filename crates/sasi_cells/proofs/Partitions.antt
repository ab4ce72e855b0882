-- Ordered entries as partitions.
use Rattle.std.proofs.Common.{◌≡◌, ◌==◌, ℕ, IsTrue, ◌<◌, nat_le, ◌&&◌, Bool, true, false, cond, if◌then◌else◌, T, List, [], ◌∷◌, length, get_or, set, Option, None, Some, Result, Ok, Err, OnOk, OnErr, max, not, refl, sym, ap, ◌∙◌, subst, arith}
use Rattle.std.specs.Prelude.{map as map_list}
use Rattle.std.specs.declared.cmp.Ordering.TheVariants.{Less, Equal, Greater}
use Rattle.std.specs.Ordering.{nat_cmp, eq_by_cmp}
use Rattle.std.specs.Cmp.{nat_cmp_total}
use Rattle.std.specs.List.{list_all, insert}
use Rattle.std.specs.Option.{option_map}
use Rattle.std.specs.FinMap as map
use Rattle.std.specs.FinMap.Entries.{by_order}
use Rattle.std.proofs.lemmas.Bool.Decides.{nat_tests}
use Rattle.sasi_types.specs.declared.cell.Cell.{Cell}
use Rattle.sasi_model.specs.Cells.{Cells, Partition, empty_partition, unshadowed, IsNormal, merge, max_timestamp_of, is_live}
use Rattle.sasi_model.specs.Abbreviations.{max_timestamp_in, any_live}
use Rattle.sasi_cells.specs.Entries.{Entry, is_above, IsOrdered, partition_of, merged_sorted, unshadowed_entries}
use Rattle.sasi_cells.specs.Changes.{deletion, with_column}
use Rattle.sasi_cells.specs.Positions.{IsColumnAt, IsGapFor}
use Rattle.sasi_cells.proofs.Positions.{find_at, find_gap, set_is_put, insert_is_put}
use Rattle.sasi_cells.proofs.Merges.{sorted_merged, merged_sorted_is_merge, all_above}

-- the cells without their columns
abbrev cells_of : List Entry → List Cell
cells_of es = map_list (λ (e : Entry). e.1) es

pub test : (b : Bool) → b ≡ true → T b
test b e = subst T (sym e) tt

pub tested : (b : Bool) → T b → b ≡ true
tested true h = refl
tested false h = absurd h

-- ---- nothing but a deletion

abbrev none_written : List Entry
none_written = []

none_is_empty : map.from_sorted {R = nat_cmp} none_written ≡ map.empty
none_is_empty =
    map.empty_of_len _ (map.len-entries (map.from_sorted {R = nat_cmp} none_written) ∙ ap length (map.entries-from_sorted nat_cmp none_written tt))

pub none_is_deletion : (time : ℕ) (es : List Entry) → es ≡ [] → partition_of time es ≡ deletion time
none_is_deletion time es e = ap (partition_of time) e ∙ ap (λ (cells : Cells). record { deleted = time; cells = cells }) none_is_empty

pub none_is_ordered : (time : ℕ) (es : List Entry) → es ≡ [] → IsOrdered time es
none_is_ordered time es e = record { rising = ap (map.is_sorted nat_cmp) e; above = ap (list_all (is_above time)) e }

pub nothing_written : (deleted : ℕ) (es : List Entry) → deleted ≡ 0 → es ≡ [] → partition_of deleted es ≡ empty_partition
nothing_written deleted es none empty = none_is_deletion deleted es empty ∙ ap deletion none

zero_of : (n : ℕ) → IsTrue (n == 0) → n ≡ 0
zero_of n is = grind (arith, nat_tests)

pub no_entries : (es : List Entry) (n : ℕ) → length es ≡ n → IsTrue (n == 0) → es ≡ []
no_entries [] n is none = refl
no_entries (e ∷ es) n is none = absurd (omega (arith, is, zero_of n none))

-- ---- entries

pub entries_are : (es : List Entry) → map.is_sorted nat_cmp es ≡ true → map.entries (map.from_sorted {R = nat_cmp} es) ≡ es
entries_are es h = map.entries-from_sorted nat_cmp es (test _ h)

pub get_is : (es : List Entry) (c : ℕ) → map.is_sorted nat_cmp es ≡ true → map.get (map.from_sorted {R = nat_cmp} es) c ≡ map.find nat_cmp c es
get_is es c h = map.get-from_sorted nat_cmp es c (test _ h)

left_true : (a b : Bool) → (a && b) ≡ true → a ≡ true
left_true true b e = refl
left_true false b e = e

right_true : (a b : Bool) → (a && b) ≡ true → b ≡ true
right_true true b e = e
right_true false b e = cc

unshadowed_above : (d : ℕ) (e : Entry) → is_above d e ≡ true → unshadowed d (Some e.1) ≡ Some e.1
unshadowed_above d e h = by _ refl h
  where
    by : (b : Bool) → nat_le e.1.time d ≡ b → not b ≡ true → (if nat_le e.1.time d then None else Some e.1) ≡ Some e.1
    by true s h = cc
    by false s h = ap (λ b. if b then None else Some e.1) s

found_above : (d c : ℕ) (es : List Entry) → list_all (is_above d) es ≡ true → unshadowed d (map.find nat_cmp c es) ≡ map.find nat_cmp c es
found_above d c [] h = refl
found_above d c (e ∷ es) h =
    elim (eq_by_cmp nat_cmp c e.0) as (λ b. unshadowed d (cond b (Some e.1) (map.find nat_cmp c es)) ≡ cond b (Some e.1) (map.find nat_cmp c es)) [
      | true ↦ unshadowed_above d e (left_true _ _ h)
      | false ↦ found_above d c es (right_true (is_above d e) _ h)
    ]

-- no cell of ordered entries is shadowed
pub ordered_is_normal : (d : ℕ) (es : List Entry) → IsOrdered d es → IsNormal (partition_of d es)
ordered_is_normal d es h c = ap (unshadowed d) (get_is es c h.rising) ∙ found_above d c es h.above ∙ sym (get_is es c h.rising)

-- ---- a cell put at its position

all_put : (d k : ℕ) (cell : Cell) (es : List Entry) → is_above d (k, cell) ≡ true → list_all (is_above d) es ≡ true
    → list_all (is_above d) (map.put nat_cmp k cell es) ≡ true
all_put d k cell [] new h = rw new refl
all_put d k cell (e ∷ es) new h =
    elim (nat_cmp k e.0) as (λ r. list_all (is_above d) (by_order r ((k, cell) ∷ e ∷ es) ((e.0, cell) ∷ es) (e ∷ map.put nat_cmp k cell es)) ≡ true) [
      | Less ↦ rw new h
      | Equal ↦ rw new (right_true (is_above d e) _ h)
      | Greater ↦ rw (left_true (is_above d e) _ h) (all_put d k cell es new (right_true (is_above d e) _ h))
    ]

put_entries : (es : List Entry) (k : ℕ) (cell : Cell) → map.is_sorted nat_cmp es ≡ true → map.entries (map.insert (map.from_sorted {R = nat_cmp} es) k cell) ≡ map.put nat_cmp k cell es
put_entries es k cell h = map.entries-insert nat_cmp_total (map.from_sorted es) k cell ∙ ap (map.put nat_cmp k cell) (entries_are es h)

put_sorted : (es : List Entry) (k : ℕ) (cell : Cell) → map.is_sorted nat_cmp es ≡ true → map.is_sorted nat_cmp (map.put nat_cmp k cell es) ≡ true
put_sorted es k cell h =
    ap (map.is_sorted nat_cmp) (sym (put_entries es k cell h)) ∙ tested _ (map.entries_sorted (map.insert (map.from_sorted {R = nat_cmp} es) k cell))

-- to put a cell at its position is to insert it
pub put_is_insert : (d : ℕ) (es : List Entry) (k : ℕ) (cell : Cell) → map.is_sorted nat_cmp es ≡ true
    → partition_of d (map.put nat_cmp k cell es) ≡ with_column (partition_of d es) k cell
put_is_insert d es k cell h =
    ap (λ (cells : Cells). record { deleted = d; cells = cells }) (map.same_entries_map _ _ (entries_are _ (put_sorted es k cell h) ∙ sym (put_entries es k cell h)))

-- over the entry of its column
pub set_at : (es items : List Entry) (k at : ℕ) (entry : Entry) (cell : Cell) → map.is_sorted nat_cmp es ≡ true → items ≡ es → IsColumnAt items k at
    → entry ≡ (k, cell) → set es at entry ≡ map.put nat_cmp k cell es
set_at es items k at entry cell h same found is =
    let here = subst (λ l. IsColumnAt l k at) same found in
    ap (set es at) is ∙ ap (λ (n : ℕ). set es at (n, cell)) (sym (here.is entry)) ∙ set_is_put es k at entry cell (test _ h) here.in_range (here.is entry)

-- or between two others
pub inserted_at : (es items : List Entry) (k at : ℕ) (entry : Entry) (cell : Cell) → items ≡ es → IsGapFor items k at → entry ≡ (k, cell)
    → insert es at entry ≡ map.put nat_cmp k cell es
inserted_at es items k at entry cell same gap is = ap (insert es at) is ∙ insert_is_put es k at cell (subst (λ l. IsGapFor l k at) same gap)

later_is_above : (d k : ℕ) (cell : Cell) → d < cell.time → is_above d (k, cell) ≡ true
later_is_above d k cell h = grind (arith, nat_tests)

-- the entries stay in order, whether the cell was put or memory ran out
pub ordered_after_put : {E : Type 0} (r : Result (Unit {0}) E) (d : ℕ) (old new : List Entry) (k : ℕ) (cell : Cell) → IsOrdered d old → d < cell.time
    → OnOk r (new ≡ map.put nat_cmp k cell old) → OnErr r (new ≡ old) → IsOrdered d new
ordered_after_put (Ok _) d old new k cell h later ok err =
    record { rising = ap (map.is_sorted nat_cmp) ok ∙ put_sorted old k cell h.rising; above = ap (list_all (is_above d)) ok ∙ all_put d k cell old (later_is_above d k cell later) h.above }
ordered_after_put (Err e) d old new k cell h later ok err = subst (IsOrdered d) (sym err) h

-- ---- a merge

pub merged_is_ordered : (m d e : ℕ) (xs ys mine zs : List Entry) → IsOrdered d xs → IsOrdered e ys → m ≡ max d e → mine ≡ xs
    → zs ≡ unshadowed_entries m (merged_sorted mine ys) → IsOrdered m zs
merged_is_ordered m d e xs ys mine zs g h greater same is =
    record {
      rising =
          ap (map.is_sorted nat_cmp) (is ∙ ap (λ l. unshadowed_entries m (merged_sorted l ys)) same)
          ∙ tested _ (sorted_merged m xs ys (test _ g.rising) (test _ h.rising));
      above = ap (list_all (is_above m)) is ∙ all_above m (merged_sorted mine ys);
    }

pub merged_is_merge : (m d e : ℕ) (xs ys mine zs : List Entry) (p q : Partition) → IsOrdered d xs → IsOrdered e ys → m ≡ max d e → mine ≡ xs
    → zs ≡ unshadowed_entries m (merged_sorted mine ys)
    → partition_of d xs ≡ p → partition_of e ys ≡ q → partition_of m zs ≡ merge p q
merged_is_merge m d e xs ys mine zs p q g h greater same is first second =
    ap (partition_of m) (is ∙ ap (λ l. unshadowed_entries m (merged_sorted l ys)) same) ∙ ap (λ n. partition_of n (unshadowed_entries n (merged_sorted xs ys))) greater
    ∙ merged_sorted_is_merge d e xs ys (test _ g.rising) (test _ h.rising) ∙ ap (λ o. merge o (partition_of e ys)) first ∙ ap (merge p) second

-- ---- as a partition shows them

pub entries_shown : (d : ℕ) (es : List Entry) (p : Partition) → IsOrdered d es → partition_of d es ≡ p → es ≡ map.entries p.cells
entries_shown d es p h is = sym (entries_are es h.rising) ∙ ap (λ (o : Partition). map.entries o.cells) is

get_shown : (d : ℕ) (es : List Entry) (p : Partition) (c : ℕ) → IsOrdered d es → partition_of d es ≡ p → map.find nat_cmp c es ≡ map.get p.cells c
get_shown d es p c h is = sym (get_is es c h.rising) ∙ ap (λ (o : Partition). map.get o.cells c) is

-- a cell with its column
abbrev of_column : ℕ → Option Cell → Option Entry
of_column c cell = option_map (λ (o : Cell). (c, o)) cell

pub cell_shown : (d : ℕ) (es items : List Entry) (p : Partition) (c at : ℕ) (e : Entry) → IsOrdered d es → partition_of d es ≡ p → items ≡ es
    → IsColumnAt items c at → e ≡ get_or es at e → Some e ≡ of_column c (map.get p.cells c)
cell_shown d es items p c at e h is same found read =
    let here = subst (λ l. IsColumnAt l c at) same found in
    let column : e.0 ≡ c = ap (λ (o : Entry). o.0) read ∙ here.is e in
    let shown : Some e.1 ≡ map.get p.cells c = ap (λ (o : Entry). Some o.1) read ∙ sym (find_at es c at e (test _ h.rising) here.in_range (here.is e)) ∙ get_shown d es p c h is in
    ap (λ (n : ℕ). Some (n, e.1)) column ∙ ap (of_column c) shown

pub no_cell_shown : (d : ℕ) (es items : List Entry) (p : Partition) (c at : ℕ) → IsOrdered d es → partition_of d es ≡ p → items ≡ es
    → IsGapFor items c at → None ≡ of_column c (map.get p.cells c)
no_cell_shown d es items p c at h is same gap =
    ap (of_column c) (sym (find_gap es c at (subst (λ l. IsGapFor l c at) same gap)) ∙ get_shown d es p c h is)

pub max_timestamp_shown : (d : ℕ) (es items : List Entry) (p : Partition) (r : ℕ) → IsOrdered d es → partition_of d es ≡ p → items ≡ es
    → r ≡ max d (max_timestamp_in (cells_of items)) → r ≡ max_timestamp_of p
max_timestamp_shown d es items p r h is same e =
    e ∙ ap (λ l. max d (max_timestamp_in (cells_of l))) (same ∙ entries_shown d es p h is) ∙ ap (λ (o : Partition). max o.deleted (max_timestamp_in (map.values p.cells))) is

pub live_shown : (d : ℕ) (es items : List Entry) (p : Partition) (r : Bool) → IsOrdered d es → partition_of d es ≡ p → items ≡ es
    → r ≡ any_live (cells_of items) → r ≡ is_live p
live_shown d es items p r h is same e = e ∙ ap (λ l. any_live (cells_of l)) (same ∙ entries_shown d es p h is)
