-- The maximum timestamp of a merge is the larger one of the two partitions', and that of what can be stored is that of a write.
use Rattle.std.specs.Prelude.{◌≡◌, ℕ, ◌≤◌, true, false, cond, nat_le, if◌then◌else◌, max, T, List, [], ◌∷◌, map, Option, None, Some, ◌⊎◌}
use Rattle.std.specs.List.{AllByRecursion}
use Rattle.std.specs.Ordering.{nat_cmp, eq_by_cmp}
use Rattle.std.specs.FinMap as map_
use Rattle.std.proofs.Common.{refl, sym, ap, ◌∙◌, inl, inr, arith}
use Rattle.std.proofs.lemmas.Bool.Decides.{nat_tests}
use Rattle.sasi_types.specs.declared.cell.Cell.{Cell}
use Rattle.sasi_types.specs.declared.column.ColumnType.{ColumnType}
use Rattle.sasi_model.specs.Cells.{Cells, Partition, newest, newest_of, unshadowed, merge, max_timestamp_of}
use Rattle.sasi_model.specs.Abbreviations.{TIME_LIMIT, max_timestamp_in}
use Rattle.sasi_model.specs.Stored.{IsBodyOf, IsCell, cells_of}
use Rattle.sasi_cells.proofs.Laws.Newest.{newest_time}
use Rattle.sasi_cells.proofs.Laws.Sorted.{first, second, find_first, find_behind}
use Rattle.sasi_cells.proofs.Laws.Merged.{get_merge, deleted_merge}

abbrev times : List (ℕ × Cell) → ℕ
times es = max_timestamp_in (map (λ e. e.1) es)

found_time : (k : ℕ) (es : List (ℕ × Cell)) (cell : Cell) → map_.find nat_cmp k es ≡ Some cell → cell.time ≤ times es
found_time k [] cell found = cc
found_time k (e ∷ es) cell found =
    elim (eq_by_cmp nat_cmp k e.0) as (λ b. cond b (Some e.1) (map_.find nat_cmp k es) ≡ Some cell → cell.time ≤ max e.1.time (times es)) [
      | true ↦ λ is. let same : e.1 ≡ cell = cc in omega (arith, ap (λ (c : Cell). c.time) same)
      | false ↦ λ is. omega (arith, found_time k es cell is)
    ] found

times_below : (t : ℕ) (es : List (ℕ × Cell)) → T (map_.is_sorted nat_cmp es)
    → ((k : ℕ) (cell : Cell) → map_.find nat_cmp k es ≡ Some cell → cell.time ≤ t) → times es ≤ t
times_below t [] sorted all = omega arith
times_below t (e ∷ es) sorted all =
    omega (arith, all e.0 e.1 (find_first e es), times_below t es (second _ _ sorted) (λ k cell found. all k cell (find_behind e es k cell (first _ _ sorted) found)))

-- no cell is newer than the maximum timestamp
pub get_time : (m : Cells) (k : ℕ) (cell : Cell) → map_.get m k ≡ Some cell → cell.time ≤ max_timestamp_in (map_.values m)
get_time m k cell found = found_time k (map_.entries m) cell (sym (map_.get-entries m k) ∙ found)

-- and a bound of all cells bounds the maximum timestamp
pub values_below : (t : ℕ) (m : Cells) → ((k : ℕ) (cell : Cell) → map_.get m k ≡ Some cell → cell.time ≤ t) → max_timestamp_in (map_.values m) ≤ t
values_below t m all = times_below t (map_.entries m) (map_.entries_sorted m) (λ k cell found. all k cell (map_.get-entries m k ∙ found))

-- ---- of a merge

shown_or_shadowed : (d : ℕ) (c : Cell) → (unshadowed d (Some c) ≡ Some c) ⊎ (c.time ≤ d)
shown_or_shadowed d c =
    elim (nat_le c.time d) as (λ b. nat_le c.time d ≡ b → ((if b then None else Some c) ≡ Some c) ⊎ (c.time ≤ d)) [
      | true ↦ λ e. inr (grind (arith, nat_tests))
      | false ↦ λ e. inl refl
    ] refl

-- a cell that is shown is no newer than it was
shown_time : (d : ℕ) (c cell : Cell) (t : ℕ) → unshadowed d (Some c) ≡ Some cell → c.time ≤ t → cell.time ≤ t
shown_time d c cell t is h =
    elim (nat_le c.time d) as (λ b. (if b then None else Some c) ≡ Some cell → cell.time ≤ t) [
      | true ↦ λ e. cc
      | false ↦ λ e. let same : c ≡ cell = cc in omega (arith, ap (λ (x : Cell). x.time) same)
    ] is

-- what is merged of two columns is no newer than both
merged_time : (d : ℕ) (x y : Option Cell) (cell : Cell) (t : ℕ) → ((a : Cell) → x ≡ Some a → a.time ≤ t) → ((b : Cell) → y ≡ Some b → b.time ≤ t)
    → unshadowed d (newest_of x y) ≡ Some cell → cell.time ≤ t
merged_time d None None cell t first second is = cc
merged_time d None (Some b) cell t first second is = shown_time d b cell t is (second b refl)
merged_time d (Some a) None cell t first second is = shown_time d a cell t is (first a refl)
merged_time d (Some a) (Some b) cell t first second is =
    shown_time d (newest a b) cell t is (omega (arith, newest_time a b, first a refl, second b refl))

-- a cell that isn't shown is no later than the deletion
cell_time : (d : ℕ) (c : Cell) (t : ℕ) → d ≤ t → ((cell : Cell) → unshadowed d (Some c) ≡ Some cell → cell.time ≤ t) → c.time ≤ t
cell_time d c t later all = elim (shown_or_shadowed d c) [ inl is ↦ all c is | inr h ↦ omega arith ]

-- each of two merged cells is no later than the deletion or what is merged
first_time : (d : ℕ) (a : Cell) (y : Option Cell) (t : ℕ) → d ≤ t → ((cell : Cell) → unshadowed d (newest_of (Some a) y) ≡ Some cell → cell.time ≤ t)
    → a.time ≤ t
first_time d a None t later all = cell_time d a t later all
first_time d a (Some b) t later all = omega (arith, cell_time d (newest a b) t later all, newest_time a b)

second_time : (d : ℕ) (x : Option Cell) (b : Cell) (t : ℕ) → d ≤ t → ((cell : Cell) → unshadowed d (newest_of x (Some b)) ≡ Some cell → cell.time ≤ t)
    → b.time ≤ t
second_time d None b t later all = cell_time d b t later all
second_time d (Some a) b t later all = omega (arith, cell_time d (newest a b) t later all, newest_time a b)

cells_below : (p q : Partition)
    → max_timestamp_in (map_.values (merge p q).cells) ≤ max (max_timestamp_in (map_.values p.cells)) (max_timestamp_in (map_.values q.cells))
cells_below p q =
    values_below _ (merge p q).cells (λ k cell found.
    merged_time (max p.deleted q.deleted) (map_.get p.cells k) (map_.get q.cells k) cell _
    (λ a is. omega (arith, get_time p.cells k a is)) (λ b is. omega (arith, get_time q.cells k b is)) (sym (get_merge p q k) ∙ found))

first_below : (p q : Partition) → max_timestamp_in (map_.values p.cells) ≤ max_timestamp_of (merge p q)
first_below p q =
    let d = max p.deleted q.deleted in
    values_below (max_timestamp_of (merge p q)) p.cells (λ k a found.
    first_time d a (map_.get q.cells k) _ (omega (arith, deleted_merge p q))
    (λ cell is. omega (arith, get_time (merge p q).cells k cell (get_merge p q k ∙ ap (λ x. unshadowed d (newest_of x (map_.get q.cells k))) found ∙ is))))

second_below : (p q : Partition) → max_timestamp_in (map_.values q.cells) ≤ max_timestamp_of (merge p q)
second_below p q =
    let d = max p.deleted q.deleted in
    values_below (max_timestamp_of (merge p q)) q.cells (λ k b found.
    second_time d (map_.get p.cells k) b _ (omega (arith, deleted_merge p q))
    (λ cell is. omega (arith, get_time (merge p q).cells k cell (get_merge p q k ∙ ap (λ x. unshadowed d (newest_of (map_.get p.cells k) x)) found ∙ is))))

-- the maximum timestamp of a merge, whether or not the two are normal
pub max_timestamp_merge : (p q : Partition) → max_timestamp_of (merge p q) ≡ max (max_timestamp_of p) (max_timestamp_of q)
max_timestamp_merge p q = omega (arith, deleted_merge p q, cells_below p q, first_below p q, second_below p q)

-- ---- of what can be stored

cells_limit : (deleted : ℕ) (es : List (ℕ × Cell)) → AllByRecursion (IsCell deleted) es → times es ≤ TIME_LIMIT
cells_limit deleted [] all = omega arith
cells_limit deleted (e ∷ es) all = omega (arith, all.0.time, cells_limit deleted es all.1)

-- its times are those of writes
pub body_limit : (types : List ColumnType) (key : List ℕ) (part : Partition) → IsBodyOf types key part → max_timestamp_of part ≤ TIME_LIMIT
body_limit types key part body = omega (arith, body.has.deleted, cells_limit part.deleted (cells_of part) body.has.cells)
