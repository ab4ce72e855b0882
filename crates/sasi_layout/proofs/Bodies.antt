-- The merge of two bodies of a key in a table is one.
use Rattle.std.specs.Prelude.{ℕ, suc, true, false, cond, nat_le, List, Option, None, Some, refl, length, max, T, ◌≡◌, ◌⊎◌, ◌+◌, ◌^◌, ◌≤◌, ◌<◌, ◌∷◌, [], if◌then◌else◌}
use Rattle.std.proofs.Common.{◌∙◌, sym, ap, subst, inl, inr, ⊎_elim, arith}
use Rattle.std.proofs.lemmas.Bool.Decides.{nat_tests}
use Rattle.std.specs.FinMap.{get, find, is_sorted}
use Rattle.std.specs.FinMap.Entries.{below_all}
use Rattle.std.specs.List.{AllByRecursion}
use Rattle.std.specs.Ordering.{nat_cmp, eq_by_cmp, is_lt}
use Rattle.std.specs.declared.cmp.Ordering.{Ordering}
use Rattle.std.specs.declared.cmp.Ordering.TheVariants.{Less, Equal, Greater}
use Rattle.std.specs.FinMap as map_
use Rattle.sasi_types.specs.declared.cell.Cell.{Cell}
use Rattle.sasi_types.specs.declared.column.ColumnType.{ColumnType}
use Rattle.sasi_model.specs.Abbreviations.{cell_cmp}
use Rattle.sasi_model.specs.Cells.{Partition, empty_partition, merge, IsNormal, newest, newest_of, unshadowed}
use Rattle.sasi_model.specs.Stored.{IsBodyOf, Entry, IsCell, IsListed, cells_of}
use Rattle.sasi_cells.proofs.Laws.Maps.{nothing_behind, nothing_first}
use Rattle.sasi_cells.proofs.Laws.Merged.{deleted_merge, get_merge}
use Rattle.sasi_cells.proofs.Laws.Sorted.{equal_columns, find_behind, find_first, first, second}
use Rattle.sasi_host.specs.Names.{Bytes}

-- ---- cells by look-ups

module _ (P : Entry → Type 0) where
  all_get : (es : List Entry) (c : ℕ) (cell : Cell) → AllByRecursion P es → find nat_cmp c es ≡ Some cell → P (c, cell)
  all_get [] c cell all found = cc
  all_get (e ∷ es) c cell all found =
      elim (eq_by_cmp nat_cmp c e.0) as (λ b. eq_by_cmp nat_cmp c e.0 ≡ b → cond b (Some e.1) (find nat_cmp c es) ≡ Some cell → P (c, cell)) [
        | true ↦ λ same is.
            let column : e.0 ≡ c = sym (equal_columns c e.0 same) in
            let value : e.1 ≡ cell = cc in
            subst P (λ i. (column i, value i)) all.0
        | false ↦ λ other is. all_get es c cell all.1 is
      ] refl found

  get_all : (es : List Entry) → T (is_sorted nat_cmp es) → ((c : ℕ) (cell : Cell) → find nat_cmp c es ≡ Some cell → P (c, cell)) → AllByRecursion P es
  get_all [] sorted each = tt
  get_all (e ∷ es) sorted each = (
    each e.0 e.1 (find_first e es),
    get_all es (second _ _ sorted) (λ c cell found. each c cell (find_behind e es c cell (first _ _ sorted) found)),
  )

-- each cell of the partition has P
abbrev pub EachCell : (Entry → Type 0) → Partition → Type 0
EachCell P p = (c : ℕ) (cell : Cell) → get p.cells c ≡ Some cell → P (c, cell)

pub each_of : (P : Entry → Type 0) (p : Partition) → AllByRecursion P (cells_of p) → EachCell P p
each_of P p all c cell found = all_get P (cells_of p) c cell all (sym (map_.get-entries p.cells c) ∙ found)

pub all_of : (P : Entry → Type 0) (p : Partition) → EachCell P p → AllByRecursion P (cells_of p)
all_of P p each = get_all P (cells_of p) (map_.entries_sorted p.cells) (λ c cell found. each c cell (map_.get-entries p.cells c ∙ found))

-- ---- where the cells of a merge come from

newest_from : (x y : Option Cell) (cell : Cell) → newest_of x y ≡ Some cell → (x ≡ Some cell) ⊎ (y ≡ Some cell)
newest_from None y cell is = inr is
newest_from (Some a) None cell is = inl is
newest_from (Some a) (Some b) cell is =
    elim (is_lt (cell_cmp a b)) as (λ t. Some (if t then b else a) ≡ Some cell → (Some a ≡ Some cell) ⊎ (Some b ≡ Some cell)) [ true ↦ λ e. inr e | false ↦ λ e. inl e ] is

shown_from : (d : ℕ) (x : Option Cell) (cell : Cell) → unshadowed d x ≡ Some cell → (x ≡ Some cell) × (d < cell.time)
shown_from d None cell is = cc
shown_from d (Some a) cell is =
    elim (nat_le a.time d) as (λ t. nat_le a.time d ≡ t → (if t then None else Some a) ≡ Some cell → (Some a ≡ Some cell) × (d < cell.time)) [
      | true ↦ λ t e. cc
      | false ↦ λ t e. (let same : a ≡ cell = cc in let above : d < a.time = grind (arith, nat_tests) in (e, subst (λ (x : Cell). d < x.time) same above))
    ] refl is

-- what each cell of two partitions has, each cell of their merge has, and it is above the deletions
each_merged : (P : Entry → Type 0) (p q : Partition) → EachCell P p → EachCell P q → EachCell (λ e. P e × (max p.deleted q.deleted < e.1.time)) (merge p q)
each_merged P p q first_has second_has c cell found =
    let shown = shown_from (max p.deleted q.deleted) (newest_of (get p.cells c) (get q.cells c)) cell (sym (get_merge p q c) ∙ found) in
    (⊎_elim (λ is. first_has c cell is) (λ is. second_has c cell is) (newest_from (get p.cells c) (get q.cells c) cell shown.0), shown.1)

-- ---- how many they are

above : (k : ℕ) (es : List Entry) → T (below_all nat_cmp k es) → AllByRecursion (λ e. k < e.0) es
above k [] h = tt
above k (e ∷ es) h = (less (nat_cmp k e.0) refl (first _ _ h), above k es (second _ _ h))
  where
    less : (r : Ordering) → nat_cmp k e.0 ≡ r → T (is_lt r) → k < e.0
    less Less is h = grind (arith, nat_tests, is)
    less Equal is h = absurd h
    less Greater is h = absurd h

few : (least bound : ℕ) (es : List Entry) → least ≤ bound → T (is_sorted nat_cmp es) → AllByRecursion (λ e. least ≤ e.0) es → AllByRecursion (λ e. e.0 < bound) es → length es + least ≤ bound
few least bound [] le sorted low high = omega (arith, le)
few least bound (e ∷ es) le sorted low high = omega (arith, low.0, few (suc e.0) bound es (omega (arith, high.0)) (second _ _ sorted) (above e.0 es (first _ _ sorted)) high.1)

-- a partition with a cell somewhere has one at least
some_cell : (p : Partition) (c : ℕ) (cell : Cell) → get p.cells c ≡ Some cell → 1 ≤ length (cells_of p)
some_cell p c cell found = by (cells_of p) (sym (map_.get-entries p.cells c) ∙ found)
  where
    by : (es : List Entry) → find nat_cmp c es ≡ Some cell → 1 ≤ length es
    by [] is = cc
    by (e ∷ es) is = omega arith

first_cell : (p : Partition) → 1 ≤ length (cells_of p) → (c : ℕ) × (cell : Cell) × (get p.cells c ≡ Some cell)
first_cell p some = let found = by (cells_of p) some in (found.0, found.1, map_.get-entries p.cells found.0 ∙ found.2)
  where
    by : (es : List Entry) → 1 ≤ length es → (c : ℕ) × (cell : Cell) × (find nat_cmp c es ≡ Some cell)
    by [] some = absurd (omega (arith, some))
    by (e ∷ es) some = (e.0, e.1, find_first e es)

newest_some : (a : Cell) (y : Option Cell) → (cell : Cell) × (newest_of (Some a) y ≡ Some cell)
newest_some a None = (a, refl)
newest_some a (Some b) = (newest a b, refl)

-- ---- bodies

normal_body : (types : List ColumnType) (key : Bytes) (p : Partition) → IsBodyOf types key p → IsNormal p
normal_body types key p is c = by (get p.cells c) refl
  where
    by : (x : Option Cell) → get p.cells c ≡ x → unshadowed p.deleted x ≡ x
    by None e = refl
    by (Some cell) e =
        let cell_is = each_of (IsCell p.deleted) p is.has.cells c cell e in
        let time : p.deleted < cell.time = cell_is.above in
        let test : nat_le cell.time p.deleted ≡ false = grind (arith, nat_tests) in
        ap (λ t. if t then None else Some cell) test

-- a body merged with nothing before
pub first_body : (types : List ColumnType) (key : Bytes) (q : Partition) → IsBodyOf types key q → merge empty_partition q ≡ q
first_body types key q is = nothing_first q ∙ nothing_behind q (normal_body types key q is)

-- The merge of two bodies is a body.
pub merged_body : (types : List ColumnType) (key : Bytes) (p q : Partition) → length types ≤ 64 → IsBodyOf types key p → IsBodyOf types key q → IsBodyOf types key (merge p q)
merged_body types key p q narrow p_is q_is =
    let d = max p.deleted q.deleted in
    let deleted : (merge p q).deleted ≡ d = deleted_merge p q in
    let cells = each_merged (λ e. (e.0 < 2 ^ 16) × (e.1.time ≤ 2 ^ 62) × (IsCell 0 e)) p q (λ c cell found. let is = each_of (IsCell p.deleted) p p_is.has.cells c cell found in (is.column, is.time, record { column = is.column; above = omega (arith, is.above); time = is.time; value = is.value; marker = is.marker }))
    (λ c cell found. let is = each_of (IsCell q.deleted) q q_is.has.cells c cell found in (is.column, is.time, record { column = is.column; above = omega (arith, is.above); time = is.time; value = is.value; marker = is.marker })) in
    let listed = all_of (IsListed types) (merge p q) (λ c cell found. (each_merged (IsListed types) p q (each_of (IsListed types) p p_is.columns) (each_of (IsListed types) q q_is.columns) c cell found).0) in
    record {
      has = record {
        key_some = p_is.has.key_some;
        key_short = p_is.has.key_short;
        deleted = omega (arith, deleted, p_is.has.deleted, q_is.has.deleted);
        count = record {
          few = omega (arith, narrow, few 0 (length types) (cells_of (merge p q)) (omega arith) (map_.entries_sorted (merge p q).cells) (all_of (λ e. 0 ≤ e.0) (merge p q) (λ c cell found. omega arith)) (all_of (λ e. e.0 < length types) (merge p q) (λ c cell found. (each_of (IsListed types) (merge p q) listed c cell found).column)));
          some = λ none. (
              let zero : p.deleted ≡ 0 = omega (arith, deleted, none) in
              let none_d : d ≡ 0 = sym deleted ∙ none in
              let has = first_cell p (p_is.has.count.some zero) in
              let won = newest_some has.1 (get q.cells has.0) in
              let here : newest_of (get p.cells has.0) (get q.cells has.0) ≡ Some won.0 = ap (λ x. newest_of x (get q.cells has.0)) has.2 ∙ won.1 in
              let time : 0 < won.0.time = ⊎_elim
              (λ is. (let cell = each_of (IsCell p.deleted) p p_is.has.cells has.0 won.0 is in omega (arith, cell.above)))
              (λ is. (let cell = each_of (IsCell q.deleted) q q_is.has.cells has.0 won.0 is in omega (arith, cell.above)))
              (newest_from (get p.cells has.0) (get q.cells has.0) won.0 here) in
              let test : nat_le won.0.time d ≡ false = grind (arith, nat_tests, time, none_d) in
              some_cell (merge p q) has.0 won.0 (get_merge p q has.0 ∙ ap (unshadowed d) here ∙ ap (λ t. if t then None else Some won.0) test)
              );
        };
        cells = all_of (IsCell (merge p q).deleted) (merge p q) (λ c cell found.
            let is = cells c cell found in
            record { column = is.0.0; above = omega (arith, deleted, is.1); time = is.0.1; value = is.0.2.value; marker = is.0.2.marker });
      };
      key_typed = p_is.key_typed;
      columns = listed;
    }
