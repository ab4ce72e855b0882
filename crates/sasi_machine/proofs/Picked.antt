-- Columns that are picked by their numbers.
use Rattle.std.proofs.Common.{◌≡◌, ℕ, zero, suc, ◌+◌, ◌<◌, Bool, true, false, cond, if◌then◌else◌, List, [], ◌∷◌, ◌++◌, length, drop, get_or, map, take, Option, None, Some, refl, sym, ap, ◌∙◌, add-one, append_assoc, arith}
use Rattle.std.specs.List.{cons_option}
use Rattle.std.specs.Option.{option_map}
use Rattle.std.proofs.Math.Seq.{drop-cons}
use Rattle.std.proofs.lemmas.List.{append-nil, map-append, take-map}
use Rattle.sasi_types.specs.declared.column.ColumnType.{ColumnType}
use Rattle.sasi_types.specs.declared.decorated_key.DecoratedKey.{DecoratedKey}
use Rattle.sasi_types.specs.declared.statement.Select.{Select}
use Rattle.sasi_cells.specs.declared.picked.PickedColumn.{PickedColumn}
use Rattle.sasi_cells.specs.Rows.{picked_value}
use Rattle.sasi_model.specs.Cells.{Partition}
use Rattle.sasi_model.specs.State.{Column, Definition, number_of_column}
use Rattle.sasi_model.specs.Conditions.{Condition, condition_of}
use Rattle.sasi_model.specs.Filters.{Filter, answers, filter_of, limited, row_limit, rows, rows_up_to, where_of}
use Rattle.sasi_model.specs.Lines.{rows_lines}
use Rattle.sasi_model.specs.Step.{select_lines, select_rows, selected_columns, value_numbered, values_numbered}
use Rattle.sasi_model.specs.Values.{value_stored}
use Rattle.sasi_model.specs.Abbreviations.{count_up, numbers_of, key_type}
use Rattle.sasi_schema.specs.Numbers.{IsKeyAt}
use Rattle.sasi_schema.proofs.Keys.{key_is}
use Rattle.sasi_machine.specs.TableRows.{rows_picked}
use Rattle.sasi_machine.specs.Picks.{pick}

count_push : (from n : ℕ) → count_up from (suc n) ≡ count_up from n ++ (from + n) ∷ []
count_push from zero = ap (λ m. m ∷ []) (omega arith)
count_push from (suc n) = ap (λ ms. from ∷ ms) (count_push (from + 1) n ∙ ap (λ m. count_up (from + 1) n ++ m ∷ []) (omega arith))

pick_push : (n : ℕ) → map pick (count_up 0 (n + 1)) ≡ map pick (count_up 0 n) ++ pick n ∷ []
pick_push n =
    let last : 0 + n ≡ n = omega arith in
    ap (λ m. map pick (count_up 0 m)) (add-one n) ∙ ap (map pick) (count_push 0 n) ∙ map-append pick (count_up 0 n) ((0 + n) ∷ []) ∙ ap (λ m. map pick (count_up 0 n) ++ pick m ∷ []) last

-- one more number
pub picked_more : (list new : List PickedColumn) (n : ℕ) (column : PickedColumn) → list ≡ map pick (count_up 0 n) → column ≡ pick n → new ≡ list ++ column ∷ [] → new ≡ map pick (count_up 0 (n + 1))
picked_more list new n column so_far is pushed =
    pushed ∙ ap (λ l. l ++ column ∷ []) so_far ∙ ap (λ c. map pick (count_up 0 n) ++ c ∷ []) is ∙ sym (pick_push n)

-- the column of a number, where there is one
numbered : (list new : List PickedColumn) (o : Option ℕ) (numbers : List ℕ) → new ≡ list ++ map pick (cons_option o [])
    → new ++ map pick numbers ≡ list ++ map pick (cons_option o numbers)
numbered list new None numbers is = ap (λ (l : List PickedColumn). l ++ map pick numbers) (is ∙ append-nil list)
numbered list new (Some n) numbers is = ap (λ (l : List PickedColumn). l ++ map pick numbers) is ∙ append_assoc list (pick n ∷ []) (map pick numbers)

-- one more name
pub picked_found : (d : Definition) (names : List (List ℕ)) (i : ℕ) (name : List ℕ) (list new all : List PickedColumn) → i < length names
    → name ≡ get_or names i name → list ++ map pick (numbers_of d (drop i names)) ≡ all
    → new ≡ list ++ map pick (cons_option (number_of_column d name) []) → new ++ map pick (numbers_of d (drop (i + 1) names)) ≡ all
picked_found d names i name list new all inside is so_far pushed =
    let next : drop i names ≡ name ∷ drop (i + 1) names = rw (add-one, drop-cons names i name inside, ← is) refl in
    numbered list new (number_of_column d name) (numbers_of d (drop (i + 1) names)) pushed
    ∙ ap (λ (l : List (List ℕ)). list ++ map pick (numbers_of d l)) (sym next) ∙ so_far

-- the value that is picked is that of the number
value_picked : (d : Definition) (decorated_key : DecoratedKey) (p : Partition) (n : ℕ) → IsKeyAt d.key d.columns → picked_value (key_type d) decorated_key.key p (pick n) ≡ value_numbered d decorated_key p n
value_picked d decorated_key p zero at = sym (ap (λ (o : Option Column). option_map (λ column. value_stored column.1 decorated_key.key) o) (key_is d at))
value_picked d decorated_key p (suc n) at = refl

values_picked : (d : Definition) (decorated_key : DecoratedKey) (p : Partition) (numbers : List ℕ) → IsKeyAt d.key d.columns → map (picked_value (key_type d) decorated_key.key p) (map pick numbers) ≡ map (value_numbered d decorated_key p) numbers
values_picked d decorated_key p [] at = refl
values_picked d decorated_key p (n ∷ numbers) at = rw (value_picked d decorated_key p n at, values_picked d decorated_key p numbers at) refl

-- the rows with the values that are picked are those of the numbers
rows_by_numbers : (d : Definition) (numbers : List ℕ) (f : Filter) (entries : List (DecoratedKey × Partition)) → IsKeyAt d.key d.columns → rows_picked (key_type d) (map pick numbers) f entries ≡ map (values_numbered d numbers) (rows f entries)
rows_by_numbers d numbers f [] at = refl
rows_by_numbers d numbers f (entry ∷ entries) at = by (answers f entry) (rows_by_numbers d numbers f entries at)
  where
    by : (b : Bool) → rows_picked (key_type d) (map pick numbers) f entries ≡ map (values_numbered d numbers) (rows f entries)
        → (if b then map (picked_value (key_type d) entry.0.key entry.1) (map pick numbers) ∷ rows_picked (key_type d) (map pick numbers) f entries else rows_picked (key_type d) (map pick numbers) f entries)
        ≡ map (values_numbered d numbers) (cond b (entry ∷ rows f entries) (rows f entries))
    by true rest = rw (values_picked d entry.0 entry.1 numbers at, rest) refl
    by false rest = rest

-- of the first rows the values are the first
limited_by_numbers : (d : Definition) (numbers : List ℕ) (limit : Option ℕ) (f : Filter) (entries : List (DecoratedKey × Partition)) → IsKeyAt d.key d.columns
    → limited limit (rows_picked (key_type d) (map pick numbers) f entries) ≡ map (values_numbered d numbers) (rows_up_to limit f entries)
limited_by_numbers d numbers None f entries at = rows_by_numbers d numbers f entries at
limited_by_numbers d numbers (Some n) f entries at = ap (take n) (rows_by_numbers d numbers f entries at) ∙ take-map (values_numbered d numbers) n (rows f entries)

-- **Picked rows are those of the SELECT that picks them.**
pub selected_by_numbers : (d : Definition) (select : Select) (kind : ColumnType) (columns : List PickedColumn) (conditions : List Condition) (limit : Option ℕ) (entries : List (DecoratedKey × Partition)) → IsKeyAt d.key d.columns
    → kind ≡ key_type d → columns ≡ map pick (selected_columns d select.columns) → conditions ≡ map (condition_of d) select.relations → limit ≡ row_limit select.limit
    → limited limit (rows_picked kind columns (where_of conditions) entries) ≡ select_rows d select entries
selected_by_numbers d select kind columns conditions limit entries at kind_is columns_are conditions_are limit_is =
    ap (λ (k : ColumnType). limited limit (rows_picked k columns (where_of conditions) entries)) kind_is
    ∙ ap (λ (cs : List PickedColumn). limited limit (rows_picked (key_type d) cs (where_of conditions) entries)) columns_are
    ∙ ap (λ (cs : List Condition). limited limit (rows_picked (key_type d) (map pick (selected_columns d select.columns)) (where_of cs) entries)) conditions_are
    ∙ ap (λ (o : Option ℕ). limited o (rows_picked (key_type d) (map pick (selected_columns d select.columns)) (filter_of d select.relations) entries)) limit_is
    ∙ limited_by_numbers d (selected_columns d select.columns) (row_limit select.limit) (filter_of d select.relations) entries at

-- and so are their lines
pub lines_by_numbers : (d : Definition) (select : Select) (kind : ColumnType) (columns : List PickedColumn) (conditions : List Condition) (limit : Option ℕ) (entries : List (DecoratedKey × Partition)) → IsKeyAt d.key d.columns
    → kind ≡ key_type d → columns ≡ map pick (selected_columns d select.columns) → conditions ≡ map (condition_of d) select.relations → limit ≡ row_limit select.limit
    → rows_lines (limited limit (rows_picked kind columns (where_of conditions) entries)) ≡ select_lines d select entries
lines_by_numbers d select kind columns conditions limit entries at kind_is columns_are conditions_are limit_is =
    ap rows_lines (selected_by_numbers d select kind columns conditions limit entries at kind_is columns_are conditions_are limit_is)
