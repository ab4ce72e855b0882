-- Rows that are printed one after another.
use Rattle.std.proofs.Common.{◌≡◌, ℕ, ◌+◌, ◌≤◌, ◌<◌, nat_le, subst, true, false, if◌then◌else◌, List, [], ◌∷◌, ◌++◌, length, map, Option, None, Some, refl, sym, ap, ◌∙◌, arith, append_assoc, length-append}
use Rattle.std.specs.List.{flat_map}
use Rattle.std.proofs.lemmas.Bool.Decides.{nat_tests}
use Rattle.std.proofs.lemmas.List.{append-nil, length-map, map-append, take-append-le, take_all}
use Rattle.sasi_types.specs.declared.column.ColumnType.{ColumnType}
use Rattle.sasi_types.specs.declared.decorated_key.DecoratedKey.{DecoratedKey}
use Rattle.sasi_cells.specs.declared.picked.PickedColumn.{PickedColumn}
use Rattle.sasi_types.specs.declared.value.Value.{Value}
use Rattle.sasi_cells.specs.Rows.{picked_value}
use Rattle.sasi_model.specs.Cells.{Partition}
use Rattle.sasi_model.specs.Filters.{Allows, Filter, answers, limited}
use Rattle.sasi_model.specs.Abbreviations.{count_line, row_line}
use Rattle.sasi_model.specs.Lines.{rows_lines}
use Rattle.sasi_machine.specs.TableRows.{ArePrinted, is_full, rows_picked}

pub rows_more : (kind : ColumnType) (columns : List PickedColumn) (f : Filter) (entry : DecoratedKey × Partition) (entries : List (DecoratedKey × Partition))
    → rows_picked kind columns f (entry ∷ entries) ≡ rows_picked kind columns f (entry ∷ []) ++ rows_picked kind columns f entries
rows_more kind columns f entry entries =
    let rest = rows_picked kind columns f entries in
    let row = map (picked_value kind entry.0.key entry.1) columns in
    elim (answers f entry) as (λ b. (if b then row ∷ rest else rest) ≡ (if b then row ∷ [] else []) ++ rest) [ true ↦ refl | false ↦ refl ]

-- ---- the lines of rows, up to a LIMIT

within : (a b : ℕ) → nat_le a b ≡ true → a ≤ b
within a b is = grind (arith, nat_tests)

below : (a b : ℕ) → nat_le a b ≡ false → b < a
below a b above = grind (arith, nat_tests)

none_allowed : (o : Option ℕ) → Allows o 0
none_allowed None = tt
none_allowed (Some n) = omega arith

one_allowed : (limit : Option ℕ) (count more : ℕ) → is_full limit count ≡ false → more ≤ 1 → Allows limit (count + more)
one_allowed None count more room few = tt
one_allowed (Some n) count more room few = omega (arith, below n count room, few)

first_done : (limit : Option ℕ) (done left : List (List (Option Value))) → Allows limit (length done) → is_full limit (length done) ≡ true → limited limit (done ++ left) ≡ done
first_done None done left allows full = cc
first_done (Some n) done left allows full =
    take-append-le n done left (within n (length done) full) ∙ take_all n done allows

all_done : (limit : Option ℕ) (done : List (List (Option Value))) → Allows limit (length done) → limited limit done ≡ done
all_done None done allows = refl
all_done (Some n) done allows = take_all n done allows

-- these are left of all rows, and the lines are those of the others
pub record HasLines (limit : Option ℕ) (all left : List (List (Option Value))) (lines : List (List ℕ)) : Type 0 where
  pub done : List (List (Option Value))
  pub parts : all ≡ done ++ left
  pub lines_are : lines ≡ map row_line done
  pub allows : Allows limit (length done)

pub lines_begin : (limit : Option ℕ) (all : List (List (Option Value))) → HasLines limit all all []
lines_begin limit all = record { done = []; parts = refl; lines_are = refl; allows = none_allowed limit }

module _ (limit : Option ℕ) (all left : List (List (Option Value))) (lines : List (List ℕ)) (has : HasLines limit all left lines) where
  counted : length lines ≡ length has.done
  counted = ap length has.lines_are ∙ length-map has.done row_line

  -- that of a further row, where there is room, or none
  pub lines_more : (first others : List (List (Option Value))) (new : List (List ℕ)) → is_full limit (length lines) ≡ false → left ≡ first ++ others → length first ≤ 1 → new ≡ lines ++ map row_line first → HasLines limit all others new
  lines_more first others new room left_is few pushed = record {
    done = has.done ++ first;
    parts = has.parts ∙ ap (λ (rs : List (List (Option Value))). has.done ++ rs) left_is ∙ sym (append_assoc has.done first others);
    lines_are = pushed ∙ ap (λ (l : List (List ℕ)). l ++ map row_line first) has.lines_are ∙ sym (map-append row_line has.done first);
    allows = subst (Allows limit) (sym (length-append has.done first)) (one_allowed limit (length has.done) (length first) (ap (is_full limit) (sym counted) ∙ room) few);
  }

  -- there are as many as LIMIT allows
  pub lines_full : is_full limit (length lines) ≡ true → lines ≡ map row_line (limited limit all)
  lines_full full =
      has.lines_are ∙ ap (map row_line) (sym (ap (limited limit) has.parts ∙ first_done limit has.done left has.allows (ap (is_full limit) (sym counted) ∙ full)))

  -- there are no others
  pub lines_all : left ≡ [] → lines ≡ map row_line (limited limit all)
  lines_all end =
      has.lines_are
      ∙ ap (map row_line) (sym (ap (limited limit) (has.parts ∙ ap (λ (rs : List (List (Option Value))). has.done ++ rs) end ∙ append-nil has.done) ∙ all_done limit has.done has.allows))

-- ---- rows that are printed one after another

-- with their number they are the answer
pub answer_is : (rows : List (List (Option Value))) (reply_old reply reply_new : List ℕ) (count : ℕ) → ArePrinted rows reply_old reply count → reply_new ≡ reply ++ count_line count → reply_new ≡ reply_old ++ rows_lines rows
answer_is rows reply_old reply reply_new count printed counted =
    counted
    ∙ ap (λ (x : List ℕ). x ++ count_line count) printed.reply_is
    ∙ append_assoc reply_old (flat_map row_line rows) (count_line count)
    ∙ ap (λ n. reply_old ++ (flat_map row_line rows ++ count_line n)) printed.count_is

-- a row that is there, as its line
pub line_printed : (rows : List (List (Option Value))) (line : List ℕ) (count : ℕ) (lines new : List (List ℕ)) → count ≡ length rows → count ≤ 1 → 0 < count → line ≡ flat_map row_line rows → new ≡ lines ++ line ∷ []
    → new ≡ lines ++ map row_line rows
line_printed [] line count lines new counts few some printed pushed = absurd (omega (arith, counts, some))
line_printed (row ∷ []) line count lines new counts few some printed pushed = pushed ∙ ap (λ (l : List ℕ). lines ++ l ∷ []) (printed ∙ append-nil (row_line row))
line_printed (row ∷ other ∷ rows) line count lines new counts few some printed pushed = absurd (omega (arith, counts, few))

-- and one that isn't
pub no_line : (rows : List (List (Option Value))) (count : ℕ) (lines : List (List ℕ)) → count ≡ length rows → count ≡ 0 → lines ≡ lines ++ map row_line rows
no_line [] count lines counts none = sym (append-nil lines)
no_line (row ∷ rows) count lines counts none = absurd (omega (arith, counts, none))

-- ---- one row

-- a partition whose row isn't there, or isn't accepted, has none
pub none_printed : (kind : ColumnType) (columns : List PickedColumn) (f : Filter) (entry : DecoratedKey × Partition) (before : List ℕ) → answers f entry ≡ false → before ≡ before ++ flat_map row_line (rows_picked kind columns f (entry ∷ []))
none_printed kind columns f entry before out = rw out (sym (append-nil before))

pub none_counted : (kind : ColumnType) (columns : List PickedColumn) (f : Filter) (entry : DecoratedKey × Partition) → answers f entry ≡ false → 0 ≡ length (rows_picked kind columns f (entry ∷ []))
none_counted kind columns f entry out = rw out refl

-- another has one
pub one_counted : (kind : ColumnType) (columns : List PickedColumn) (f : Filter) (entry : DecoratedKey × Partition) → answers f entry ≡ true → 1 ≡ length (rows_picked kind columns f (entry ∷ []))
one_counted kind columns f entry taken = rw taken refl

-- which is printed as the line of its values
pub row_printed : (kind : ColumnType) (columns : List PickedColumn) (f : Filter) (entry : DecoratedKey × Partition) (before after : List ℕ) → answers f entry ≡ true
    → after ≡ before ++ row_line (map (picked_value kind entry.0.key entry.1) columns) → after ≡ before ++ flat_map row_line (rows_picked kind columns f (entry ∷ []))
row_printed kind columns f entry before after taken printed =
    rw taken (printed ∙ ap (λ (l : List ℕ). before ++ l) (sym (append-nil (row_line (map (picked_value kind entry.0.key entry.1) columns)))))
