-- One more column with its literal.
use Rattle.std.proofs.Common.{◌≡◌, ℕ, true, false, ◌==◌, cond, if◌then◌else◌, List, [], ◌∷◌, ◌++◌, map, Option, None, Some, unwrap_or, refl, sym, ap, ◌∙◌}
use Rattle.std.specs.FinMap as map_
use Rattle.std.specs.Cmp.Lexicographic.{same_text}
use Rattle.std.specs.List.{find}
use Rattle.std.specs.Option.{option_map}
use Rattle.std.proofs.lemmas.Bool.{eq-eqb}
use Rattle.sasi_types.specs.declared.column.ColumnType.{ColumnType}
use Rattle.sasi_types.specs.declared.column.ColumnType.TheVariants as types
use Rattle.sasi_types.specs.declared.literal.Literal.{Literal}
use Rattle.sasi_types.specs.declared.literal.Literal.TheVariants.{Null}
use Rattle.sasi_model.specs.Cells.{Cells, Partition}
use Rattle.sasi_model.specs.State.{Definition, number_of_column}
use Rattle.sasi_model.specs.Refusals.{RefusalRule, each, is_key, is_key_value, is_out_of_range, number_range, tests, type_of_column}
use Rattle.sasi_model.specs.Abbreviations.{first_refusal, key_literal, key_name}
use Rattle.sasi_model.specs.Step.{cells_set}
use Rattle.sasi_schema.proofs.Keys.{is_key_by_name}
use Rattle.sasi_schema.proofs.RuleLaws.{none_first}
use Rattle.sasi_schema.specs.Numbers.{IsKeyAt}
use Rattle.sasi_machine.specs.Assignment.{cells_over, key_or, with_set}

pub cells_push : (d : Definition) (time : ℕ) (sets : List (List ℕ × Literal)) (s : List ℕ × Literal) (cells : Cells) → cells_over d time
    (sets ++ s ∷ []) cells ≡ cells_over d time sets (with_set d time s.0 s.1 cells)
cells_push d time [] s cells = refl
cells_push d time (set ∷ sets) s cells = ap (with_set d time set.0 set.1) (cells_push d time sets s cells)

pub cells_first : (d : Definition) (time : ℕ) (sets : List (List ℕ × Literal)) → cells_over d time sets map_.empty ≡ cells_set d time sets
cells_first d time [] = refl
cells_first d time (set ∷ sets) = ap (with_set d time set.0 set.1) (cells_first d time sets)

pub key_push : (d : Definition) (sets : List (List ℕ × Literal)) (s : List ℕ × Literal) (other : Literal) → key_or d
    (sets ++ s ∷ []) other ≡ key_or d sets (if is_key_value d s.0 s.1 then s.1 else other)
key_push d [] s other = refl
key_push d (set ∷ sets) s other = ap (λ (key : Literal). if is_key_value d set.0 set.1 then set.1 else key) (key_push d sets s other)

pub key_first : (d : Definition) (sets : List (List ℕ × Literal)) → key_or d sets Null ≡ key_literal d sets
key_first d [] = refl
key_first d (set ∷ sets) =
    elim (is_key_value d set.0 set.1) as (λ b. (if b then set.1 else key_or d sets Null) ≡ unwrap_or (option_map (λ g. g.1) (cond b (Some set) (find (λ g. is_key_value d g.0 g.1) sets))) Null) [
      | true ↦ refl
      | false ↦ key_first d sets
    ]

-- none of the rules applies: nor does one of those in front, nor the last
pub none_pop : (rule : List ℕ → Literal → RefusalRule) (sets : List (List ℕ × Literal)) (s : List ℕ × Literal) → first_refusal
    (each rule (sets ++ s ∷ [])) ≡ None → (first_refusal (each rule sets) ≡ None) × ((rule s.0 s.1).0 ≡ false)
none_pop rule [] s none = (refl, (none_first (rule s.0 s.1) [] none).0)
none_pop rule (set ∷ sets) s none =
    let parts = none_first (rule set.0 set.1) (each rule (sets ++ s ∷ [])) none in
    let later = none_pop rule sets s parts.1 in
    (rw parts.0 later.0, later.1)

eqb_self : (n : ℕ) → (n == n) ≡ true
eqb_self n = eq-eqb n n refl

-- the key has the number 0
pub key_is_zero : (d : Definition) (name : List ℕ) → IsKeyAt d.key d.columns → is_key d name ≡ true → number_of_column d name ≡ Some 0
key_is_zero d name at is =
    let named : name ≡ key_name d = same_text name (key_name d) (sym (is_key_by_name d name at ∙ is)) in
    rw (named, at, eqb_self d.key) refl

-- so it gets no cell
pub key_is_no_cell : (d : Definition) (time : ℕ) (name : List ℕ) (literal : Literal) (cells : Cells) → IsKeyAt d.key d.columns → is_key d name ≡ true → with_set d time name literal cells ≡ cells
key_is_no_cell d time name literal cells at is = rw (key_is_zero d name at is) refl

-- partitions of one deletion and the same cells
pub same_partition : (p q : Partition) → p.deleted ≡ q.deleted → p.cells ≡ q.cells → p ≡ q
same_partition p q deleted cells =
    let by_time : ℕ → Partition = λ t. record { deleted = t; cells = p.cells } in
    let by_cells : Cells → Partition = λ m. record { deleted = q.deleted; cells = m } in
    ap by_time deleted ∙ ap by_cells cells

-- NULL is in every range
tests_nothing : (type : Option ColumnType) → tests is_out_of_range type Null ≡ false
tests_nothing None = refl
tests_nothing (Some types.Text) = refl
tests_nothing (Some types.Int) = refl
tests_nothing (Some types.BigInt) = refl
tests_nothing (Some types.Uuid) = refl

pub nulls_in_range : (d : Definition) (names : List (List ℕ)) → first_refusal (each (number_range d) (map (λ name. (name, Null)) names)) ≡ None
nulls_in_range d [] = refl
nulls_in_range d (name ∷ names) = rw (tests_nothing (type_of_column d name)) (nulls_in_range d names)
