-- What a SELECT that was prepared may ask, and partitions that have texts.
use Rattle.std.proofs.Common.{◌≡◌, ℕ, ◌-◌, true, false, cond, List, map, slice_get, Some, sym, ap, subst, ◌∙◌}
use Rattle.std.specs.Cmp.{nat_cmp_total}
use Rattle.std.specs.FinMap as fin
use Rattle.std.specs.Option.{option_and_then}
use Rattle.std.specs.Ordering.{eq_by_cmp, nat_cmp}
use Rattle.sasi_types.specs.declared.cell.Cell.{Cell}
use Rattle.sasi_types.specs.declared.partitioner.Partitioner.TheVariants.{Lead8}
use Rattle.sasi_types.specs.declared.value.Value.{Value}
use Rattle.sasi_cells.specs.Changes.{with_column}
use Rattle.sasi_model.specs.Abbreviations.{definitions}
use Rattle.sasi_model.specs.Cells.{Partition}
use Rattle.sasi_model.specs.Changes.{empty_table}
use Rattle.sasi_model.specs.Pieces.{Piece}
use Rattle.sasi_model.specs.State.{Definition, State, definition_of}
use Rattle.sasi_schema.specs.Numbers.{number_of_table}
use Rattle.sasi_machine.specs.Operands.{CanSelect}
use Rattle.sasi_machine.specs.Prepares.{HasRows, Prepares}
use Rattle.sasi_machine.specs.Where.{HasTexts, IsText}
use Rattle.sasi_machine.specs.declared.prepared.Prepared.TheVariants.{Select as Selects}
use Rattle.sasi_machine.specs.declared.prepared.Selection.{Selection}
use Rattle.sasi_machine.proofs.NumberedTables.{defined_at, definition_numbered}
use Rattle.sasi_machine.proofs.PreparedPieces.{one_definition}
use Rattle.sasi_machine.proofs.StatementPreparing.{empty_definitions}

-- the table that the SELECT names takes it
pub can_select : (ds : List Definition) (piece : Piece) (reply : List ℕ) (rows : Selection) → ((s : State) → definitions s.tables ≡ ds → Prepares s piece reply (Selects rows))
    → (d : Definition) → definition_of rows.select.table ds ≡ Some d → CanSelect d rows.select
can_select ds piece reply rows prepares d is =
    let s : State = record { partitioner = Lead8; tables = map empty_table ds } in
    let same : definitions s.tables ≡ ds = empty_definitions ds in
    let has : HasRows s rows = (prepares s same).2 in
    let there : slice_get ds (rows.table - 1) ≡ Some has.table.definition = ap (λ (l : List Definition). slice_get l (rows.table - 1)) (sym same) ∙ defined_at s.tables (rows.table - 1) has.table has.there in
    let named : number_of_table rows.select.table ds ≡ Some rows.table = ap (number_of_table rows.select.table) (sym same) ∙ has.named in
    let found : definition_of rows.select.table ds ≡ Some has.table.definition = definition_numbered rows.select.table ds rows.table has.table.definition named there in
    subst (λ (e : Definition). CanSelect e rows.select) (one_definition has.table.definition d (sym found ∙ is)) has.can

-- ---- texts

some_text : (value other : Value) → IsText value → Some value ≡ Some other → IsText other
some_text value other text is = let same : value ≡ other = cc in subst IsText same text

-- a text that is put stands beside the others
pub texts_put : (p : Partition) (column time : ℕ) (value : Value) → HasTexts p → IsText value → HasTexts (with_column p column (record { time = time; value = Some value }))
texts_put p column time value texts text at other is =
    let cell : Cell = record { time = time; value = Some value } in
    elim (eq_by_cmp nat_cmp at column) as (λ b. option_and_then (λ (c : Cell). c.value) (cond b (Some cell) (fin.get p.cells at)) ≡ Some other → IsText other) [
      | true ↦ some_text value other text
      | false ↦ texts at other
    ] (ap (option_and_then (λ (c : Cell). c.value)) (sym (fin.get-insert nat_cmp_total p.cells column cell at)) ∙ is)
