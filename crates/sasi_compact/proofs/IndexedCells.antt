-- The indexed columns of a partition that has a body in the table have values of the indexes' types.
use Rattle.std.proofs.Common.{◌≡◌, ◌∙◌, ℕ, List, [], ◌∷◌, Option, None, Some, IfSome, refl, sym, subst}
use Rattle.std.specs.FinMap as map_
use Rattle.std.specs.List.{AllByRecursion}
use Rattle.sasi_types.specs.declared.cell.Cell.{Cell}
use Rattle.sasi_types.specs.declared.column.ColumnType.{ColumnType}
use Rattle.sasi_types.specs.declared.index_def.IndexDef.{IndexDef}
use Rattle.sasi_types.specs.declared.value.Value.{Value}
use Rattle.sasi_types.specs.declared.value.Value.TheVariants.{Text, Int, BigInt, Uuid}
use Rattle.sasi_types.specs.Value.{type_of}
use Rattle.sasi_model.specs.Cells.{Partition}
use Rattle.sasi_model.specs.Stored.{HasBytes, IsBodyOf, IsCell, IsListed}
use Rattle.sasi_layout.proofs.Bodies.{each_of}
use Rattle.sasi_memindex.specs.IndexedValues.{IsCellOf, IsText, IsValueOf}
use Rattle.sasi_pairs.specs.Gathered.{CanIndex}
use Rattle.sasi_compact.specs.Tasks.{IsOnColumn}

text_of : (value : Value) → HasBytes value → IsText value
text_of (Text text) has = has.0
text_of (Int number) has = tt
text_of (BigInt number) has = tt
text_of (Uuid bytes) has = tt

module _ (types : List ColumnType) (key : List ℕ) (part : Partition) (body : IsBodyOf types key part) where
  column_cell : (def : IndexDef) → IsOnColumn types def → CanIndex part def
  column_cell def on = by (map_.get part.cells def.column) refl
    where
      valued : (cell : Cell) → map_.get part.cells def.column ≡ Some cell → (v : Option Value) → cell.value ≡ v → IfSome v (IsValueOf def.kind)
      valued cell found None is = tt
      valued cell found (Some value) is =
          let listed = each_of (IsListed types) part body.columns def.column cell found in
          let stored = each_of (IsCell part.deleted) part body.has.cells def.column cell found in
          record {
            is = (let both : Some (type_of value) ≡ Some def.kind = sym (listed.typed value is on.regular) ∙ on.kind in cc);
            text = text_of value (subst (λ (o : Option Value). IfSome o HasBytes) is stored.value);
          }

      by : (o : Option Cell) → map_.get part.cells def.column ≡ o → IsCellOf def.kind o
      by None found = tt
      by (Some cell) found = valued cell found cell.value refl

  pub column_cells : (defs : List IndexDef) → AllByRecursion (IsOnColumn types) defs → AllByRecursion (CanIndex part) defs
  column_cells [] all = tt
  column_cells (def ∷ defs) all = (column_cell def all.0, column_cells defs all.1)
