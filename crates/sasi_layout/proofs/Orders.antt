-- The order of maps of one table doesn't matter to their merge.
use Rattle.std.specs.Prelude.{◌≡◌, ℕ, zero, suc, List, [], ◌∷◌, ◌++◌, Option, None, Some, IfSome, slice_get, unwrap_or, refl}
use Rattle.std.proofs.Common.{sym, ap, subst, ◌∙◌, arith}
use Rattle.std.specs.FinMap.{get}
use Rattle.sasi_types.specs.declared.cell.Cell.{Cell}
use Rattle.sasi_types.specs.declared.column.ColumnType.{ColumnType}
use Rattle.sasi_types.specs.declared.column.ColumnType.TheVariants as types_
use Rattle.sasi_types.specs.declared.partitioner.Partitioner.{Partitioner}
use Rattle.sasi_types.specs.declared.value.Value.{Value}
use Rattle.sasi_types.specs.declared.value.Value.TheVariants.{Text, Int, BigInt, Uuid}
use Rattle.sasi_types.specs.Value.{type_of}
use Rattle.sasi_host.specs.Names.{Bytes}
use Rattle.sasi_model.specs.Abbreviations.{Partitions, value_of}
use Rattle.sasi_model.specs.Cells.{Partition, merge}
use Rattle.sasi_model.specs.Stored.{HasBytes, IsBodyOf, IsCell, IsListed}
use Rattle.sasi_cells.specs.Maps.{joined, merge_maps, merged_onto}
use Rattle.sasi_cells.specs.Typed.{IsInRange, IsOfType, IsTyped}
use Rattle.sasi_cells.proofs.Laws.Decorated.{same_maps}
use Rattle.sasi_cells.proofs.Laws.Maps.{get_merge_maps, maps_associate, merged_onto_both}
use Rattle.sasi_cells.proofs.Laws.Typed.{typed_merge_commutes}
use Rattle.sasi_layout.specs.Serving.{AreStorable}
use Rattle.sasi_layout.proofs.Bodies.{each_of, first_body}

-- ---- bodies of one key

-- the type of a column by its number: that of the marker's empty text, and else the listed one
type_in : List ColumnType → ℕ → ColumnType
type_in types zero = types_.Text
type_in types (suc n) = unwrap_or (slice_get types (suc n)) types_.Text

in_range : (value : Value) → HasBytes value → IsInRange value
in_range (Text text) has = tt
in_range (Int number) has = has
in_range (BigInt number) has = has
in_range (Uuid bytes) has = tt

typed_cell : (types : List ColumnType) (deleted column : ℕ) (cell : Cell) (value : Value) → IsCell deleted (column, cell) → IsListed types (column, cell) → cell.value ≡ Some value → IsOfType (type_in types column) value
unfolding type_in
typed_cell types deleted zero cell value is listed some =
    let marker : cell.value ≡ Some (Text []) = is.marker refl in
    let same : value ≡ Text [] = (let both : Some value ≡ Some (Text []) = sym some ∙ marker in cc) in
    record { is = ap type_of same; in_range = subst IsInRange (sym same) tt }
typed_cell types deleted (suc n) cell value is listed some =
    let type : slice_get types (suc n) ≡ Some (type_of value) = listed.typed value some (omega arith) in
    record {
      is = sym (ap (λ o. unwrap_or o types_.Text) type);
      in_range = in_range value (subst (λ (o : Option Value). IfSome o HasBytes) some is.value);
    }

body_typed : (types : List ColumnType) (key : Bytes) (p : Partition) → IsBodyOf types key p → IsTyped (type_in types) p
body_typed types key p is column value there = by (get p.cells column) refl there
  where
    by : (x : Option Cell) → get p.cells column ≡ x → value_of x ≡ Some value → IsOfType (type_in types column) value
    by None e v = cc
    by (Some cell) e v = typed_cell types p.deleted column cell value (each_of (IsCell p.deleted) p is.has.cells column cell e) (each_of (IsListed types) p is.columns column cell e) v

pub bodies_commute : (types : List ColumnType) (key : Bytes) (p q : Partition) → IsBodyOf types key p → IsBodyOf types key q → merge p q ≡ merge q p
bodies_commute types key p q first second = typed_merge_commutes (type_in types) p q (body_typed types key p first) (body_typed types key q second)

-- ---- maps

module _ (partitioner : Partitioner) (types : List ColumnType) where
  joined_commutes : (key : Bytes) (a b : Option Partition) → ((p : Partition) → a ≡ Some p → IsBodyOf types key p) → ((q : Partition) → b ≡ Some q → IsBodyOf types key q) → joined a b ≡ joined b a
  joined_commutes key None None first second = refl
  joined_commutes key None (Some q) first second = ap Some (first_body types key q (second q refl))
  joined_commutes key (Some p) None first second = ap Some (sym (first_body types key p (first p refl)))
  joined_commutes key (Some p) (Some q) first second = ap Some (bodies_commute types key p q (first p refl) (second q refl))

  -- Maps of one table commute.
  pub maps_commute : (a b : Partitions) → AreStorable partitioner types a → AreStorable partitioner types b → merge_maps a b ≡ merge_maps b a
  maps_commute a b first second =
      same_maps _ _ (λ q. get_merge_maps a b q ∙ joined_commutes q.key (get a q) (get b q) (λ p is. (first q p is).body) (λ p is. (second q p is).body) ∙ sym (get_merge_maps b a q))

  -- so two neighbours may change places
  pub neighbours : (base : Partitions) (xs : List Partitions) (a b : Partitions) (ys : List Partitions) → AreStorable partitioner types a → AreStorable partitioner types b → merged_onto base (xs ++ a ∷ b ∷ ys) ≡ merged_onto base (xs ++ b ∷ a ∷ ys)
  neighbours base xs a b ys first second =
      let start = merged_onto base xs in
      merged_onto_both base xs (a ∷ b ∷ ys)
      ∙ ap (λ (m : Partitions). merged_onto m ys) (maps_associate start a b ∙ ap (merge_maps start) (maps_commute a b first second) ∙ sym (maps_associate start b a))
      ∙ sym (merged_onto_both base xs (b ∷ a ∷ ys))
