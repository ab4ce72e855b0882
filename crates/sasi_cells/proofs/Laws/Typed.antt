-- Merges of partitions whose columns have types: two cells of one column tie only where they are equal, so that a merge is
-- the same in either order. Without types it need not be, since a text may have the bytes of a number.
use Rattle.std.specs.Prelude.{◌≡◌, ℕ, ◌<◌, ◌^◌, max, ℤ, FitsSigned, Option, None, Some, if◌then◌else◌, nat_le, true, false}
use Rattle.std.specs.declared.cmp.Ordering.{Ordering}
use Rattle.std.specs.declared.cmp.Ordering.TheVariants.{Less, Equal, Greater}
use Rattle.std.specs.Int.{w32, w64, cast_signed, cast_unsigned, from_be_bytes, to_be_bytes}
use Rattle.std.specs.Ordering.{nat_cmp, ordering_then, is_lt}
use Rattle.std.specs.FinMap as map_
use Rattle.std.proofs.Common.{refl, sym, ap, ◌∙◌, arith}
use Rattle.std.proofs.lemmas.Int.{ints, to_z-of_z}
use Rattle.std.proofs.lemmas.Nat.{from_be_bytes-to_be_bytes_4, from_be_bytes-to_be_bytes_8}
use Rattle.sasi_types.specs.declared.cell.Cell.{Cell}
use Rattle.sasi_types.specs.declared.column.ColumnType.{ColumnType}
use Rattle.sasi_types.specs.declared.value.Value.{Value}
use Rattle.sasi_types.specs.declared.value.Value.TheVariants.{Text, Int, BigInt, Uuid}
use Rattle.sasi_types.specs.Value.{type_of, stored}
use Rattle.sasi_model.specs.Cells.{Partition, value_cmp, newest_of, unshadowed, merge}
use Rattle.sasi_model.specs.Abbreviations.{cell_cmp, value_of}
use Rattle.sasi_model.specs.Step.{value_stored}
use Rattle.sasi_cells.specs.Typed.{IsInRange, IsOfType, IsTyped}
use Rattle.sasi_cells.proofs.Laws.Merged.{get_merge, TiesAreEqual, merge_commutes}

-- ---- the bytes of a value

int_again : (z : ℤ) → FitsSigned w32 z → cast_signed w32 (from_be_bytes w32 (to_be_bytes w32 (cast_unsigned w32 z))) ≡ z
int_again z h =
    let bits : cast_unsigned w32 z < 2 ^ 32 = omega (arith, ints) in
    ap (cast_signed w32) (from_be_bytes-to_be_bytes_4 (cast_unsigned w32 z) bits) ∙ to_z-of_z w32 z h

bigint_again : (z : ℤ) → FitsSigned w64 z → cast_signed w64 (from_be_bytes w64 (to_be_bytes w64 (cast_unsigned w64 z))) ≡ z
bigint_again z h =
    let bits : cast_unsigned w64 z < 2 ^ 64 = omega (arith, ints) in
    ap (cast_signed w64) (from_be_bytes-to_be_bytes_8 (cast_unsigned w64 z) bits) ∙ to_z-of_z w64 z h

-- they give the value back
pub value_stored-stored : (value : Value) → IsInRange value → value_stored (type_of value) (stored value) ≡ value
value_stored-stored (Text text) h = refl
value_stored-stored (Int number) h = ap Int (int_again number h)
value_stored-stored (BigInt number) h = ap BigInt (bigint_again number h)
value_stored-stored (Uuid bytes) h = refl

same_value : (type : ColumnType) (u v : Value) → IsOfType type u → IsOfType type v → stored u ≡ stored v → u ≡ v
same_value type u v g h same =
    sym (value_stored-stored u g.in_range) ∙ ap (λ t. value_stored t (stored u)) (g.is ∙ sym h.is) ∙ ap (value_stored (type_of v)) same ∙ value_stored-stored v h.in_range

-- ---- cells that tie

same_values : (type : ColumnType) (x y : Option Value) → ((u : Value) → x ≡ Some u → IsOfType type u) → ((v : Value) → y ≡ Some v → IsOfType type v)
    → value_cmp x y ≡ Equal → x ≡ y
same_values type None None g h tie = refl
same_values type None (Some v) g h tie = cc
same_values type (Some u) None g h tie = cc
same_values type (Some u) (Some v) g h tie =
    ap Some (same_value type u v (g u refl) (h v refl) (map_.slice_cmp-IsAntisymmetric map_.nat_cmp-IsAntisymmetric (stored u) (stored v) tie))

both_equal : (r s : Ordering) → ordering_then r s ≡ Equal → (r ≡ Equal) × (s ≡ Equal)
both_equal Less s e = cc
both_equal Equal s e = (refl, e)
both_equal Greater s e = cc

-- two partitions of the same types
pub typed_ties : (types : ℕ → ColumnType) (p q : Partition) → IsTyped types p → IsTyped types q → TiesAreEqual p q
typed_ties types p q g h column a b first second tie =
    let parts = both_equal (nat_cmp a.time b.time) (value_cmp a.value b.value) tie in
    let time : a.time ≡ b.time = map_.nat_cmp-IsAntisymmetric a.time b.time parts.0 in
    let value : a.value ≡ b.value = same_values (types column) a.value b.value (λ u is. g column u (ap value_of first ∙ is)) (λ v is. h column v (ap value_of second ∙ is)) parts.1 in
    λ i. record { time = time i; value = value i }

-- in either order
pub typed_merge_commutes : (types : ℕ → ColumnType) (p q : Partition) → IsTyped types p → IsTyped types q → merge p q ≡ merge q p
typed_merge_commutes types p q g h = merge_commutes p q (typed_ties types p q g h)

-- ---- a merge of such partitions

value_of_newest : (x y : Option Cell) (value : Value) (P : Type 0) → (value_of x ≡ Some value → P) → (value_of y ≡ Some value → P)
    → value_of (newest_of x y) ≡ Some value → P
value_of_newest None y value P g h is = h is
value_of_newest (Some a) None value P g h is = g is
value_of_newest (Some a) (Some b) value P g h is =
    elim (is_lt (cell_cmp a b)) as (λ t. (if t then b else a).value ≡ Some value → P) [ true ↦ λ e. h e | false ↦ λ e. g e ] is

value_of_shown : (d : ℕ) (x : Option Cell) (value : Value) → value_of (unshadowed d x) ≡ Some value → value_of x ≡ Some value
value_of_shown d None value is = is
value_of_shown d (Some cell) value is =
    elim (nat_le cell.time d) as (λ t. value_of (if t then None else Some cell) ≡ Some value → cell.value ≡ Some value) [ true ↦ λ e. cc | false ↦ λ e. e ] is

-- it has the same types
pub merge_is_typed : (types : ℕ → ColumnType) (p q : Partition) → IsTyped types p → IsTyped types q → IsTyped types (merge p q)
merge_is_typed types p q g h column value is =
    value_of_newest (map_.get p.cells column) (map_.get q.cells column) value (IsOfType (types column) value) (g column value) (h column value)
    (value_of_shown (max p.deleted q.deleted) _ value (ap value_of (sym (get_merge p q column)) ∙ is))
