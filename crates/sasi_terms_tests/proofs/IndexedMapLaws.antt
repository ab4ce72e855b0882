-- Maps stay indexed.
use Rattle.std.proofs.Common.{◌≡◌, ℕ, zero, suc, if◌then◌else◌, List, [], ◌∷◌, ◌++◌, map, slice_get, Option, None, Some, IfSome, refl, sym, ap, subst, ◌∙◌}
use Rattle.std.proofs.lemmas.Cmp.{tied_itself}
use Rattle.std.specs.Cmp.{nat_cmp_total}
use Rattle.std.specs.FinMap as fin
use Rattle.std.specs.FinSet as set
use Rattle.std.specs.List.{list_any}
use Rattle.std.specs.Option.{option_and_then}
use Rattle.std.specs.Ordering.{eq_by_cmp, is_eq, nat_cmp}
use Rattle.sasi_types.specs.declared.cell.Cell.{Cell}
use Rattle.sasi_types.specs.declared.column.ColumnType.{ColumnType}
use Rattle.sasi_types.specs.declared.decorated_key.DecoratedKey.{DecoratedKey}
use Rattle.sasi_types.specs.declared.partitioner.Partitioner.{Partitioner}
use Rattle.sasi_types.specs.declared.rule.Rule.{Rule}
use Rattle.sasi_types.specs.declared.value.Value.{Value}
use Rattle.sasi_types.specs.DecoratedKey.{decorated_cmp, decorated_total}
use Rattle.sasi_cells.specs.Changes.{with_column}
use Rattle.sasi_memtable.specs.MemtableView.{MemtableView, empty_memtable}
use Rattle.sasi_model.specs.Abbreviations.{Partitions}
use Rattle.sasi_model.specs.Cells.{Partition, empty_partition, value_at}
use Rattle.sasi_model.specs.State.{decorated}
use Rattle.sasi_model.specs.Tokens.{same}
use Rattle.sasi_memindex.specs.declared.map_part.MapPart.{MapPart}
use Rattle.sasi_memindex.specs.Book.{AreValuesOf, Book, CanAdd, CanChange, CanIndex, IsAdded, IsChanged, bare, subjects}
use Rattle.sasi_memindex.specs.IndexOf.{HasPut, HasTermsAt}
use Rattle.sasi_memindex.specs.IndexedValues.{IsCellOf, IsValueOf}
use Rattle.sasi_memindex.specs.MemIndexView.{MemIndexView, Numbered, empty_index, has, subject}
use Rattle.sasi_memindex.specs.Postings.{posting, posting_cmp}
use Rattle.sasi_memindex.proofs.AddedIndexes.{added_kept}
use Rattle.sasi_memindex.proofs.BookLaws.{values_after}
use Rattle.sasi_terms_tests.specs.IndexedMaps.{AreOfColumn, HasIndexes, IsIndexed, IsOfColumn}

-- ---- what a call needs

can_index : (type : ColumnType) (indexes : Numbered) (change : Partition) → AreOfColumn type indexes → IfSome (value_at change 1) (IsValueOf type) → CanIndex indexes change
can_index type [] change of value position i e = absurd cc
can_index type (x ∷ xs) change of value zero i e =
    let one : x ≡ i = cc in
    subst (λ (j : ℕ × MemIndexView). IsCellOf j.1.kind (fin.get change.cells j.1.column)) one
    (subst (λ c. IsCellOf x.1.kind (fin.get change.cells c)) (sym of.0.column) (subst (λ (t : ColumnType). IsCellOf t (fin.get change.cells 1)) (sym of.0.kind) value))
can_index type (x ∷ xs) change of value (suc position) i e = can_index type xs change of.1 value position i e

pub can_change : (type : ColumnType) (part : Option MapPart) (change : Partition) → HasIndexes type part → IfSome (value_at change 1) (IsValueOf type) → CanChange part change
can_change type None change are value = absurd are
can_change type (Some part) change are value = (are.kept, can_index type part.indexes change are.of value)

pub can_add : (type : ColumnType) (part : Option MapPart) → HasIndexes type part → CanAdd 1 type part
can_add type None are = absurd are
can_add type (Some part) are = are.values

-- ---- what it leaves

alike : (type : ColumnType) (olds news : Numbered) → subjects news ≡ subjects olds → AreOfColumn type olds → AreOfColumn type news
alike type [] [] same of = tt
alike type [] (n ∷ ns) same of = cc
alike type (o ∷ os) [] same of = cc
alike type (o ∷ os) (n ∷ ns) same of =
    let one : (n.0, subject n.1) ≡ (o.0, subject o.1) = cc in (
      record {
        column = ap (λ (s : ℕ × (ℕ × (ColumnType × Option Rule))). s.1.0) one ∙ of.0.column;
        kind = ap (λ (s : ℕ × (ℕ × (ColumnType × Option Rule))). s.1.1.0) one ∙ of.0.kind;
      },
      alike type os ns (cc) of.1,
    )

pub changed : (type : ColumnType) (key : List ℕ) (change : Partition) (old new : Option MapPart) → HasIndexes type old → IfSome (value_at change 1) (IsValueOf type) → IsChanged key change old new → HasIndexes type new
changed type key change None new are value is = absurd are
changed type key change (Some old) None are value is = absurd is
changed type key change (Some old) (Some new) are value is = record {
  values =
      subst (λ (m : MemtableView). AreValuesOf 1 type m.partitions) (sym is.merged)
      (values_after old.map.partitions (decorated old.map.partitioner key) change 1 type are.values value);
  kept = is.kept;
  of = alike type old.indexes new.indexes is.same are.of;
}

one_more : (type : ColumnType) (indexes : Numbered) (one : ℕ × MemIndexView) → AreOfColumn type indexes → IsOfColumn type one.1 → AreOfColumn type (indexes ++ one ∷ [])
one_more type [] one of new = (new, tt)
one_more type (i ∷ is) one of new = (of.0, one_more type is one of.1 new)

pub added : (type : ColumnType) (number : ℕ) (rule : Option Rule) (old new : Option MapPart) → HasIndexes type old → IsAdded number 1 type rule old new → HasIndexes type new
added type number rule None new are is = absurd are
added type number rule (Some old) None are is = absurd is
added type number rule (Some old) (Some new) are is = subst (IsIndexed type) (sym is.is) (record {
  values = are.values;
  kept = added_kept old.map.partitions old.indexes number is.added are.kept is.kept;
  of = one_more type old.indexes (number, is.added) are.of (record {
    column = ap (λ (s : ℕ × (ColumnType × Option Rule)). s.0) is.of;
    kind = ap (λ (s : ℕ × (ColumnType × Option Rule)). s.1.0) is.of;
  });
})

-- an empty map
pub empty_is : (type : ColumnType) (partitioner : Partitioner) → IsIndexed type (bare (empty_memtable partitioner))
empty_is type partitioner = record {
  values = λ key. subst (λ (p : Option Partition). IsCellOf type (option_and_then (λ (q : Partition). fin.get q.cells 1) p)) (sym (fin.get-empty decorated_cmp key)) tt;
  kept = λ position i e. absurd cc;
  of = tt;
}

pub first_added : (type : ColumnType) (book new : Book) (m : MemtableView) (partitioner : Partitioner) → m ≡ empty_memtable partitioner → new ≡ fin.insert book 1 (bare m) → HasIndexes type (fin.get new 1)
first_added type book new m partitioner empty is =
    subst (HasIndexes type) (sym (ap (λ (b : Book). fin.get b 1) is ∙ fin.get-insert nat_cmp_total book 1 (bare m) 1))
    (subst (λ (e : MemtableView). IsIndexed type (bare e)) (sym empty) (empty_is type partitioner))

-- ---- changes

pub value_written : (cell : Cell) → value_at (with_column empty_partition 1 cell) 1 ≡ cell.value
value_written cell = ap (option_and_then (λ (c : Cell). c.value)) (fin.get-insert nat_cmp_total fin.empty 1 cell 1)

pub none_written : (time : ℕ) → value_at (record { deleted = time; cells = fin.empty }) 1 ≡ None
none_written time = ap (option_and_then (λ (c : Cell). c.value)) (fin.get-empty nat_cmp 1)

-- ---- one index

pub put_there : (old new : MemIndexView) (key : DecoratedKey) (terms : List (List ℕ)) → HasPut old key terms new → HasTermsAt new key terms
put_there old new key terms put term = put term key ∙ ap (λ o. if is_eq o then list_any (same term) terms else has old term key) (tied_itself decorated_total key)

pub nothing_there : (index : MemIndexView) (column : ℕ) (type : ColumnType) (rule : Option Rule) (key : DecoratedKey) → index ≡ empty_index column type rule → HasTermsAt index key []
nothing_there index column type rule key is term = ap (λ (i : MemIndexView). has i term key) is ∙ set.contains-empty posting_cmp (posting term key)
