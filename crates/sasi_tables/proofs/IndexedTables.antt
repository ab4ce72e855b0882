-- What the maps of tables owe to the definitions of their indexes.
use Rattle.std.proofs.Common.{◌≡◌, ℕ, zero, suc, ◌≤◌, Bool, true, false, cond, List, [], ◌∷◌, map, slice_get, unwrap_or, Option, None, Some, IfSome, refl, sym, ap, subst, ◌∙◌, arith}
use Rattle.std.proofs.lemmas.Bool.Decides.{nat_tests}
use Rattle.std.specs.declared.cmp.Ordering.{Ordering}
use Rattle.std.specs.declared.cmp.Ordering.TheVariants.{Less, Equal, Greater}
use Rattle.std.specs.FinMap as map_
use Rattle.std.specs.List.{All, AllByRecursion, zip}
use Rattle.std.proofs.lemmas.List.Elements.{All-head, All-tail}
use Rattle.std.specs.Option.{option_and_then, option_map}
use Rattle.std.specs.Ordering.{eq_by_cmp, is_eq, nat_cmp}
use Rattle.sasi_types.specs.Rule.{class_of}
use Rattle.sasi_types.specs.declared.cell.Cell.{Cell}
use Rattle.sasi_types.specs.declared.class.Class.{Class}
use Rattle.sasi_types.specs.declared.column.ColumnType.{ColumnType}
use Rattle.sasi_types.specs.declared.column.ColumnType.TheVariants as types
use Rattle.sasi_types.specs.DecoratedKey.{decorated_cmp}
use Rattle.sasi_types.specs.declared.index_def.IndexDef.{IndexDef}
use Rattle.sasi_types.specs.declared.partitioner.Partitioner.{Partitioner}
use Rattle.sasi_types.specs.declared.rule.Rule.{Rule}
use Rattle.sasi_types.specs.declared.value.Value.{Value}
use Rattle.sasi_types.specs.declared.value.Value.TheVariants.{Text, Int, BigInt, Uuid}
use Rattle.sasi_analyzers.specs.Kits.{has_class}
use Rattle.sasi_layout.specs.Classes.{HasNeeded, KnowsIndexes}
use Rattle.sasi_layout.specs.Serving.{AreStorable}
use Rattle.sasi_manifest.specs.ListedDefinition.{ListedDefinition}
use Rattle.sasi_manifest.specs.ListedTables.{listed}
use Rattle.sasi_manifest.specs.declared.listed.ListedTable.{ListedTable}
use Rattle.sasi_memindex.specs.declared.map_part.MapPart.{MapPart}
use Rattle.sasi_memindex.specs.Book.{AreValuesOf, CanChange, bare, subjects}
use Rattle.sasi_memindex.specs.IndexedValues.{IsCellOf, IsText, IsValueOf}
use Rattle.sasi_memindex.specs.MemIndexView.{MemIndexView, Numbered, subject}
use Rattle.sasi_memtable.specs.MemtableView.{MemtableView, empty_memtable}
use Rattle.sasi_model.specs.Abbreviations.{Partitions, kind_of, types_of}
use Rattle.sasi_model.specs.Cells.{Partition}
use Rattle.sasi_model.specs.Indexes.{index_of}
use Rattle.sasi_model.specs.State.{Column, Definition, Index}
use Rattle.sasi_model.specs.Stored.{Entry, HasBytes, IsBodyOf, IsCell, IsListed, cells_of}
use Rattle.sasi_schema.specs.Defined.{definition}
use Rattle.sasi_schema.specs.IndexFacts.{IsIndexOf}
use Rattle.sasi_tables.specs.Held.{CanAddAll, HasIndexes, HasRegularIndexes, KnowsDef, KnowsMap, Subject, subject_in, subject_of, subjects_of}
use Rattle.sasi_tables.proofs.TablesInMemory.{all_at, map_there}

-- ---- cells

same_number : (a b : ℕ) → eq_by_cmp nat_cmp a b ≡ true → a ≡ b
same_number a b is = by (nat_cmp a b) refl is
  where
    by : (o : Ordering) → nat_cmp a b ≡ o → is_eq o ≡ true → a ≡ b
    by Less o is = cc
    by Greater o is = cc
    by Equal o is = grind (arith, nat_tests)

-- what holds of the entries holds of the cell that a look-up finds
entry_found : (P : Entry → Type 0) (column : ℕ) (es : List Entry) (cell : Cell) → map_.find nat_cmp column es ≡ Some cell → AllByRecursion P es → P (column, cell)
entry_found P column [] cell found all = cc
entry_found P column (e ∷ es) cell found all = by (eq_by_cmp nat_cmp column e.0) refl found (λ is. entry_found P column es cell is all.1)
  where
    by : (b : Bool) → eq_by_cmp nat_cmp column e.0 ≡ b → cond b (Some e.1) (map_.find nat_cmp column es) ≡ Some cell → (map_.find nat_cmp column es ≡ Some cell → P (column, cell)) → P (column, cell)
    by true tie is rest =
        let same : e.1 ≡ cell = cc in
        let number : e.0 ≡ column = sym (same_number column e.0 tie) in
        subst (λ (k : ℕ). P (k, cell)) number (subst (λ (c : Cell). P (e.0, c)) same all.0)
    by false tie is rest = rest is

cell_found : (P : Entry → Type 0) (part : Partition) (column : ℕ) (cell : Cell) → map_.get part.cells column ≡ Some cell → AllByRecursion P (cells_of part) → P (column, cell)
cell_found P part column cell found all = entry_found P column (cells_of part) cell (sym (map_.get-entries part.cells column) ∙ found) all

text_of : (value : Value) → HasBytes value → IsText value
text_of (Text text) has = has.0
text_of (Int number) has = tt
text_of (BigInt number) has = tt
text_of (Uuid bytes) has = tt

-- a regular column has values of its type
pub body_cell : (d : Definition) (key : List ℕ) (part : Partition) (column : ℕ) → IsBodyOf (types_of d) key part → 1 ≤ column → IsCellOf (kind_of d column) (map_.get part.cells column)
body_cell d key part column body above = by (map_.get part.cells column) refl
  where
    valued : (cell : Cell) → map_.get part.cells column ≡ Some cell → (v : Option Value) → cell.value ≡ v → IfSome v (IsValueOf (kind_of d column))
    valued cell found None is = tt
    valued cell found (Some value) is =
        let listed = cell_found (IsListed (types_of d)) part column cell found body.columns in
        let stored = cell_found (IsCell part.deleted) part column cell found body.has.cells in
        record {
          is = sym (ap (λ (o : Option ColumnType). unwrap_or o types.Text) (listed.typed value is above));
          text = text_of value (subst (λ (o : Option Value). IfSome o HasBytes) is stored.value);
        }

    by : (o : Option Cell) → map_.get part.cells column ≡ o → IsCellOf (kind_of d column) o
    by None found = tt
    by (Some cell) found = valued cell found cell.value refl

-- so do the partitions of a map that can be stored in the table
pub storable_values : (p : Partitioner) (d : Definition) (m : Partitions) (column : ℕ) → AreStorable p (types_of d) m → 1 ≤ column → AreValuesOf column (kind_of d column) m
storable_values p d m column storable above key = by (map_.get m key) refl
  where
    by : (o : Option Partition) → map_.get m key ≡ o → IsCellOf (kind_of d column) (option_and_then (λ (part : Partition). map_.get part.cells column) o)
    by None found = tt
    by (Some part) found = body_cell d key.key part column (storable key part found).body above

-- ---- indexes

zip_found : {A B : Type 0} (xs : List A) (ys : List B) (at : ℕ) (e : A × B) → slice_get (zip xs ys) at ≡ Some e → slice_get ys at ≡ Some e.1
zip_found [] ys at e there = cc
zip_found (x ∷ xs) [] at e there = cc
zip_found (x ∷ xs) (y ∷ ys) zero e there = let same : (x, y) ≡ e = cc in ap (λ (k : _ × _). Some k.1) same
zip_found (x ∷ xs) (y ∷ ys) (suc at) e there = zip_found xs ys at e there

behind_map : {A B : Type 0} (f : A → B) (xs : List A) (at : ℕ) (y : B) → slice_get (map f xs) at ≡ Some y → (x : A) × (slice_get xs at ≡ Some x) × (f x ≡ y)
behind_map f [] at y there = cc
behind_map f (x ∷ xs) zero y there = let one : f x ≡ y = cc in (x, refl, one)
behind_map f (x ∷ xs) (suc at) y there = behind_map f xs at y there

-- the definition of an index of a map
index_defined : (t : ListedDefinition) (indexes : Numbered) → subjects indexes ≡ subjects_of t → (position : ℕ) (i : ℕ × MemIndexView) → slice_get indexes position ≡ Some i
    → (index : Index) × (slice_get t.definition.indexes position ≡ Some index) × (subject_in t.definition index ≡ subject i.1)
index_defined t indexes are position i there =
    let seen : slice_get (subjects_of t) position ≡ Some (i.0, subject i.1) =
    ap (λ (l : List Subject). slice_get l position) (sym are) ∙ map_there (λ (i : ℕ × MemIndexView). (i.0, subject i.1)) indexes position i there in
    behind_map (subject_in t.definition) t.definition.indexes position (subject i.1) (zip_found t.numbers (map (subject_in t.definition) t.definition.indexes) position (i.0, subject i.1) seen)

-- a change that can be stored in the table can be merged
pub can_put : (t : ListedDefinition) (o : Option MapPart) (key : List ℕ) (change : Partition) → HasIndexes (subjects_of t) o → HasRegularIndexes t → IsBodyOf (types_of t.definition) key change → CanChange o change
can_put t None key change has regular body = absurd has
can_put t (Some part) key change has regular body = (
  has.kept,
  λ position i there.
      let defined = index_defined t part.indexes has.subjects_are position i there in
      let above = all_at (λ (index : Index). 1 ≤ index.column) position t.definition.indexes defined.0 regular defined.1 in
      let column : defined.0.column ≡ i.1.column = ap (λ (s : ℕ × (ColumnType × Option Rule)). s.0) defined.2 in
      let kind : kind_of t.definition defined.0.column ≡ i.1.kind = ap (λ (s : ℕ × (ColumnType × Option Rule)). s.1.0) defined.2 in
      subst (λ (k : ColumnType). IsCellOf k (map_.get change.cells i.1.column)) kind
      (subst (λ (c : ℕ). IsCellOf (kind_of t.definition defined.0.column) (map_.get change.cells c)) column (body_cell t.definition key change defined.0.column body above)),
)

there_and_not : (kinds : List Class) (class : Class) → has_class class kinds ≡ true → has_class class kinds ≡ false → ⊥
there_and_not kinds class there lacks = let no : true ≡ false = sym there ∙ lacks in cc

-- where an analyzer is there for each index of the table, none is missing for its map
pub knows_map : (kinds : List Class) (t : ListedDefinition) (o : Option MapPart) → HasIndexes (subjects_of t) o → KnowsIndexes kinds t.definition → KnowsMap kinds o
knows_map kinds t None has known class missing = absurd has
knows_map kinds t (Some part) has known class missing =
    let defined = index_defined t part.indexes has.subjects_are missing.position missing.index missing.listed in
    let needs = all_at (λ (index : Index). HasNeeded kinds (option_map class_of index.rule)) missing.position t.definition.indexes defined.0 known defined.1 in
    let rule : defined.0.rule ≡ missing.index.1.rule = ap (λ (s : ℕ × (ColumnType × Option Rule)). s.1.1) defined.2 in
    there_and_not kinds class (subst (HasNeeded kinds) (ap (option_map class_of) rule ∙ missing.missing.needed) needs) missing.missing.lacking

-- ---- definitions of indexes

-- those of a table are what its indexes are of
subjects_defined : (number : ℕ) (d : Definition) (defs : List IndexDef) → All (IsIndexOf number d.columns d.key) defs
    → zip (map (λ (def : IndexDef). def.number) defs) (map (subject_in d) (map index_of defs)) ≡ map subject_of defs
subjects_defined number d [] all = refl
subjects_defined number d (def ∷ defs) all =
    let kind : kind_of d def.column ≡ def.kind = sym (All-head (IsIndexOf number d.columns d.key) def defs all).kind in
    let rest = subjects_defined number d defs (All-tail (IsIndexOf number d.columns d.key) def defs all) in
    λ i. (def.number, (def.column, (kind i, def.rule))) ∷ rest i

pub table_subjects : (row : ListedTable) → subjects_of (listed row) ≡ map subject_of row.table.indexes
table_subjects row = subjects_defined row.table.number (definition row.table) row.table.indexes row.table.index_facts

known_each : (kinds : List Class) (defs : List IndexDef) → AllByRecursion (λ (index : Index). HasNeeded kinds (option_map class_of index.rule)) (map index_of defs) → AllByRecursion (KnowsDef kinds) defs
known_each kinds [] known = tt
known_each kinds (def ∷ defs) known = (known.0, known_each kinds defs known.1)

pub known_defs : (kinds : List Class) (row : ListedTable) → KnowsIndexes kinds (definition row.table) → AllByRecursion (KnowsDef kinds) row.table.indexes
known_defs kinds row known = known_each kinds row.table.indexes known

regular_each : (number : ℕ) (columns : List Column) (key : ℕ) (defs : List IndexDef) → All (IsIndexOf number columns key) defs → AllByRecursion (λ (index : Index). 1 ≤ index.column) (map index_of defs)
regular_each number columns key [] all = tt
regular_each number columns key (def ∷ defs) all = ((All-head (IsIndexOf number columns key) def defs all).above, regular_each number columns key defs (All-tail (IsIndexOf number columns key) def defs all))

pub regular_table : (row : ListedTable) → HasRegularIndexes (listed row)
regular_table row = regular_each row.table.number row.table.columns row.table.key row.table.indexes row.table.index_facts

-- a map that can be stored in the table has values of their types
values_each : (p : Partitioner) (number : ℕ) (d : Definition) (m : MemtableView) (defs : List IndexDef) → AreStorable p (types_of d) m.partitions → All (IsIndexOf number d.columns d.key) defs → CanAddAll defs (Some (bare m))
values_each p number d m [] storable all = tt
values_each p number d m (def ∷ defs) storable all =
    let is = All-head (IsIndexOf number d.columns d.key) def defs all in (
      subst (λ (k : ColumnType). AreValuesOf def.column k m.partitions) (sym is.kind) (storable_values p d m.partitions def.column storable is.above),
      values_each p number d m defs storable (All-tail (IsIndexOf number d.columns d.key) def defs all),
    )

pub table_values : (p : Partitioner) (row : ListedTable) (m : MemtableView) → AreStorable p (types_of (definition row.table)) m.partitions → CanAddAll row.table.indexes (Some (bare m))
table_values p row m storable = values_each p row.table.number (definition row.table) m row.table.indexes storable row.table.index_facts

-- an empty one has
empty_values : (column : ℕ) (type : ColumnType) → AreValuesOf column type map_.empty
empty_values column type key = subst (λ (o : Option Partition). IsCellOf type (option_and_then (λ (part : Partition). map_.get part.cells column) o)) (sym (map_.get-empty decorated_cmp key)) tt

pub empty_can : (p : Partitioner) (defs : List IndexDef) → CanAddAll defs (Some (bare (empty_memtable p)))
empty_can p [] = tt
empty_can p (def ∷ defs) = (empty_values def.column def.kind, empty_can p defs)
