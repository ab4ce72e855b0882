-- The indexes of a listed table by their numbers, rising: a flush writes a file of each.
use Rattle.std.proofs.Common.{◌≡◌, ◌≢◌, ℕ, Bool, true, false, not, if◌then◌else◌, List, [], ◌∷◌, map, Contains, refl, sym, ap, subst, ◌∙◌, arith}
use Rattle.std.specs.Prelude.{nat_le}
use Rattle.std.specs.List.{All, AllByRecursion, zip}
use Rattle.std.specs.Ordering.{is_gt, nat_cmp}
use Rattle.std.proofs.lemmas.Bool.Decides.{nat_tests}
use Rattle.std.proofs.lemmas.List.Elements.{All-head, All-tail, Contains-append_right}
use Rattle.sasi_types.specs.declared.class.Class.{Class}
use Rattle.sasi_types.specs.declared.column.ColumnType.{ColumnType}
use Rattle.sasi_types.specs.declared.column.ColumnType.TheVariants.{Uuid}
use Rattle.sasi_types.specs.declared.index_def.IndexDef.{IndexDef}
use Rattle.sasi_types.specs.declared.mode.Mode.{Mode}
use Rattle.sasi_types.specs.declared.mode.Mode.TheVariants as modes
use Rattle.sasi_types.specs.declared.partitioner.Partitioner.{Partitioner}
use Rattle.sasi_segments.specs.Sorting.{inserted, sort}
use Rattle.sasi_model.specs.Abbreviations.{kind_of, types_of}
use Rattle.sasi_model.specs.Indexes.{index_of, mode_fits}
use Rattle.sasi_model.specs.State.{Definition, Index}
use Rattle.sasi_schema.specs.Defined.{definition, numbers_of}
use Rattle.sasi_schema.specs.IndexFacts.{IsIndexOf}
use Rattle.sasi_manifest.specs.declared.listed.ListedTable.{ListedTable}
use Rattle.sasi_manifest.specs.Consistent.{HasIndexes}
use Rattle.sasi_manifest.specs.ListedTables.{listed}
use Rattle.sasi_manifest.specs.Listings.{by_number, with_def}
use Rattle.sasi_memtable.specs.MemtableView.{MemtableView}
use Rattle.sasi_memindex.specs.Book.{AreValuesOf}
use Rattle.sasi_pairs.specs.Gathered.{IsBuilt}
use Rattle.sasi_layout.specs.Layout.{TableParts, rising_numbers}
use Rattle.sasi_layout.specs.Serving.{AreStorable}
use Rattle.sasi_tables.specs.Flushing.{AreTableIndexes, IsTableIndex}
use Rattle.sasi_tables.specs.Held.{KnowsDef}
use Rattle.sasi_tables.proofs.IndexedTables.{table_values}

abbrev pub number_of : IndexDef → ℕ
number_of def = def.number

-- ---- their numbers

above_not : (m n : ℕ) → nat_le m n ≡ not (is_gt (nat_cmp m n))
above_not m n = grind (arith, nat_tests)

-- sorted definitions have sorted numbers
with_inserted : (def : IndexDef) (defs : List IndexDef) → map number_of (with_def def defs) ≡ inserted nat_cmp def.number (map number_of defs)
unfolding inserted
with_inserted def [] = refl
with_inserted def (other ∷ defs) = by (is_gt (nat_cmp def.number other.number)) (above_not def.number other.number) (with_inserted def defs)
  where
    by : (b : Bool) → nat_le def.number other.number ≡ not b → map number_of (with_def def defs) ≡ inserted nat_cmp def.number (map number_of defs)
        → map number_of (if nat_le def.number other.number then def ∷ other ∷ defs else other ∷ with_def def defs)
        ≡ (if b then other.number ∷ inserted nat_cmp def.number (map number_of defs) else def.number ∷ other.number ∷ map number_of defs)
    by true is rest = ap (λ b. map number_of (if b then def ∷ other ∷ defs else other ∷ with_def def defs)) is ∙ ap (λ (ns : List ℕ). other.number ∷ ns) rest
    by false is rest = ap (λ b. map number_of (if b then def ∷ other ∷ defs else other ∷ with_def def defs)) is

numbers_sorted : (defs : List IndexDef) → map number_of (by_number defs) ≡ sort nat_cmp (map number_of defs)
unfolding sort
numbers_sorted [] = refl
numbers_sorted (def ∷ defs) = with_inserted def (by_number defs) ∙ ap (inserted nat_cmp def.number) (numbers_sorted defs)

-- ---- what holds of all

all_with : (P : IndexDef → Type 0) (def : IndexDef) (defs : List IndexDef) → P def → AllByRecursion P defs → AllByRecursion P (with_def def defs)
all_with P def [] is all = (is, tt)
all_with P def (other ∷ defs) is all =
    let rest = all_with P def defs is all.1 in
    elim (nat_le def.number other.number) as (λ b. AllByRecursion P (if b then def ∷ other ∷ defs else other ∷ with_def def defs)) [
      | true ↦ (is, all)
      | false ↦ (all.0, rest)
    ]

all_by_number : (P : IndexDef → Type 0) (defs : List IndexDef) → AllByRecursion P defs → AllByRecursion P (by_number defs)
all_by_number P [] all = tt
all_by_number P (def ∷ defs) all = all_with P def (by_number defs) all.0 (all_by_number P defs all.1)

weaker : (P Q : IndexDef → Type 0) (defs : List IndexDef) → ((def : IndexDef) → P def → Q def) → AllByRecursion P defs → AllByRecursion Q defs
weaker P Q [] f all = tt
weaker P Q (def ∷ defs) f all = (f def all.0, weaker P Q defs f all.1)

-- ---- an index file of each can be written

no_uuid : (m : Mode) → mode_fits m Uuid ≡ false
no_uuid modes.Prefix = refl
no_uuid modes.Contains = refl
no_uuid modes.Sparse = refl

fit_kind : (m : Mode) (kind : ColumnType) → mode_fits m kind ≡ true → kind ≢ Uuid
fit_kind m kind fits same = let no : true ≡ false = sym fits ∙ ap (mode_fits m) same ∙ no_uuid m in cc

fit_each : (number : ℕ) (d : Definition) (defs : List IndexDef) → All (IsIndexOf number d.columns d.key) defs → AllByRecursion (λ (i : Index). mode_fits i.mode (kind_of d i.column) ≡ true) (map index_of defs) → AllByRecursion IsBuilt defs
fit_each number d [] facts fits = tt
fit_each number d (def ∷ defs) facts fits = (
  record { kind = fit_kind def.mode def.kind (subst (λ (k : ColumnType). mode_fits def.mode k ≡ true) (sym (All-head (IsIndexOf number d.columns d.key) def defs facts).kind) fits.0) },
  fit_each number d defs (All-tail (IsIndexOf number d.columns d.key) def defs facts) fits.1,
)

module _ (row : ListedTable) where
  abbrev pub defs : List IndexDef
  defs = row.table.indexes

  pub are_built : HasIndexes (listed row) → AllByRecursion IsBuilt (by_number defs)
  are_built has = all_by_number IsBuilt defs (fit_each row.table.number (definition row.table) defs row.table.index_facts has.typed)

  pub are_typed : (p : Partitioner) (m : MemtableView) → AreStorable p (types_of (definition row.table)) m.partitions → AllByRecursion (λ (def : IndexDef). AreValuesOf def.column def.kind m.partitions) (by_number defs)
  are_typed p m storable = all_by_number (λ def. AreValuesOf def.column def.kind m.partitions) defs (table_values p row m storable)

  pub are_known : (kinds : List Class) → AllByRecursion (KnowsDef kinds) defs → AllByRecursion (KnowsDef kinds) (by_number defs)
  are_known kinds known = all_by_number (KnowsDef kinds) defs known

-- ---- they are those of the layout's table

-- an item that stands later stands in the whole
later : {A : Type 0} (x y : A) (xs : List A) → Contains xs x → Contains (y ∷ xs) x
later x y xs is = Contains-append_right (y ∷ []) xs x is

first : {A : Type 0} (x : A) (xs : List A) → Contains (x ∷ xs) x
first x xs = (0, omega arith, refl)

all_listed : (defs : List IndexDef) → AllByRecursion (λ (def : IndexDef). Contains (zip (map number_of defs) (map index_of defs)) (def.number, index_of def)) defs
all_listed [] = tt
all_listed (def ∷ defs) = (
  first (def.number, index_of def) (zip (map number_of defs) (map index_of defs)),
  weaker (λ d. Contains (zip (map number_of defs) (map index_of defs)) (d.number, index_of d)) (λ d. Contains (zip (map number_of (def ∷ defs)) (map index_of (def ∷ defs))) (d.number, index_of d)) defs
      (λ d is. later (d.number, index_of d) (def.number, index_of def) (zip (map number_of defs) (map index_of defs)) is) (all_listed defs),
)

kinds_each : (number : ℕ) (d : Definition) (defs : List IndexDef) → All (IsIndexOf number d.columns d.key) defs → AllByRecursion (λ (def : IndexDef). kind_of d def.column ≡ def.kind) defs
kinds_each number d [] facts = tt
kinds_each number d (def ∷ defs) facts = (sym (All-head (IsIndexOf number d.columns d.key) def defs facts).kind, kinds_each number d defs (All-tail (IsIndexOf number d.columns d.key) def defs facts))

both : (P Q R : IndexDef → Type 0) (defs : List IndexDef) → ((def : IndexDef) → P def → Q def → R def) → AllByRecursion P defs → AllByRecursion Q defs → AllByRecursion R defs
both P Q R [] f p q = tt
both P Q R (def ∷ defs) f p q = (f def p.0 q.0, both P Q R defs f p.1 q.1)

module _ (row : ListedTable) (t : TableParts) (numbers : t.numbers ≡ numbers_of row.table) (defined : t.definition ≡ definition row.table) where
  pub table_indexes : AreTableIndexes (by_number row.table.indexes) t
  table_indexes =
      all_by_number (IsTableIndex t) row.table.indexes
      (both (λ def. Contains (zip (map number_of row.table.indexes) (map index_of row.table.indexes)) (def.number, index_of def)) (λ def. kind_of (definition row.table) def.column ≡ def.kind) (IsTableIndex t) row.table.indexes
      (λ def listed kind. record {
        listed = subst (λ (d : Definition). Contains (zip t.numbers d.indexes) (def.number, index_of def)) (sym defined) (subst (λ (ns : List ℕ). Contains (zip ns (map index_of row.table.indexes)) (def.number, index_of def)) (sym numbers) listed);
        kind = subst (λ (d : Definition). kind_of d def.column ≡ def.kind) (sym defined) kind;
      })
      (all_listed row.table.indexes) (kinds_each row.table.number (definition row.table) row.table.indexes row.table.index_facts))

  pub rising_are : map number_of (by_number row.table.indexes) ≡ rising_numbers t
  rising_are = numbers_sorted row.table.indexes ∙ sym (ap (sort nat_cmp) numbers)
