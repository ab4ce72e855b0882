-- The indexes of a table, as a compaction of its files is begun with them.
use Rattle.std.proofs.Common.{◌≡◌, if◌then◌else◌, true, false, ℕ, zero, suc, ◌<◌, ◌≤◌, ◌-◌, ◌^◌, List, [], ◌∷◌, length, map, slice_get, unwrap_or, None, Some, refl, sym, ap, subst, ◌∙◌, arith}
use Rattle.std.specs.Prelude.{nat_le}
use Rattle.std.proofs.lemmas.List.{length-map}
use Rattle.std.proofs.lemmas.List.Elements.{All-head, All-tail}
use Rattle.std.specs.FinMap as map_
use Rattle.std.specs.List.{All, AllByRecursion, remove}
use Rattle.sasi_types.specs.declared.column.ColumnType.TheVariants as types
use Rattle.sasi_types.specs.declared.index_def.IndexDef.{IndexDef}
use Rattle.sasi_model.specs.Abbreviations.{types_of}
use Rattle.sasi_model.specs.State.{Column, Definition}
use Rattle.sasi_schema.specs.Defined.{definition, numbers_of}
use Rattle.sasi_schema.specs.IndexFacts.{IsIndexOf}
use Rattle.sasi_pairs.specs.Gathered.{IsBuilt}
use Rattle.sasi_manifest.proofs.FewIndexes.{numbers_few}
use Rattle.sasi_manifest.specs.Consistent.{HasIndexes, IsConsistent}
use Rattle.sasi_manifest.specs.ListedFiles.{IndexesRise, NumbersRise}
use Rattle.sasi_manifest.specs.ListedTables.{listed}
use Rattle.sasi_manifest.specs.Listings.{by_number, with_def}
use Rattle.sasi_manifest.specs.declared.listed.ListedTable.{ListedTable}
use Rattle.sasi_manifest.specs.declared.listing.Listing.{Listing}
use Rattle.sasi_compact.specs.Tasks.{IsOnColumn}
use Rattle.sasi_layout.proofs.Parts.{drawn_indexes, rising_all, rising_few}
use Rattle.sasi_layout.specs.Layout.{TableParts, drawn, rising_numbers}
use Rattle.sasi_tables.proofs.DrawnParts.{drawn_fits}
use Rattle.sasi_tables.proofs.RisingIndexes.{are_built, number_of, rising_are, table_indexes}
use Rattle.sasi_tables.proofs.TablesInMemory.{all_at}
use Rattle.sasi_tables.specs.Flushing.{IsTableIndex}
use Rattle.sasi_tasks.specs.Running.{AreListedIndexes, IsListedIndex}

-- ---- what holds of all; belongs in sasi_tables

all_with : (P : IndexDef → Type 0) (def : IndexDef) (defs : List IndexDef) → P def → AllByRecursion P defs → AllByRecursion P (with_def def defs)
all_with P def [] is all = (is, tt)
all_with P def (other ∷ defs) is all =
    let rest = all_with P def defs is all.1 in
    elim (nat_le def.number other.number) as (λ b. AllByRecursion P (if b then def ∷ other ∷ defs else other ∷ with_def def defs)) [
      | true ↦ (is, all)
      | false ↦ (all.0, rest)
    ]

all_by_number : (P : IndexDef → Type 0) (defs : List IndexDef) → AllByRecursion P defs → AllByRecursion P (by_number defs)
all_by_number P [] all = tt
all_by_number P (def ∷ defs) all = all_with P def (by_number defs) all.0 (all_by_number P defs all.1)

-- ---- columns

got_inside : {A : Type 0} (xs : List A) (i : ℕ) (d : A) → i < length xs → slice_get xs i ≡ Some (unwrap_or (slice_get xs i) d)
got_inside [] i d within = absurd (omega (arith, within))
got_inside (x ∷ xs) zero d within = refl
got_inside (x ∷ xs) (suc i) d within = got_inside xs i d (omega (arith, within))

one_less : {A : Type 0} (xs : List A) (i : ℕ) → length xs ≤ suc (length (remove xs i))
one_less [] i = omega arith
one_less (x ∷ xs) zero = omega arith
one_less (x ∷ xs) (suc i) = omega (arith, one_less xs i)

-- an index of a table is on one of its columns
on_column : (d : Definition) (number : ℕ) (def : IndexDef) → IsIndexOf number d.columns d.key def → IsBuilt def → IsOnColumn (types_of d) def
on_column d number def is built =
    let many : length (types_of d) ≡ suc (length (remove d.columns d.key)) = ap suc (length-map (remove d.columns d.key) (λ (column : Column). column.1)) in
    record {
      built = built;
      regular = is.above;
      kind = got_inside (types_of d) def.column types.Text (omega (arith, is.within, many, one_less d.columns d.key)) ∙ ap Some (sym is.kind);
    }

on_columns : (d : Definition) (number : ℕ) (defs : List IndexDef) → All (IsIndexOf number d.columns d.key) defs → AllByRecursion (λ (def : IndexDef). IsBuilt def → IsOnColumn (types_of d) def) defs
on_columns d number [] facts = tt
on_columns d number (def ∷ defs) facts = (on_column d number def (All-head (IsIndexOf number d.columns d.key) def defs facts), on_columns d number defs (All-tail (IsIndexOf number d.columns d.key) def defs facts))

built_on : (d : Definition) (defs : List IndexDef) → AllByRecursion (λ (def : IndexDef). IsBuilt def → IsOnColumn (types_of d) def) defs → AllByRecursion IsBuilt defs → AllByRecursion (IsOnColumn (types_of d)) defs
built_on d [] on built = tt
built_on d (def ∷ defs) on built = (on.0 built.0, built_on d defs on.1 built.1)

-- ---- numbers

rise_from : (used : ℕ) (ns : List ℕ) → IndexesRise (drawn used ns) → AllByRecursion (λ n. (1 ≤ n) × (n < 2 ^ 32)) ns → NumbersRise 0 ns
rise_from used [] rise all = tt
rise_from used (n ∷ ns) rise all = (omega (arith, all.0.0), subst (NumbersRise n) (drawn_indexes (suc used) ns) rise)

-- ---- the table

module _ (row : ListedTable) (listing : Listing) (known : IsConsistent listing) (table : ℕ) (there : slice_get listing.tables (table - 1) ≡ Some (listed row)) where
  has_indexes : HasIndexes (listed row)
  has_indexes = all_at HasIndexes (table - 1) listing.tables (listed row) known.indexes there

  abbrev defs : List IndexDef
  defs = by_number row.table.indexes

  -- **Each is on one of its columns,**
  pub indexed : AllByRecursion (IsOnColumn (types_of (definition row.table))) defs
  indexed = built_on (definition row.table) defs
      (all_by_number (λ (def : IndexDef). IsBuilt def → IsOnColumn (types_of (definition row.table)) def) row.table.indexes (on_columns (definition row.table) row.table.number row.table.indexes row.table.index_facts))
      (are_built row has_indexes)

  -- the table without parts
  abbrev alone : TableParts
  alone = record { definition = definition row.table; numbers = numbers_of row.table; since = 0; first = None; files = []; frozen = []; memtable = map_.empty }

  numbers_rising : map number_of defs ≡ rising_numbers alone
  numbers_rising = rising_are row alone refl refl

  few : length defs < 2 ^ 16
  few = omega (arith, numbers_few (listed row) has_indexes, rising_few alone, ap length numbers_rising, length-map defs number_of)

  each_listed : (ds : List IndexDef) → AllByRecursion (IsTableIndex alone) ds → AllByRecursion (IsListedIndex (listed row)) ds
  each_listed [] all = tt
  each_listed (d ∷ ds) all = (record { listed = all.0.listed; kind = all.0.kind }, each_listed ds all.1)

  -- **and listed of it.**
  pub indexes_listed : AreListedIndexes (listed row) defs
  indexes_listed = record {
    each = each_listed defs (table_indexes row alone refl refl);
    rise = rise_from 0 (map number_of defs) (drawn_fits row 0 listing known table there (omega (arith, few))).rise
        (subst (AllByRecursion (λ n. (1 ≤ n) × (n < 2 ^ 32))) (sym numbers_rising) (rising_all (λ n. (1 ≤ n) × (n < 2 ^ 32)) alone has_indexes.numbered));
    few = few;
  }
