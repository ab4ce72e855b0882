-- The map that stands in the place of a flushed one has the indexes that are listed for the table.
use Rattle.std.proofs.Common.{◌≡◌, ℕ, ◌<◌, List, length, map, get_or, slice_get, Some, refl, sym, ap, ◌∙◌, arith}
use Rattle.std.proofs.lemmas.List.{length-map}
use Rattle.std.specs.List.{AllByRecursion}
use Rattle.sasi_types.specs.declared.class.Class.{Class}
use Rattle.sasi_layout.proofs.Numbered.{all_changed, unseen_at}
use Rattle.sasi_layout.specs.Classes.{KnowsIndexes}
use Rattle.sasi_manifest.specs.ListedDefinition.{ListedDefinition}
use Rattle.sasi_manifest.specs.Listings.{at_number, listed_definitions, replaced}
use Rattle.sasi_manifest.specs.ListedTables.{listed}
use Rattle.sasi_manifest.specs.declared.files.ListedFile.{ListedFile}
use Rattle.sasi_manifest.specs.declared.listed.ListedTable.{ListedTable}
use Rattle.sasi_memindex.specs.Book.{Book}
use Rattle.sasi_schema.specs.Defined.{definition}
use Rattle.sasi_tables.specs.declared.table_maps.TableMaps.{TableMaps}
use Rattle.sasi_tables.specs.Held.{AreMapped, HasRegularIndexes, KnowsDef, Subject, subject_of, subjects_of}
use Rattle.sasi_tables.proofs.IndexedTables.{known_defs, table_subjects}
use Rattle.sasi_tables.proofs.KnownClasses.{known_at}
use Rattle.sasi_tables.proofs.TablesInMemory.{index_got, map_there}

module _ (removed : List ℕ) (added : List ListedFile) (since number : ℕ) (ts : List ListedDefinition) where
  abbrev after : List ListedDefinition
  after = at_number 1 number (replaced removed added since) ts

  pub wanted_flushed : map subjects_of after ≡ map subjects_of ts
  wanted_flushed = unseen_at subjects_of (replaced removed added since) (λ t. refl) 1 number ts

  pub regular_flushed : AllByRecursion HasRegularIndexes ts → AllByRecursion HasRegularIndexes after
  regular_flushed regular = all_changed HasRegularIndexes HasRegularIndexes (replaced removed added since) (λ t is. is) (λ t is. is) 1 number ts regular

  pub definitions_flushed : listed_definitions after ≡ listed_definitions ts
  definitions_flushed = unseen_at (λ (t : ListedDefinition). t.definition) (replaced removed added since) (λ t. refl) 1 number ts

-- ---- what is listed of one table

module _ (book : Book) (last : ℕ) (new : List ListedDefinition) (ts : List TableMaps) (mapped : AreMapped book last (map subjects_of new) ts) (at : ℕ) (within : at < length ts) (rows : List ListedTable) (seen : map listed rows ≡ new) where
  pub row_inside : at < length rows
  row_inside = omega (arith, within, mapped.counted, length-map new subjects_of, length-map rows listed, ap length seen)

  module _ (row : ListedTable) (is : row ≡ get_or rows at row) where
    pub row_there : slice_get new at ≡ Some (listed row)
    row_there = ap (λ (l : List ListedDefinition). slice_get l at) (sym seen) ∙ map_there listed rows at row (index_got rows at row row_inside is)

    pub row_wanted : slice_get (map subjects_of new) at ≡ Some (map subject_of row.table.indexes)
    row_wanted = map_there subjects_of new at (listed row) row_there ∙ ap (λ (l : List Subject). Some l) (table_subjects row)

    pub row_known : (kinds : List Class) → AllByRecursion (KnowsIndexes kinds) (listed_definitions new) → AllByRecursion (KnowsDef kinds) row.table.indexes
    row_known kinds known =
        known_defs kinds row (known_at kinds (listed_definitions new) at (definition row.table) known (map_there (λ (t : ListedDefinition). t.definition) new at (listed row) row_there))
