-- A new index of a store comes into the map of its table.
use Rattle.std.proofs.Common.{◌≡◌, ℕ, ◌-◌, ◌<◌, ◌≤◌, List, length, map, slice_get, Some, sym, ap, subst, ◌∙◌, arith}
use Rattle.std.specs.List.{AllByRecursion}
use Rattle.std.specs.FinMap.{get}
use Rattle.sasi_types.specs.declared.column.ColumnType.{ColumnType}
use Rattle.sasi_types.specs.declared.index_def.IndexDef.{IndexDef}
use Rattle.sasi_host.specs.View.{View}
use Rattle.sasi_layout.specs.Serving.{AreStorable, CanChange, IsTableReady}
use Rattle.sasi_manifest.specs.ListedDefinition.{ListedDefinition}
use Rattle.sasi_manifest.specs.Listings.{at_number, listed_with_index}
use Rattle.sasi_memindex.specs.Book.{Book, CanAdd}
use Rattle.sasi_model.specs.Abbreviations.{kind_of, types_of}
use Rattle.sasi_model.specs.State.{Definition}
use Rattle.sasi_tables.specs.Held.{in_memory}
use Rattle.sasi_schema.specs.SchemaViews.{numbered_def}
use Rattle.sasi_schema.specs.declared.index.NewIndex.{NewIndex}
use Rattle.sasi_tables.specs.declared.parts.Parts.{Parts}
use Rattle.sasi_tables.specs.declared.table_maps.TableMaps.{TableMaps}
use Rattle.sasi_tables.specs.Held.{AreMapped, HasRegularIndexes, IsAddedToAll, Rise, held_by, held_of, map_in, numbers_of, subjects_of}
use Rattle.std.specs.Prelude.{Contains}
use Rattle.sasi_tables.specs.TablesView.{IsOfParts, held_in, memory_of}
use Rattle.sasi_tables.specs.Writable.{IsDefinable}
use Rattle.sasi_tables.proofs.DefinedMaps.{can_define, defined_held, defined_mapped, regular_defined}
use Rattle.sasi_tables.proofs.FlushingParts.{memory_at}
use Rattle.sasi_tables.proofs.HeldMaps.{held_length, held_there, in_all, numbers_all}
use Rattle.sasi_tables.proofs.IndexedTables.{storable_values}
use Rattle.sasi_tables.proofs.Putting.{has_table}
use Rattle.sasi_tables.proofs.TablesInMemory.{all_at, map_there, ready_at, seen_as}

module _ (v : View) (p : Parts) (ready : CanChange v (memory_of p)) (of : IsOfParts p) (index : NewIndex) (definable : IsDefinable (memory_of p) index) where
  abbrev at : ℕ
  at = index.table - 1

  pub index_inside : at < length p.tables.items
  index_inside =
      let there = has_table v p index.table definable.definition ready definable.some definable.there in
      omega (arith, there.some, there.inside, held_length p.maps p.tables.items)

  row : (t : ListedDefinition) × (slice_get p.manifest.listing.tables at ≡ Some t) × (t.definition ≡ definable.definition)
  row = seen_as (λ (t : ListedDefinition). t.definition) p.manifest.listing.tables at definable.definition (ap (λ (ds : List Definition). slice_get ds at) (sym ready.definitions) ∙ definable.there)

  above : 1 ≤ index.column
  above = (definable.fits 0).is.above

  module _ (t : TableMaps) (there : slice_get p.tables.items at ≡ Some t) where
    is_ready : IsTableReady p.manifest.listing.partitioner p.manifest.listing.floor p.manifest.listing.last definable.definition (in_memory (held_by p.maps t))
    is_ready =
        let k = p.manifest.listing in
        ready_at k.partitioner k.floor k.last at p.schema.definitions (memory_of p).tables definable.definition (in_memory (held_by p.maps t)) ready.tables definable.there
        (memory_at p index.table (held_by p.maps t) (held_there p.maps p.tables.items at t there))

    storable : (n : ℕ) → Contains (numbers_of t) n → AreStorable p.manifest.listing.partitioner (types_of definable.definition) (map_in p.maps n).partitions
    storable n has = numbers_all (AreStorable p.manifest.listing.partitioner (types_of definable.definition)) p.maps t is_ready.frozen is_ready.memtable n has

    pub rising : Rise (numbers_of t)
    rising = of.mapped.rising at t there

    can_one : (n : ℕ) → Contains (numbers_of t) n → CanAdd index.column index.kind (get p.maps n)
    can_one n has =
        subst (λ (k : ColumnType). CanAdd index.column k (get p.maps n)) (sym definable.kind)
        (can_define index.column (kind_of definable.definition index.column) (subjects_of row.0) (get p.maps n) (of.mapped.indexed at t (subjects_of row.0) n there (map_there subjects_of p.manifest.listing.tables at row.0 row.1) has)
        (storable_values p.manifest.listing.partitioner definable.definition (map_in p.maps n).partitions index.column (storable n has) above))

    pub can_index : AllByRecursion (λ n. CanAdd index.column index.kind (get p.maps n)) (numbers_of t)
    can_index = in_all (λ n. CanAdd index.column index.kind (get p.maps n)) (numbers_of t) can_one

    module _ (number : ℕ) (after : Book) (all : IsAddedToAll (numbered_def number index) (numbers_of t) p.maps after) where
      abbrev def : IndexDef
      def = numbered_def number index

      counted : length row.0.numbers ≡ length row.0.definition.indexes
      counted = (all_at _ at p.manifest.listing.tables row.0 ready.numbered.indexes row.1).counted

      kind : index.kind ≡ kind_of row.0.definition index.column
      kind = definable.kind ∙ ap (λ (d : Definition). kind_of d index.column) (sym row.2)

      pub index_held : held_of after p.tables.items ≡ held_in p
      index_held = defined_held p.maps p.last_map p.manifest.listing.tables p.tables.items of.mapped def definable.some t there row.0 row.1 counted kind after all

      pub index_mapped : AreMapped after p.last_map (map subjects_of (at_number 1 index.table (listed_with_index def) p.manifest.listing.tables)) p.tables.items
      index_mapped = defined_mapped p.maps p.last_map p.manifest.listing.tables p.tables.items of.mapped def definable.some t there row.0 row.1 counted kind after all

      pub index_regular : AllByRecursion HasRegularIndexes (at_number 1 index.table (listed_with_index def) p.manifest.listing.tables)
      index_regular = regular_defined def above index.table p.manifest.listing.tables of.regular
