-- What a flush of a store's table draws, and that its index files can be written.
use Rattle.std.proofs.Common.{◌≡◌, ℕ, zero, suc, ◌<◌, ◌-◌, List, [], ◌∷◌, slice_get, Some, Err, sym, ap, subst, ◌∙◌}
use Rattle.std.specs.List.{AllByRecursion}
use Rattle.sasi_types.specs.declared.class.Class.{Class}
use Rattle.sasi_types.specs.declared.index_def.IndexDef.{IndexDef}
use Rattle.sasi_types.specs.declared.partitioner.Partitioner.{Partitioner}
use Rattle.sasi_host.specs.View.{IsSound, View}
use Rattle.sasi_model.specs.State.{Definition}
use Rattle.sasi_schema.specs.Defined.{definition}
use Rattle.sasi_manifest.proofs.Replacing.{At}
use Rattle.sasi_manifest.specs.declared.files.PartNumber.{PartNumber}
use Rattle.sasi_manifest.specs.declared.listed.ListedTable.{ListedTable}
use Rattle.sasi_manifest.specs.Edits.{numbers_at}
use Rattle.sasi_manifest.specs.ListedDefinition.{ListedDefinition}
use Rattle.sasi_manifest.specs.ListedFiles.{FitParts}
use Rattle.sasi_manifest.specs.ListedTables.{listed}
use Rattle.sasi_layout.specs.Classes.{KnowsIndexes}
use Rattle.sasi_layout.specs.Moves.{Flush}
use Rattle.sasi_layout.specs.Serving.{AreTablesReady, CanChange, IsTableReady, TableInMemory}
use Rattle.sasi_tables.specs.Held.{in_memory, unflushed_maps}
use Rattle.sasi_cells.specs.Maps.{merged}
use Rattle.sasi_memtable.specs.MemtableView.{MemtableView}
use Rattle.sasi_layout.specs.Serving.{AreStorable}
use Rattle.sasi_model.specs.Abbreviations.{types_of}
use Rattle.sasi_tables.proofs.Unflushed.{unflushed_storable}
use Rattle.sasi_recover.specs.declared.opened.Numbers.{Numbers}
use Rattle.sasi_tables.specs.Held.{HeldTable}
use Rattle.sasi_tables.specs.declared.fault.StepFault.{StepFault}
use Rattle.sasi_tables.specs.declared.fault.StepFault.TheVariants as fault
use Rattle.sasi_tables.specs.declared.parts.Parts.{Parts}
use Rattle.sasi_tables.specs.FlushDraws.{IsDrawnFor, StopsDraw}
use Rattle.sasi_tables.specs.Flushing.{AreTableIndexes, CanIndex}
use Rattle.sasi_tables.specs.MakesMoves.{MakesMoves}
use Rattle.sasi_tables.specs.TablesView.{held_in, memory_of}
use Rattle.sasi_tables.proofs.DrawnParts.{can_index, drawn_fits, layout_indexes, layout_parts}
use Rattle.sasi_tables.proofs.FlushingParts.{HasDrawn, memory_at, numbers_spent}
use Rattle.sasi_tables.proofs.IndexedTables.{known_defs}
use Rattle.sasi_tables.proofs.KnownClasses.{known_at}
use Rattle.sasi_tables.proofs.MoveCauses.{makes_nothing}
use Rattle.sasi_tables.proofs.TablesInMemory.{map_there}

-- the table in memory that stands with a definition is ready
ready_at : (p : Partitioner) (floor last at : ℕ) (ds : List Definition) (ts : List TableInMemory) (d : Definition) (t : TableInMemory) → AreTablesReady p floor last ds ts → slice_get ds at ≡ Some d → slice_get ts at ≡ Some t → IsTableReady p floor last d t
ready_at p floor last at [] ts d t ready d_is t_is = cc
ready_at p floor last at (e ∷ ds) [] d t ready d_is t_is = cc
ready_at p floor last zero (e ∷ ds) (u ∷ ts) d t ready d_is t_is =
    let same : e ≡ d = cc in
    let also : u ≡ t = cc in
    subst (λ (x : Definition). IsTableReady p floor last x t) same (subst (IsTableReady p floor last e) also ready.0)
ready_at p floor last (suc at) (e ∷ ds) (u ∷ ts) d t ready d_is t_is = ready_at p floor last at ds ts d t ready.1 d_is t_is

module _ (v : View) (p : Parts) (ready : CanChange v (memory_of p)) (number : ℕ) (some : 0 < number) (row : ListedTable) (there : slice_get p.manifest.listing.tables (number - 1) ≡ Some (listed row)) where
  -- what stops a draw stops the flush
  pub draw_stopped : {T : Type 0} → IsSound v → (f : StepFault) → StopsDraw row p.numbers f → MakesMoves {T = T} (λ l. Flush number ∷ []) v v (memory_of p) (memory_of p) (Err f)
  draw_stopped sound fault.Failed stops = absurd stops
  draw_stopped sound fault.OutOfMemory stops = makes_nothing (λ l. Flush number ∷ []) v sound (memory_of p) (memory_of p) fault.OutOfMemory tt tt tt (λ e. cc)
  draw_stopped sound (fault.Damaged damage) stops = absurd stops
  draw_stopped sound (fault.NumbersSpent kind) stops = numbers_spent v sound p number _ kind (λ l serves. layout_parts v (memory_of p) l serves number some row there) stops
  draw_stopped sound (fault.AnalyzerMissing class) stops = absurd stops

  module _ (defs : List IndexDef) (parts : List PartNumber) (next : Numbers) (is : IsDrawnFor row p.numbers defs parts next) where
    -- **What was drawn is what the flush draws.**
    pub has_drawn : HasDrawn v p number defs parts next
    has_drawn = record {
      fit = subst (FitParts (numbers_at p.manifest.listing.tables number)) (sym is.parts_are) (drawn_fits row p.numbers.part p.manifest.listing ready.consistent number there is.room);
      indexes = λ l serves. subst (λ (ds : List IndexDef). At 1 number (AreTableIndexes ds) l.tables) (sym is.defs_are) (layout_indexes v (memory_of p) l serves number some row there);
      parts_are = λ l serves. is.parts_are ∙ layout_parts v (memory_of p) l serves number some row there;
      next_is = is.next_is;
    }

    -- **Index files of them can be written of the table's maps.**
    pub drawn_can_index : (kinds : List Class) → AllByRecursion (KnowsIndexes kinds) p.schema.definitions → (t : HeldTable) → slice_get (held_in p) (number - 1) ≡ Some t → (m : MemtableView) → m.partitions ≡ merged (unflushed_maps (in_memory t)) → CanIndex kinds m.partitions defs parts
    drawn_can_index kinds known t got m whole =
        let defined : slice_get p.schema.definitions (number - 1) ≡ Some (definition row.table) =
        ap (λ (ds : List Definition). slice_get ds (number - 1)) ready.definitions ∙ map_there (λ (x : ListedDefinition). x.definition) p.manifest.listing.tables (number - 1) (listed row) there in
        let is_ready = ready_at p.manifest.listing.partitioner p.manifest.listing.floor p.manifest.listing.last (number - 1) p.schema.definitions (memory_of p).tables (definition row.table) (in_memory t) ready.tables defined (memory_at p number t got) in
        let storable = subst (AreStorable p.manifest.listing.partitioner (types_of (definition row.table))) (sym whole) (unflushed_storable p.manifest.listing.partitioner p.manifest.listing.floor p.manifest.listing.last (definition row.table) (in_memory t) is_ready) in
        let can = can_index row p.numbers.part p.manifest.listing ready.consistent number there is.room kinds p.manifest.listing.partitioner m (known_defs kinds row (known_at kinds p.schema.definitions (number - 1) (definition row.table) known defined)) storable in
        subst (λ (ds : List IndexDef). CanIndex kinds m.partitions ds parts) (sym is.defs_are) (subst (CanIndex kinds m.partitions _) (sym is.parts_are) can)
