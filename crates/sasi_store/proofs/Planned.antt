-- The plan of a SELECT over the current parts of its table: what its reader needs of the store.
use Rattle.std.proofs.Common.{◌≡◌, ◌-◌, ◌||◌, Bool, true, false, cond, nat_eq, is_some, ℕ, List, [], ◌∷◌, length, map, slice_get, Option, None, Some, unwrap_or, refl, sym, ap, subst, ◌∙◌, arith}
use Rattle.std.proofs.lemmas.Bool.{or_left, or_right}
use Rattle.std.proofs.lemmas.Bool.Decides.{nat_tests}
use Rattle.std.proofs.lemmas.List.{length-map}
use Rattle.std.specs.FinMap.{get}
use Rattle.std.specs.List.{AllByRecursion, zip}
use Rattle.std.specs.Map.{lookup}
use Rattle.sasi_types.specs.declared.column.ColumnType.{ColumnType}
use Rattle.sasi_types.specs.declared.index_def.IndexDef.{IndexDef}
use Rattle.sasi_types.specs.declared.partitioner.Partitioner.{Partitioner}
use Rattle.sasi_cells.specs.Rows.{IsStored}
use Rattle.sasi_host.specs.View.{View}
use Rattle.sasi_model.specs.Abbreviations.{Partitions, types_of}
use Rattle.sasi_model.specs.Conditions.{Condition}
use Rattle.sasi_model.specs.Indexes.{index_of}
use Rattle.sasi_model.specs.State.{Definition}
use Rattle.sasi_machine.proofs.StatementPreparing.{body_stored}
use Rattle.sasi_machine.proofs.Texts.{body_texts}
use Rattle.sasi_machine.specs.TableRows.{AreStored}
use Rattle.sasi_machine.specs.declared.prepared.Selection.{Selection}
use Rattle.sasi_manifest.specs.ListedDefinition.{ListedDefinition}
use Rattle.sasi_manifest.specs.ListedFiles.{is_among}
use Rattle.sasi_manifest.specs.ListedTables.{listed}
use Rattle.sasi_memindex.specs.Book.{Book}
use Rattle.sasi_memtable.specs.MemtableView.{MemtableView}
use Rattle.sasi_tables.specs.Held.{in_memory}
use Rattle.sasi_tables.specs.Held.{HeldTable}
use Rattle.sasi_schema.specs.Defined.{definition}
use Rattle.sasi_layout.specs.Serving.{AreStorable, CanChange, IsTableReady}
use Rattle.sasi_sources.specs.KeyCandidates.{HasKeyType}
use Rattle.sasi_views.specs.declared.part.Part as view
use Rattle.sasi_engine.specs.declared.relation.IndexedRelation.{IndexedRelation}
use Rattle.sasi_engine.specs.Asked.{Asked, asked_of}
use Rattle.sasi_engine.specs.Findable.{CanFind, HasWords}
use Rattle.sasi_engine.specs.Plans.{map_numbers}
use Rattle.sasi_scan.specs.Numbered.{views_numbered}
use Rattle.sasi_plan.specs.Plans.{IsNumbered, IsSourceOf, PlanView, number_on, relation_of}
use Rattle.sasi_plan.specs.Reading.{PendingReady}
use Rattle.sasi_plan.specs.declared.plan.PlanSource.{PlanSource}
use Rattle.sasi_plan.specs.declared.plan.PlanSource.TheVariants.{Nothing, OfKey, OfTable}
use Rattle.sasi_plan.proofs.PlanLaws.{all_numbered, relations_words}
use Rattle.sasi_store.specs.Selects.{IsPlanFor}
use Rattle.sasi_tables.specs.TablesView.{IsOfParts, held_in, memory_of}
use Rattle.sasi_tables.specs.ViewParts.{current_parts}
use Rattle.sasi_tables.specs.declared.parts.Parts.{Parts}
use Rattle.sasi_tables.proofs.FlushingParts.{memory_at, table_at}
use Rattle.sasi_tables.proofs.Putting.{has_table}
use Rattle.sasi_tables.proofs.TablesInMemory.{all_push, map_there, ready_at}
use Rattle.sasi_store.proofs.ViewWorlds.{IsIndexedBy, among_numbered, view_finds, view_memtables}

-- ---- the indexes of relations

-- the number of an index on a column is one of the numbers
number_among : (column : ℕ) (defs : List IndexDef) (n : ℕ) → number_on column defs ≡ Some n → is_among (map (λ (def : IndexDef). def.number) defs) n ≡ true
number_among column [] n is = cc
number_among column (def ∷ defs) n is = by (nat_eq def.column column) is (number_among column defs n)
  where
    by : (b : Bool) → cond b (Some def.number) (number_on column defs) ≡ Some n → (number_on column defs ≡ Some n → is_among (map (λ (d : IndexDef). d.number) defs) n ≡ true)
        → (nat_eq n def.number || is_among (map (λ (d : IndexDef). d.number) defs) n) ≡ true
    by true is later =
        let it : def.number ≡ n = cc in
        let own : nat_eq n def.number ≡ true = grind (arith, nat_tests, it) in
        or_left (nat_eq n def.number) (is_among (map (λ (d : IndexDef). d.number) defs) n) own
    by false is later = or_right (nat_eq n def.number) (is_among (map (λ (d : IndexDef). d.number) defs) n) (later is)

-- so the relations are on indexes of the table
relations_indexed : (t : ListedDefinition) (defs : List IndexDef) → t.numbers ≡ map (λ (def : IndexDef). def.number) defs → length t.numbers ≡ length t.definition.indexes → (asked : List Asked) → AllByRecursion (IsNumbered defs) asked
    → AllByRecursion (IsIndexedBy t) (map (relation_of defs) asked)
relations_indexed t defs are counted [] all = tt
relations_indexed t defs are counted (a ∷ asked) all = (one, relations_indexed t defs are counted asked all.1)
  where
    one : is_some (lookup (nat_eq (unwrap_or (number_on a.index.column defs) 0)) (zip t.numbers t.definition.indexes)) ≡ true
    one =
        subst (λ (o : Option ℕ). is_some (lookup (nat_eq (unwrap_or o 0)) (zip t.numbers t.definition.indexes)) ≡ true) (sym all.0.1)
        (among_numbered all.0.0 t.numbers t.definition.indexes counted (subst (λ (ns : List ℕ). is_among ns all.0.0 ≡ true) (sym are) (number_among a.index.column defs all.0.0 all.0.1)))

-- ---- a source

ready_by : (p : Partitioner) (defs : List IndexDef) (conditions : List Condition) (listed : List view.Part) (book : Book) → AllByRecursion HasWords (map (relation_of defs) (asked_of conditions))
    → AllByRecursion (CanFind book (map (relation_of defs) (asked_of conditions))) listed → (source : PlanSource) → IsSourceOf p defs conditions source → PendingReady source listed book
ready_by p defs conditions listed book words found Nothing is = tt
ready_by p defs conditions listed book words found (OfKey key relations) is = (subst (AllByRecursion HasWords) (sym is.3) words, subst (λ (rs : List IndexedRelation). AllByRecursion (CanFind book rs) listed) (sym is.3) found)
ready_by p defs conditions listed book words found (OfTable relations) is = (subst (AllByRecursion HasWords) (sym is.1) words, subst (λ (rs : List IndexedRelation). AllByRecursion (CanFind book rs) listed) (sym is.1) found)

some_there : {A : Type 0} (o : Option A) → is_some o ≡ true → (x : A) × (o ≡ Some x)
some_there None some = cc
some_there (Some x) some = (x, refl)

-- ---- the plan

module _ (v : View) (p : Parts) (of : IsOfParts p) (ready : CanChange v (memory_of p)) (rows : Selection) (plan : PlanView) (is : IsPlanFor p rows plan) where
  abbrev at : ℕ
  at = rows.table - 1

  abbrev d : Definition
  d = definition is.row.table

  abbrev defs : List IndexDef
  defs = is.row.table.indexes

  abbrev asked : List Asked
  asked = asked_of plan.conditions

  defined : slice_get (memory_of p).definitions at ≡ Some d
  defined = ap (λ (ds : List Definition). slice_get ds at) ready.definitions ∙ map_there (λ (t : ListedDefinition). t.definition) p.manifest.listing.tables at (listed is.row) is.there

  held : (t : HeldTable) × (slice_get (held_in p) at ≡ Some t)
  held = table_at p rows.table (has_table v p rows.table d ready is.some defined)

  -- **What the reader gives can be printed.**
  pub plan_prints : HasKeyType plan.types (views_numbered p.maps (map_numbers (current_parts p rows.table))) plan.picked.key
  plan_prints = record {
    first = ap (λ (ts : List ColumnType). slice_get ts 0) is.types ∙ ap Some (sym is.key);
    stored = subst (AllByRecursion (λ (m : MemtableView). AreStored plan.picked.key m.partitions)) (sym (view_memtables p of rows.table held.0 held.1))
        (all_push (λ (m : MemtableView). AreStored plan.picked.key m.partitions) held.0.frozen held.0.memtable (each held.0.frozen is_ready.frozen) (of_map held.0.memtable.partitions is_ready.memtable));
  }
    where
      is_ready : IsTableReady p.manifest.listing.partitioner p.manifest.listing.floor p.manifest.listing.last d (in_memory held.0)
      is_ready =
          let l = p.manifest.listing in
          ready_at l.partitioner l.floor l.last at (memory_of p).definitions (memory_of p).tables d (in_memory held.0) ready.tables defined (memory_at p rows.table held.0 held.1)

      of_map : (m : Partitions) → AreStorable p.manifest.listing.partitioner (types_of d) m → AreStored plan.picked.key m
      of_map m storable = record {
        keys = λ key some.
            let part = some_there (get m key) some in
            subst (λ (k : ColumnType). IsStored k key.key) (sym is.key) (body_stored d key.key part.0 (storable key part.0 part.1).body);
        texts = λ key part there. body_texts (types_of d) key.key part (storable key part there).body;
      }

      each : (ms : List MemtableView) → AllByRecursion (AreStorable p.manifest.listing.partitioner (types_of d)) (map (λ (m : MemtableView). m.partitions) ms) → AllByRecursion (λ (m : MemtableView). AreStored plan.picked.key m.partitions) ms
      each [] all = tt
      each (m ∷ ms) all = (of_map m.partitions all.0, each ms all.1)

  -- **Its relations can be found in the current parts.**
  pub plan_ready : PendingReady plan.source (current_parts p rows.table) p.maps
  plan_ready = ready_by p.manifest.listing.partitioner defs plan.conditions (current_parts p rows.table) p.maps (relations_words defs d asked is.asked) found plan.source is.source
    where
      found : AllByRecursion (CanFind p.maps (map (relation_of defs) asked)) (current_parts p rows.table)
      found =
          view_finds p of rows.table (listed is.row) is.there (map (relation_of defs) asked)
          (relations_indexed (listed is.row) defs refl (omega (arith, length-map defs (λ (def : IndexDef). def.number), length-map defs index_of)) asked (all_numbered d defs asked refl is.asked))
