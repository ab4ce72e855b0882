-- What a prepared piece may be made of, whatever state the store has.
use Rattle.std.proofs.Common.{◌≡◌, ◌-◌, ◌^◌, ◌<◌, ◌≤◌, ℕ, zero, suc, List, [], ◌∷◌, length, map, slice_get, Option, None, Some, refl, sym, ap, subst, ◌∙◌, arith}
use Rattle.std.specs.Prelude.{max}
use Rattle.std.proofs.Common.{nat_cmp}
use Rattle.sasi_types.specs.DecoratedKey.{decorated_cmp}
use Rattle.sasi_types.specs.declared.cell.Cell.{Cell}
use Rattle.sasi_types.specs.declared.decorated_key.DecoratedKey.{DecoratedKey}
use Rattle.std.proofs.lemmas.List.{length-map}
use Rattle.std.specs.FinMap as map_
use Rattle.std.specs.FinMap.{FinMap}
use Rattle.std.specs.Map.{lookup}
use Rattle.std.specs.List.{AllByRecursion}
use Rattle.std.specs.Option.{option_map_or}
use Rattle.sasi_cells.specs.Mutations.{state_with_mutation}
use Rattle.sasi_cells.specs.declared.mutation.Mutation.{Mutation}
use Rattle.sasi_folder.proofs.Creating.{can_create}
use Rattle.sasi_folder.proofs.Defining.{can_define, numbers_above}
use Rattle.sasi_host.specs.View.{View}
use Rattle.sasi_layout.specs.NumbersInOrder.{HasIndexesNumbered}
use Rattle.sasi_layout.specs.Serving.{CanChange, known_in_memory}
use Rattle.sasi_machine.proofs.KnownStates.{definitions_are, knows}
use Rattle.sasi_machine.proofs.CursorTurns.{opens_from}
use Rattle.sasi_machine.specs.Prepares.{CreatesTable, DefinesIndex, HasRows, HasTable, IsApplicable, IsQuery, IsSelect, IsStateOf, IsTimeless, OpensCursor, Prepares, SaysOne, asked_by}
use Rattle.sasi_machine.specs.declared.prepared.OpenAsked.{OpenAsked}
use Rattle.sasi_machine.specs.declared.prepared.Prepared.{Prepared}
use Rattle.sasi_machine.specs.declared.prepared.Prepared.TheVariants.{Create, Define, Write as Writes}
use Rattle.sasi_machine.specs.declared.prepared.Selection.{Selection}
use Rattle.sasi_manifest.specs.Edits.{Applies}
use Rattle.sasi_manifest.specs.declared.edit.Edit.TheVariants as edits
use Rattle.sasi_manifest.specs.declared.listing.Listing.{Listing}
use Rattle.sasi_manifest.specs.ListedDefinition.{ListedDefinition}
use Rattle.sasi_manifest.specs.Listings.{index_edit}
use Rattle.sasi_model.specs.Abbreviations.{definitions, kind_of, max_timestamp_of_tables}
use Rattle.sasi_model.specs.Asked as ask
use Rattle.sasi_model.specs.Asked.{asks, parsed_asks, statement_asks}
use Rattle.sasi_model.specs.Cells.{Partition, largest, max_timestamp_of}
use Rattle.sasi_model.specs.Changes.{empty_table}
use Rattle.sasi_model.specs.Pieces.{Piece}
use Rattle.sasi_model.specs.Refusals.{Bad, Known, Nothing, ParsedPiece, Refusal, Says, read, rules}
use Rattle.sasi_model.specs.State as model
use Rattle.sasi_model.specs.State.{Definition, State, definition_of, max_timestamp}
use Rattle.sasi_model.specs.Step.{primary_key}
use Rattle.sasi_model.specs.Stored.{IsBodyOf}
use Rattle.sasi_model.specs.WellFormed.{IsWellFormed}
use Rattle.sasi_tables.specs.Held.{in_memory}
use Rattle.sasi_schema.proofs.Indexed.{number_within}
use Rattle.sasi_schema.proofs.Keys.{types_are}
use Rattle.sasi_schema.proofs.NewIndexes.{stands_at_number}
use Rattle.sasi_schema.specs.Defined.{definition}
use Rattle.sasi_schema.specs.IndexFacts.{IsIndexIn}
use Rattle.sasi_schema.specs.SchemaViews.{numbered_def}
use Rattle.sasi_schema.specs.declared.index.NewIndex.{NewIndex}
use Rattle.sasi_schema.specs.declared.table.Table.{Table}
use Rattle.sasi_types.specs.declared.column.ColumnType.{ColumnType}
use Rattle.sasi_types.specs.declared.partitioner.Partitioner.{Partitioner}
use Rattle.sasi_types.specs.declared.statement.Statement.{Statement}
use Rattle.sasi_types.specs.declared.statement.Statement.TheVariants.{CreateIndex, CreateTable}
use Rattle.sasi_tables.specs.Puts.{HasTableFor}
use Rattle.sasi_store.specs.CursorCalls.{CanOpenOn}
use Rattle.sasi_store.specs.Selects.{IsSelectable}
use Rattle.sasi_tables.specs.TablesView.{held_in, memory_of}
use Rattle.sasi_tables.specs.Writable.{IsCreatable, IsDefinable, IsWritableMutation}
use Rattle.sasi_tables.specs.declared.parts.Parts.{Parts}
use Rattle.sasi_machine.proofs.StatementPreparing.{empty_definitions}
use Rattle.sasi_tables.proofs.TablesInMemory.{as_many, map_there}
use Rattle.sasi_tables.proofs.Timestamps.{put_timestamp}

numbers_within : (high : ℕ) (ts : List ListedDefinition) → AllByRecursion (HasIndexesNumbered high) ts → AllByRecursion (λ (t : ListedDefinition). AllByRecursion (λ (n : ℕ). n ≤ high) t.numbers) ts
numbers_within high [] all = tt
numbers_within high (t ∷ ts) all = (all.0.within, numbers_within high ts all.1)

module _ (v : View) (p : Parts) (ready : CanChange v (memory_of p)) where
  abbrev listing : Listing
  listing = p.manifest.listing

  -- the state of empty tables
  abbrev pub blank : State
  blank = record { partitioner = listing.partitioner; tables = map empty_table p.schema.definitions }

  pub blank_definitions : definitions blank.tables ≡ p.schema.definitions
  blank_definitions = empty_definitions p.schema.definitions

  counted : length p.schema.definitions ≡ length listing.tables
  counted = ap length ready.definitions ∙ length-map listing.tables (λ (t : ListedDefinition). t.definition)

  create_applies : (t : Table) (statement : Statement) → IsWellFormed statement → CreatesTable blank statement t → Applies (Some listing) (edits.CreateTable t.number t.name t.columns t.key listing.last)
  create_applies t (CreateTable table columns keys) in_order creates =
      let all = can_create listing blank table columns keys ready.consistent (blank_definitions ∙ ready.definitions) in_order creates.0 in
      let size : length (map empty_table p.schema.definitions) ≡ length p.schema.definitions = length-map p.schema.definitions empty_table in
      let number : suc (length listing.tables) ≡ t.number = omega (arith, creates.2, counted, size) in
      let is = sym creates.1 in
      subst (λ (n : ℕ). Applies (Some listing) (edits.CreateTable n t.name t.columns t.key listing.last)) number
      (subst (λ (d : Definition). Applies (Some listing) (edits.CreateTable (suc (length listing.tables)) d.name d.columns d.key listing.last)) is all)
  create_applies t statement in_order creates = absurd creates

  -- a new table has no index
  created_unindexed : (t : Table) (statement : Statement) → CreatesTable blank statement t → (definition t).indexes ≡ []
  created_unindexed t (CreateTable table columns keys) creates = ap (λ (d : Definition). d.indexes) creates.1
  created_unindexed t statement creates = absurd creates

  pub creatable : (t : Table) (piece : Piece) (reply : List ℕ) → Prepares blank piece reply (Create t) → IsCreatable (memory_of p) t
  creatable t piece reply prepared =
      let size : length (map empty_table p.schema.definitions) ≡ length p.schema.definitions = length-map p.schema.definitions empty_table in
      let number = prepared.2.number in
      record {
        number = omega (arith, number, size);
        free = subst (λ (ds : List Definition). definition_of t.name ds ≡ None) blank_definitions prepared.2.free;
        unindexed = created_unindexed t prepared.1.0 prepared.1.3;
        applies = create_applies t prepared.1.0 prepared.1.2 prepared.1.3;
      }

  pub new_unindexed : (t : Table) (piece : Piece) (reply : List ℕ) → Prepares blank piece reply (Create t) → (definition t).indexes ≡ []
  new_unindexed t piece reply prepared = created_unindexed t prepared.1.0 prepared.1.3

  define_applies : (new : NewIndex) (statement : Statement) → new.table < 2 ^ 32 → new.column < 2 ^ 16 → IsWellFormed statement → DefinesIndex blank statement new → (number : ℕ) → p.numbers.index < number → number < 2 ^ 32 → Applies (Some listing) (index_edit (numbered_def number new))
  define_applies new (CreateIndex name table column class options stepped) table_small column_small in_order defines number above fits =
      can_define listing blank name table column class options stepped new number (blank_definitions ∙ ready.definitions) in_order defines.0 defines.1 table_small column_small (omega (arith, above)) fits
      (numbers_above p.numbers.index number listing.tables (numbers_within p.numbers.index listing.tables ready.numbered.indexes) above)
  define_applies new statement table_small column_small in_order defines number above fits = absurd defines

  defined_on : (new : NewIndex) (statement : Statement) → DefinesIndex blank statement new → (d : Definition) × (slice_get p.schema.definitions (new.table - 1) ≡ Some d) × (new.kind ≡ kind_of d new.column) × (0 < new.table)
  defined_on new (CreateIndex name table column class options stepped) defines =
      let is = defines.1 in
      let there = stands_at_number table (definitions blank.tables) is.definition new.table is.found is.number in
      (is.definition, subst (λ (ds : List Definition). slice_get ds (new.table - 1) ≡ Some is.definition) blank_definitions there, is.kind, (number_within table (definitions blank.tables) new.table is.number).0)
  defined_on new statement defines = absurd defines

  pub definable : (new : NewIndex) (piece : Piece) (reply : List ℕ) → new.table < 2 ^ 32 → new.column < 2 ^ 16 → Prepares blank piece reply (Define new) → IsDefinable (memory_of p) new
  definable new piece reply table_small column_small prepared =
      let on = defined_on new prepared.1.0 prepared.1.3 in
      record {
        some = omega (arith, on.3);
        definition = on.0;
        there = on.1;
        kind = on.2;
        fits = λ number. subst (λ (ds : List Definition). IsIndexIn ds (numbered_def number new)) blank_definitions (prepared.2 number);
        applies = define_applies new prepared.1.0 table_small column_small prepared.1.2 prepared.1.3;
      }

  pub has_table_for : (number : ℕ) → HasTable blank number → HasTableFor number (held_in p)
  has_table_for number has =
      let size : length (map empty_table p.schema.definitions) ≡ length p.schema.definitions = length-map p.schema.definitions empty_table in
      let count = as_many listing.partitioner listing.floor listing.last p.schema.definitions (map in_memory (held_in p)) ready.tables in
      let maps : length (map in_memory (held_in p)) ≡ length (held_in p) = length-map (held_in p) in_memory in
      record { some = has.some; inside = omega (arith, has.inside, size, count, maps) }

  pub selectable : (rows : Selection) → HasRows blank rows → IsSelectable (memory_of p) rows
  selectable rows has = record {
    some = has.some;
    definition = has.table.definition;
    there = ap (λ (ds : List Definition). slice_get ds (rows.table - 1)) (sym blank_definitions) ∙ map_there (λ (t : model.Table). t.definition) blank.tables (rows.table - 1) has.table has.there;
    can = has.can;
  }

  -- **A cursor that is prepared can be opened**, unless a rule of cursors refuses it.
  pub openable : (asked : OpenAsked) (piece : Piece) → SaysOne piece (λ statement. OpensCursor blank statement asked) → CanOpenOn (memory_of p) asked.rows
  openable asked piece says =
      let opens = opens_from blank piece asked says in
      record {
        some = opens.some;
        definition = opens.table.definition;
        there = ap (λ (ds : List Definition). slice_get ds (asked.rows.table - 1)) (sym blank_definitions) ∙ map_there (λ (t : model.Table). t.definition) blank.tables (asked.rows.table - 1) opens.table opens.there;
        can = opens.can;
      }

-- ---- a write

none_of : {A : Type 0} (xs : List A) → length xs ≡ 0 → xs ≡ []
none_of [] e = refl
none_of (x ∷ xs) e = absurd (omega (arith, e))

no_time : (d : Definition) → largest (map max_timestamp_of (map_.values (empty_table d).partitions)) ≡ 0
no_time d =
    let none = none_of (map_.entries (empty_table d).partitions) (sym (map_.len-entries (empty_table d).partitions) ∙ map_.len-empty decorated_cmp Partition) in
    ap (λ (es : List (DecoratedKey × Partition)). largest (map max_timestamp_of (map (λ e. e.1) es))) none

abbrev no_cells : FinMap nat_cmp Cell
no_cells = map_.empty

no_cell : (time : ℕ) → max_timestamp_of (record { deleted = time; cells = no_cells }) ≡ max time 0
no_cell time =
    let none = none_of (map_.entries no_cells) (sym (map_.len-entries no_cells) ∙ map_.len-empty nat_cmp Cell) in
    ap (λ (es : List (ℕ × Cell)). max time (largest (map (λ (cell : Cell). cell.time) (map (λ e. e.1) es)))) none

-- empty tables have no timestamps
blank_times : (ds : List Definition) → max_timestamp_of_tables (map empty_table ds) ≡ 0
blank_times [] = refl
blank_times (d ∷ ds) = omega (arith, no_time d, blank_times ds)

-- a deletion with this timestamp
abbrev deletion : ℕ → Mutation
deletion time = record { table = suc zero; key = []; change = record { deleted = time; cells = map_.empty } }

pub blank_time : (q : Partitioner) (ds : List Definition) → max_timestamp (record { partitioner = q; tables = map empty_table ds }) ≡ 0
unfolding max_timestamp
blank_time q ds = blank_times ds

-- where there is a table, there is a state with this largest timestamp
pub timed : (q : Partitioner) (d : Definition) (ds : List Definition) (time : ℕ) → IsStateOf (record { tables = d ∷ ds; max_timestamp = time }) (state_with_mutation (record { partitioner = q; tables = map empty_table (d ∷ ds) }) (deletion time))
timed q d ds time =
    let s : State = record { partitioner = q; tables = map empty_table (d ∷ ds) } in
    let here : slice_get s.tables (suc zero - 1) ≡ Some (empty_table d) = refl in
    let put = put_timestamp s (deletion time) (empty_table d) (omega arith) here in
    knows (record { tables = d ∷ ds; max_timestamp = time }) (state_with_mutation s (deletion time))
    (ap (λ (l : List Definition). d ∷ l) (empty_definitions ds))
    (omega (arith, put, no_cell time, blank_time q (d ∷ ds)))

-- and where there is none, nothing is written
-- no table is known
abbrev none_known : ℕ → Known
none_known time = record { tables = []; max_timestamp = time }

none_asked : (time : ℕ) (statement : Statement) (n : ℕ) (key : List ℕ) (change : Partition) → statement_asks (none_known time) statement ≡ ask.Writes n key change → ⊥
none_asked time (CreateTable table columns keys) n key change is = by (primary_key columns keys) is
  where
    by : (o : Option ℕ) → option_map_or (λ k. ask.Creates (record { name = table; columns = columns; key = k; indexes = [] })) o ask.NoChange ≡ ask.Writes n key change → ⊥
    by None is = cc
    by (Some k) is = cc
none_asked time statement n key change is = cc

none_written : (time : ℕ) (parsed : ParsedPiece) (n : ℕ) (key : List ℕ) (change : Partition) → parsed_asks (none_known time) parsed ≡ ask.Writes n key change → ⊥
none_written time Nothing n key change is = cc
none_written time (Bad r) n key change is = cc
none_written time (Says statement) n key change is = by (lookup (λ applies. applies) (rules (none_known time) statement)) is
  where
    by : (o : Option Refusal) → option_map_or (λ r. ask.NoChange) o (statement_asks (none_known time) statement) ≡ ask.Writes n key change → ⊥
    by None is = none_asked time statement n key change is
    by (Some r) is = cc

module _ (v : View) (p : Parts) (ready : CanChange v (memory_of p)) where
  writable_in : (s : State) → definitions s.tables ≡ p.schema.definitions → (w : Mutation) → w.table < 2 ^ 32 → IsApplicable s w → IsWritableMutation (memory_of p) w
  writable_in s are w small fits = record {
    some = fits.some;
    small = small;
    definition = fits.table.definition;
    there = ap (λ (ds : List Definition). slice_get ds (w.table - 1)) (sym are) ∙ map_there (λ (t : model.Table). t.definition) s.tables (w.table - 1) fits.table fits.there;
    body = subst (λ (ts : List ColumnType). IsBodyOf ts w.key w.change) (sym (types_are fits.table.definition fits.types fits.types_are)) fits.body;
  }

  -- **A mutation that is prepared can be written.**
  pub writable : (w : Mutation) (piece : Piece) (reply : List ℕ) → w.table < 2 ^ 32 → asks (known_in_memory (memory_of p)) piece ≡ ask.Writes w.table w.key w.change → ((s : State) → IsStateOf (known_in_memory (memory_of p)) s → Prepares s piece reply (Writes w)) → IsWritableMutation (memory_of p) w
  writable w piece reply small asked prepared = by p.schema.definitions refl
    where
      by : (ds : List Definition) → p.schema.definitions ≡ ds → IsWritableMutation (memory_of p) w
      by [] none = absurd (none_written p.max_timestamp (read piece) w.table w.key w.change (ap (λ (ds : List Definition). asks (record { tables = ds; max_timestamp = p.max_timestamp }) piece) (sym none) ∙ asked))
      by (d ∷ ds) some =
          let s : State = state_with_mutation (record { partitioner = p.manifest.listing.partitioner; tables = map empty_table (d ∷ ds) }) (deletion p.max_timestamp) in
          let of : IsStateOf (known_in_memory (memory_of p)) s = subst (λ (l : List Definition). IsStateOf (record { tables = l; max_timestamp = p.max_timestamp }) s) (sym some) (timed p.manifest.listing.partitioner d ds p.max_timestamp) in
          writable_in s (definitions_are (known_in_memory (memory_of p)) s of) w small (prepared s of).2

-- ---- what a piece prepared

pub record HasPrepared (p : Parts) (piece : Piece) (reply : List ℕ) (prepared : Prepared) : Type 0 where
  pub asked : asks (known_in_memory (memory_of p)) piece ≡ asked_by prepared
  pub prepares : (s : State) → IsStateOf (known_in_memory (memory_of p)) s → Prepares s piece reply prepared
  pub timeless : IsTimeless prepared → (s : State) → definitions s.tables ≡ p.schema.definitions → Prepares s piece reply prepared
  pub selects : IsSelect prepared → IsQuery (read piece)
