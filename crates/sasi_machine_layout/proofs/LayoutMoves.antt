-- The moves of a layout that is held in memory.
use Rattle.std.proofs.Common.{◌≡◌, ◌+◌, ◌-◌, ◌<◌, ℕ, zero, suc, List, [], ◌∷◌, ◌++◌, length, map, set, slice_get, Option, None, Some, refl, sym, ap, ◌∙◌, arith}
use Rattle.std.specs.Prelude.{max}
use Rattle.std.specs.FinMap as map_
use Rattle.std.specs.Option.{option_map_or}
use Rattle.std.proofs.lemmas.List.{map-append}
use Rattle.sasi_types.specs.declared.decorated_key.DecoratedKey.{DecoratedKey}
use Rattle.sasi_types.specs.declared.index_def.IndexDef.{IndexDef}
use Rattle.sasi_types.specs.declared.partitioner.Partitioner.{Partitioner}
use Rattle.sasi_cells.specs.Maps.{put}
use Rattle.sasi_cells.specs.Mutations.{state_with_mutation}
use Rattle.sasi_cells.specs.declared.mutation.Mutation.{Mutation}
use Rattle.sasi_memtable.specs.MemtableView.{MemtableView, empty_memtable}
use Rattle.sasi_manifest.specs.Edits.{encoded}
use Rattle.sasi_manifest.specs.Listings.{index_edit}
use Rattle.sasi_manifest.specs.declared.edit.Edit.{Edit}
use Rattle.sasi_manifest.specs.declared.edit.Edit.TheVariants.{CreateTable}
use Rattle.sasi_layout.specs.Layout.{File, TableParts, numbered}
use Rattle.sasi_layout.specs.Moves.{after_create, after_define, after_flush, after_put, create_edits, define_edits, define_table, flush_table, flushed_file, index_def, new_listed_file, new_parts, parts_drawn, put_table}
use Rattle.sasi_layout.proofs.Parts.{parts_of_table}
use Rattle.sasi_machine.proofs.DefinedIndexes.{times_indexed}
use Rattle.sasi_machine.proofs.MaxTimestamps.{max_timestamp_push, max_timestamp_put, nothing_held}
use Rattle.sasi_model.specs.Abbreviations.{max_timestamp_of_tables}
use Rattle.sasi_model.specs.Cells.{Partition, max_timestamp_of}
use Rattle.sasi_model.specs.Changes.{at_number, changed_behind, changed_tables, empty_table, state_with_index, with_new_table}
use Rattle.sasi_model.specs.State.{Definition, Index, State, Table as ModelTable, decorated, max_timestamp, with_index}
use Rattle.sasi_schema.specs.Defined.{definition, numbers_of}
use Rattle.sasi_schema.specs.IndexFacts.{IsIndexIn}
use Rattle.sasi_schema.specs.SchemaViews.{index_of_new, numbered_def}
use Rattle.sasi_schema.specs.declared.index.NewIndex.{NewIndex}
use Rattle.sasi_schema.specs.declared.table.Table.{Table}
use Rattle.sasi_machine_layout.specs.Contents.{IsContents, IsKept, file_of, layout_of, table_with, tables_of}
use Rattle.sasi_machine_layout.specs.Draws.{IsDrawn, IsStored}
use Rattle.sasi_machine_layout.specs.Steps.{IsPut}
use Rattle.sasi_machine_layout.specs.declared.contents.Contents.{Contents}
use Rattle.sasi_machine_layout.specs.declared.contents.TableContents.{TableContents}
use Rattle.sasi_machine_layout.specs.declared.flush.Drawn.{Drawn}
use Rattle.sasi_machine_layout.proofs.KeptMaps.{one_map}
use Rattle.sasi_machine_layout.proofs.TableLists.{defined_at, has_at, numbered_at, parts_as_many, push_table, set_at}

some_same : {A : Type 0} (x y : A) → Some x ≡ Some y → x ≡ y
some_same x y e = cc

-- ---- a put

put_same : (p : Partitioner) (last : ℕ) (w : Mutation) (t new : TableContents) (d : Definition) (n : List ℕ) → t.memtable.partitioner ≡ p → IsPut last w t new → put_table p last w (table_with d n t) ≡ table_with d n new
put_same p last w t new d n under is =
    let held : new.memtable.partitions ≡ put t.memtable.partitions (decorated p w.key) w.change =
    ap (λ (m : MemtableView). m.partitions) is.memtable_is ∙ ap (λ (q : Partitioner). put t.memtable.partitions (decorated q w.key) w.change) under in
    let same : table_with d n new ≡ put_table p last w (table_with d n t) =
    λ i. record { definition = d; numbers = n; since = is.since_is i; first = is.first_is i; files = map file_of (is.files_are i).items; frozen = []; memtable = held i } in
    sym same

pub put_layout : (c : Contents) (w : Mutation) (items : List TableContents) (t new : TableContents) → IsContents c → 0 < w.table → slice_get c.tables.items (w.table - 1) ≡ Some t → t.memtable.partitioner ≡ c.partitioner → IsPut c.last w t new
    → items ≡ set c.tables.items (w.table - 1) new → record (layout_of c) { tables = tables_of c.schema.definitions c.schema.numbers items } ≡ after_put w (layout_of c)
put_layout c w items t new good some there under is items_are =
    let ds = c.schema.definitions in
    let ns = c.schema.numbers in
    ap (λ (ts : List TableParts). record (layout_of c) { tables = ts }) (
    ap (tables_of ds ns) items_are
    ∙ set_at (put_table c.partitioner c.last w) ds ns c.tables.items 1 (w.table - 1) w.table t new good.held there (omega (arith, some)) (λ d n _ _. put_same c.partitioner c.last w t new d n under is))

-- ---- a flush

flush_same : (c : Contents) (table : ℕ) (drawn : Drawn) (t new : TableContents) (empty : MemtableView) (d : Definition) (n : List ℕ) → IsKept t.memtable.partitions → drawn.listed ≡ new_listed_file (suc c.«data») (parts_drawn c.part (table_with d n t)) → drawn.last ≡ suc c.last
    → empty ≡ empty_memtable c.partitioner → IsStored t drawn.listed drawn.last empty new → flush_table (suc c.«data») c.part (suc c.last) (table_with d n t) ≡ table_with d n new
flush_same c table drawn t new empty d n kept listed last none is =
    let file : File = flushed_file (suc c.«data») c.part (table_with d n t) in
    let one : file_of (record { listed = drawn.listed; holds = t.memtable }) ≡ file = λ i. record { listed = listed i; holds = sym (one_map t.memtable.partitions kept) i } in
    let files : map file_of new.files.items ≡ map file_of t.files.items ++ file ∷ [] =
    ap (map file_of) is.files_are
    ∙ map-append file_of t.files.items (record { listed = drawn.listed; holds = t.memtable } ∷ [])
    ∙ ap (λ (f : File). map file_of t.files.items ++ f ∷ []) one in
    let memtable : new.memtable.partitions ≡ map_.empty = ap (λ (m : MemtableView). m.partitions) (is.memtable_is ∙ none) in
    let same : table_with d n new ≡ flush_table (suc c.«data») c.part (suc c.last) (table_with d n t) =
    λ i. record { definition = d; numbers = n; since = (is.since_is ∙ last) i; first = is.first_is i; files = files i; frozen = []; memtable = memtable i } in
    sym same

flush_tables : (c : Contents) (table : ℕ) (drawn : Drawn) (items : List TableContents) (t new : TableContents) (empty : MemtableView) → IsContents c → 0 < table → slice_get c.tables.items (table - 1) ≡ Some t → IsKept t.memtable.partitions
    → IsDrawn table (layout_of c) drawn → empty ≡ empty_memtable c.partitioner → IsStored t drawn.listed drawn.last empty new → items ≡ set c.tables.items (table - 1) new
    → tables_of c.schema.definitions c.schema.numbers items ≡ (after_flush table (layout_of c)).tables
flush_tables c table drawn items t new empty good some there kept is none stored items_are =
    let ds = c.schema.definitions in
    let ns = c.schema.numbers in
    let l = layout_of c in
    let has = has_at ds ns c.tables.items (table - 1) t good.held there in
    let named : numbered 1 table l.tables ≡ Some (table_with has.definition has.numbers t) = numbered_at 1 (table - 1) table l.tables (table_with has.definition has.numbers t) (omega (arith, some)) has.there in
    let parts : drawn.listed ≡ new_listed_file (suc c.«data») (parts_drawn c.part (table_with has.definition has.numbers t)) =
    is.listed_is ∙ ap (new_listed_file (suc c.«data»)) (parts_of_table table l (table_with has.definition has.numbers t) named) in
    ap (tables_of ds ns) items_are
    ∙ set_at (flush_table (suc c.«data») c.part (suc c.last)) ds ns c.tables.items 1 (table - 1) table t new good.held there (omega (arith, some))
    (λ d n defined numbers.
    let d_is : has.definition ≡ d = some_same has.definition d (sym has.defined ∙ defined) in
    let n_is : has.numbers ≡ n = some_same has.numbers n (sym has.numbered ∙ numbers) in
    flush_same c table drawn t new empty d n kept
    (parts ∙ ap (λ (e : Definition). new_listed_file (suc c.«data») (parts_drawn c.part (table_with e has.numbers t))) d_is ∙ ap (λ (m : List ℕ). new_listed_file (suc c.«data») (parts_drawn c.part (table_with d m t))) n_is)
    is.last_is none stored)

pub flush_layout : (c : Contents) (table : ℕ) (drawn : Drawn) (items : List TableContents) (t new : TableContents) (empty : MemtableView) → IsContents c → 0 < table → slice_get c.tables.items (table - 1) ≡ Some t → IsKept t.memtable.partitions
    → IsDrawn table (layout_of c) drawn → empty ≡ empty_memtable c.partitioner → IsStored t drawn.listed drawn.last empty new → items ≡ set c.tables.items (table - 1) new
    → record (layout_of c) {
      floor = drawn.floor;
      last = drawn.last;
      records = drawn.records;
      length = drawn.length;
      tables = tables_of c.schema.definitions c.schema.numbers items;
      used = record { manifest = c.manifest; log = drawn.last; «data» = drawn.listed.number; index = c.schema.last; part = drawn.part };
    } ≡ after_flush table (layout_of c)
flush_layout c table drawn items t new empty good some there kept is none stored items_are =
    let tables = flush_tables c table drawn items t new empty good some there kept is none stored items_are in
    λ i. record {
      partitioner = c.partitioner;
      floor = is.floor_is i;
      last = is.last_is i;
      records = is.records_are i;
      length = is.length_is i;
      tables = tables i;
      used = record { manifest = c.manifest; log = is.last_is i; «data» = (is.listed_is i).number; index = c.schema.last; part = is.part_is i };
    }

-- ---- a table

pub create_layout : (c : Contents) (t : Table) (items : List TableContents) (new : TableContents) (records long : ℕ) (edits : List Edit) → IsContents c → t.number ≡ length c.schema.definitions + 1 → t.indexes ≡ []
    → edits ≡ CreateTable t.number t.name t.columns t.key c.last ∷ [] → records ≡ c.records + 1 → long ≡ c.length + (5 + length (encoded edits))
    → new.since ≡ c.last → new.first ≡ None → new.files.items ≡ [] → new.memtable ≡ empty_memtable c.partitioner → items ≡ c.tables.items ++ new ∷ []
    → record (layout_of c) { records = records; length = long; tables = tables_of (c.schema.definitions ++ definition t ∷ []) (c.schema.numbers ++ numbers_of t ∷ []) items } ≡ after_create (definition t) (layout_of c)
create_layout c t items new records long edits good number plain edits_are records_are long_is since first files memtable items_are =
    let ds = c.schema.definitions in
    let ns = c.schema.numbers in
    let l = layout_of c in
    let d = definition t in
    let next : t.number ≡ suc (length l.tables) = omega (arith, number, parts_as_many ds ns c.tables.items good.held) in
    let listed : edits ≡ create_edits d l = edits_are ∙ ap (λ (n : ℕ). CreateTable n t.name t.columns t.key c.last ∷ []) next in
    let numbers : numbers_of t ≡ [] = ap (map (λ (def : IndexDef). def.number)) plain in
    let empty : new.memtable.partitions ≡ map_.empty = ap (λ (m : MemtableView). m.partitions) memtable in
    let one : table_with d (numbers_of t) new ≡ new_parts d c.last =
    λ i. record { definition = d; numbers = numbers i; since = since i; first = first i; files = map file_of (files i); frozen = []; memtable = empty i } in
    let tables : tables_of (ds ++ d ∷ []) (ns ++ numbers_of t ∷ []) items ≡ l.tables ++ new_parts d c.last ∷ [] =
    ap (tables_of (ds ++ d ∷ []) (ns ++ numbers_of t ∷ [])) items_are
    ∙ push_table ds ns c.tables.items d (numbers_of t) new good.held
    ∙ ap (λ (p : TableParts). l.tables ++ p ∷ []) one in
    λ i. record (layout_of c) { records = records_are i; length = (long_is ∙ ap (λ (es : List Edit). c.length + (5 + length (encoded es))) listed) i; tables = tables i }

-- ---- an index

pub define_layout : (c : Contents) (new : NewIndex) (t : TableContents) (records long : ℕ) (edits : List Edit) → IsContents c → IsIndexIn c.schema.definitions (numbered_def (suc c.schema.last) new) → slice_get c.tables.items (new.table - 1) ≡ Some t
    → edits ≡ index_edit (numbered_def (suc c.schema.last) new) ∷ [] → records ≡ c.records + 1 → long ≡ c.length + (5 + length (encoded edits))
    → record (layout_of c) {
      records = records;
      length = long;
      tables = tables_of (at_number 1 new.table (with_index (index_of_new new)) c.schema.definitions) (at_number 1 new.table (λ (numbers : List ℕ). numbers ++ suc c.schema.last ∷ []) c.schema.numbers) c.tables.items;
      used = record { manifest = c.manifest; log = c.last; «data» = c.«data»; index = suc c.schema.last; part = c.part };
    } ≡ after_define new.table (index_of_new new) (layout_of c)
define_layout c new t records long edits good is there edits_are records_are long_is =
    let ds = c.schema.definitions in
    let ns = c.schema.numbers in
    let l = layout_of c in
    let last = c.schema.last in
    let has = has_at ds ns c.tables.items (new.table - 1) t good.held there in
    let some : 0 < new.table = omega (arith, is.above) in
    let named : numbered 1 new.table l.tables ≡ Some (table_with has.definition has.numbers t) = numbered_at 1 (new.table - 1) new.table l.tables (table_with has.definition has.numbers t) (omega (arith, some)) has.there in
    let d_is : is.definition ≡ has.definition = some_same is.definition has.definition (sym is.found ∙ has.defined) in
    let def : index_def (suc last) new.table (index_of_new new) is.definition ≡ numbered_def (suc last) new = λ i. record (numbered_def (suc last) new) { kind = sym is.is.kind i } in
    let listed : edits ≡ define_edits new.table (index_of_new new) l =
    edits_are
    ∙ ap (λ (x : IndexDef). index_edit x ∷ []) (sym def)
    ∙ ap (λ (d : Definition). index_edit (index_def (suc last) new.table (index_of_new new) d) ∷ []) d_is
    ∙ sym (ap (λ (o : Option TableParts). option_map_or (λ (t : TableParts). index_edit (index_def (suc last) new.table (index_of_new new) t.definition) ∷ []) o []) named) in
    let tables = defined_at (with_index (index_of_new new)) (λ (numbers : List ℕ). numbers ++ suc last ∷ []) (define_table (suc last) (index_of_new new)) (λ d n t. refl) 1 new.table ds ns c.tables.items good.held in
    λ i. record {
      partitioner = c.partitioner;
      floor = c.floor;
      last = c.last;
      records = records_are i;
      length = (long_is ∙ ap (λ (es : List Edit). c.length + (5 + length (encoded es))) listed) i;
      tables = tables i;
      used = record { manifest = c.manifest; log = c.last; «data» = c.«data»; index = suc last; part = c.part };
    }

-- ---- the largest timestamp

changed_behind_times : (at : ℕ) (key : DecoratedKey) (change : Partition) (ts : List ModelTable) (t : ModelTable) → slice_get ts at ≡ Some t
    → max_timestamp_of_tables (changed_behind at key change ts) ≡ max (max_timestamp_of_tables ts) (max_timestamp_of change)
changed_behind_times at key change [] t there = cc
changed_behind_times zero key change (x ∷ ts) t there = omega (arith, max_timestamp_put x.partitions key change)
changed_behind_times (suc at) key change (x ∷ ts) t there = omega (arith, changed_behind_times at key change ts t there)

changed_times : (number : ℕ) (key : DecoratedKey) (change : Partition) (ts : List ModelTable) (t : ModelTable) → 0 < number → slice_get ts (number - 1) ≡ Some t
    → max_timestamp_of_tables (changed_tables number key change ts) ≡ max (max_timestamp_of_tables ts) (max_timestamp_of change)
changed_times zero key change ts t some there = absurd (omega (arith, some))
changed_times (suc at) key change ts t some there =
    let e : suc at - 1 ≡ at = omega arith in
    changed_behind_times at key change ts t (ap (slice_get ts) (sym e) ∙ there)

pub put_time : (s : State) (w : Mutation) (t : ModelTable) → 0 < w.table → slice_get s.tables (w.table - 1) ≡ Some t → max_timestamp (state_with_mutation s w) ≡ max (max_timestamp s) (max_timestamp_of w.change)
unfolding max_timestamp
put_time s w t some there = changed_times w.table (decorated s.partitioner w.key) w.change s.tables t some there

pub create_time : (s : State) (d : Definition) → max_timestamp (with_new_table s d) ≡ max_timestamp s
unfolding max_timestamp
create_time s d = max_timestamp_push s.tables (empty_table d) nothing_held

pub define_time : (s : State) (number : ℕ) (i : Index) → max_timestamp (state_with_index s number i) ≡ max_timestamp s
unfolding max_timestamp
define_time s number i = times_indexed 1 number i s.tables
