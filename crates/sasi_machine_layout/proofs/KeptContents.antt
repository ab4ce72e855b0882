-- What is true of the contents of a layout stays true over its moves.
use Rattle.std.proofs.Common.{◌≡◌, ◌+◌, ◌-◌, ◌<◌, ◌≤◌, ℕ, zero, suc, List, [], ◌∷◌, ◌++◌, length, map, set, slice_get, None, Some, refl, sym, ap, subst, ◌∙◌, arith}
use Rattle.std.specs.Prelude.{max}
use Rattle.std.specs.List.{AllByRecursion}
use Rattle.std.proofs.lemmas.List.{length-map, length-set}
use Rattle.std.proofs.lemmas.Option.{slice_get_within}
use Rattle.sasi_types.specs.declared.index_def.IndexDef.{IndexDef}
use Rattle.sasi_types.specs.declared.partitioner.Partitioner.{Partitioner}
use Rattle.sasi_cells.proofs.Laws.Times.{body_limit}
use Rattle.sasi_cells.specs.declared.mutation.Mutation.{Mutation}
use Rattle.sasi_layout.specs.Layout.{Layout, TableParts, state_of, table_of}
use Rattle.sasi_layout.specs.Moves.{after_create, after_define, after_flush, after_put}
use Rattle.sasi_layout.specs.Statements.{known_in}
use Rattle.sasi_layout.proofs.StatementLaws.{definitions_are}
use Rattle.sasi_layout.proofs.LayoutLaws.{create_state, define_state, flush_state, put_state}
use Rattle.sasi_manifest.proofs.Additions.{set_same}
use Rattle.sasi_manifest.specs.declared.files.ListedFile.{ListedFile}
use Rattle.sasi_machine.proofs.Texts.{body_texts}
use Rattle.sasi_machine.specs.Prepares as prepared
use Rattle.sasi_machine.specs.Prepares.{IsAddable, IsApplicable, IsNewTable, known_by}
use Rattle.sasi_memtable.specs.MemtableView.{MemtableView, empty_memtable}
use Rattle.sasi_model.specs.Abbreviations.{TIME_LIMIT, definitions}
use Rattle.sasi_model.specs.Cells.{max_timestamp_of}
use Rattle.sasi_model.specs.State.{Definition, State, decorated, definition_of, max_timestamp, with_index}
use Rattle.sasi_model.specs.Indexes.{index_of}
use Rattle.sasi_schema.specs.Defined.{definition, numbers_of}
use Rattle.sasi_schema.specs.IndexFacts.{IsIndexIn}
use Rattle.sasi_schema.specs.SchemaViews.{SchemaView, numbered_def, with_definition, with_index_def}
use Rattle.sasi_schema.specs.declared.index.NewIndex.{NewIndex}
use Rattle.sasi_schema.specs.declared.table.Table.{Table}
use Rattle.sasi_machine_layout.specs.Contents.{AreHeld, AreKept, HasTable, IsContents, IsKept, IsUnder, file_of, layout_of, table_with, tables_of}
use Rattle.sasi_machine_layout.specs.Draws.{IsStored, IsUntouched}
use Rattle.sasi_machine_layout.specs.Steps.{IsPut}
use Rattle.sasi_machine_layout.specs.declared.contents.Contents.{Contents}
use Rattle.sasi_machine_layout.specs.declared.contents.FileContents.{FileContents}
use Rattle.sasi_machine_layout.specs.declared.contents.TableContents.{TableContents}
use Rattle.sasi_machine_layout.proofs.KeptMaps.{empty_kept, put_kept}
use Rattle.sasi_machine_layout.proofs.LayoutMoves.{create_time, define_time, put_time}
use Rattle.sasi_machine_layout.proofs.TableLists.{all_at, as_many, definitions_in, held_defined, held_push, held_set, parts_as_many}

-- ---- lists

all_set : {A : Type 0} (P : A → Type 0) (at : ℕ) (xs : List A) (y : A) → AllByRecursion P xs → P y → AllByRecursion P (set xs at y)
all_set P at [] y all is = tt
all_set P zero (z ∷ xs) y all is = (is, all.1)
all_set P (suc at) (z ∷ xs) y all is = (all.0, all_set P at xs y all.1 is)

all_push : {A : Type 0} (P : A → Type 0) (xs : List A) (x : A) → AllByRecursion P xs → P x → AllByRecursion P (xs ++ x ∷ [])
all_push P [] x all is = (is, tt)
all_push P (y ∷ xs) x all is = (all.0, all_push P xs x all.1 is)

-- ---- tables by their numbers

-- the state has as many tables
state_tables : (c : Contents) → IsContents c → length (state_of (layout_of c)).tables ≡ length c.tables.items
state_tables c good =
    length-map (layout_of c).tables table_of
    ∙ parts_as_many c.schema.definitions c.schema.numbers c.tables.items good.held
    ∙ sym (as_many c.schema.definitions c.schema.numbers c.tables.items good.held)

pub table_there : (c : Contents) (number : ℕ) → IsContents c → prepared.HasTable (state_of (layout_of c)) number → HasTable c number
table_there c number good has = record { some = has.some; inside = omega (arith, has.inside, state_tables c good) }

pub written_there : (c : Contents) (w : Mutation) → IsContents c → IsApplicable (state_of (layout_of c)) w → HasTable c w.table
written_there c w good fit = record { some = fit.some; inside = omega (arith, fit.some, slice_get_within (state_of (layout_of c)).tables (w.table - 1) fit.table fit.there, state_tables c good) }

pub still_there : (c : Contents) (items : List TableContents) (number at : ℕ) (t : TableContents) → HasTable c number → items ≡ set c.tables.items at t → (0 < number) × (number ≤ length items)
still_there c items number at t has is = (has.some, omega (arith, has.inside, ap length is, length-set c.tables.items at t))

-- ---- contents with other tables

-- where a table is another one
changed : (c new : Contents) (at : ℕ) (t : TableContents) → IsContents c → new.partitioner ≡ c.partitioner → new.schema ≡ c.schema → new.tables.items ≡ set c.tables.items at t → IsUnder c.partitioner t → AreKept t
    → new.max_timestamp ≡ max_timestamp (state_of (layout_of new)) → new.max_timestamp ≤ TIME_LIMIT → IsContents new
changed c new at t good partitioner schema items under kept time limit = record {
  held = subst (λ (s : SchemaView). AreHeld s.definitions s.numbers new.tables.items) (sym schema)
      (subst (AreHeld c.schema.definitions c.schema.numbers) (sym items) (held_set c.schema.definitions c.schema.numbers c.tables.items at t good.held));
  under = subst (λ (p : Partitioner). AllByRecursion (IsUnder p) new.tables.items) (sym partitioner) (subst (AllByRecursion (IsUnder c.partitioner)) (sym items) (all_set (IsUnder c.partitioner) at c.tables.items t good.under under));
  kept = subst (AllByRecursion AreKept) (sym items) (all_set AreKept at c.tables.items t good.kept kept);
  max_timestamp_is = time;
  limit = limit;
}

-- ---- a put

put_under : (p : Partitioner) (last : ℕ) (w : Mutation) (t new : TableContents) → IsPut last w t new → IsUnder p t → IsUnder p new
put_under p last w t new is under = record {
  files = subst (λ (fs : List FileContents). AllByRecursion (λ (f : FileContents). f.holds.partitioner ≡ p) fs) (sym (λ i. (is.files_are i).items)) under.files;
  memtable = ap (λ (m : MemtableView). m.partitioner) is.memtable_is ∙ under.memtable;
}

put_all_kept : (last : ℕ) (w : Mutation) (t new : TableContents) (s : State) → IsPut last w t new → IsApplicable s w → AreKept t → AreKept new
put_all_kept last w t new s is fit kept = record {
  files = subst (λ (fs : List FileContents). AllByRecursion (λ (f : FileContents). IsKept f.holds.partitions) fs) (sym (λ i. (is.files_are i).items)) kept.files;
  memtable = subst (λ (m : MemtableView). IsKept m.partitions) (sym is.memtable_is)
      (put_kept t.memtable.partitions (decorated t.memtable.partitioner w.key) w.change kept.memtable (body_texts fit.types w.key w.change fit.body));
}

pub put_contents : (c new : Contents) (w : Mutation) (t held : TableContents) → IsContents c → IsApplicable (state_of (layout_of c)) w → slice_get c.tables.items (w.table - 1) ≡ Some t → IsPut c.last w t held → new.partitioner ≡ c.partitioner → new.schema ≡ c.schema
    → new.tables.items ≡ set c.tables.items (w.table - 1) held → new.max_timestamp ≡ max c.max_timestamp (max_timestamp_of w.change) → layout_of new ≡ after_put w (layout_of c) → IsContents new
put_contents c new w t held good fit there is partitioner schema items time made =
    let l = layout_of c in
    let after : max_timestamp (state_of (layout_of new)) ≡ max (max_timestamp (state_of l)) (max_timestamp_of w.change) =
    ap (λ (m : Layout). max_timestamp (state_of m)) made ∙ ap max_timestamp (put_state w l) ∙ put_time (state_of l) w fit.table fit.some fit.there in
    changed c new (w.table - 1) held good partitioner schema items
    (put_under c.partitioner c.last w t held is (all_at (IsUnder c.partitioner) (w.table - 1) c.tables.items t good.under there))
    (put_all_kept c.last w t held (state_of l) is fit (all_at AreKept (w.table - 1) c.tables.items t good.kept there))
    (time ∙ ap (λ (n : ℕ). max n (max_timestamp_of w.change)) good.max_timestamp_is ∙ sym after)
    (omega (arith, time, good.limit, body_limit fit.types w.key w.change fit.body))

-- ---- a flush

flush_under : (p : Partitioner) (t new : TableContents) (listed : ListedFile) (last : ℕ) (empty : MemtableView) → empty ≡ empty_memtable p → IsStored t listed last empty new → IsUnder p t → IsUnder p new
flush_under p t new listed last empty none is under = record {
  files = subst (λ (fs : List FileContents). AllByRecursion (λ (f : FileContents). f.holds.partitioner ≡ p) fs) (sym is.files_are)
      (all_push (λ (f : FileContents). f.holds.partitioner ≡ p) t.files.items (record { listed = listed; holds = t.memtable }) under.files under.memtable);
  memtable = ap (λ (m : MemtableView). m.partitioner) (is.memtable_is ∙ none);
}

flush_kept : (p : Partitioner) (t new : TableContents) (listed : ListedFile) (last : ℕ) (empty : MemtableView) → empty ≡ empty_memtable p → IsStored t listed last empty new → AreKept t → AreKept new
flush_kept p t new listed last empty none is kept = record {
  files = subst (λ (fs : List FileContents). AllByRecursion (λ (f : FileContents). IsKept f.holds.partitions) fs) (sym is.files_are)
      (all_push (λ (f : FileContents). IsKept f.holds.partitions) t.files.items (record { listed = listed; holds = t.memtable }) kept.files kept.memtable);
  memtable = subst (λ (m : MemtableView). IsKept m.partitions) (sym (is.memtable_is ∙ none)) empty_kept;
}

pub flush_contents : (c new : Contents) (table : ℕ) (t held : TableContents) (listed : ListedFile) (last : ℕ) (empty : MemtableView) → IsContents c → slice_get c.tables.items (table - 1) ≡ Some t → empty ≡ empty_memtable c.partitioner → IsStored t listed last empty held
    → new.partitioner ≡ c.partitioner → new.schema ≡ c.schema → new.tables.items ≡ set c.tables.items (table - 1) held → new.max_timestamp ≡ c.max_timestamp → layout_of new ≡ after_flush table (layout_of c) → IsContents new
flush_contents c new table t held listed last empty good there none is partitioner schema items time made =
    let l = layout_of c in
    let after : max_timestamp (state_of (layout_of new)) ≡ max_timestamp (state_of l) = ap (λ (m : Layout). max_timestamp (state_of m)) made ∙ ap max_timestamp (flush_state table l) in
    changed c new (table - 1) held good partitioner schema items
    (flush_under c.partitioner t held listed last empty none is (all_at (IsUnder c.partitioner) (table - 1) c.tables.items t good.under there))
    (flush_kept c.partitioner t held listed last empty none is (all_at AreKept (table - 1) c.tables.items t good.kept there))
    (time ∙ good.max_timestamp_is ∙ sym after)
    (omega (arith, time, good.limit))

-- ---- a table

pub create_contents : (c new : Contents) (t : Table) (fresh : TableContents) → IsContents c → fresh.files.items ≡ [] → fresh.memtable ≡ empty_memtable c.partitioner → new.partitioner ≡ c.partitioner → new.schema ≡ with_definition (definition t) (numbers_of t) c.schema
    → new.tables.items ≡ c.tables.items ++ fresh ∷ [] → new.max_timestamp ≡ c.max_timestamp → layout_of new ≡ after_create (definition t) (layout_of c) → IsContents new
create_contents c new t fresh good files memtable partitioner schema items time made =
    let l = layout_of c in
    let after : max_timestamp (state_of (layout_of new)) ≡ max_timestamp (state_of l) =
    ap (λ (m : Layout). max_timestamp (state_of m)) made ∙ ap max_timestamp (create_state (definition t) l) ∙ create_time (state_of l) (definition t) in
    let under : IsUnder c.partitioner fresh = record {
      files = subst (AllByRecursion (λ (f : FileContents). f.holds.partitioner ≡ c.partitioner)) (sym files) tt;
      memtable = ap (λ (m : MemtableView). m.partitioner) memtable;
    } in
    let kept : AreKept fresh = record {
      files = subst (AllByRecursion (λ (f : FileContents). IsKept f.holds.partitions)) (sym files) tt;
      memtable = subst (λ (m : MemtableView). IsKept m.partitions) (sym memtable) empty_kept;
    } in
    record {
      held = subst (λ (s : SchemaView). AreHeld s.definitions s.numbers new.tables.items) (sym schema)
          (subst (AreHeld (c.schema.definitions ++ definition t ∷ []) (c.schema.numbers ++ numbers_of t ∷ [])) (sym items) (held_push c.schema.definitions c.schema.numbers c.tables.items (definition t) (numbers_of t) fresh good.held));
      under = subst (λ (p : Partitioner). AllByRecursion (IsUnder p) new.tables.items) (sym partitioner) (subst (AllByRecursion (IsUnder c.partitioner)) (sym items) (all_push (IsUnder c.partitioner) c.tables.items fresh good.under under));
      kept = subst (AllByRecursion AreKept) (sym items) (all_push AreKept c.tables.items fresh good.kept kept);
      max_timestamp_is = time ∙ good.max_timestamp_is ∙ sym after;
      limit = omega (arith, time, good.limit);
    }

-- ---- an index

pub define_contents : (c new : Contents) (def : IndexDef) → IsContents c → new.partitioner ≡ c.partitioner → new.schema ≡ with_index_def def c.schema → new.tables.items ≡ c.tables.items → new.max_timestamp ≡ c.max_timestamp
    → layout_of new ≡ after_define def.table (index_of def) (layout_of c) → IsContents new
define_contents c new def good partitioner schema items time made =
    let l = layout_of c in
    let after : max_timestamp (state_of (layout_of new)) ≡ max_timestamp (state_of l) =
    ap (λ (m : Layout). max_timestamp (state_of m)) made ∙ ap max_timestamp (define_state def.table (index_of def) l) ∙ define_time (state_of l) def.table (index_of def) in
    record {
      held = subst (λ (s : SchemaView). AreHeld s.definitions s.numbers new.tables.items) (sym schema)
          (subst (AreHeld (with_index_def def c.schema).definitions (with_index_def def c.schema).numbers) (sym items)
          (held_defined (with_index (index_of def)) (λ (numbers : List ℕ). numbers ++ def.number ∷ []) 1 def.table c.schema.definitions c.schema.numbers c.tables.items good.held));
      under = subst (λ (p : Partitioner). AllByRecursion (IsUnder p) new.tables.items) (sym partitioner) (subst (AllByRecursion (IsUnder c.partitioner)) (sym items) good.under);
      kept = subst (AllByRecursion AreKept) (sym items) good.kept;
      max_timestamp_is = time ∙ good.max_timestamp_is ∙ sym after;
      limit = omega (arith, time, good.limit);
    }

-- ---- nothing is changed

pub tables_same : (c : Contents) (at : ℕ) (t x : TableContents) → slice_get c.tables.items at ≡ Some t → x ≡ t → record (layout_of c) { tables = tables_of c.schema.definitions c.schema.numbers (set c.tables.items at x) } ≡ layout_of c
tables_same c at t x got same = ap (λ (items : List TableContents). record (layout_of c) { tables = tables_of c.schema.definitions c.schema.numbers items }) (ap (set c.tables.items at) same ∙ set_same c.tables.items at t got)

pub contents_same : (c new : Contents) → IsContents c → new.partitioner ≡ c.partitioner → new.schema ≡ c.schema → new.tables.items ≡ c.tables.items → new.max_timestamp ≡ c.max_timestamp → layout_of new ≡ layout_of c → IsContents new
contents_same c new good partitioner schema items time same = record {
  held = subst (λ (s : SchemaView). AreHeld s.definitions s.numbers new.tables.items) (sym schema) (subst (AreHeld c.schema.definitions c.schema.numbers) (sym items) good.held);
  under = subst (λ (p : Partitioner). AllByRecursion (IsUnder p) new.tables.items) (sym partitioner) (subst (AllByRecursion (IsUnder c.partitioner)) (sym items) good.under);
  kept = subst (AllByRecursion AreKept) (sym items) good.kept;
  max_timestamp_is = time ∙ good.max_timestamp_is ∙ sym (ap (λ (m : Layout). max_timestamp (state_of m)) same);
  limit = omega (arith, time, good.limit);
}

-- ---- what a statement is prepared by

pub known_here : (c : Contents) → IsContents c → known_by c.schema c.max_timestamp ≡ known_in (layout_of c)
known_here c good =
    let defined = definitions_in c.schema.definitions c.schema.numbers c.tables.items good.held in
    λ i. record { tables = sym defined i; max_timestamp = good.max_timestamp_is i }

-- the definitions of the state are those of the schema
defined_here : (c : Contents) → IsContents c → definitions (state_of (layout_of c)).tables ≡ c.schema.definitions
defined_here c good = sym (definitions_are (layout_of c)) ∙ definitions_in c.schema.definitions c.schema.numbers c.tables.items good.held

pub next_number : (c : Contents) (t : Table) → IsContents c → IsNewTable (state_of (layout_of c)) t → t.number ≡ length c.schema.definitions + 1
next_number c t good next =
    next.number ∙ ap (λ n. n + 1) (length-map (layout_of c).tables table_of ∙ parts_as_many c.schema.definitions c.schema.numbers c.tables.items good.held)

pub next_free : (c : Contents) (t : Table) → IsContents c → IsNewTable (state_of (layout_of c)) t → definition_of t.name c.schema.definitions ≡ None
next_free c t good next = ap (definition_of t.name) (sym (defined_here c good)) ∙ next.free

pub index_in : (c : Contents) (new : NewIndex) (number : ℕ) → IsContents c → IsAddable (state_of (layout_of c)) new → IsIndexIn c.schema.definitions (numbered_def number new)
index_in c new number good addable = subst (λ (ds : List Definition). IsIndexIn ds (numbered_def number new)) (defined_here c good) (addable number)

-- ---- a table of which nothing that is seen has changed

untouched_same : (t x : TableContents) (d : Definition) (n : List ℕ) → IsUntouched t x → table_with d n x ≡ table_with d n t
untouched_same t x d n is = λ i. record {
  definition = d;
  numbers = n;
  since = is.since_is i;
  first = is.first_is i;
  files = map file_of (is.files_are i);
  frozen = [];
  memtable = (is.memtable_is i).partitions;
}

untouched_tables : (ds : List Definition) (ns : List (List ℕ)) (ts : List TableContents) (at : ℕ) (t x : TableContents) → slice_get ts at ≡ Some t → IsUntouched t x → tables_of ds ns (set ts at x) ≡ tables_of ds ns ts
untouched_tables [] ns ts at t x got is = refl
untouched_tables (d ∷ ds) [] ts at t x got is = refl
untouched_tables (d ∷ ds) (n ∷ ns) [] at t x got is = cc
untouched_tables (d ∷ ds) (n ∷ ns) (y ∷ ts) zero t x got is =
    let same : y ≡ t = (let e : Some y ≡ Some t = got in cc) in
    ap (λ (p : TableParts). p ∷ tables_of ds ns ts) (untouched_same t x d n is ∙ ap (table_with d n) (sym same))
untouched_tables (d ∷ ds) (n ∷ ns) (y ∷ ts) (suc at) t x got is = ap (λ (l : List TableParts). table_with d n y ∷ l) (untouched_tables ds ns ts at t x got is)

pub untouched_layout : (c : Contents) (at : ℕ) (t x : TableContents) → slice_get c.tables.items at ≡ Some t → IsUntouched t x → record (layout_of c) { tables = tables_of c.schema.definitions c.schema.numbers (set c.tables.items at x) } ≡ layout_of c
untouched_layout c at t x got is = ap (λ (ts : List TableParts). record (layout_of c) { tables = ts }) (untouched_tables c.schema.definitions c.schema.numbers c.tables.items at t x got is)

pub untouched_contents : (c new : Contents) (at : ℕ) (t x : TableContents) → IsContents c → slice_get c.tables.items at ≡ Some t → IsUntouched t x → new.partitioner ≡ c.partitioner → new.schema ≡ c.schema → new.tables.items ≡ set c.tables.items at x
    → new.max_timestamp ≡ c.max_timestamp → layout_of new ≡ layout_of c → IsContents new
untouched_contents c new at t x good got is partitioner schema items time same =
    let before = all_at (IsUnder c.partitioner) at c.tables.items t good.under got in
    let kept = all_at AreKept at c.tables.items t good.kept got in
    let under_x : IsUnder c.partitioner x = record {
      files = subst (AllByRecursion (λ (f : FileContents). f.holds.partitioner ≡ c.partitioner)) (sym is.files_are) before.files;
      memtable = ap (λ (m : MemtableView). m.partitioner) is.memtable_is ∙ before.memtable;
    } in
    let kept_x : AreKept x = record {
      files = subst (AllByRecursion (λ (f : FileContents). IsKept f.holds.partitions)) (sym is.files_are) kept.files;
      memtable = subst (λ (m : MemtableView). IsKept m.partitions) (sym is.memtable_is) kept.memtable;
    } in
    changed c new at x good partitioner schema items under_x kept_x
    (time ∙ good.max_timestamp_is ∙ sym (ap (λ (m : Layout). max_timestamp (state_of m)) same)) (omega (arith, time, good.limit))
