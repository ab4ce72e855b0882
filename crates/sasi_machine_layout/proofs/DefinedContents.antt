-- What the calls that define a table or an index leave, and a new layout.
use Rattle.std.proofs.Common.{◌≡◌, ◌+◌, ◌-◌, ◌<◌, ℕ, suc, List, [], ◌∷◌, ◌++◌, length, map, refl, sym, ap, subst, ◌∙◌, arith}
use Rattle.std.specs.Prelude.{max}
use Rattle.std.specs.List.{AllByRecursion}
use Rattle.std.proofs.lemmas.Option.{slice_get_within}
use Rattle.sasi_types.specs.declared.index_def.IndexDef.{IndexDef}
use Rattle.sasi_types.specs.declared.partitioner.Partitioner.{Partitioner}
use Rattle.sasi_layout.specs.Layout.{Layout, state_of, table_of}
use Rattle.sasi_layout.specs.Moves.{after_create, after_define}
use Rattle.sasi_layout.specs.Shape.{new_layout}
use Rattle.sasi_manifest.specs.Edits.{encoded}
use Rattle.sasi_manifest.specs.Listings.{index_edit}
use Rattle.sasi_manifest.specs.declared.edit.Edit.{Edit}
use Rattle.sasi_manifest.specs.declared.edit.Edit.TheVariants.{CreateTable}
use Rattle.sasi_machine.specs.Prepares.{IsAddable, IsNewTable}
use Rattle.sasi_model.specs.State.{max_timestamp}
use Rattle.sasi_schema.specs.Defined.{definition, numbers_of}
use Rattle.sasi_schema.specs.SchemaViews.{SchemaView, index_of_new, no_tables, numbered_def, with_definition, with_index_def}
use Rattle.sasi_schema.specs.declared.index.NewIndex.{NewIndex}
use Rattle.sasi_schema.specs.declared.table.Table.{Table}
use Rattle.sasi_machine_layout.specs.Contents.{AreHeld, AreKept, IsContents, IsUnder, layout_of, tables_of}
use Rattle.sasi_machine_layout.specs.Steps.{IsFresh}
use Rattle.sasi_machine_layout.specs.declared.contents.Contents.{Contents}
use Rattle.sasi_machine_layout.specs.declared.contents.TableContents.{TableContents}
use Rattle.sasi_machine_layout.proofs.KeptContents.{index_in, next_number}
use Rattle.sasi_machine_layout.proofs.LayoutMoves.{create_layout, define_layout}
use Rattle.sasi_machine_layout.proofs.TableLists.{as_many, item_at}

-- the layout with this schema, these tables, and a manifest of so many records and this length
abbrev layout_with : Contents → SchemaView → List TableContents → ℕ → ℕ → Layout
layout_with c schema items records long = record (layout_of c) {
  records = records;
  length = long;
  tables = tables_of schema.definitions schema.numbers items;
  used = record { manifest = c.manifest; log = c.last; «data» = c.«data»; index = schema.last; part = c.part };
}

-- nothing has changed
pub same_layout : (c : Contents) (schema : SchemaView) (items : List TableContents) → schema ≡ c.schema → items ≡ c.tables.items → layout_with c schema items c.records c.length ≡ layout_of c
same_layout c schema items schema_is items_are = λ i. layout_with c (schema_is i) (items_are i) c.records c.length

-- ---- a table

pub create_made : (c : Contents) (t : Table) (schema : SchemaView) (items : List TableContents) (new : TableContents) (records long : ℕ) (edits : List Edit) → IsContents c → IsNewTable (state_of (layout_of c)) t → t.indexes ≡ []
    → schema ≡ with_definition (definition t) (numbers_of t) c.schema → edits ≡ CreateTable t.number t.name t.columns t.key c.last ∷ [] → records ≡ c.records + 1 → long ≡ c.length + (5 + length (encoded edits))
    → IsFresh c.partitioner c.last new → items ≡ c.tables.items ++ new ∷ [] → layout_with c schema items records long ≡ after_create (definition t) (layout_of c)
create_made c t schema items new records long edits good next plain schema_is edits_are records_are long_is fresh items_are =
    ap (λ (s : SchemaView). layout_with c s items records long) schema_is
    ∙ create_layout c t items new records long edits good (next_number c t good next) plain edits_are records_are long_is fresh.since_is fresh.first_is fresh.files_are fresh.memtable_is items_are

-- ---- an index

pub define_made : (c : Contents) (new : NewIndex) (def : IndexDef) (number : ℕ) (schema : SchemaView) (records long : ℕ) (edits : List Edit) → IsContents c → IsAddable (state_of (layout_of c)) new → number ≡ c.schema.last + 1 → def ≡ numbered_def number new
    → schema ≡ with_index_def def c.schema → edits ≡ index_edit def ∷ [] → records ≡ c.records + 1 → long ≡ c.length + (5 + length (encoded edits))
    → layout_with c schema c.tables.items records long ≡ after_define new.table (index_of_new new) (layout_of c)
define_made c new def number schema records long edits good addable number_is def_is schema_is edits_are records_are long_is =
    let last = c.schema.last in
    let next : number ≡ suc last = omega (arith, number_is) in
    let same : def ≡ numbered_def (suc last) new = def_is ∙ ap (λ (n : ℕ). numbered_def n new) next in
    let is = index_in c new (suc last) good addable in
    let inside : new.table - 1 < length c.tables.items =
    omega (arith, slice_get_within c.schema.definitions (new.table - 1) is.definition is.found, as_many c.schema.definitions c.schema.numbers c.tables.items good.held) in
    let t = item_at c.tables.items (new.table - 1) inside in
    let larger : max last (suc last) ≡ suc last = omega arith in
    let all : schema ≡ record (with_index_def (numbered_def (suc last) new) c.schema) { last = suc last } =
    schema_is ∙ ap (λ (d : IndexDef). with_index_def d c.schema) same ∙ ap (λ (n : ℕ). record (with_index_def (numbered_def (suc last) new) c.schema) { last = n }) larger in
    ap (λ (s : SchemaView). layout_with c s c.tables.items records long) all
    ∙ define_layout c new t.0 records long edits good is t.1 (edits_are ∙ ap (λ (d : IndexDef). index_edit d ∷ []) same) records_are long_is

-- ---- a new layout

pub new_layout_is : (p : Partitioner) (schema : SchemaView) (items : List TableContents) → schema ≡ no_tables
    → record {
      partitioner = p;
      floor = 1;
      last = 1;
      records = 1;
      length = 36;
      tables = tables_of schema.definitions schema.numbers items;
      used = record { manifest = 1; log = 1; «data» = 0; index = schema.last; part = 0 };
    } ≡ new_layout p
new_layout_is p schema items is = λ i. record {
  partitioner = p;
  floor = 1;
  last = 1;
  records = 1;
  length = 36;
  tables = tables_of (is i).definitions (is i).numbers items;
  used = record { manifest = 1; log = 1; «data» = 0; index = (is i).last; part = 0 };
}

nothing_in : (p : Partitioner) → max_timestamp (record { partitioner = p; tables = [] }) ≡ 0
unfolding max_timestamp
nothing_in p = refl

pub new_contents : (c : Contents) → c.schema ≡ no_tables → c.tables.items ≡ [] → c.max_timestamp ≡ 0 → IsContents c
new_contents c schema items time = record {
  held = subst (λ (s : SchemaView). AreHeld s.definitions s.numbers c.tables.items) (sym schema) (subst (AreHeld [] []) (sym items) tt);
  under = subst (AllByRecursion (IsUnder c.partitioner)) (sym items) tt;
  kept = subst (AllByRecursion AreKept) (sym items) tt;
  max_timestamp_is =
      time
      ∙ sym (ap (λ (s : SchemaView). max_timestamp (record { partitioner = c.partitioner; tables = map table_of (tables_of s.definitions s.numbers c.tables.items) })) schema ∙ nothing_in c.partitioner);
  limit = omega (arith, time);
}
