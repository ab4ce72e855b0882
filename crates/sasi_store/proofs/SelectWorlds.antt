-- The world of a SELECT's plan over the current parts of its table: its rows are the answer, and its reads are within those of the SELECT.
use Rattle.std.proofs.Common.{◌≡◌, ◌-◌, ◌^◌, ◌≤◌, ◌++◌, Bool, true, false, cond, ℕ, zero, suc, List, [], ◌∷◌, map, take, slice_get, Option, None, Some, Result, Ok, Err, IfOk, refl, sym, ap, subst, ◌∙◌, arith}
use Rattle.std.proofs.lemmas.List.{take-map}
use Rattle.std.specs.FinMap.{entries}
use Rattle.std.specs.Prelude.{min}
use Rattle.std.specs.List.{AllByRecursion, filter}
use Rattle.std.specs.Option.{option_map_or}
use Rattle.sasi_types.specs.declared.decorated_key.DecoratedKey.{DecoratedKey}
use Rattle.sasi_types.specs.declared.index_def.IndexDef.{IndexDef}
use Rattle.sasi_types.specs.declared.partitioner.Partitioner.{Partitioner}
use Rattle.sasi_cells.specs.Maps.{merged}
use Rattle.sasi_cells.specs.declared.picked.Picked.{Picked}
use Rattle.sasi_host.specs.Names.{Folder}
use Rattle.sasi_host.specs.View.{IsSound, View}
use Rattle.sasi_model.specs.Abbreviations.{Partitions, types_of}
use Rattle.sasi_model.specs.Cells.{Partition}
use Rattle.sasi_model.specs.Conditions.{Condition, condition_of}
use Rattle.sasi_model.specs.Filters.{Filter, answers, key_asked, limited, row_limit, rows_up_to, where_of}
use Rattle.sasi_model.specs.Lines.{rows_lines}
use Rattle.sasi_model.specs.State.{Definition, Table}
use Rattle.sasi_model.specs.Step.{select_lines, select_rows}
use Rattle.sasi_machine.proofs.Picked.{lines_by_numbers, selected_by_numbers}
use Rattle.sasi_machine.specs.Prepares as prepares
use Rattle.sasi_machine.specs.Prepares.{answer_rows}
use Rattle.sasi_machine.specs.TableRows.{rows_picked}
use Rattle.sasi_machine.specs.declared.prepared.Selection.{Selection}
use Rattle.sasi_manifest.specs.declared.files.ListedFile.{ListedFile}
use Rattle.sasi_manifest.specs.declared.listing.Listing.{Listing}
use Rattle.sasi_manifest.specs.Edits.{files_of}
use Rattle.sasi_manifest.specs.ListedDefinition.{ListedDefinition}
use Rattle.sasi_manifest.specs.ListedTables.{listed}
use Rattle.sasi_schema.specs.Defined.{definition}
use Rattle.sasi_layout.proofs.FileNameLaws.{have_name}
use Rattle.sasi_layout.specs.Flushed.{contents_of}
use Rattle.sasi_layout.specs.Layout.{File, Layout, TableParts, listed_of, state_of, table_of, unflushed}
use Rattle.sasi_layout.specs.Serving.{CanChange, Serves}
use Rattle.sasi_scan.specs.Finding.{key_reads}
use Rattle.sasi_scan.specs.Paging.{table_reads}
use Rattle.sasi_candidates.specs.Checks.{checked, rows as answer}
use Rattle.sasi_candidates.specs.Costs as costs
use Rattle.sasi_candidates.specs.LayoutParts.{part_of_file, part_of_map, parts_of}
use Rattle.sasi_candidates.specs.Parts.{Part, maps_of}
use Rattle.sasi_engine.specs.declared.relation.IndexedRelation.{IndexedRelation}
use Rattle.sasi_engine.specs.Asked.{Asked, asked_of}
use Rattle.sasi_engine.specs.HitCandidates.{PlanWorld}
use Rattle.sasi_engine.specs.TokenHits.{contents_in_files}
use Rattle.sasi_engine.specs.Views.{AreAsked}
use Rattle.sasi_plan.specs.Answers.{row_of}
use Rattle.sasi_recheck.specs.Rows.{counted_on}
use Rattle.sasi_plan.specs.Plans.{IsAskedOf, IsSourceOf, PlanView, relation_of}
use Rattle.sasi_plan.specs.Reading.{IsBounded, IsBoundedBy, IsMadeFor, IsReadIn, IsViewOf, listed_files, plan_reads, reads_by}
use Rattle.sasi_plan.specs.declared.plan.PlanSource.{PlanSource}
use Rattle.sasi_plan.specs.declared.plan.PlanSource.TheVariants.{Nothing, OfKey, OfTable}
use Rattle.sasi_plan.proofs.PlanLaws.{relations_asked}
use Rattle.sasi_fetch.specs.Printing.{picked_lines, row_picked}
use Rattle.sasi_store.specs.Selects.{AreShortFor, AreShortIn, HasShortFiles, IsPlanFor, asked_reads, conditions_on, rows_reads, selection_reads, unindexed_reads}
use Rattle.sasi_tables.specs.TablesView.{IsOfParts, memory_of}
use Rattle.sasi_tables.specs.Tables.{content_of}
use Rattle.sasi_store.specs.Worlds.{selection_checks}
use Rattle.sasi_tables.specs.ViewParts.{current_parts, listed_parts, table_numbers}
use Rattle.sasi_tables.specs.declared.parts.Parts.{Parts}
use Rattle.sasi_tables.proofs.TablesInMemory.{map_there, seen_as}
use Rattle.sasi_store.proofs.ViewFiles.{view_files}
use Rattle.sasi_store.proofs.ViewWorlds.{files_first, merged_table, own_indexes, view_planned, view_tokens, view_world}

-- ---- rows

module _ (picked : Picked) (f : Filter) where
  -- the picked values of the rows that pass
  rows_by : (es : List (DecoratedKey × Partition)) → rows_picked picked.key picked.columns f es ≡ map (row_picked picked) (map row_of (filter (answers f) es))
  rows_by [] = refl
  rows_by (e ∷ es) = by (answers f e) (rows_by es)
    where
      by : (b : Bool) → rows_picked picked.key picked.columns f es ≡ map (row_picked picked) (map row_of (filter (answers f) es))
          → cond b (row_picked picked (row_of e) ∷ rows_picked picked.key picked.columns f es) (rows_picked picked.key picked.columns f es) ≡ map (row_picked picked) (map row_of (cond b (e ∷ filter (answers f) es) (filter (answers f) es)))
      by true rest = ap (λ vs. row_picked picked (row_of e) ∷ vs) rest
      by false rest = rest

  -- and up to the LIMIT
  rows_limited : (limit : Option ℕ) (es : List (DecoratedKey × Partition)) → map (row_picked picked) (map row_of (rows_up_to limit f es)) ≡ limited limit (rows_picked picked.key picked.columns f es)
  rows_limited None es = sym (rows_by es)
  rows_limited (Some n) es =
      let passed = filter (answers f) es in
      ap (map (row_picked picked)) (sym (take-map row_of n passed)) ∙ sym (take-map (row_picked picked) n (map row_of passed)) ∙ ap (take n) (sym (rows_by es))

-- ---- files

-- the data files of a view are those that are listed
pub files_back : (fs : List ListedFile) (ns : List ℕ) → listed_files (listed_parts fs ns) ≡ fs
files_back [] [] = refl
files_back [] (n ∷ ns) = files_back [] ns
files_back (f ∷ fs) ns = ap (λ (l : List ListedFile). f ∷ l) (files_back fs ns)

-- what the parts on disk have, the data files have
contents_back : (t : TableParts) (fs : List File) (ms : List Partitions) → map (λ (part : Part). contents_of part.holds) (costs.files_of (map (part_of_file t) fs ++ map part_of_map ms)) ≡ map (λ (f : File). content_of f.holds) fs
contents_back t [] [] = refl
contents_back t [] (m ∷ ms) = contents_back t [] ms
contents_back t (f ∷ fs) ms = ap (λ l. content_of f.holds ∷ l) (contents_back t fs ms)

same_most : (m n : ℕ) → m ≡ n → m ≤ n
same_most m n same = omega (arith, same)

-- what follows of the value of a result
pub if_ok : {T E : Type 0} (P Q : T → Type 0) (result : Result T E) → ((x : T) → P x → Q x) → IfOk result P → IfOk result Q
if_ok P Q (Ok x) follows is = follows x is
if_ok P Q (Err e) follows is = tt

-- a count from nothing
counted_all : (n : ℕ) → counted_on 0 n ≡ min n (2 ^ 64 - 1)
counted_all zero = omega arith
counted_all (suc n) = (let before = counted_all n in omega (arith, before))

-- ---- the world

module _ (v : View) (sound : IsSound v) (p : Parts) (of : IsOfParts p) (ready : CanChange v (memory_of p)) (rows : Selection) (plan : PlanView) (is : IsPlanFor p rows plan) (l : Layout) (serves : Serves v (memory_of p) l) where
  abbrev at : ℕ
  at = rows.table - 1

  abbrev q : Partitioner
  q = p.manifest.listing.partitioner

  abbrev d : Definition
  d = definition is.row.table

  abbrev defs : List IndexDef
  defs = is.row.table.indexes

  abbrev asked : List Asked
  asked = asked_of plan.conditions

  abbrev relations : List IndexedRelation
  relations = map (relation_of defs) asked

  abbrev wanted : Filter
  wanted = where_of plan.conditions

  pub table : (t : TableParts) × (slice_get l.tables at ≡ Some t) × (listed_of t ≡ listed is.row)
  table = seen_as listed_of l.tables at (listed is.row) (ap (λ (k : Listing). slice_get k.tables at) (sym serves.listing) ∙ is.there)

  abbrev t : TableParts
  t = table.0

  t_defined : t.definition ≡ d
  t_defined = ap (λ (x : ListedDefinition). x.definition) table.2

  files_are : files_of p.manifest.listing.tables rows.table ≡ map (λ (f : File). f.listed) t.files
  files_are = ap (λ (o : Option ListedDefinition). option_map_or (λ (x : ListedDefinition). x.files) o []) is.there ∙ ap (λ (x : ListedDefinition). x.files) (sym table.2)

  asked_are : AreAsked t relations asked
  asked_are =
      relations_asked t defs asked (ap (λ (x : Definition). x.indexes) t_defined) (ap (λ (x : ListedDefinition). x.numbers) table.2) (own_indexes v sound p of ready rows.table l serves t table.1).apart
      (subst (λ (x : Definition). AllByRecursion (IsAskedOf x) asked) (sym t_defined) is.asked)

  under : l.partitioner ≡ q
  under = sym (ap (λ (k : Listing). k.partitioner) serves.listing)

  conditions_are : conditions_on t rows.select ≡ plan.conditions
  conditions_are = ap (λ (x : Definition). map (condition_of x) rows.select.relations) t_defined ∙ sym is.conditions

  -- the rows of the answer over the merge of its parts
  abbrev pub rows_asked : List (List ℕ × Partition)
  rows_asked = map row_of (answer plan.limit wanted (merged (maps_of (parts_of t))))

  -- **As they are picked they are those that the SELECT has,**
  pub rows_have : map (row_picked plan.picked) rows_asked ≡ prepares.rows_asked (state_of l) rows
  rows_have =
      rows_limited plan.picked wanted plan.limit (entries (merged (maps_of (parts_of t))))
      ∙ selected_by_numbers d rows.select plan.picked.key plan.picked.columns plan.conditions plan.limit (entries (merged (maps_of (parts_of t)))) is.row.table.key_is_there is.key is.columns is.conditions is.limit
      ∙ ap (λ (m : Partitions). select_rows d rows.select (entries m)) (sym (merged_table t))
      ∙ ap (λ (x : Definition). select_rows x rows.select (entries (table_of t).partitions)) (sym t_defined)
      ∙ sym (ap (λ (o : Option Table). option_map_or (λ (x : Table). select_rows x.definition rows.select (entries x.partitions)) o []) (map_there table_of l.tables at t table.1))

  -- **and their lines are its lines.**
  pub rows_are : picked_lines plan.picked rows_asked ≡ answer_rows (state_of l) rows
  rows_are =
      ap rows_lines (rows_limited plan.picked wanted plan.limit (entries (merged (maps_of (parts_of t)))))
      ∙ lines_by_numbers d rows.select plan.picked.key plan.picked.columns plan.conditions plan.limit (entries (merged (maps_of (parts_of t)))) is.row.table.key_is_there is.key is.columns is.conditions is.limit
      ∙ ap (λ (m : Partitions). select_lines d rows.select (entries m)) (sym (merged_table t))
      ∙ ap (λ (x : Definition). select_lines x rows.select (entries (table_of t).partitions)) (sym t_defined)
      ∙ sym (ap (λ (o : Option Table). option_map_or (λ (x : Table). select_lines x.definition rows.select (entries x.partitions)) o []) (map_there table_of l.tables at t table.1))

  -- **So many candidates are checked for them.**
  pub checks_are : counted_on 0 (checked plan.limit wanted (parts_of t)) ≡ selection_checks l rows
  checks_are =
      counted_all (checked plan.limit wanted (parts_of t))
      ∙ ap (λ (o : Option ℕ). min (checked o wanted (parts_of t)) (2 ^ 64 - 1)) is.limit
      ∙ ap (λ (cs : List Condition). min (checked (row_limit rows.select.limit) (where_of cs) (parts_of t)) (2 ^ 64 - 1)) (sym conditions_are)
      ∙ sym (ap (λ (o : Option TableParts). option_map_or (λ (x : TableParts). min (checked (row_limit rows.select.limit) (where_of (conditions_on x rows.select)) (parts_of x)) (2 ^ 64 - 1)) o 0) table.1)

  module _ (folder : Folder) (now : v.files ≡ Some folder) where
    abbrev pub world : PlanWorld
    world = view_world folder p rows.table t relations plan.conditions

    view_is : IsViewOf world p.maps
    view_is = record {
      planned = view_planned v sound p of ready rows.table l serves t table.1 folder now relations asked asked_are;
      ordered = files_first t;
      own_tokens = view_tokens v sound p of ready rows.table l serves t table.1 folder now;
    }

    made_for : (source : PlanSource) → IsSourceOf q defs plan.conditions source → IsMadeFor world source plan.types (current_parts p rows.table)
    made_for Nothing from = from
    made_for (OfKey key items) from = (record { types_are = types_are; relations_are = sym from.3; listed_are = refl }, from.0, from.1, from.2)
      where
        types_are : types_of t.definition ≡ plan.types
        types_are = ap types_of t_defined ∙ sym is.types
    made_for (OfTable items) from = (record { types_are = types_are; relations_are = sym from.1; listed_are = refl }, from.0)
      where
        types_are : types_of t.definition ≡ plan.types
        types_are = ap types_of t_defined ∙ sym is.types

    -- **It is that of the plan in a view of the current parts.**
    pub world_read : IsReadIn world plan (current_parts p rows.table) p.maps
    world_read = record {
      view_is = view_is;
      listed_are = refl;
      types_are = ap types_of t_defined ∙ sym is.types;
      conditions_are = refl;
      made = made_for plan.source is.source;
    }

    -- ---- reads

    -- what is read without a relation on an indexed column
    key_within : (key : List ℕ) → key_asked plan.conditions ≡ Some key → key_reads q key (contents_in_files (parts_of t)) ≤ unindexed_reads (Some folder) q t (key_asked plan.conditions)
    key_within key asks =
        same_most _ _ (ap (key_reads q key) (contents_back t t.files (unflushed t)) ∙ ap (unindexed_reads (Some folder) q t) (sym asks))

    scan_within : key_asked plan.conditions ≡ None → table_reads (Some folder) (listed_files (current_parts p rows.table)) ≤ unindexed_reads (Some folder) q t (key_asked plan.conditions)
    scan_within asks =
        same_most _ _ (ap (table_reads (Some folder)) (files_back (files_of p.manifest.listing.tables rows.table) (table_numbers p.tables.items rows.table) ∙ files_are) ∙ ap (unindexed_reads (Some folder) q t) (sym asks))

    abbrev most_of : List Asked → ℕ
    most_of asks = asked_reads (Some folder) q t plan.conditions plan.limit asks

    within_by : (asks : List Asked) (reads : ℕ) → reads ≤ unindexed_reads (Some folder) q t (key_asked plan.conditions) → reads_by world (map (relation_of defs) asks) plan.limit reads ≤ most_of asks
    within_by [] reads within = within
    within_by (a ∷ asks) reads within = same_most (costs.cost q (parts_of t) plan.conditions plan.limit) _ refl

    source_within : (source : PlanSource) → IsSourceOf q defs plan.conditions source → plan_reads world source plan.limit ≤ most_of asked
    source_within Nothing from = omega arith
    source_within (OfKey key items) from =
        subst (λ (rs : List IndexedRelation). reads_by world rs plan.limit (key_reads q key.key (contents_in_files (parts_of t))) ≤ most_of asked) (sym from.3) (within_by asked _ (key_within key.key from.0))
    source_within (OfTable items) from =
        subst (λ (rs : List IndexedRelation). reads_by world rs plan.limit (table_reads (Some folder) (listed_files (current_parts p rows.table))) ≤ most_of asked) (sym from.1) (within_by asked _ (scan_within from.0))

    -- what the SELECT may read
    selected : selection_reads v.files l rows ≡ most_of asked
    selected =
        ap (λ (o : Option TableParts). option_map_or (λ (x : TableParts). rows_reads v.files l.partitioner x (conditions_on x rows.select) (row_limit rows.select.limit)) o 0) table.1
        ∙ ap (λ (o : Option Folder). rows_reads o l.partitioner t (conditions_on t rows.select) (row_limit rows.select.limit)) now
        ∙ ap (λ (r : Partitioner). rows_reads (Some folder) r t (conditions_on t rows.select) (row_limit rows.select.limit)) under
        ∙ ap (λ (cs : List Condition). rows_reads (Some folder) q t cs (row_limit rows.select.limit)) conditions_are
        ∙ ap (λ (o : Option ℕ). rows_reads (Some folder) q t plan.conditions o) (sym is.limit)

    -- **The plan reads no more than the SELECT may,**
    pub reads_within : plan_reads world plan.source plan.limit ≤ selection_reads v.files l rows
    reads_within = subst (λ (n : ℕ). plan_reads world plan.source plan.limit ≤ n) (sym selected) (source_within plan.source is.source)

    -- ---- files that aren't too long

    short_by : (asks : List Asked) → AreShortFor (Some folder) t asks → IsBoundedBy world (map (relation_of defs) asks)
    short_by [] short = tt
    short_by (a ∷ asks) short = λ name bytes is_file there.
        short name bytes (ap (λ (fs : List ListedFile). have_name fs name) (sym files_are) ∙ sym (view_files (files_of p.manifest.listing.tables rows.table) (table_numbers p.tables.items rows.table) name) ∙ is_file) there

    bounded_by : AreShortFor (Some folder) t asked → (source : PlanSource) → IsSourceOf q defs plan.conditions source → IsBounded world source
    bounded_by short Nothing from = tt
    bounded_by short (OfKey key items) from = subst (IsBoundedBy world) (sym from.3) (short_by asked short)
    bounded_by short (OfTable items) from = subst (IsBoundedBy world) (sym from.1) (short_by asked short)

    -- **where its files aren't too long.**
    pub plan_bounded : HasShortFiles v.files l rows → IsBounded world plan.source
    plan_bounded short =
        bounded_by
        (subst (λ (cs : List Condition). AreShortFor (Some folder) t (asked_of cs)) conditions_are
        (subst (λ (o : Option Folder). AreShortFor o t (asked_of (conditions_on t rows.select))) now (subst (λ (o : Option TableParts). AreShortIn v.files o rows.select) table.1 short)))
        plan.source is.source
