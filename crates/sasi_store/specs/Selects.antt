-- What can be selected from a store, and how much is read for it.
use Rattle.std.specs.Prelude.{◌≡◌, ◌-◌, ◌<◌, ◌≤◌, ◌^◌, ℕ, Bool, true, List, [], ◌∷◌, length, map, slice_get, Option, None, Some}
use Rattle.std.specs.List.{AllByRecursion, list_any}
use Rattle.std.specs.Option.{option_map_or}
use Rattle.sasi_types.specs.declared.partitioner.Partitioner.{Partitioner}
use Rattle.sasi_types.specs.declared.statement.Select.{Select}
use Rattle.sasi_types.specs.declared.statement.Statement.TheVariants.{Compact, Fetch, Query, StepCompact}
use Rattle.sasi_host.specs.declared.name.FileName.{FileName}
use Rattle.sasi_host.specs.Names.{Bytes, Folder}
use Rattle.sasi_host.specs.View.{contents_in}
use Rattle.sasi_model.specs.Abbreviations.{key_type, types_of}
use Rattle.sasi_model.specs.Conditions.{Condition, condition_of}
use Rattle.sasi_model.specs.Filters.{key_asked, row_limit}
use Rattle.sasi_model.specs.Refusals.{ParsedPiece, Says}
use Rattle.sasi_model.specs.State.{Definition}
use Rattle.sasi_model.specs.Step.{selected_columns}
use Rattle.sasi_schema.specs.Defined.{definition}
use Rattle.sasi_schema.specs.Numbers.{number_of_table}
use Rattle.sasi_manifest.specs.declared.files.ListedFile.{ListedFile}
use Rattle.sasi_manifest.specs.declared.listed.ListedTable.{ListedTable}
use Rattle.sasi_manifest.specs.ListedFiles.{is_name_of}
use Rattle.sasi_manifest.specs.ListedTables.{listed}
use Rattle.sasi_layout.specs.Layout.{File, Layout, TableParts}
use Rattle.sasi_layout.specs.Serving.{StoreInMemory}
use Rattle.sasi_layout.specs.Statements.{definitions_of}
use Rattle.sasi_machine.specs.Operands.{CanSelect}
use Rattle.sasi_machine.specs.Picks.{pick}
use Rattle.sasi_machine.specs.declared.prepared.Selection.{Selection}
use Rattle.sasi_scan.specs.Finding.{key_reads}
use Rattle.sasi_scan.specs.Paging.{table_reads}
use Rattle.sasi_candidates.specs.Costs.{cost}
use Rattle.sasi_candidates.specs.LayoutParts.{parts_of}
use Rattle.sasi_engine.specs.Asked.{Asked, asked_of}
use Rattle.sasi_plan.specs.Plans.{IsAskedOf, IsSourceOf, PlanView}
use Rattle.sasi_tables.specs.Tables.{file_contents}
use Rattle.sasi_tables.specs.declared.parts.Parts.{Parts}

-- the table of the rows is there, and the SELECT isn't refused on it
pub record IsSelectable (store : StoreInMemory) (rows : Selection) : Type 0 where
  pub some : 0 < rows.table
  pub definition : Definition
  pub there : slice_get store.definitions (rows.table - 1) ≡ Some definition
  pub can : CanSelect definition rows.select

-- ---- plans

-- The plan is one for this SELECT over the table that the manifest lists at this number.
pub record IsPlanFor (p : Parts) (rows : Selection) (plan : PlanView) : Type 0 where
  pub some : 0 < rows.table
  pub within : rows.table ≤ length p.tables.items
  pub row : ListedTable
  pub there : slice_get p.manifest.listing.tables (rows.table - 1) ≡ Some (listed row)
  pub key : plan.picked.key ≡ key_type (definition row.table)
  pub columns : plan.picked.columns ≡ map pick (selected_columns (definition row.table) rows.select.columns)
  pub limit : plan.limit ≡ row_limit rows.select.limit
  pub conditions : plan.conditions ≡ map (condition_of (definition row.table)) rows.select.relations
  pub types : plan.types ≡ types_of (definition row.table)
  pub source : IsSourceOf p.manifest.listing.partitioner row.table.indexes plan.conditions plan.source
  pub asked : AllByRecursion (IsAskedOf (definition row.table)) (asked_of plan.conditions)

-- ---- reads

-- How often the rows of a table are read without a relation on an indexed column: with one on the key as often as a look-up of that key reads its
-- data files, and else as often as a scan does.
abbrev pub unindexed_reads : Option Folder → Partitioner → TableParts → Option (List ℕ) → ℕ
unindexed_reads seen partitioner t None = table_reads seen (map (λ (f : File). f.listed) t.files)
unindexed_reads seen partitioner t (Some key) = key_reads partitioner key (file_contents t)

-- with some: the cost of the conditions, up to the LIMIT, in the parts of the table
abbrev pub asked_reads : Option Folder → Partitioner → TableParts → List Condition → Option ℕ → List Asked → ℕ
asked_reads seen partitioner t conditions limit [] = unindexed_reads seen partitioner t (key_asked conditions)
asked_reads seen partitioner t conditions limit (a ∷ asked) = cost partitioner (parts_of t) conditions limit

abbrev pub rows_reads : Option Folder → Partitioner → TableParts → List Condition → Option ℕ → ℕ
rows_reads seen partitioner t conditions limit = asked_reads seen partitioner t conditions limit (asked_of conditions)

-- what a SELECT asks of the rows of a table of a layout
abbrev pub conditions_on : TableParts → Select → List Condition
conditions_on t select = map (condition_of t.definition) select.relations

-- **How many reads the rows of a table of a layout may take**, for this SELECT
abbrev pub selection_reads : Option Folder → Layout → Selection → ℕ
selection_reads seen l rows =
    option_map_or (λ (t : TableParts). rows_reads seen l.partitioner t (conditions_on t rows.select) (row_limit rows.select.limit)) (slice_get l.tables (rows.table - 1)) 0

-- How many reads a piece may need: a SELECT those of the rows of the table that it names, and any other none.
abbrev pub select_reads : Option Folder → Layout → ParsedPiece → ℕ
select_reads seen l (Says (Query select)) =
    option_map_or (λ number. selection_reads seen l (record { table = number; select = select })) (number_of_table select.table (definitions_of l)) 0
select_reads seen l parsed = 0

-- ---- for files that aren't too long

-- the file is a data file of the table, or an index file that goes with one
abbrev pub is_of_table : TableParts → FileName → Bool
is_of_table t name = list_any (λ (f : ListedFile). is_name_of f name) (map (λ (f : File). f.listed) t.files)

-- each of the table's files has at most 2^40 bytes, where a relation is on an indexed column
abbrev pub AreShortFor : Option Folder → TableParts → List Asked → Type 0
AreShortFor seen t [] = Unit {0}
AreShortFor seen t (a ∷ asked) = (name : FileName) (bytes : Bytes) → is_of_table t name ≡ true → contents_in seen name ≡ Some bytes → length bytes ≤ 2 ^ 40

abbrev pub AreShortIn : Option Folder → Option TableParts → Select → Type 0
AreShortIn seen None select = Unit {0}
AreShortIn seen (Some t) select = AreShortFor seen t (asked_of (conditions_on t select))

-- **What the bound on reads supposes of files**: where the SELECT has a relation on an indexed column, each file of its table has at most 2^40 bytes
abbrev pub HasShortFiles : Option Folder → Layout → Selection → Type 0
HasShortFiles seen l rows = AreShortIn seen (slice_get l.tables (rows.table - 1)) rows.select

abbrev pub HasShortTable : Option Folder → Layout → Select → Option ℕ → Type 0
HasShortTable seen l select None = Unit {0}
HasShortTable seen l select (Some number) = HasShortFiles seen l (record { table = number; select = select })

-- the same for a piece; only a SELECT supposes something. Of a FETCH no bound is said here: what it may read, its cursor says. Nor is one of COMPACT and STEP COMPACT.
abbrev pub HasShortRows : Option Folder → Layout → ParsedPiece → Type 0
HasShortRows seen l (Says (Query select)) = HasShortTable seen l select (number_of_table select.table (definitions_of l))
HasShortRows seen l (Says (Fetch cursor count)) = ⊥
HasShortRows seen l (Says (Compact table)) = ⊥
HasShortRows seen l (Says (StepCompact table units)) = ⊥
HasShortRows seen l parsed = Unit {0}
