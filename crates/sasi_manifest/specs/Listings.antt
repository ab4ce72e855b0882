-- The listing of a manifest, and the effect of edits on it.
use Rattle.std.specs.Prelude.{ℕ, suc, ◌+◌, ◌<◌, ◌≤◌, ◌^◌, nat_le, max, Bool, false, List, [], ◌∷◌, ◌++◌, length, map, Option, Some, None, if◌then◌else◌}
use Rattle.std.specs.List.{AllByRecursion, fold, zip}
use Rattle.std.specs.Option.{option_map}
use Rattle.sasi_types.specs.Rule.{folds}
use Rattle.sasi_types.specs.declared.index_def.IndexDef.{IndexDef}
use Rattle.sasi_types.specs.declared.rule.Rule.{Rule}
use Rattle.sasi_host.specs.Names.{Bytes}
use Rattle.sasi_model.specs.Abbreviations.{kind_of}
use Rattle.sasi_model.specs.Cells.{largest}
use Rattle.sasi_model.specs.Indexes.{index_of}
use Rattle.sasi_model.specs.State.{Definition, Index, with_index}
use Rattle.sasi_model.specs.Refusals.{names_in}
use Rattle.sasi_manifest.specs.declared.edit.Edit.{Edit}
use Rattle.sasi_manifest.specs.declared.edit.Edit.TheVariants.{Start, CreateTable, CreateIndex, Replace}
use Rattle.sasi_manifest.specs.declared.files.ListedFile.{ListedFile}
use Rattle.sasi_manifest.specs.declared.listing.Listing.{Listing}
use Rattle.sasi_manifest.specs.ListedDefinition.{ListedDefinition}
use Rattle.sasi_manifest.specs.ListedFiles.{with_files, without}
use Rattle.sasi_manifest.specs.Naming.{AreNames}
pub use Rattle.sasi_model.specs.Changes.{at_number}

-- the definitions of the listed tables
abbrev pub listed_definitions : List ListedDefinition → List Definition
listed_definitions tables = map (λ t. t.definition) tables

-- the largest number of an index, 0 where there is none
abbrev pub largest_index : List ListedDefinition → ℕ
largest_index [] = 0
largest_index (t ∷ tables) = max (largest t.numbers) (largest_index tables)

-- ---- edits

-- a manifest's first edit: the live segments of the log are those from the floor to the last
pub record CanStart (floor last : ℕ) : Type 0 where
  pub floor_some : 1 ≤ floor
  pub ordered : floor ≤ last
  pub last_fits : last < 2 ^ 32

-- the fields of the edit fit their widths
abbrev pub FitsWidths : Edit → Type 0
FitsWidths (Start partitioner floor last) = Unit {0}
FitsWidths (CreateTable number name columns key since) = (length name ≤ 48) × (length columns ≤ 64) × AreNames (names_in columns)
FitsWidths (CreateIndex def fold) = length def.name ≤ 48
FitsWidths (Replace table removed added since floor last) = (length removed < 2 ^ 32) × (length added < 2 ^ 32) × AllByRecursion (λ f. length f.parts < 2 ^ 16) added

-- the table with one index more
abbrev pub listed_with_index : IndexDef → ListedDefinition → ListedDefinition
listed_with_index def t = record t { definition = with_index (index_of def) t.definition; numbers = t.numbers ++ def.number ∷ [] }

-- the table with these files in the place of others
abbrev pub replaced : List ℕ → List ListedFile → ℕ → ListedDefinition → ListedDefinition
replaced removed added since t = record t { since = since; files = with_files added (without removed t.files) }

-- The listing after an edit. A start has no tables and no record yet; the header and the closed gate have 17 bytes.
abbrev pub after : Option Listing → Edit → Option Listing
after from (Start partitioner floor last) = Some (record { partitioner = partitioner; floor = floor; last = last; records = 0; length = 17; tables = [] })
after None (CreateTable number name columns key since) = None
after (Some listing) (CreateTable number name columns key since) =
    Some (record listing { tables = listing.tables ++ record { definition = record { name = name; columns = columns; key = key; indexes = [] }; numbers = []; since = since; files = [] } ∷ [] })
after None (CreateIndex def fold) = None
after (Some listing) (CreateIndex def fold) = Some (record listing { tables = at_number 1 def.table (listed_with_index def) listing.tables })
after None (Replace table removed added since floor last) = None
after (Some listing) (Replace table removed added since floor last) =
    Some (record listing { floor = floor; last = last; tables = at_number 1 table (replaced removed added since) listing.tables })

-- the listing after edits
abbrev pub after_all : Option Listing → List Edit → Option Listing
after_all from edits = fold after from edits

-- the listing counts one record more: its gate, its length and its payload
abbrev pub with_record_counted : Bytes → Option Listing → Option Listing
with_record_counted payload from = option_map (λ (l : Listing). record l { records = l.records + 1; length = l.length + (5 + length payload) }) from

-- the number of records, and the length of the manifest
abbrev pub records_of : Option Listing → ℕ
records_of None = 0
records_of (Some listing) = listing.records

abbrev pub length_of : Option Listing → ℕ
length_of None = 17
length_of (Some listing) = listing.length

-- ---- the record that builds up a listing anew

abbrev pub create_edit : ℕ → ListedDefinition → Edit
create_edit number t = CreateTable number t.definition.name t.definition.columns t.definition.key t.since

abbrev pub table_edits : ℕ → List ListedDefinition → List Edit
table_edits number [] = []
table_edits number (t ∷ tables) = create_edit number t ∷ table_edits (suc number) tables

-- the definition of an index of the table with this number
abbrev pub def_of : ℕ → Definition → ℕ × Index → IndexDef
def_of table d numbered = record {
  number = numbered.0;
  table = table;
  name = numbered.1.name;
  column = numbered.1.column;
  kind = kind_of d numbered.1.column;
  mode = numbered.1.mode;
  rule = numbered.1.rule;
}

-- those of a table, in order
abbrev pub defs_of : ℕ → ListedDefinition → List IndexDef
defs_of table t = map (def_of table t.definition) (zip t.numbers t.definition.indexes)

-- those of each table; the first has this number
abbrev pub all_defs : ℕ → List ListedDefinition → List IndexDef
all_defs number [] = []
all_defs number (t ∷ tables) = defs_of number t ++ all_defs (suc number) tables

-- with one more, in the order of the numbers
abbrev pub with_def : IndexDef → List IndexDef → List IndexDef
with_def def [] = def ∷ []
with_def def (other ∷ defs) = if nat_le def.number other.number then def ∷ other ∷ defs else other ∷ with_def def defs

-- in the order of their numbers
abbrev pub by_number : List IndexDef → List IndexDef
by_number [] = []
by_number (def ∷ defs) = with_def def (by_number defs)

-- the definitions of all indexes, in the order of their numbers
abbrev pub index_defs : List ListedDefinition → List IndexDef
index_defs tables = by_number (all_defs 1 tables)

-- whether a rule folds letters
abbrev pub fold_of : Option Rule → Bool
fold_of None = false
fold_of (Some rule) = folds rule

-- the edit that is written for an index; where it has no rule, the byte for letters is 0
abbrev pub index_edit : IndexDef → Edit
index_edit def = CreateIndex def (fold_of def.rule)

abbrev pub index_edits : List ListedDefinition → List Edit
index_edits tables = map index_edit (index_defs tables)

abbrev pub files_edit : ℕ → ℕ → ℕ → ℕ → List ListedFile → List Edit
files_edit number since floor last [] = []
files_edit number since floor last (f ∷ files) = Replace number [] (f ∷ files) since floor last ∷ []

-- nothing is removed, and all files are added, in each table that has some
abbrev pub file_edits : ℕ → ℕ → ℕ → List ListedDefinition → List Edit
file_edits number floor last [] = []
file_edits number floor last (t ∷ tables) = files_edit number t.since floor last t.files ++ file_edits (suc number) floor last tables

-- the start, then the tables in order, then the indexes of all tables in the order of their numbers, then the files of each table
abbrev pub rewrite_edits : Listing → List Edit
rewrite_edits listing = Start listing.partitioner listing.floor listing.last ∷ (table_edits 1 listing.tables ++ (index_edits listing.tables ++ file_edits 1 listing.floor listing.last listing.tables))
