-- The format of a record: edits one after another. The fields that an edit may have depend on what is listed before it.
use Rattle.std.specs.Prelude.{ℕ, suc, ◌+◌, ◌-◌, ◌^◌, ◌==◌, Bool, true, false, not, ◌&&◌, ◌||◌, nat_eq, nat_lt, nat_le, min, zero, List, [], ◌∷◌, length, map, slice_get, Option, None, Some, is_some, unwrap_or, refl}
use Rattle.std.specs.Int.{w8, w16, w32}
use Rattle.std.specs.List.{list_any, list_all, flat_map}
use Rattle.std.specs.Option.{option_map_or}
use Rattle.sasi_types.specs.Codes.{mode_code, type_code}
use Rattle.sasi_types.specs.declared.column.ColumnType.{ColumnType}
use Rattle.sasi_types.specs.declared.column.ColumnType.TheVariants as types
use Rattle.sasi_types.specs.declared.index_def.IndexDef.{IndexDef}
use Rattle.sasi_types.specs.declared.mode.Mode.{Mode}
use Rattle.sasi_types.specs.declared.mode.Mode.TheVariants as modes
use Rattle.sasi_types.specs.declared.rule.Rule.{Rule}
use Rattle.sasi_types.specs.declared.rule.Rule.TheVariants.{Whole, Words}
use Rattle.sasi_types.specs.declared.partitioner.Partitioner.{Partitioner}
use Rattle.sasi_types.specs.declared.partitioner.Partitioner.TheVariants.{Lead8, Murmur3}
use Rattle.sasi_host.specs.Names.{Bytes}
use Rattle.sasi_host.specs.declared.damage.FormatRule.TheVariants as rule
use Rattle.sasi_model.specs.Abbreviations.{kind_of}
use Rattle.sasi_model.specs.Indexes.{index_on, indexes_of, is_text, mode_fits}
use Rattle.sasi_model.specs.State.{Column, Definition}
use Rattle.sasi_model.specs.Refusals.{names_in}
use Rattle.sasi_model.specs.Statements.{same}
use Rattle.sasi_model.specs.Tokens.{is_word_byte}
use Rattle.sasi_formats.specs.Formats.{Format, Sized, Then, Decoded, Counted, Fits, fit_items}
use Rattle.sasi_formats.specs.Formats as formats
use Rattle.sasi_formats.specs.Codings.{one_of, passing}
use Rattle.sasi_formats.specs.Fields.{◌&◌, number, in_range, checked, mapped, tagged, select, flag, last as last_of}
use Rattle.sasi_manifest.specs.declared.edit.Edit.{Edit}
use Rattle.sasi_manifest.specs.declared.edit.Edit.TheVariants.{Start, CreateTable, CreateIndex, Replace}
use Rattle.sasi_manifest.specs.declared.files.ListedFile.{ListedFile}
use Rattle.sasi_manifest.specs.declared.files.PartNumber.{PartNumber}
use Rattle.sasi_manifest.specs.declared.listing.Listing.{Listing}
use Rattle.sasi_manifest.specs.ListedDefinition.{ListedDefinition}
use Rattle.sasi_manifest.specs.ListedFiles.{has_file, is_among}
use Rattle.sasi_manifest.specs.Listings.{after_all, listed_definitions}

-- ---- names and types

-- a length, and the name: letters, digits and `_`, and none of these
abbrev pub name : List Bytes → Format Bytes
name taken = Sized (in_range w8 1 48) rule.Text (passing (λ name. list_all is_word_byte name && not (list_any (same name) taken)))

-- the byte that names a type
abbrev pub type : Format ColumnType
type = Decoded rule.Number 1 (one_of type_code (types.Text ∷ types.Int ∷ types.BigInt ∷ types.Uuid ∷ [])) (number w8)

-- ---- the start of a manifest

-- the byte that names a partitioner
abbrev pub partitioner_code : Partitioner → ℕ
partitioner_code Lead8 = 0
partitioner_code Murmur3 = 1

abbrev pub partitioner : Format Partitioner
partitioner = Decoded rule.Number 1 (one_of partitioner_code (Lead8 ∷ Murmur3 ∷ [])) (number w8)

abbrev pub start_of : Partitioner × (ℕ × ℕ) → Edit
start_of f = Start f.0 f.1.0 f.1.1

abbrev pub start_fields : Edit → Partitioner × (ℕ × ℕ)
start_fields (Start p floor last) = (p, (floor, last))
start_fields _ = (Lead8, (0, 0))

-- the partitioner, and the first and the last live segment of the log
abbrev pub start : Format Edit
start = mapped start_of start_fields (λ _. refl)
    (partitioner & checked rule.Number 4 (λ s. nat_le s.0 s.1) (in_range w32 1 (2 ^ 32 - 1) & in_range w32 1 (2 ^ 32 - 1)))

-- ---- a new table

-- 1 to 64 columns, each a name that no column before has, and a type
abbrev pub columns : Format (List Column)
columns = Counted (in_range w16 1 64) (λ before. name (names_in before) & type)

-- the columns, the position of the key among them, and the first segment that can have mutations of the table
abbrev pub shape : ℕ → Format (List Column × (ℕ × ℕ))
shape last = Then columns (λ columns. checked rule.Number 2 (λ key. nat_lt key (length columns)) (number w16) & in_range w32 1 last)

abbrev pub TableFields : Type 0
TableFields = ℕ × (Bytes × (List Column × (ℕ × ℕ)))

-- the next number, at most 256, a name that no listed table has, and the shape
abbrev pub new_table : List ListedDefinition → ℕ → Format TableFields
new_table tables last = in_range w32 (length tables + 1) (min (length tables + 1) 256) & (name (map (λ t. t.definition.name) tables) & shape last)

abbrev pub create_of : TableFields → Edit
create_of f = CreateTable f.0 f.1.0 f.1.1.0 f.1.1.1.0 f.1.1.1.1

abbrev pub create_fields : Edit → TableFields
create_fields (CreateTable table title all position since) = (table, (title, (all, (position, since))))
create_fields _ = (0, ([], ([], (0, 0))))

abbrev pub create : List ListedDefinition → ℕ → Format Edit
create tables last = mapped create_of create_fields (λ _. refl) (new_table tables last)

-- ---- a new index

-- the numbers and the names of all indexes
abbrev pub index_numbers : List ListedDefinition → List ℕ
index_numbers tables = flat_map (λ t. t.numbers) tables

abbrev pub index_names : List Definition → List Bytes
index_names ds = map (λ i. i.name) (indexes_of ds)

-- the definition of the table with this number, without columns where there is none
abbrev pub definition_at : List Definition → ℕ → Definition
definition_at ds table = unwrap_or (slice_get ds (table - 1)) (record { name = []; columns = []; key = 0; indexes = [] })

-- a number that isn't one of these
abbrev pub index_number : List ℕ → Format ℕ
index_number taken = checked rule.Number 4 (λ n. not (is_among taken n)) (in_range w32 1 (2 ^ 32 - 1))

-- The type of the column is one that can have an index, and PREFIX is for each of those. The column has none yet.
abbrev pub is_open_column : Definition → ℕ → Bool
is_open_column d column = mode_fits modes.Prefix (kind_of d column) && not (is_some (index_on column d.indexes))

-- the number of a regular column
abbrev pub indexed_column : Definition → Format ℕ
indexed_column d = checked rule.Number 2 (is_open_column d) (in_range w16 1 (length d.columns - 1))

-- the byte that names a mode
abbrev pub any_mode : Format Mode
any_mode = Decoded rule.Number 1 (one_of mode_code (modes.Prefix ∷ modes.Contains ∷ modes.Sparse ∷ [])) (number w8)

-- a mode that an index on a column of this type can have
abbrev pub mode : ColumnType → Format Mode
mode type = checked rule.Number 1 (λ m. mode_fits m type) any_mode

-- the byte that says whether a value is its own term, a text is one, or each of its words is
abbrev pub rule_code : Option Rule → ℕ
rule_code None = 0
rule_code (Some (Whole fold)) = 1
rule_code (Some (Words fold)) = 2

-- a text has a rule, and a number none
abbrev pub is_rule_code : Bool → ℕ → Bool
is_rule_code true code = nat_le 1 code && nat_le code 2
is_rule_code false code = code == 0

abbrev pub rule_byte : ColumnType → Format ℕ
rule_byte type = checked rule.Number 1 (is_rule_code (is_text type)) (number w8)

-- a rule, and what the byte behind its own says: whether letters are folded
abbrev pub RuleFields : Type 0
RuleFields = Option Rule × Bool

-- that byte, after the one of the rule; without a rule it means nothing, and may be either
abbrev pub folding : ℕ → Format RuleFields
folding zero = mapped (λ fold. (None, fold)) (λ f. f.1) (λ _. refl) flag
folding (suc zero) = mapped (λ fold. (Some (Whole fold), fold)) (λ f. f.1) (λ _. refl) flag
folding (suc (suc n)) = mapped (λ fold. (Some (Words fold), fold)) (λ f. f.1) (λ _. refl) flag

abbrev pub rule_tag : RuleFields → ℕ
rule_tag f = rule_code f.0

abbrev pub analysis : ColumnType → Format RuleFields
analysis type = tagged (rule_byte type) rule_tag folding

-- how a column of this type is indexed
abbrev pub indexing : ColumnType → Format (Mode × RuleFields)
indexing type = mode type & analysis type

-- a column of a table, and how it is indexed
abbrev pub on_column : Definition → Format (ℕ × (Mode × RuleFields))
on_column d = Then (indexed_column d) (λ column. indexing (kind_of d column))

-- a name that isn't one of these, and the column
abbrev pub named_index : List Bytes → Definition → Format (Bytes × (ℕ × (Mode × RuleFields)))
named_index names d = name names & on_column d

abbrev pub IndexFields : Type 0
IndexFields = ℕ × (ℕ × (Bytes × (ℕ × (Mode × RuleFields))))

-- the number of the index, that of one of the tables, and the rest
abbrev pub index_format : List ℕ → List Bytes → List Definition → Format IndexFields
index_format numbers names ds = index_number numbers & Then (in_range w32 1 (length ds)) (λ table. named_index names (definition_at ds table))

-- the definition of an index, and the byte for letters as its edit keeps it
abbrev pub EditFields : Type 0
EditFields = IndexDef × Bool

-- the type of the column isn't in the bytes
abbrev pub index_def_of : List Definition → IndexFields → IndexDef
index_def_of ds f = record {
  number = f.0;
  table = f.1.0;
  name = f.1.1.0;
  column = f.1.1.1.0;
  kind = kind_of (definition_at ds f.1.0) f.1.1.1.0;
  mode = f.1.1.1.1.0;
  rule = f.1.1.1.1.1.0;
}

abbrev pub index_fields : EditFields → IndexFields
index_fields (def, fold) = (def.number, (def.table, (def.name, (def.column, (def.mode, (def.rule, fold))))))

-- The definition of an index of one of these tables, where these numbers and names are taken.
abbrev pub index_def : List ℕ → List Bytes → List Definition → Format EditFields
index_def numbers names ds = mapped (λ f. (index_def_of ds f, f.1.1.1.1.1.1)) index_fields (λ _. refl) (index_format numbers names ds)

abbrev pub no_def : IndexDef
no_def = record { number = 0; table = 0; name = []; column = 0; kind = types.Text; mode = modes.Prefix; rule = None }

abbrev pub fields_of_edit : Edit → EditFields
fields_of_edit (CreateIndex def fold) = (def, fold)
fields_of_edit _ = (no_def, false)

-- its number and its name are new over all tables
abbrev pub new_index_def : List ListedDefinition → Format EditFields
new_index_def tables = index_def (index_numbers tables) (index_names (listed_definitions tables)) (listed_definitions tables)

unfoldable pub create_index : List ListedDefinition → Format Edit
create_index tables = mapped (λ f. CreateIndex f.0 f.1) fields_of_edit (λ _. refl) (new_index_def tables)

-- ---- files in the place of others

-- the files of the table with this number
abbrev pub files_of : List ListedDefinition → ℕ → List ListedFile
files_of tables table = option_map_or (λ t. t.files) (slice_get tables (table - 1)) []

-- one of the files has the number, and it isn't removed
abbrev pub is_current : List ListedFile → List ℕ → ℕ → Bool
is_current files removed n = has_file files n && not (is_among removed n)

-- the number of one of the files that isn't among those before
abbrev pub removed_number : List ListedFile → List ℕ → Format ℕ
removed_number files before = checked rule.Number 4 (is_current files before) (number w32)

abbrev pub removed_numbers : List ListedFile → Format (List ℕ)
removed_numbers files = Counted (number w32) (removed_number files)

-- the numbers of the indexes of the table with this number
abbrev pub numbers_at : List ListedDefinition → ℕ → List ℕ
numbers_at tables table = option_map_or (λ t. t.numbers) (slice_get tables (table - 1)) []

-- the number of one of these indexes
abbrev pub part_index : List ℕ → Format ℕ
part_index indexes = checked rule.Number 4 (is_among indexes) (number w32)

-- it, and the number of its part
abbrev pub index_part : List ℕ → Format PartNumber
index_part indexes = mapped (λ p. record { index = p.0; part = p.1 }) (λ p. (p.index, p.part)) (λ _. refl) (part_index indexes & in_range w32 1 (2 ^ 32 - 1))

-- the number is above that of the index of the last of these parts, if there is one
abbrev pub is_above : List PartNumber → ℕ → Bool
is_above before index = option_map_or (λ p. nat_lt p.index index) (last_of before) true

-- a part of one of these indexes, which comes after that of each part before
abbrev pub part : List ℕ → List PartNumber → Format PartNumber
part indexes before = checked rule.Order 8 (λ p. is_above before p.index) (index_part indexes)

abbrev pub parts : List ℕ → Format (List PartNumber)
parts indexes = Counted (number w16) (part indexes)

-- a file of another table, or one that stays, has the number
abbrev pub is_taken : List ListedDefinition → List ℕ → ℕ → Bool
is_taken tables removed n = list_any (λ t. has_file t.files n) tables && not (is_among removed n)

-- neither such a file has the number, nor one of these
abbrev pub is_new : List ListedDefinition → List ℕ → List ListedFile → ℕ → Bool
is_new tables removed before n = not (is_taken tables removed n) && not (has_file before n)

abbrev pub new_number : List ListedDefinition → List ℕ → List ListedFile → Format ℕ
new_number tables removed before = checked rule.Number 4 (is_new tables removed before) (in_range w32 1 (2 ^ 32 - 1))

-- a file of the table with a new number, and its parts
abbrev pub new_file_format : List ListedDefinition → ℕ → List ℕ → List ListedFile → Format ListedFile
new_file_format tables table removed before = mapped (λ f. record { number = f.0; parts = f.1 }) (λ f. (f.number, f.parts)) (λ _. refl)
    (new_number tables removed before & parts (numbers_at tables table))

abbrev pub new_files : List ListedDefinition → ℕ → List ℕ → Format (List ListedFile)
new_files tables table removed = Counted (number w32) (new_file_format tables table removed)

-- the numbers of files of the table, and new files
abbrev pub files : List ListedDefinition → ℕ → Format (List ℕ × List ListedFile)
files tables table = Then (removed_numbers (files_of tables table)) (new_files tables table)

-- no table but this one begins after the segment; the first of them has the given number
abbrev pub are_within : ℕ → ℕ → ℕ → List ListedDefinition → Bool
are_within last table n [] = true
are_within last table n (t ∷ tables) = (nat_eq n table || nat_le t.since last) && are_within last table (suc n) tables

-- No other table begins after the segment. One before the table's first segment or the first live one passes here: the segment that it is
-- before is reported.
abbrev pub is_last : List ListedDefinition → ℕ → ℕ → ℕ → ℕ → Bool
is_last tables table since floor last = nat_lt last since || (nat_lt last floor || are_within last table 1 tables)

-- the last live segment, after the first segment of the table and the first live one
abbrev pub last_segment : List ListedDefinition → ℕ → ℕ → ℕ → Format ℕ
last_segment tables table since floor = checked rule.Number 4 (is_last tables table since floor) (in_range w32 1 (2 ^ 32 - 1))

-- the first and the last live segment
abbrev pub live_segments : List ListedDefinition → ℕ → ℕ → Format (ℕ × ℕ)
live_segments tables table since =
    checked rule.Number 4 (λ s. nat_lt s.1 since || nat_le s.0 s.1) (Then (in_range w32 1 (2 ^ 32 - 1)) (last_segment tables table since))

-- the first segment that can have mutations of the table, and the live ones
abbrev pub new_segments : List ListedDefinition → ℕ → Format (ℕ × (ℕ × ℕ))
new_segments tables table = checked rule.Number 4 (λ s. nat_le s.0 s.1.1) (Then (in_range w32 1 (2 ^ 32 - 1)) (live_segments tables table))

abbrev pub ReplaceFields : Type 0
ReplaceFields = ℕ × ((List ℕ × List ListedFile) × (ℕ × (ℕ × ℕ)))

abbrev pub replace_of : ReplaceFields → Edit
replace_of f = Replace f.0 f.1.0.0 f.1.0.1 f.1.1.0 f.1.1.1.0 f.1.1.1.1

abbrev pub replace_fields : Edit → ReplaceFields
replace_fields (Replace table removed added since floor last) = (table, ((removed, added), (since, (floor, last))))
replace_fields _ = (0, (([], []), (0, (0, 0))))

-- the files of a table that go and those that come, and the segments
abbrev pub replacing : List ListedDefinition → ℕ → Format ((List ℕ × List ListedFile) × (ℕ × (ℕ × ℕ)))
replacing tables table = files tables table & new_segments tables table

-- the number of the table before them
abbrev pub replacement : List ListedDefinition → Format ReplaceFields
replacement tables = Then (in_range w32 1 (length tables)) (replacing tables)

unfoldable pub replace : List ListedDefinition → Format Edit
replace tables = mapped replace_of replace_fields (λ _. refl) (replacement tables)

-- ---- edits

-- the byte that names an edit
abbrev pub tag_of : Edit → ℕ
tag_of (Start _ _ _) = 1
tag_of (CreateTable _ _ _ _ _) = 2
tag_of (CreateIndex _ _) = 3
tag_of (Replace _ _ _ _ _ _) = 5

-- the tags that a manifest has after its start
abbrev pub is_later_tag : ℕ → Bool
is_later_tag n = n == 2 || (n == 3 || n == 5)

abbrev pub later_tag : Format ℕ
later_tag = checked rule.Number 1 is_later_tag (number w8)

-- the edit with this tag
abbrev pub by_tag : List ListedDefinition → ℕ → ℕ → Format Edit
by_tag tables last n = select (n == 1) start (select (n == 2) (create tables last) (select (n == 3) (create_index tables) (replace tables)))

-- An edit after this listing; before the first edit there is none. A manifest begins with its start, and no other edit is one.
unfoldable pub edit : Option Listing → Format Edit
edit None = tagged (in_range w8 1 1) tag_of (by_tag [] 0)
edit (Some listing) = tagged later_tag tag_of (by_tag listing.tables listing.last)

-- the number of edits, at least one, and each of them after those before
abbrev pub edits : Option Listing → Format (List Edit)
edits from = Counted (in_range w32 1 (2 ^ 32 - 1)) (λ before. edit (after_all from before))

-- the edit may follow the listing
abbrev pub Applies : Option Listing → Edit → Type 0
Applies from e = Fits (edit from) e

-- edits apply one after another
abbrev pub AllApply : Option Listing → List Edit → Type 0
AllApply from es = fit_items (λ before. Applies (after_all from before)) [] es

-- the bytes of a record, which are the same whatever is listed
unfoldable pub encoded : List Edit → Bytes
encoded es = formats.encoded (edits None) es
