-- Indexes, as a CREATE CUSTOM INDEX defines them: their names, and what their options say.
use Rattle.std.specs.Prelude.{ℕ, ◌==◌, Bool, true, false, ◌&&◌, ◌||◌, codes, List, [], ◌∷◌, ◌++◌, map, take, Option, None, Some, is_some, unwrap_or}
use Rattle.std.specs.List.{find, flat_map}
use Rattle.std.specs.Map.{lookup}
use Rattle.std.specs.Option.{option_and_then, option_map, option_map_or}
use Prim.Native.String.{String}
use Rattle.sasi_types.specs.declared.class.Class.{Class}
use Rattle.sasi_types.specs.declared.class.Class.TheVariants.{NonTokenizing, Standard}
use Rattle.sasi_types.specs.declared.column.ColumnType.{ColumnType}
use Rattle.sasi_types.specs.declared.column.ColumnType.TheVariants as types
use Rattle.sasi_types.specs.declared.index_def.IndexDef.{IndexDef}
use Rattle.sasi_types.specs.declared.mode.Mode.{Mode}
use Rattle.sasi_types.specs.declared.mode.Mode.TheVariants as modes
use Rattle.sasi_types.specs.declared.rule.Rule.{Rule}
use Rattle.sasi_types.specs.declared.rule.Rule.TheVariants.{Whole, Words}
use Rattle.sasi_model.specs.State.{Definition, Index}
use Rattle.sasi_model.specs.Tokens.{lower_byte, same}

-- ---- names

-- the name of an index that is given none: the names of its table and its column and `idx`, cut after 48 bytes
abbrev pub default_name : List ℕ → List ℕ → List ℕ
default_name table column = take 48 (table ++ (codes "_" ++ (column ++ codes "_idx")))

abbrev pub index_name : Option (List ℕ) → List ℕ → List ℕ → List ℕ
index_name given table column = unwrap_or given (default_name table column)

-- ---- look-ups

-- a definition without the numbers of the index and its table, and without the type of its column
abbrev pub index_of : IndexDef → Index
index_of def = record { name = def.name; column = def.column; mode = def.mode; rule = def.rule }

-- the indexes of all tables
abbrev pub indexes_of : List Definition → List Index
indexes_of ds = flat_map (λ d. d.indexes) ds

-- the index of a name, which is unique over all tables
abbrev pub index_named : List ℕ → List Definition → Option Index
index_named name ds = find (λ i. same i.name name) (indexes_of ds)

-- the index of the column with this number; a column has one at most
abbrev pub index_on : ℕ → List Index → Option Index
index_on column indexes = find (λ i. i.column == column) indexes

-- ---- options: names with their values, in the order of the text

abbrev pub IndexOption : Type 0
IndexOption = List ℕ × List ℕ

-- the one class that an index can have
abbrev pub index_class : List ℕ
index_class = codes "org.apache.cassandra.index.sasi.SASIIndex"

abbrev pub analyzer_named : String → List ℕ
analyzer_named letters = codes "org.apache.cassandra.index.sasi.analyzer." ++ codes letters

-- the class of analyzer of a name
abbrev pub class_named : List ℕ → Option Class
class_named name = lookup (same name) ((analyzer_named "NonTokenizingAnalyzer", NonTokenizing) ∷ (analyzer_named "StandardAnalyzer", Standard) ∷ [])

-- the mode of a name in any case
abbrev pub mode_named : List ℕ → Option Mode
mode_named name = lookup (same (map lower_byte name)) ((codes "prefix", modes.Prefix) ∷ (codes "contains", modes.Contains) ∷ (codes "sparse", modes.Sparse) ∷ [])

-- the value of the first option of a name
abbrev pub option_value : List ℕ → List IndexOption → Option (List ℕ)
option_value name options = lookup (same name) options

-- PREFIX, unless the options name another mode
abbrev pub mode_given : List IndexOption → Mode
mode_given options = unwrap_or (option_and_then mode_named (option_value (codes "mode") options)) modes.Prefix

-- the class of analyzer, where it is a known one; a text is kept whole unless the options name another
abbrev pub class_given : List IndexOption → Option Class
class_given options = option_map_or class_named (option_value (codes "analyzer_class") options) (Some NonTokenizing)

-- the option has this value
abbrev pub option_is : List ℕ → List ℕ → List IndexOption → Bool
option_is name value options = option_map_or (same value) (option_value name options) false

-- ---- which options there are

abbrev pub is_text : ColumnType → Bool
is_text types.Text = true
is_text type = false

abbrev pub is_flag : List ℕ → Bool
is_flag value = same value (codes "true") || same value (codes "false")

abbrev pub keeps_whole : Option Class → Bool
keeps_whole (Some NonTokenizing) = true
keeps_whole class = false

abbrev pub splits : Option Class → Bool
splits (Some Standard) = true
splits class = false

-- a column of this type can have an index with this option and value, where the options name this class of analyzer
abbrev pub is_allowed : ColumnType → Option Class → IndexOption → Bool
is_allowed type class option = unwrap_or (lookup (same option.0)
    ((codes "mode", is_some (mode_named option.1))
    ∷ (codes "analyzer_class", is_text type && is_some class)
    ∷ (codes "analyzed", is_flag option.1)
    ∷ (codes "case_sensitive", is_text type && (keeps_whole class && is_flag option.1))
    ∷ (codes "tokenization_normalize_lowercase", is_text type && (splits class && is_flag option.1))
    ∷ (codes "tokenization_enable_stemming", is_text type && (splits class && same option.1 (codes "false"))) ∷ [])) false

-- a column of this type can have an index of this mode
abbrev pub mode_fits : Mode → ColumnType → Bool
mode_fits modes.Sparse types.Text = false
mode_fits mode types.Text = true
mode_fits mode types.Uuid = false
mode_fits modes.Contains type = false
mode_fits mode type = true

-- ---- an index

-- how an analyzer of this class makes terms, by the options
abbrev pub rule_by : List IndexOption → Class → Rule
rule_by options NonTokenizing = Whole (option_is (codes "case_sensitive") (codes "false") options)
rule_by options Standard = Words (option_is (codes "tokenization_normalize_lowercase") (codes "true") options)

-- how terms are made of a value of this type; a number is its own term
abbrev pub rule_given : ColumnType → List IndexOption → Option Rule
rule_given types.Text options = option_map (rule_by options) (class_given options)
rule_given type options = None

-- the index of this name on the column with this number and type
abbrev pub new_index : List ℕ → ℕ → ColumnType → List IndexOption → Index
new_index name column type options = record { name = name; column = column; mode = mode_given options; rule = rule_given type options }

-- the same, if the table has the column
abbrev pub index_made : List ℕ → Option ℕ → Option ColumnType → List IndexOption → Option Index
index_made name (Some column) (Some type) options = Some (new_index name column type options)
index_made name column type options = None
