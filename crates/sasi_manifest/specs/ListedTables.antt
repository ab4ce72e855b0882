-- The list of tables in memory.
use Rattle.std.specs.Prelude.{◌≡◌, ℕ, ◌-◌, ◌≤◌, List, [], ◌∷◌, ◌++◌, length, map, slice_get, slice_set, Some}
use Rattle.std.specs.List.{AllByRecursion}
use Rattle.sasi_types.specs.declared.index_def.IndexDef.{IndexDef}
use Rattle.sasi_model.specs.Indexes.{index_of}
use Rattle.sasi_model.specs.State.{with_index}
use Rattle.sasi_schema.specs.Defined.{definition, numbers_of}
use Rattle.sasi_schema.specs.Numbers.{RisesFrom}
use Rattle.sasi_manifest.specs.declared.files.ListedFile.{ListedFile}
use Rattle.sasi_manifest.specs.declared.listed.ListedTable.{ListedTable}
use Rattle.sasi_manifest.specs.ListedDefinition.{ListedDefinition}
use Rattle.sasi_manifest.specs.ListedFiles.{AreInOrder, with_files, without}
use Rattle.sasi_manifest.specs.Naming.{AreApart}

-- the model of a listed table
abbrev pub listed : ListedTable → ListedDefinition
listed t = record { definition = definition t.table; numbers = numbers_of t.table; since = t.since; files = t.files }

-- numbered from 1, at most 256, each of a name of its own, and with files in the order of their numbers
pub record IsInOrder (tables : List ListedTable) : Type 0 where
  pub numbers : RisesFrom 1 (map (λ t. t.table.number) tables)
  pub few : length tables ≤ 256
  pub apart : AreApart [] (map (λ t. t.table.name) tables)
  pub files : AllByRecursion (λ t. AreInOrder 0 t.files) tables

-- the table with one index more
pub record HasMore (def : IndexDef) (t more : ListedTable) : Type 0 where
  pub number : more.table.number ≡ t.table.number
  pub definition_is : definition more.table ≡ with_index (index_of def) (definition t.table)
  pub numbers : numbers_of more.table ≡ numbers_of t.table ++ def.number ∷ []
  pub since : more.since ≡ t.since
  pub files : more.files ≡ t.files

-- the table of this number has one index more
abbrev pub IsDefinedAt : IndexDef → List ListedTable → List ListedTable → Type 0
IsDefinedAt def old new =
    (t : ListedTable) → slice_get old (def.table - 1) ≡ Some t → (more : ListedTable) × HasMore def t more × (new ≡ slice_set old (def.table - 1) more)

-- the table of this number has files in the place of others, and another first segment
abbrev pub IsReplacedAt : ℕ → List ℕ → List ListedFile → ℕ → List ListedTable → List ListedTable → Type 0
IsReplacedAt table removed added since old new =
    (t : ListedTable) → slice_get old (table - 1) ≡ Some t → new ≡ slice_set old (table - 1) (record t { since = since; files = with_files added (without removed t.files) })
