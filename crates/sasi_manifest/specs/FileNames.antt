-- The names of the files that tables have: their data files, and the index files that go with these.
use Rattle.std.specs.Prelude.{ℕ, max, Bool, List, [], ◌∷◌}
use Rattle.std.specs.List.{flat_map, list_any}
use Rattle.sasi_host.specs.declared.name.FileName.{FileName}
use Rattle.sasi_host.specs.Names.{name_eq}
use Rattle.sasi_manifest.specs.ListedDefinition.{ListedDefinition}
use Rattle.sasi_manifest.specs.ListedFiles.{largest_of_files, names_of}

-- table by table, and file by file
abbrev pub file_names : List ListedDefinition → List FileName
file_names tables = flat_map (λ t. flat_map names_of t.files) tables

-- it is one of them
abbrev pub has_name : List ListedDefinition → FileName → Bool
has_name tables name = list_any (name_eq name) (file_names tables)

-- the largest number of a part, 0 where there is none
abbrev pub largest_part : List ListedDefinition → ℕ
largest_part [] = 0
largest_part (t ∷ ts) = max (largest_of_files t.files) (largest_part ts)
