-- A view whose data files a table lists.
use Rattle.std.proofs.Common.{◌≡◌, ◌||◌, Bool, true, false, List, [], ◌∷◌, refl}
use Rattle.std.specs.Prelude.{Contains, ⊤}
use Rattle.std.specs.List.{AllByRecursion, list_any}
use Rattle.sasi_host.specs.declared.name.FileName.{FileName}
use Rattle.sasi_host.specs.Names.{name_eq}
use Rattle.sasi_manifest.specs.declared.files.ListedFile.{ListedFile}
use Rattle.sasi_manifest.specs.ListedFiles.{is_name_of}
use Rattle.sasi_plan.specs.Reading.{listed_files}
use Rattle.sasi_views.specs.declared.part.Part.{Part}
use Rattle.sasi_views.specs.declared.part.Part.TheVariants.{File, Map}
use Rattle.sasi_engine.specs.Plans.{is_file_of, names_of}

-- the data file of the part is one of these, with its index files
abbrev pub IsOfFiles : List ListedFile → Part → Type 0
IsOfFiles files (File number indexes) = Contains files (record { number = number; parts = indexes })
IsOfFiles files (Map number) = ⊤

-- the listed file whose name it is
pub record IsNamedBy (fs : List ListedFile) (name : FileName) : Type 0 where
  pub file : ListedFile
  pub is_in : Contains fs file
  pub named : is_name_of file name ≡ true

module _ (files : List ListedFile) where
  -- a file of the view is that of a listed one,
  pub part_named : (name : FileName) (parts : List Part) → AllByRecursion (IsOfFiles files) parts → is_file_of parts name ≡ true → IsNamedBy files name
  part_named name [] all is = cc
  part_named name (Map n ∷ parts) all is = part_named name parts all.1 is
  part_named name (File number indexes ∷ parts) all is = by (list_any (name_eq name) (names_of (File number indexes))) refl is (part_named name parts all.1)
    where
      by : (b : Bool) → list_any (name_eq name) (names_of (File number indexes)) ≡ b → (b || is_file_of parts name) ≡ true → (is_file_of parts name ≡ true → IsNamedBy files name) → IsNamedBy files name
      by true own is later = record { file = record { number = number; parts = indexes }; is_in = all.0; named = own }
      by false other is later = later is

  -- and each of its data files is listed
  pub data_listed : (parts : List Part) → AllByRecursion (IsOfFiles files) parts → AllByRecursion (λ (f : ListedFile). Contains files f) (listed_files parts)
  data_listed [] all = tt
  data_listed (Map n ∷ parts) all = data_listed parts all.1
  data_listed (File number indexes ∷ parts) all = (all.0, data_listed parts all.1)
