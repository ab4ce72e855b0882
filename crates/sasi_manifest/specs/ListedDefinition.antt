-- A table that a manifest lists.
use Rattle.std.specs.Prelude.{ℕ, List}
use Rattle.std.specs.Coded.{Coded, code_by, coded×, coded_ℕ, coded_list}
use Rattle.std.proofs.Common.{refl}
use Rattle.sasi_model.specs.State.{Definition}
use Rattle.sasi_model.specs.Codes.{coded_definition}
use Rattle.sasi_manifest.specs.declared.files.ListedFile.{ListedFile}
use Rattle.sasi_manifest.specs.ListedFiles.{coded_file}

-- its number is its position in the listing, from 1
pub record ListedDefinition : Type 0 where
  pub definition : Definition
  -- the numbers of its indexes, in order
  pub numbers : List ℕ
  -- the first segment of the log that can have mutations of it
  pub since : ℕ
  -- its data files, rising by number
  pub files : List ListedFile

abbrev pub listed_code : Coded ListedDefinition
listed_code =
    code_by (Definition × (List ℕ × (ℕ × List ListedFile))) (coded× coded_definition (coded× (coded_list coded_ℕ) (coded× coded_ℕ (coded_list coded_file))))
    (λ t. (t.definition, (t.numbers, (t.since, t.files)))) (λ c. record { definition = c.0; numbers = c.1.0; since = c.1.1.0; files = c.1.1.1 }) (λ _. refl)
