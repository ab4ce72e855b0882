-- Damage that a step reports: of the folder, or of a file that a cursor holds and that is listed no more.
use Rattle.std.specs.Prelude.{◌≡◌, ◌⊎◌, ◌∷◌, [], ℕ, Bool, true, Contains, IsSome, List, Some}
use Rattle.std.specs.FinMap.{get}
use Rattle.sasi_folder.specs.Damages.{FolderShows, IsListedName, ShowsListedFile}
use Rattle.sasi_folder.specs.FolderContents.{IsSealed}
use Rattle.sasi_host.specs.declared.damage.Damage.{Damage}
use Rattle.sasi_host.specs.declared.name.FileName.{FileName}
use Rattle.sasi_host.specs.Names.{Bytes, Folder, manifest_name}
use Rattle.sasi_manifest.specs.Format.{IsManifest}
use Rattle.sasi_manifest.specs.ListedDefinition.{ListedDefinition}
use Rattle.sasi_manifest.specs.declared.files.ListedFile.{ListedFile}
use Rattle.sasi_manifest.specs.declared.listing.Listing.{Listing}
use Rattle.sasi_tasks.specs.Running.{is_held}
use Rattle.sasi_views.specs.Books.{Book}

-- the table as if it had these files
abbrev pub with_files : ListedDefinition → List ListedFile → List ListedDefinition
with_files table files = record table { files = files } ∷ []

-- A file of the folder that is held, a data file or an index file that goes with one, breaks its format, for the columns of a table that the manifest lists.
pub record ShowsHeld (held : FileName → Bool) (folder : Folder) (damage : Damage) : Type 0 where
  pub number : ℕ
  pub sealed : IsSealed folder number
  pub bytes : Bytes
  pub there : get folder (manifest_name number) ≡ Some bytes
  pub listing : Listing
  pub manifest : IsManifest number bytes listing
  pub table : ListedDefinition
  pub listed : Contains listing.tables table
  pub files : List ListedFile
  pub present : (name : FileName) → IsListedName (with_files table files) name → (held name ≡ true) × IsSome (get folder name)
  pub shows : ShowsListedFile folder (with_files table files) damage

-- **The folder shows the damage, or a file that a view lists which is out.**
abbrev pub StepShows : Book → Folder → Damage → Type 0
StepShows views folder damage = FolderShows folder damage ⊎ ShowsHeld (is_held views) folder damage
