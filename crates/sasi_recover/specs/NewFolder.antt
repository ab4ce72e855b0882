-- A folder in which no store was created yet.
use Rattle.std.specs.Prelude.{◌≡◌, ◌⊎◌, ℕ, Bool, true, false, ◌||◌, List, [], ◌∷◌, ◌++◌, None, Some, IsSome}
use Rattle.std.specs.FinMap.{get}
use Rattle.std.specs.List.{AllByRecursion}
use Rattle.sasi_types.specs.declared.partitioner.Partitioner.{Partitioner}
use Rattle.sasi_host.specs.declared.damage.Damage.{Damage}
use Rattle.sasi_host.specs.declared.damage.FormatRule.TheVariants.{NoSeal}
use Rattle.sasi_host.specs.declared.name.FileName.{FileName}
use Rattle.sasi_host.specs.Damages.{seen_bytes}
use Rattle.sasi_host.specs.Names.{Folder, name_eq, log_name, manifest_name, seal_name}
use Rattle.sasi_host.specs.View.{View}
use Rattle.sasi_folder.specs.FolderContents.{IsFresh}
use Rattle.sasi_layout.specs.Shape.{IsOfShape, new_layout}

-- a file that an unfinished creation of a store may leave: the first manifest or the first segment of the log
abbrev pub is_initial : FileName → Bool
is_initial name = name_eq name (manifest_name 1) || name_eq name (log_name 1)

-- The folder is neither that of a store nor a new one: it has no seal, and a file that no unfinished creation leaves.
pub record IsForeign (folder : Folder) : Type 0 where
  pub unsealed : (number : ℕ) → get folder (seal_name number) ≡ None
  pub file : FileName
  pub there : IsSome (get folder file)
  pub other : is_initial file ≡ false

-- the damage reports the first of the names that an unfinished creation doesn't leave
pub record ReportsForeign (names : List FileName) (damage : Damage) : Type 0 where
  pub before : List FileName
  pub behind : List FileName
  pub is : names ≡ before ++ damage.file ∷ behind
  pub firsts : AllByRecursion (λ name. is_initial name ≡ true) before
  pub other : is_initial damage.file ≡ false
  pub rule : damage.rule ≡ NoSeal
  pub offset_is : damage.at ≡ 0
  pub seen : seen_bytes damage.seen ≡ []

-- the folder isn't a new one, where its files are known
abbrev pub NoFalseFreshDamage : View → Type 0
NoFalseFreshDamage v = (folder : Folder) → v.files ≡ Some folder → ¬ IsFresh folder

-- the folder is new, or has the shape of the store that is created in it
abbrev pub IsFreshOrNew : Partitioner → Folder → Folder → Type 0
IsFreshOrNew partitioner x y = IsFresh y ⊎ IsOfShape (new_layout partitioner) y
