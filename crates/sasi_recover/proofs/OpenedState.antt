-- What was opened of a folder.
use Rattle.std.proofs.Common.{◌≡◌, ◌⊎◌, Bool, true, false, ◌||◌, List, All, Some, refl, inl, inr, ⊎_elim}
use Rattle.std.proofs.lemmas.List.Elements.{All-contains}
use Rattle.std.specs.FinMap.{get}
use Rattle.sasi_host.specs.declared.name.FileName.{FileName}
use Rattle.sasi_host.specs.Names.{Folder, log_name, manifest_name}
use Rattle.sasi_host.specs.View.{View}
use Rattle.sasi_host.specs.Disk.{Lists}
use Rattle.sasi_folder.specs.FolderContents.{IsFresh}
use Rattle.sasi_layout.proofs.KeptLaws.{name_same}
use Rattle.sasi_recover.specs.NewFolder.{is_initial}
use Rattle.sasi_recover.proofs.SealedStore.{held_is_listed, none_where}

either_of : (x y : Bool) → (x || y) ≡ true → (x ≡ true) ⊎ (y ≡ true)
either_of true y is = inl refl
either_of false y is = inr is

-- a folder that has no other names than those that the making of a store begins with is new
pub firsts_fresh : (v : View) (names : List FileName) (folder : Folder) → Lists v names → v.files ≡ Some folder → All (λ name. is_initial name ≡ true) names → IsFresh folder
firsts_fresh v names folder lists files firsts name no_manifest no_log = none_where (get folder name) (λ there. ⊎_elim
    (λ is. no_manifest (name_same name (manifest_name 1) is))
    (λ is. no_log (name_same name (log_name 1) is))
    (either_of _ _ (All-contains (λ n. is_initial n ≡ true) names name firsts (held_is_listed v names folder name lists files there))))
