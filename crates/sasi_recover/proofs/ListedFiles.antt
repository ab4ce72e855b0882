-- An opening leaves the files that the manifest lists as they are.
use Rattle.std.proofs.Common.{◌≡◌, ℕ, true, List, Option, None, Some, IsSome, is_some, sym, ◌∙◌, ap, subst}
use Rattle.std.specs.FinMap.{get}
use Rattle.sasi_host.specs.declared.name.FileName.{FileName}
use Rattle.sasi_host.specs.Names.{Folder, manifest_name, seal_name}
use Rattle.sasi_host.specs.View.{View, IsThere, contents_in}
use Rattle.sasi_host.specs.Disk.{Changes, Lists, Same}
use Rattle.sasi_host.proofs.ChangeLaws.{changes_as, changes_on}
use Rattle.sasi_manifest.specs.OpenManifest.{ManifestState}
use Rattle.sasi_manifest.specs.Reading.{ReadsListing}
use Rattle.sasi_folder.specs.FolderContents.{IsSealed}
use Rattle.sasi_folder.proofs.FolderLaws.{highest_same}
use Rattle.sasi_layout.specs.Kept.{Kept, is_kept}
use Rattle.sasi_recover.specs.Deletion.{Deletes}
use Rattle.sasi_recover.specs.KeptListed.{KeepsAll, KeepsListed, kept_under}
use Rattle.sasi_recover.specs.NewFolder.{IsForeign}
use Rattle.sasi_recover.specs.Opening.{IsHighestSeal}
use Rattle.sasi_recover.specs.SealedFolder.{AreListedFiles, kept_with}
use Rattle.sasi_recover.proofs.DeletedFiles.{unless_kept}
use Rattle.sasi_recover.proofs.KeptFiles.{keeps_is}
use Rattle.sasi_recover.proofs.SealedStore.{bytes_there, held_is_listed, listed_is_there, reads_of}

of_same : (x y : Folder) (name : FileName) → Same x y → get y name ≡ get x name
of_same x y name same = ap (λ (f : Folder). get f name) same

-- ---- what a manifest keeps

pub all_same : (a b : View) (k : Kept) → Changes Same a b → Changes (KeepsAll k) a b
all_same a b k same = changes_as a b Same (KeepsAll k) same (λ x y is name kept. of_same x y name is)

pub all_deleting : (a b c : View) (m : ManifestState) (wanted : List FileName) → AreListedFiles m.listing wanted → Changes Same a b → Changes (Deletes (kept_with m wanted)) b c → Changes (KeepsAll (kept_under m)) a c
all_deleting a b c m wanted listed same deletes =
    changes_on a b c Same (Deletes (kept_with m wanted)) (KeepsAll (kept_under m)) same deletes (λ x y is name kept. of_same x y name is)
    (λ x y z is step name kept.
    unless_kept (kept_with m wanted name) (get y name) (get z name) (keeps_is m.number m.listing wanted name (listed.listed name) ∙ kept) (step name) ∙ of_same x y name is)

-- ---- what the manifest of a number keeps

pub listed_same : (a b : View) (folder : Folder) (number : ℕ) → Changes Same a b → Changes (KeepsListed folder number) a b
listed_same a b folder number same = changes_as a b Same (KeepsListed folder number) same (λ x y is name listed. of_same x y name is)

-- once the manifest was read
pub listed_read : (a b c : View) (folder : Folder) (number : ℕ) (m : ManifestState) → a.files ≡ Some folder → m.number ≡ number → IsThere a (manifest_name number) → ReadsListing a number m.listing
    → Changes Same a b → Changes (KeepsAll (kept_under m)) b c → Changes (KeepsListed folder number) a c
listed_read a b c folder number m files number_is there reads same keeps =
    let bytes = bytes_there a folder (manifest_name number) files there in
    let lists = reads bytes.0 (reads_of a folder (manifest_name number) bytes.0 files bytes.1) in
    changes_on a b c Same (KeepsAll (kept_under m)) (KeepsListed folder number) same keeps (λ x y is name listed. of_same x y name is)
    (λ x y z is step name listed.
    step name (subst (λ n. is_kept (record { manifest = n; listing = m.listing }) name ≡ true) (sym number_is) (listed bytes.0 m.listing bytes.1 lists)) ∙ of_same x y name is)

-- the number is that of the highest seal
pub listed_sealed : (a b c : View) (folder : Folder) (number other : ℕ) → IsSealed folder number → IsSealed folder other → Changes Same a b → Changes (KeepsListed folder other) b c → Changes (KeepsListed folder number) a c
listed_sealed a b c folder number other sealed highest same listed =
    changes_on a b c Same (KeepsListed folder other) (KeepsListed folder number) same listed (λ x y is name of_it. of_same x y name is)
    (λ x y z is step name of_it. subst (λ n. KeepsListed folder n y z) (highest_same folder other number highest sealed) step name of_it ∙ of_same x y name is)

-- a folder without a seal has no such number
pub unsealed : (v : View) (names : List FileName) (folder : Folder) (number : ℕ) → Lists v names → v.files ≡ Some folder → IsHighestSeal names None → IsSealed folder number → ⊥
unsealed v names folder number lists files none sealed = none number (held_is_listed v names folder (seal_name number) lists files sealed.there)

-- ---- a folder of something else

none_there : {A : Type 0} (o : Option A) → o ≡ None → IsSome o → ⊥
none_there None is some = cc
none_there (Some x) is some = cc

-- it has no highest seal
pub foreign_unsealed : (v : View) (names : List FileName) (folder : Folder) (number : ℕ) → Lists v names → v.files ≡ Some folder → IsForeign folder → IsHighestSeal names (Some number) → ⊥
foreign_unsealed v names folder number lists files foreign highest =
    none_there (get folder (seal_name number)) (foreign.unsealed number)
    (subst (λ (o : Option Folder). IsSome (contents_in o (seal_name number))) files (listed_is_there v names (seal_name number) lists highest.0 (ap (λ (o : Option Folder). is_some o) files)))
