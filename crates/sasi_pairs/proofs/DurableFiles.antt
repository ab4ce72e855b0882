-- Files that are durable, while a manifest comes to list them.
use Rattle.std.proofs.Common.{◌≡◌, ◌≢◌, ℕ, List, [], ◌∷◌, map, Some, sym, ap, ◌∙◌, subst, arith}
use Rattle.std.specs.List.{AllByRecursion}
use Rattle.std.specs.FinMap.{get}
use Rattle.sasi_host.specs.declared.name.FileName.{FileName}
use Rattle.sasi_host.specs.Names.{Bytes, Folder, data_name, manifest_name, rank}
use Rattle.sasi_host.specs.View.{Holds, IsSound, View}
use Rattle.sasi_host.specs.Disk.{Changes, FileChange, IsFileDurable, IsFolderSynced, IsSynced, LeftWith, Same}
use Rattle.sasi_host.proofs.ChangeLaws.{changes_among}
use Rattle.sasi_host.proofs.ContentLaws.{holds_same}
use Rattle.sasi_host.proofs.Durability.{file_durable_new}
use Rattle.sasi_manifest.specs.declared.files.ListedFile.{ListedFile}
use Rattle.sasi_manifest.specs.declared.files.PartNumber.{PartNumber}
use Rattle.sasi_manifest.specs.declared.listing.Listing.{Listing}
use Rattle.sasi_manifest.specs.ListedFiles.{index_name, names_of}
use Rattle.sasi_manifest.specs.OpenManifest.{IsEither}
use Rattle.sasi_pairs.specs.SealedFiles.{ComesWhole}

-- a file that was written and synced is durable once the folder is synced
pub synced_durable : (a b : View) (file : FileName) (bytes : Bytes) → IsSound b → Changes Same a b → IsSynced a file → IsFolderSynced b → Holds a file bytes
    → IsFileDurable b file bytes
synced_durable a b file bytes sound same synced folder holds = file_durable_new a b file bytes sound same synced folder (holds_same a b file bytes same holds)

-- ---- files that a manifest doesn't share a name with

data_apart : (file manifest : ℕ) → data_name file ≢ manifest_name manifest
data_apart file manifest same = absurd (omega (arith, ap (λ (n : FileName). rank n.kind) same))

parts_apart : (manifest file : ℕ) (parts : List PartNumber) → AllByRecursion (λ (n : FileName). n ≢ manifest_name manifest) (map (index_name file) parts)
parts_apart manifest file [] = tt
parts_apart manifest file (p ∷ parts) = ((λ same. absurd (omega (arith, ap (λ (n : FileName). rank n.kind) same))), parts_apart manifest file parts)

names_apart : (manifest : ℕ) (file : ListedFile) → AllByRecursion (λ (n : FileName). n ≢ manifest_name manifest) (names_of file)
names_apart manifest file = (data_apart file.number manifest, parts_apart manifest file.number file.parts)

files_apart : (manifest : ℕ) (files : List (FileName × Bytes)) → AllByRecursion (λ (n : FileName). n ≢ manifest_name manifest) (map (λ (f : FileName × Bytes). f.0) files)
    → AllByRecursion (λ (f : FileName × Bytes). f.0 ≢ manifest_name manifest) files
files_apart manifest [] all = tt
files_apart manifest (f ∷ files) all = (all.0, files_apart manifest files all.1)

-- ---- each of them stays

each_image : (a : View) (files : List (FileName × Bytes)) → AllByRecursion (λ (f : FileName × Bytes). IsFileDurable a f.0 f.1) files → (c : Folder) → a.image c
    → AllByRecursion (λ (f : FileName × Bytes). get c f.0 ≡ Some f.1) files
each_image a [] all c now = tt
each_image a (f ∷ files) all c now = (all.0 c now, each_image a files all.1 c now)

each_stays : (x y : Folder) (manifest : ℕ) (files : List (FileName × Bytes)) → ((name : FileName) → name ≢ manifest_name manifest → get y name ≡ get x name)
    → AllByRecursion (λ (f : FileName × Bytes). f.0 ≢ manifest_name manifest) files → AllByRecursion (λ (f : FileName × Bytes). get x f.0 ≡ Some f.1) files
    → AllByRecursion (λ (f : FileName × Bytes). get y f.0 ≡ Some f.1) files
each_stays x y manifest [] others apart there = tt
each_stays x y manifest (f ∷ files) others apart there = (others f.0 apart.0 ∙ there.0, each_stays x y manifest files others apart.1 there.1)

-- durable files come whole, while the manifest changes alone
pub comes_whole : (a b : View) (number : ℕ) (file : ListedFile) (former next : Listing) (files : List (FileName × Bytes)) → map (λ (f : FileName × Bytes). f.0) files ≡ names_of file → IsSound a
    → AllByRecursion (λ (f : FileName × Bytes). IsFileDurable a f.0 f.1) files
    → Changes (FileChange (manifest_name number) (LeftWith (IsEither number former next))) a b → Changes (ComesWhole number former next files) a b
comes_whole a b number file former next files named sound durable change =
    let apart : AllByRecursion (λ (f : FileName × Bytes). f.0 ≢ manifest_name number) files =
    files_apart number files (subst (λ (names : List FileName). AllByRecursion (λ (n : FileName). n ≢ manifest_name number) names) (sym named) (names_apart number file)) in
    changes_among a b (λ x. AllByRecursion (λ (f : FileName × Bytes). get x f.0 ≡ Some f.1) files) (FileChange (manifest_name number) (LeftWith (IsEither number former next)))
    (ComesWhole number former next files) sound (each_image a files durable) change
    (λ x y there step. record { listed = step; there = each_stays x y number files step.others apart there })
