-- What stays while a store changes one of its files.
use Rattle.std.proofs.Common.{◌≡◌, ◌≢◌, ◌||◌, ℕ, Bool, true, false, is_some, List, Option, Some, None, refl, sym, ap, subst, ◌∙◌}
use Rattle.std.specs.FinMap.{get}
use Rattle.std.specs.Ordering.{eq_by_cmp}
use Rattle.sasi_host.specs.declared.name.FileName.{FileName}
use Rattle.sasi_host.proofs.ContentLaws.{told_before, told_files}
use Rattle.sasi_host.specs.Disk.{AnyChange, Changes, FileChange}
use Rattle.sasi_host.specs.NameLaws.{same_name, test_here}
use Rattle.sasi_host.specs.Names.{Bytes, Folder, manifest_name, name_cmp}
use Rattle.sasi_host.specs.View.{Reaches, View, contents_in}
use Rattle.sasi_host.proofs.Durability.{file_durable_other}
use Rattle.sasi_gated.specs.Handles.{IsAtEnd}
use Rattle.sasi_gated.proofs.HandleLaws.{end_stays}
use Rattle.sasi_manifest.specs.declared.listing.Listing.{Listing}
use Rattle.sasi_manifest.specs.OpenManifest.{ManifestStands}
use Rattle.sasi_manifest.proofs.Laws.{manifest_stays}
use Rattle.sasi_layout.specs.Kept.{HasKeptBeside, Kept, is_kept, is_kept_beside}

-- ---- gated files

-- a gated file ends where it did, where another file changes
pub end_other : (a b : View) (file name : FileName) (at : ℕ) (records : List Bytes) → name ≢ file → Changes (FileChange file AnyChange) a b → IsAtEnd a name at records → IsAtEnd b name at records
end_other a b file name at records apart change = end_stays a b name at records (λ bytes. file_durable_other a b file name AnyChange bytes apart change)

pub manifest_other : (a b : View) (file : FileName) (number at : ℕ) (listing : Listing) → manifest_name number ≢ file → Changes (FileChange file AnyChange) a b → ManifestStands a number at listing → ManifestStands b number at listing
manifest_other a b file number at listing apart change = manifest_stays a b number at listing (λ bytes. file_durable_other a b file (manifest_name number) AnyChange bytes apart change)

-- ---- which files are there

there_some : (o : Option Bytes) (bytes : Bytes) → o ≡ Some bytes → is_some o ≡ true
there_some None bytes is = cc
there_some (Some b) bytes is = refl

-- the folder has the same files, where one of them changes and stays
step_kept : (aside : FileName → Bool) (k : Kept) (file : FileName) (x y : Folder) → is_kept k file ≡ true → FileChange file AnyChange x y → is_some (get y file) ≡ true → HasKeptBeside aside k x → HasKeptBeside aside k y
step_kept aside k file x y kept step there has name = by (eq_by_cmp name_cmp name file) refl
  where
    or_true : (a : Bool) → (a || true) ≡ true
    or_true true = refl
    or_true false = refl

    by : (b : Bool) → eq_by_cmp name_cmp name file ≡ b → is_some (get y name) ≡ is_kept_beside aside k name
    by true same =
        let is : name ≡ file = same_name name file same in
        ap (λ (n : FileName). is_some (get y n)) is ∙ there ∙ sym (or_true (aside file)) ∙ ap (λ b. aside file || b) (sym kept) ∙ ap (is_kept_beside aside k) (sym is)
    by false other = ap (λ (o : Option Bytes). is_some o) (step.others name (λ same. both (sym (ap (λ (n : FileName). eq_by_cmp name_cmp n file) same ∙ test_here file) ∙ other))) ∙ has name
      where
        both : true ≡ false → ⊥
        both e = cc

one_folder : (x y : Folder) → Some x ≡ Some y → x ≡ y
one_folder x y e = cc

pub changed_kept : (a b : View) (aside : FileName → Bool) (k : Kept) (file : FileName) → is_kept k file ≡ true → Changes (FileChange file AnyChange) a b → ((folder : Folder) → b.files ≡ Some folder → is_some (get folder file) ≡ true)
    → ((folder : Folder) → a.files ≡ Some folder → HasKeptBeside aside k folder) → (folder : Folder) → b.files ≡ Some folder → HasKeptBeside aside k folder
changed_kept a b aside k file kept change there has folder files =
    let was = told_files a (told_before (FileChange file AnyChange) a b change (ap (λ (o : Option Folder). is_some o) files)) in
    let now = change.seen was.0 was.1 in
    let same : now.0 ≡ folder = one_folder now.0 folder (sym now.1 ∙ files) in
    subst (HasKeptBeside aside k) same (step_kept aside k file was.0 now.0 kept now.2 (there now.0 now.1) (has was.0 was.1))

-- a file that reaches to some offset is there
pub reached_there : (v : View) (file : FileName) (at : ℕ) → Reaches v file at → (folder : Folder) → v.files ≡ Some folder → is_some (get folder file) ≡ true
reached_there v file at reaches folder files =
    let there = reaches (ap (λ (o : Option Folder). is_some o) files) in
    there_some (get folder file) there.0 (sym (ap (λ (o : Option Folder). contents_in o file) files) ∙ there.1)
