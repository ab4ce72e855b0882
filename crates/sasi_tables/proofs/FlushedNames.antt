-- Which files a folder has after a flush.
use Rattle.std.specs.Prelude.{◌≡◌, ◌≢◌, ◌||◌, ◌&&◌, ◌<◌, ◌≤◌, ℕ, Bool, true, false, nat_le, nat_lt, List, Option, None, Some, is_some, refl}
use Rattle.std.proofs.Common.{sym, ap, subst, ◌∙◌, ⊎_elim, arith}
use Rattle.std.proofs.lemmas.Bool.Decides.{nat_tests}
use Rattle.std.specs.FinMap.{get}
use Rattle.sasi_host.specs.declared.name.FileName.{FileName}
use Rattle.sasi_host.specs.Names.{Folder, log_name, manifest_name, name_eq}
use Rattle.sasi_host.proofs.NameCases.{name_cases}
use Rattle.sasi_host.specs.View.{IsThere, IsTold, View, contents_in}
use Rattle.sasi_host.specs.Disk.{Changes}
use Rattle.sasi_manifest.specs.declared.files.PartNumber.{PartNumber}
use Rattle.sasi_manifest.specs.ListedFiles.{is_name_of, names_of}
use Rattle.sasi_layout.specs.Flushed.{flush_drops, flush_makes}
use Rattle.sasi_layout.proofs.FileNameLaws.{name_same, name_there}
use Rattle.sasi_layout.proofs.KeptOn.{Turned}
use Rattle.sasi_tables.specs.declared.flush.FlushNumbers.{FlushNumbers}
use Rattle.sasi_tables.specs.Flushing.{ChangesInFlush, HasFlushedFiles, file_of}

-- a file that is there, in the folder that is told
there_in : (v : View) (x : Folder) (file : FileName) → v.files ≡ Some x → IsThere v file → is_some (get x file) ≡ true
there_in v x file was there =
    let told : IsTold v = ap (λ (o : Option Folder). is_some o) was in
    sym (ap (λ (o : Option Folder). is_some (contents_in o file)) was) ∙ there told

both_true : (a b : Bool) → (a && b) ≡ true → (a ≡ true) × (b ≡ true)
both_true true b is = (refl, is)
both_true false b is = cc

-- a segment that isn't dropped
not_dropped : (first floor : ℕ) (name : FileName) → flush_drops first floor name ≡ false → (segment : ℕ) → first ≤ segment → segment < floor → name ≢ log_name segment
not_dropped first floor name is segment above below same =
    let dropped : flush_drops first floor (log_name segment) ≡ true = grind (arith, nat_tests, above, below) in
    let kept : flush_drops first floor (log_name segment) ≡ false = ap (flush_drops first floor) (sym same) ∙ is in
    cc

-- **The folder has the files of a flush more**, and not the segments before the new floor.
pub flush_turned : (n : FlushNumbers) (parts : List PartNumber) (manifest first : ℕ) (v w : View) (x y : Folder) → v.files ≡ Some x → w.files ≡ Some y → IsThere v (manifest_name manifest) → IsThere w (manifest_name manifest)
    → HasFlushedFiles w first n parts → Changes (ChangesInFlush manifest first n parts) v w → Turned (flush_makes (file_of n parts) n.last) (flush_drops first n.floor) x y
flush_turned n parts manifest first v w x y was now before after has change = record { new = λ name. made name (name_eq name (log_name n.last)) refl; old = λ name unmade. gone name; same = same }
  where
    made : (name : FileName) (b : Bool) → name_eq name (log_name n.last) ≡ b → (name_eq name (log_name n.last) || is_name_of (file_of n parts) name) ≡ true → is_some (get y name) ≡ true
    made name true log is = subst (λ f. is_some (get y f) ≡ true) (sym (name_same name (log_name n.last) log)) (there_in w y (log_name n.last) now has.segment)
    made name false log is = there_in w y name now (name_there (λ k. IsThere w k) name (names_of (file_of n parts)) has.files (sym (ap (λ b. b || is_name_of (file_of n parts) name) log) ∙ is))

    gone : (name : FileName) → flush_drops first n.floor name ≡ true → is_some (get y name) ≡ false
    gone name is =
        let log = both_true (name_eq name (log_name name.number)) (nat_le first name.number && nat_lt name.number n.floor) is in
        let between = both_true (nat_le first name.number) (nat_lt name.number n.floor) log.1 in
        let above : first ≤ name.number = grind (arith, nat_tests, between.0) in
        let below : name.number < n.floor = grind (arith, nat_tests, between.1) in
        let none : get y (log_name name.number) ≡ None = sym (ap (λ (o : Option Folder). contents_in o (log_name name.number)) now) ∙ has.gone name.number above below in
        ap (λ (k : FileName). is_some (get y k)) (name_same name (log_name name.number) log.0) ∙ ap is_some none

    same : (name : FileName) → flush_makes (file_of n parts) n.last name ≡ false → flush_drops first n.floor name ≡ false → is_some (get y name) ≡ is_some (get x name)
    same name unmade kept = ⊎_elim
        (λ same. subst (λ f. is_some (get y f) ≡ is_some (get x f)) (sym same) (there_in w y (manifest_name manifest) now after ∙ sym (there_in v x (manifest_name manifest) was before)))
        (λ apart.
        let z = change.seen x was in
        let e : Some z.0 ≡ Some y = sym z.1 ∙ now in
        let folder : z.0 ≡ y = cc in
        ap is_some (subst (λ (f : Folder). get f name ≡ get x name) folder (z.2 name unmade apart (not_dropped first n.floor name kept))))
        (name_cases name (manifest_name manifest))
