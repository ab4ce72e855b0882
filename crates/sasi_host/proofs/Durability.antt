-- What each image has of a file, over changes of the folder.
use Rattle.std.specs.Prelude.{◌≡◌, ◌≢◌, Option, Some, None, is_some, true, refl}
use Rattle.std.proofs.Common.{sym, ◌∙◌, ap, subst}
use Rattle.std.specs.FinMap.{get}
use Rattle.sasi_host.specs.declared.name.FileName.{FileName}
use Rattle.sasi_host.specs.Names.{Bytes, Folder}
use Rattle.sasi_host.specs.View.{View, IsTold, contents, contents_in, Holds, IsSound}
use Rattle.sasi_host.specs.Disk.{Same, Changes, FileChange, InPlace, LeftWith, Becomes, IsFileDurable, IsSynced, IsFolderSynced}
use Rattle.sasi_host.proofs.ChangeLaws.{then_same, changes_on, changes_among, step_on}
use Rattle.sasi_host.proofs.ContentLaws.{told_files, told_before, went, contents_same}

-- a file that each image has is what reads give
pub file_durable_contents : (v : View) (file : FileName) (bytes : Bytes) → IsSound v → IsTold v → IsFileDurable v file bytes → contents v file ≡ Some bytes
file_durable_contents v file bytes sound told kept =
    let f = told_files v told in
    ap (λ o. contents_in o file) f.1 ∙ kept f.0 (sound.reads f.0 f.1)

-- and what the file holds
pub file_durable_holds : (v : View) (file : FileName) (bytes : Bytes) → IsSound v → IsFileDurable v file bytes → Holds v file bytes
file_durable_holds v file bytes sound kept told = file_durable_contents v file bytes sound told kept

-- a file that each image has stays there, where the folder is left as it is
pub file_durable_same : (a b : View) (file : FileName) (bytes : Bytes) → Changes Same a b → IsFileDurable a file bytes → IsFileDurable b file bytes
file_durable_same a b file bytes same kept folder now =
    let was = same.image folder now in
    ap (λ (f : Folder). get f file) was.2 ∙ kept was.0 was.1

-- a file that each image has stays there, where another file changes
pub file_durable_other : (a b : View) (file name : FileName) (R : Option Bytes → Option Bytes → Type 0) (bytes : Bytes) → name ≢ file
    → Changes (FileChange file R) a b → IsFileDurable a name bytes → IsFileDurable b name bytes
file_durable_other a b file name R bytes apart change kept x now =
    let was = change.image x now in
    was.2.others name apart ∙ kept was.0 was.1

-- a file that each image had, written and then synced, is in each image what it reads
pub file_durable_on : (a b c : View) (file : FileName) (R : Bytes → Bytes → Type 0) (old new : Bytes) → IsFileDurable a file old
    → Changes (FileChange file (InPlace R)) a b → Changes Same b c → contents c file ≡ Some new → IsSynced c file → IsFileDurable c file new
file_durable_on a b c file R old new kept write sync reads synced x now =
    let change = then_same a b c (FileChange file (InPlace R)) write sync in
    let was = change.image x now in
    let there = went R (get was.0 file) (get x file) old (kept was.0 was.1) was.2.this in
    there.1 ∙ ap (λ (b : Bytes). Some b) (synced x there.0 new now reads there.1)

-- so a write and a sync of a file that each image had leave in each image what was written
pub durable : (a b c : View) (file : FileName) (R : Bytes → Bytes → Type 0) (f : Bytes → Bytes) → IsSound a → IsSound c
    → Changes (FileChange file (InPlace R)) a b → Becomes file f a b → Changes Same b c → IsSynced c file
    → (old : Bytes) → IsFileDurable a file old → IsFileDurable c file (f old)
durable a b c file R f sound_a sound_c write becomes sync synced old kept x now =
    let told : IsTold a = told_before _ a b write (told_before _ b c sync (sound_c.told x now)) in
    let reads : contents c file ≡ Some (f old) = contents_same b c file sync ∙ becomes old (file_durable_contents a file old sound_a told kept) in
    file_durable_on a b c file R old (f old) kept write sync reads synced x now

-- ---- a new file

some_of : (o : Option Bytes) → is_some o ≡ true → (b : Bytes) × (o ≡ Some b)
some_of None is = cc
some_of (Some b) is = (b, refl)

-- a new file that was synced is in each image once the folder is synced too
pub file_durable_new : (a b : View) (file : FileName) (bytes : Bytes) → IsSound b → Changes Same a b → IsSynced a file → IsFolderSynced b
    → (IsTold b → contents b file ≡ Some bytes) → IsFileDurable b file bytes
file_durable_new a b file bytes sound same synced folder reads x now =
    let told = sound.told x now in
    let has : contents b file ≡ Some bytes = reads told in
    let there = some_of (get x file) (folder x file told now ∙ ap is_some has) in
    let was = same.image x now in
    let equal : there.0 ≡ bytes = synced x there.0 bytes (subst a.image (sym was.2) was.1) (sym (contents_same a b file same) ∙ has) there.1 in
    there.1 ∙ ap (λ (w : Bytes). Some w) equal

-- ---- a file that each image had

-- a file that each image had is there in each, with bytes that have P
pub leaves : (a b : View) (file : FileName) (R : Bytes → Bytes → Type 0) (old : Bytes) (P : Bytes → Type 0) → IsSound a → IsFileDurable a file old
    → Changes (FileChange file (InPlace R)) a b → ((new : Bytes) → R old new → P new) → Changes (FileChange file (LeftWith P)) a b
leaves a b file R old P sound kept change means =
    changes_among a b (λ x. get x file ≡ Some old) (FileChange file (InPlace R)) (FileChange file (LeftWith P)) sound kept change (λ x y is step.
    let there = went R (get x file) (get y file) old is step.this in
    record { others = step.others; this = (there.0, there.1, means there.0 there.2) })

-- and so after another such change
pub leaves_on : (a b c : View) (file : FileName) (P : Bytes → Type 0) → Changes (FileChange file (LeftWith P)) a b → Changes (FileChange file (LeftWith P)) b c
    → Changes (FileChange file (LeftWith P)) a c
leaves_on a b c file P first second =
    changes_on a b c (FileChange file (LeftWith P)) (FileChange file (LeftWith P)) (FileChange file (LeftWith P)) first second (λ x y s. s) (step_on file (LeftWith P) (LeftWith P) (LeftWith P) (λ x y z s t. t))
