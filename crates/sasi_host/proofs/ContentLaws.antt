-- What the files read, over changes of the folder.
use Rattle.std.specs.Prelude.{◌≡◌, ◌≢◌, ℕ, ◌+◌, ◌++◌, ◌≤◌, length, take, drop, [], Option, Some, None, IsSome, is_some, refl}
use Rattle.std.proofs.Common.{sym, ◌∙◌, ap, subst, arith, length-append}
use Rattle.std.proofs.lemmas.List.{length-take, append-nil, drop_all}
use Rattle.std.specs.FinMap.{get}
use Rattle.sasi_host.specs.declared.name.FileName.{FileName}
use Rattle.sasi_host.specs.Names.{Bytes, Folder}
use Rattle.sasi_host.specs.View.{View, IsTold, contents, contents_in, IsThere, IsAbsent, Holds, Reaches}
use Rattle.sasi_host.specs.Disk.{Relation, Same, Changes, FileChange, InPlace, overlay, Becomes}

-- the folder that is told
pub told_files : (v : View) → IsTold v → (f : Folder) × (v.files ≡ Some f)
told_files v told = from v.files refl told
  where
    from : (o : Option Folder) → v.files ≡ o → IsSome o → (f : Folder) × (v.files ≡ Some f)
    from None is none = cc
    from (Some f) is some = (f, is)

-- a folder that is told was told before
pub told_before : (S : Relation) (a b : View) → Changes S a b → IsTold b → IsTold a
told_before S a b change told = from a.files refl
  where
    from : (o : Option Folder) → a.files ≡ o → IsSome o
    from None is = subst (λ o. IsSome o) (change.untold is) told
    from (Some f) is = refl

-- a folder that was told is told after
pub told_after : (S : Relation) (a b : View) → Changes S a b → IsTold a → IsTold b
told_after S a b change told =
    let f = told_files a told in
    let g = change.seen f.0 f.1 in
    ap (λ (o : Option Folder). is_some o) g.1

-- a file that was there, and changed in place, is there
pub went : (R : Bytes → Bytes → Type 0) (x y : Option Bytes) (a : Bytes) → x ≡ Some a → InPlace R x y → (b : Bytes) × (y ≡ Some b) × R a b
went R None y a is on = absurd (cc)
went R (Some x) None a is on = absurd on
went R (Some x) (Some b) a is on = let same : x ≡ a = cc in (b, refl, subst (λ w. R w b) same on)

-- ---- a file that reads as before

-- what a file reads stays, where each change of the folder leaves it
pub contents_kept : (a b : View) (S : Relation) (name : FileName) → ((x y : Folder) → S x y → get y name ≡ get x name) → Changes S a b
    → contents b name ≡ contents a name
contents_kept a b S name keeps change = from a.files refl
  where
    from : (o : Option Folder) → a.files ≡ o → contents b name ≡ contents a name
    from None is = ap (λ (o : Option Folder). contents_in o name) (change.untold is) ∙ sym (ap (λ (o : Option Folder). contents_in o name) is)
    from (Some f) is =
        let g = change.seen f is in
        ap (λ (o : Option Folder). contents_in o name) g.1 ∙ keeps f g.0 g.2 ∙ sym (ap (λ (o : Option Folder). contents_in o name) is)

-- where the folder is left as it is
pub contents_same : (a b : View) (file : FileName) → Changes Same a b → contents b file ≡ contents a file
contents_same a b file change = contents_kept a b Same file (λ x y same. ap (λ (f : Folder). get f file) same) change

-- and where another file changes
pub contents_other : (a b : View) (file name : FileName) (R : Option Bytes → Option Bytes → Type 0) → name ≢ file → Changes (FileChange file R) a b
    → contents b name ≡ contents a name
contents_other a b file name R apart change = contents_kept a b (FileChange file R) name (λ x y step. step.others name apart) change

-- a file that reads as before, where the folder is told as before, is there, absent, reaches and holds as before
pub there_where : (a b : View) (S : Relation) (file : FileName) → Changes S a b → contents b file ≡ contents a file → IsThere a file → IsThere b file
there_where a b S file change same there told = subst (λ (o : Option Bytes). IsSome o) (sym same) (there (told_before S a b change told))

pub absent_where : (a b : View) (file : FileName) → contents b file ≡ contents a file → IsAbsent a file → IsAbsent b file
absent_where a b file same absent = same ∙ absent

pub reaches_where : (a b : View) (S : Relation) (file : FileName) (at : ℕ) → Changes S a b → contents b file ≡ contents a file → Reaches a file at
    → Reaches b file at
reaches_where a b S file at change same reaches told =
    let was = reaches (told_before S a b change told) in
    (was.0, same ∙ was.1, was.2)

pub holds_where : (a b : View) (S : Relation) (file : FileName) (bytes : Bytes) → Changes S a b → contents b file ≡ contents a file
    → Holds a file bytes → Holds b file bytes
holds_where a b S file bytes change same holds told = same ∙ holds (told_before S a b change told)

-- what a file holds stays, where the folder is left as it is
pub holds_same : (a b : View) (file : FileName) (bytes : Bytes) → Changes Same a b → Holds a file bytes → Holds b file bytes
holds_same a b file bytes same holds = holds_where a b Same file bytes same (contents_same a b file same) holds

-- ---- a file that was written

-- a file that was written, where the folder is then left as it is
pub becomes_on : (a b c : View) (file : FileName) (f : Bytes → Bytes) → Becomes file f a b → Changes Same b c → Becomes file f a c
becomes_on a b c file f becomes same old is = contents_same b c file same ∙ becomes old is

-- a file that does not shrink reaches as far as before
pub reaches_on : (a b : View) (file : FileName) (R : Bytes → Bytes → Type 0) (at : ℕ) → Changes (FileChange file (InPlace R)) a b
    → ((x y : Bytes) → R x y → length x ≤ length y) → Reaches a file at → Reaches b file at
reaches_on a b file R at change grows reaches told =
    let told_a = told_before _ a b change told in
    let was = reaches told_a in
    let f = told_files a told_a in
    let g = change.seen f.0 f.1 in
    let now = went R (get f.0 file) (get g.0 file) was.0 (sym (ap (λ o. contents_in o file) f.1) ∙ was.1) g.2.this in
    (now.0, ap (λ o. contents_in o file) g.1 ∙ now.1, omega (arith, was.2, grows was.0 now.0 now.2))

-- a file that was written reaches to the end of what was written
pub reaches_written : (a b : View) (file : FileName) (S : Relation) (at : ℕ) (bytes : Bytes) → Changes S a b
    → Becomes file (λ w. overlay w at bytes) a b → Reaches a file at → Reaches b file (at + length bytes)
reaches_written a b file S at bytes change becomes reaches told =
    let was = reaches (told_before S a b change told) in (
      overlay was.0 at bytes,
      becomes was.0 was.1,
      omega (
        arith,
        was.2,
        length-append (take at was.0 ++ bytes) (drop (at + length bytes) was.0),
        length-append
            (take at was.0) bytes,
        length-take at was.0,
      ),
    )

-- what is written at the front of no bytes
pub overlay_empty : (bytes : Bytes) → overlay [] 0 bytes ≡ bytes
overlay_empty bytes = ap (λ (l : Bytes). bytes ++ l) (drop_all (0 + length bytes) [] (omega arith)) ∙ append-nil bytes

-- what was written at the front of an empty file is what it holds
pub holds_first : (a b : View) (S : Relation) (file : FileName) (bytes : Bytes) → Changes S a b → Holds a file []
    → Becomes file (λ old. overlay old 0 bytes) a b → Holds b file bytes
holds_first a b S file bytes change empty becomes told =
    becomes [] (empty (told_before S a b change told)) ∙ ap (λ (l : Bytes). Some l) (overlay_empty bytes)

-- ---- what a file holds

-- a file is there and reaches as far as what it holds
pub there_held : (v : View) (file : FileName) (bytes : Bytes) → Holds v file bytes → IsThere v file
there_held v file bytes holds told = ap (λ (o : Option Bytes). is_some o) (holds told)

pub reaches_held : (v : View) (file : FileName) (at : ℕ) (bytes : Bytes) → at ≤ length bytes → Holds v file bytes → Reaches v file at
reaches_held v file at bytes le holds told = (bytes, holds told, le)
