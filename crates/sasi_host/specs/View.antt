-- What a source and a host tell of themselves, and what a call on them may do to it.
use Rattle.std.specs.Prelude.{◌≡◌, ◌⊎◌, ℕ, ◌+◌, ◌-◌, ◌^◌, ◌≤◌, ◌<◌, min, Bool, List, ◌++◌, length, take, Contains, IsSome, IsTrue, OnOk, OnErr, IfErr, None, Some, Ok, Err, true, false, is_err}
use Rattle.std.specs.declared.result.Result.{Result}
use Rattle.std.specs.declared.option.Option.{Option}
use Rattle.std.specs.FinMap.{get}
use Rattle.std.specs.Io.KnownBytes.{Appends}
use Rattle.sasi_host.specs.declared.name.FileName.{FileName}
use Rattle.sasi_host.specs.declared.damage.Damage.{Damage}
use Rattle.sasi_host.specs.declared.fault.HostFault.{HostFault}
use Rattle.sasi_host.specs.declared.fault.HostFault.TheVariants as fault
use Rattle.sasi_host.specs.declared.fault.ReadFault.{ReadFault}
use Rattle.sasi_host.specs.declared.fault.ReadFault.TheVariants as read
use Rattle.sasi_host.specs.Names.{Bytes, Folder}

-- what a source tells
pub record SourceView : Type 0 where
  -- the bytes that are left, where it tells them
  pub left : Option (List ℕ)
  -- how often it was read, and how often it has failed
  pub reads : ℕ
  pub faults : ℕ
  -- whether the last read failed
  pub failed_last : Bool
  -- the reads that are to fail, counted from 1, where it tells them
  pub failing : Option (List ℕ)

-- the calls of a host that are to fail
pub record Failing : Type 0 where
  -- these file calls and these emits, each counted from 1
  pub calls : List ℕ
  pub emits : List ℕ
  -- and each call after so many of both kinds
  pub stop : ℕ

-- what a host tells at one moment
pub record View : Type 1 where
  -- what the folder reads, where it tells it
  pub files : Option Folder
  -- the bytes that were emitted, where it tells them
  pub emitted : Option (List ℕ)
  -- an image: what a crash now may leave of the folder
  pub image : Folder → Type 0
  -- a number that doesn't fall
  pub moment : ℕ
  -- what a crash at some moment from this one on may have left, with the bytes emitted by then
  pub left : ℕ → Folder → Bytes → Type 0
  -- how often a file call has failed
  pub disk_faults : ℕ
  -- how often an emit has failed
  pub out_faults : ℕ
  -- how often a file was read
  pub reads : ℕ
  -- how many file calls were made, reads among them
  pub calls : ℕ
  -- how many emits were made
  pub emits : ℕ
  -- whether the last call failed
  pub failed_last : Bool
  -- how often its memory couldn't grow
  pub refused : ℕ
  -- the calls that are to fail, where it tells them
  pub failing : Option Failing

-- ---- what the folder reads

-- the folder is told
abbrev pub IsTold : View → Type 0
IsTold v = IsSome v.files

-- what a file reads in a folder that may be told
abbrev pub contents_in : Option Folder → FileName → Option Bytes
contents_in None name = None
contents_in (Some folder) name = get folder name

-- what a file reads: none where it isn't there or isn't told
abbrev pub contents : View → FileName → Option Bytes
contents v name = contents_in v.files name

-- the file is there, where the folder is told
abbrev pub IsThere : View → FileName → Type 0
IsThere v file = IsTold v → IsSome (contents v file)

-- the file isn't there, where the folder is told
abbrev pub IsAbsent : View → FileName → Type 0
IsAbsent v file = contents v file ≡ None

-- the file is there with these bytes, where the folder is told
abbrev pub Holds : View → FileName → Bytes → Type 0
Holds v file bytes = IsTold v → contents v file ≡ Some bytes

-- the file is there and reaches to this offset, where the folder is told
abbrev pub Reaches : View → FileName → ℕ → Type 0
Reaches v file at = IsTold v → (bytes : Bytes) × (contents v file ≡ Some bytes) × (at ≤ length bytes)

-- ---- what a crash leaves

-- what a crash now may leave, with what is emitted by now
abbrev pub LeavesNow : View → Folder → Bytes → Type 0
LeavesNow v folder out = v.image folder × (v.emitted ≡ Some out)

-- what a crash at some moment between the two leaves has P, or an earlier crash might have left it
pub record CrashLeaves (old new : View) (P : Folder → Bytes → Type 0) : Type 0 where
  pub later : old.moment ≤ new.moment
  pub left : (t : ℕ) (folder : Folder) (out : Bytes) → t ≤ old.moment → new.left t folder out → old.left t folder out ⊎ P folder out

-- what an earlier crash may have left stays told
abbrev pub KeepsMoments : View → View → Type 0
KeepsMoments old new = (t : ℕ) (folder : Folder) (out : Bytes) → t ≤ old.moment → old.left t folder out → new.left t folder out

-- the laws of what is told
pub record IsSound (v : View) : Type 0 where
  -- an image is told only where the folder is
  pub told : (folder : Folder) → v.image folder → IsTold v
  -- what the folder reads is one of its images
  pub reads : (folder : Folder) → v.files ≡ Some folder → v.image folder
  -- now is one of the moments since an earlier one
  pub counts_now : (t : ℕ) (folder : Folder) (out : Bytes) → t ≤ v.moment → LeavesNow v folder out → v.left t folder out
  -- since now there is no other moment
  pub only_now : (folder : Folder) (out : Bytes) → v.left v.moment folder out → LeavesNow v folder out
  -- a file has at most 2^62 bytes
  pub fits : (name : FileName) (bytes : Bytes) → contents v name ≡ Some bytes → length bytes ≤ 2 ^ 62

-- ---- counts

-- one more, where a count stays at the last value of its type
abbrev pub counted : ℕ → ℕ
counted n = min (n + 1) (2 ^ 64 - 1)

-- so many more
abbrev pub counted_by : ℕ → ℕ → ℕ
counted_by n more = min (n + more) (2 ^ 64 - 1)

-- a count rose, or stands at its last value
abbrev pub Rose : ℕ → ℕ → Type 0
Rose before now = counted before ≤ now

-- one file call was made, and whether it failed is told
pub record IsCall (old new : View) (failed : Bool) : Type 0 where
  pub calls : new.calls ≡ counted old.calls
  pub last : new.failed_last ≡ failed

-- one emit was made, and no file call
pub record IsEmit (old new : View) (failed : Bool) : Type 0 where
  pub emits : new.emits ≡ counted old.emits
  pub calls : new.calls ≡ old.calls
  pub last : new.failed_last ≡ failed

-- the host itself failed, and didn't only lack memory
abbrev pub has_failed : {T : Type 0} → Result T HostFault → Bool
has_failed (Ok _) = false
has_failed (Err fault.Failed) = true
has_failed (Err fault.OutOfMemory) = false

-- so many file calls were made where all went well, and no more where one failed
pub record MakesCalls {T E : Type 0} (count : ℕ) (old new : View) (result : Result T E) : Type 0 where
  pub all : OnOk result (new.calls ≡ counted_by old.calls count)
  pub most : new.calls ≤ old.calls + count

-- ---- what makes a call fail

-- the file call that makes the counts of file calls and of emits these is to fail
abbrev pub CallIsToFail : Option Failing → ℕ → ℕ → Type 0
CallIsToFail None calls emits = Unit {0}
CallIsToFail (Some failing) calls emits = Contains failing.calls calls ⊎ (failing.stop < counted_by calls emits)

-- the emit that makes them these is to fail
abbrev pub EmitIsToFail : Option Failing → ℕ → ℕ → Type 0
EmitIsToFail None calls emits = Unit {0}
EmitIsToFail (Some failing) calls emits = Contains failing.emits emits ⊎ (failing.stop < counted_by calls emits)

-- the read with this number is to fail
abbrev pub ReadIsToFail : Option (List ℕ) → ℕ → Type 0
ReadIsToFail None reads = Unit {0}
ReadIsToFail (Some failing) reads = Contains failing reads

-- a file call was made that was to fail
pub record CallFailed (old new : View) : Type 0 where
  pub calls : ℕ
  pub emits : ℕ
  pub after : (counted old.calls ≤ calls) × (old.emits ≤ emits)
  pub by : (calls ≤ new.calls) × (emits ≤ new.emits)
  pub to_fail : CallIsToFail old.failing calls emits

-- an emit was made that was to fail
pub record EmitFailed (old new : View) : Type 0 where
  pub calls : ℕ
  pub emits : ℕ
  pub after : (old.calls ≤ calls) × (counted old.emits ≤ emits)
  pub by : (calls ≤ new.calls) × (emits ≤ new.emits)
  pub to_fail : EmitIsToFail old.failing calls emits

-- a read was made that was to fail
pub record ReadFailed (old new : SourceView) : Type 0 where
  pub read : ℕ
  pub after : counted old.reads ≤ read
  pub by : read ≤ new.reads
  pub to_fail : ReadIsToFail old.failing read

-- Any calls from one moment to a later one: which calls are to fail stays, no count falls, and one of errors rises only where such a call was made, or memory couldn't grow.
pub record FailsOnlyAsTold (old new : View) : Type 0 where
  pub failing : new.failing ≡ old.failing
  pub calls : old.calls ≤ new.calls
  pub emits : old.emits ≤ new.emits
  pub refused : old.refused ≤ new.refused
  pub disk : (new.disk_faults ≡ old.disk_faults) ⊎ Rose old.refused new.refused ⊎ CallFailed old new
  pub out : (new.out_faults ≡ old.out_faults) ⊎ Rose old.refused new.refused ⊎ EmitFailed old new

-- the same of the reads of a source
pub record ReadsOnlyFailAsTold (old new : SourceView) : Type 0 where
  pub failing : new.failing ≡ old.failing
  pub reads : old.reads ≤ new.reads
  pub faults : (new.faults ≡ old.faults) ⊎ ReadFailed old new

-- ---- causes

-- one call failed, and it was the last
pub record FailedAtLast (before now : ℕ) (last : Bool) : Type 0 where
  pub once : now ≡ counted before
  pub is_last : IsTrue last

-- a read counts, and as an error exactly where it fails
pub record SourceCauses {T E : Type 0} (old new : SourceView) (result : Result T E) : Type 0 where
  pub later : old.faults ≤ new.faults
  pub reads : new.reads ≡ counted old.reads
  pub last : new.failed_last ≡ is_err result
  pub ok : OnOk result (new.faults ≡ old.faults)
  pub failed : OnErr result (FailedAtLast old.faults new.faults new.failed_last)
  pub told : ReadsOnlyFailAsTold old new

-- A call on files leaves the other counts. Where it fails, the last file call did, and none before it; else none did.
pub record DiskCauses {T E : Type 0} (old new : View) (result : Result T E) : Type 0 where
  pub disk : old.disk_faults ≤ new.disk_faults
  pub out : new.out_faults ≡ old.out_faults
  pub reads : new.reads ≡ old.reads
  pub ok : OnOk result (new.disk_faults ≡ old.disk_faults)
  pub failed : OnErr result (FailedAtLast old.disk_faults new.disk_faults new.failed_last)

-- the same of a read, which is counted
pub record ReadCauses {T E : Type 0} (old new : View) (result : Result T E) : Type 0 where
  pub disk : old.disk_faults ≤ new.disk_faults
  pub out : new.out_faults ≡ old.out_faults
  pub reads : new.reads ≡ counted old.reads
  pub ok : OnOk result (new.disk_faults ≡ old.disk_faults)
  pub failed : OnErr result (FailedAtLast old.disk_faults new.disk_faults new.failed_last)

-- the same of a call that may also be out of memory
pub record ListCauses {T : Type 0} (old new : View) (result : Result T HostFault) : Type 0 where
  pub disk : old.disk_faults ≤ new.disk_faults
  pub out : new.out_faults ≡ old.out_faults
  pub reads : new.reads ≡ old.reads
  pub ok : OnOk result (new.disk_faults ≡ old.disk_faults)
  pub failed : IfErr result (λ f. f ≡ fault.Failed → FailedAtLast old.disk_faults new.disk_faults new.failed_last)
  pub memory : IfErr result (λ f. f ≡ fault.OutOfMemory → new.disk_faults ≡ old.disk_faults)

-- the same of a page, which takes at most one read
pub record PageCauses {T : Type 0} (old new : View) (result : Result T HostFault) : Type 0 where
  pub disk : old.disk_faults ≤ new.disk_faults
  pub out : new.out_faults ≡ old.out_faults
  pub reads : (new.reads ≡ old.reads) ⊎ (new.reads ≡ counted old.reads)
  pub ok : OnOk result (new.disk_faults ≡ old.disk_faults)
  pub failed : IfErr result (λ f. f ≡ fault.Failed → FailedAtLast old.disk_faults new.disk_faults new.failed_last)
  pub memory : IfErr result (λ f. f ≡ fault.OutOfMemory → new.disk_faults ≡ old.disk_faults)

-- the same of a read of a format, which takes at most so many reads of the host
pub record ReadCost {T : Type 0} (most : ℕ) (old new : View) (result : Result T ReadFault) : Type 0 where
  pub disk : old.disk_faults ≤ new.disk_faults
  pub out : new.out_faults ≡ old.out_faults
  pub reads : new.reads ≤ old.reads + most
  pub ok : OnOk result (new.disk_faults ≡ old.disk_faults)
  pub failed : IfErr result (λ f. f ≡ read.Failed → FailedAtLast old.disk_faults new.disk_faults new.failed_last)
  pub memory : IfErr result (λ f. f ≡ read.OutOfMemory → new.disk_faults ≡ old.disk_faults)
  pub damaged : IfErr result (λ f. (damage : Damage) → f ≡ read.Damaged damage → new.disk_faults ≡ old.disk_faults)

-- the same of the replies, which make no file call
pub record OutCauses {T E : Type 0} (old new : View) (result : Result T E) : Type 0 where
  pub out : old.out_faults ≤ new.out_faults
  pub ok : OnOk result (new.out_faults ≡ old.out_faults)
  pub failed : OnErr result (FailedAtLast old.out_faults new.out_faults new.failed_last)
  pub disk : new.disk_faults ≡ old.disk_faults
  pub reads : new.reads ≡ old.reads
  pub calls : new.calls ≡ old.calls

-- ---- what is emitted

-- a crash while the bytes go out: a first part of them may be out
abbrev pub PartlyOut : View → Bytes → Folder → Bytes → Type 0
PartlyOut old bytes folder out = old.image folder × (b : Bytes) × (k : ℕ) × (old.emitted ≡ Some b) × (out ≡ b ++ take k bytes)

-- a first part of the bytes was appended, and the folder left as it is
pub record Emits (bytes : List ℕ) (old new : View) : Type 0 where
  pub front : List ℕ
  pub back : List ℕ
  pub parts : bytes ≡ front ++ back
  pub out : Appends old.emitted new.emitted front
  pub files : new.files ≡ old.files
  pub image : (folder : Folder) → new.image folder → old.image folder
  pub during : CrashLeaves old new (PartlyOut old bytes)
  pub told : FailsOnlyAsTold old new

-- all of them were
abbrev pub AllOut : List ℕ → View → View → Type 0
AllOut bytes old new = Appends old.emitted new.emitted bytes

-- each first part of the bytes counts as emitted at some moment of the call
abbrev pub TellsPrefixes : List ℕ → View → View → Type 0
TellsPrefixes bytes old new =
    (t : ℕ) (folder : Folder) (b : Bytes) (k : ℕ) → t ≤ old.moment → old.image folder → old.emitted ≡ Some b → new.left t folder (b ++ take k bytes)
