-- When each status comes: its cause, what a damaged folder shows, and completeness.
use Rattle.std.specs.Prelude.{◌≡◌, ◌≢◌, ◌⊎◌, ◌≤◌, ℕ, false, List, length, Some, IfSome, ◌↔◌}
use Rattle.sasi_types.specs.declared.class.Class.{Class}
use Rattle.sasi_types.specs.declared.partitioner.Partitioner.{Partitioner}
use Rattle.sasi_analyzers.specs.Kits.{has_class}
use Rattle.sasi_host.specs.View.{FailedAtLast, FailsOnlyAsTold, ReadsOnlyFailAsTold, Rose, SourceView, View}
use Rattle.sasi_host.specs.declared.damage.Damage.{Damage}
use Rattle.sasi_host.specs.Disk.{Changes, Same}
use Rattle.sasi_host.specs.Names.{Folder}
use Rattle.sasi_folder.specs.Damages.{FolderShows}
use Rattle.sasi_folder.specs.Opens.{CanOpen, KeepsPartitioner}
use Rattle.sasi_folder.specs.FolderContents.{IsSealed}
use Rattle.sasi_layout.specs.Layout.{Layout, state_of}
use Rattle.sasi_layout.specs.Shape.{ShapeOf}
use Rattle.sasi_store.specs.Worlds.{new_world}
use Rattle.sasi_recover.specs.KeptListed.{KeepsListed}
use Rattle.sasi_recover.specs.NewFolder.{IsForeign}
use Rattle.sasi_recover.specs.Promises.{LacksClass}
use Rattle.sasi_run.specs.CommandLine.{IsCommandLine, asked_by}
use Rattle.sasi_run.specs.EmitCounts.{CountsEmits}
use Rattle.sasi_run.specs.Headline.{SCRIPT_MOST, script_of}
use Rattle.sasi_run.specs.Session.{ShowsNow}
use Rattle.sasi_run.specs.Needs.{NeedsByStatus}
use Rattle.sasi_run.specs.declared.status.Status.{Status}
use Rattle.sasi_run.specs.declared.status.Status.TheVariants.{Done, Refused, Usage, ScriptFault, FolderFault, OutputFault, OutOfMemory, Damaged, AnalyzerMissing, PartitionerDiffers, NumbersSpent}

-- a run that nothing outside stopped; the other clauses tell where it isn't damaged, keeps the partitioner and has the numbers and the analyzers that it needs
abbrev pub RanThrough : Status → Type 0
RanThrough Done = Unit {0}
RanThrough (Refused n) = Unit {0}
RanThrough OutOfMemory = Unit {0}
RanThrough (Damaged damage) = Unit {0}
RanThrough (AnalyzerMissing class) = Unit {0}
RanThrough (PartitionerDiffers asked kept) = Unit {0}
RanThrough (NumbersSpent kind) = Unit {0}
RanThrough _ = ⊥

-- ---- damage

-- the folder at the start shows the damage, and the run took nothing of the script and emitted nothing
pub record ReportsAtStart (damage : Damage) (script_old script_new : SourceView) (host_old host_new : View) : Type 0 where
  pub shows : (folder : Folder) → host_old.files ≡ Some folder → FolderShows folder damage
  pub unread : script_new ≡ script_old
  pub silent : host_new.emitted ≡ host_old.emitted

-- the folder as it reads at the run's end shows the damage
abbrev pub ReportsNow : Status → View → Type 0
ReportsNow status host_new = (damage : Damage) → status ≡ Damaged damage → ShowsNow host_new damage

-- **A damaged folder.** It shows the damage that is told: at the start, where nothing was run, or as it reads at the run's end.
abbrev pub ReportsDamage : Damage → SourceView → SourceView → View → View → Type 0
ReportsDamage damage script_old script_new host_old host_new = ReportsAtStart damage script_old script_new host_old host_new ⊎ ShowsNow host_new damage

-- ---- runs that don't begin

-- a run that didn't begin, of words or of a folder
abbrev pub IsRefusal : Status → Type 0
IsRefusal Usage = Unit {0}
IsRefusal FolderFault = Unit {0}
IsRefusal OutOfMemory = Unit {0}
IsRefusal (Damaged damage) = Unit {0}
IsRefusal (AnalyzerMissing class) = Unit {0}
IsRefusal (PartitionerDiffers asked kept) = Unit {0}
IsRefusal _ = ⊥

-- **A folder that can't be opened** isn't run on. The files that the manifest of its highest seal lists stay, and all files where it can't be read. A folder of something else stays as it is.
pub record RefusesFolder (folder : Folder) (status : Status) (script_old script_new : SourceView) (host_old host_new : View) : Type 0 where
  pub refusal : IsRefusal status
  pub unread : script_new ≡ script_old
  pub silent : host_new.emitted ≡ host_old.emitted
  pub kept : (number : ℕ) → IsSealed folder number → Changes (KeepsListed folder number) host_old host_new
  pub foreign : IsForeign folder → Changes Same host_old host_new

-- a run that began, over an open store
abbrev pub IsOfStore : Status → Type 0
IsOfStore Usage = ⊥
IsOfStore (PartitionerDiffers asked kept) = ⊥
IsOfStore _ = Unit {0}

-- nothing ended the run before the partitioners were compared, but a failed call or memory
abbrev pub ComparesPartitioners : Status → Partitioner → Partitioner → Type 0
ComparesPartitioners (PartitionerDiffers a k) asked kept = (a ≡ asked) × (k ≡ kept)
ComparesPartitioners Usage asked kept = Unit {0}
ComparesPartitioners FolderFault asked kept = Unit {0}
ComparesPartitioners OutOfMemory asked kept = Unit {0}
ComparesPartitioners _ asked kept = ⊥

-- the words ask for the one partitioner, and the folder keeps the other
pub record ShowsDifference (words : List (List ℕ)) (asked kept : Partitioner) (folder : Folder) : Type 0 where
  pub asks : asked_by words ≡ Some asked
  pub keeps : KeepsPartitioner folder kept
  pub other : asked ≢ kept

-- **Another partitioner** is kept than is asked, and the run took nothing of the script, emitted nothing and left the folder as it is.
pub record ReportsDifference (words : List (List ℕ)) (asked kept : Partitioner) (script_old script_new : SourceView) (host_old host_new : View) : Type 0 where
  pub shows : (folder : Folder) → host_old.files ≡ Some folder → ShowsDifference words asked kept folder
  pub unread : script_new ≡ script_old
  pub silent : host_new.emitted ≡ host_old.emitted
  pub untouched : Changes Same host_old host_new

-- ---- analyzers

-- **An analyzer that a listed index needs is missing**, and the run took nothing of the script, emitted nothing and left the folder as it is.
pub record LacksAtStart (kinds : List Class) (class : Class) (script_old script_new : SourceView) (host_old host_new : View) : Type 0 where
  pub shows : (folder : Folder) → host_old.files ≡ Some folder → LacksClass kinds folder class
  pub unread : script_new ≡ script_old
  pub silent : host_new.emitted ≡ host_old.emitted
  pub untouched : Changes Same host_old host_new

-- **An analyzer that isn't there**: the folder at the start lists an index that needs it, or a statement does, and it isn't among those of these classes.
abbrev pub ReportsMissing : List Class → Class → SourceView → SourceView → View → View → Type 0
ReportsMissing kinds class script_old script_new host_old host_new = LacksAtStart kinds class script_old script_new host_old host_new ⊎ (has_class class kinds ≡ false)

-- nothing ended the run before the analyzers were looked up, but a failed call, memory or the words
abbrev pub TellsLack : Status → Type 0
TellsLack (AnalyzerMissing class) = Unit {0}
TellsLack (PartitionerDiffers asked kept) = Unit {0}
TellsLack Usage = Unit {0}
TellsLack FolderFault = Unit {0}
TellsLack OutOfMemory = Unit {0}
TellsLack _ = ⊥

-- **A folder that lists an index without its analyzer isn't run on.**
pub record RefusesLack (status : Status) (script_old script_new : SourceView) (host_old host_new : View) : Type 0 where
  pub tells : TellsLack status
  pub unread : script_new ≡ script_old
  pub silent : host_new.emitted ≡ host_old.emitted

-- ---- calls

-- **Which calls failed.** A status that tells of an I/O error tells of one call, the last of its kind, and no other failed. A call
-- fails only where the source or the host tells that it is to, or memory couldn't grow.
pub record FailedCalls (status : Status) (script_old script_new : SourceView) (host_old host_new : View) : Type 0 where
  pub script_fault : status ≡ ScriptFault → FailedAtLast script_old.faults script_new.faults script_new.failed_last
  pub folder_fault : status ≡ FolderFault → FailedAtLast host_old.disk_faults host_new.disk_faults host_new.failed_last
  pub output_fault : status ≡ OutputFault → FailedAtLast host_old.out_faults host_new.out_faults host_new.failed_last
  pub no_script_fault : status ≢ ScriptFault → script_new.faults ≡ script_old.faults
  pub no_folder_fault : status ≢ FolderFault → host_new.disk_faults ≡ host_old.disk_faults
  pub no_output_fault : status ≢ OutputFault → host_new.out_faults ≡ host_old.out_faults
  pub script_told : ReadsOnlyFailAsTold script_old script_new
  pub host_told : FailsOnlyAsTold host_old host_new

-- ---- a run from a layout

-- the run didn't begin, since the folder lists an index whose analyzer isn't there
abbrev pub DidntBegin : List Class → Folder → Status → Type 0
DidntBegin kinds folder (AnalyzerMissing class) = LacksClass kinds folder class
DidntBegin kinds folder _ = ⊥

-- how many emits the run made, and which numbers and analyzers its pieces needed
pub record CountsFrom (kinds : List Class) (folder : Folder) (status : Status) (l : Layout) (script_old script_new : SourceView) (host_old host_new : View) : Type 0 where
  pub emits : CountsEmits status (state_of l) script_old.left script_new.left host_old host_new
  pub needs : DidntBegin kinds folder status ⊎ NeedsByStatus kinds status (new_world l) (script_of script_old.left emits.as_model.runs.read) emits.as_model.runs.read emits.as_model.runs.shown

-- ---- all of them

-- the causes of a status, by what the source and the host tell before the run and after it, over analyzers of these classes
pub record RunCauses (words : List (List ℕ)) (kinds : List Class) (status : Status) (script_old script_new : SourceView) (host_old host_new : View) : Type 0 where
  pub usage : (status ≡ Usage) ↔ ¬ (IsCommandLine words)
  pub calls : FailedCalls status script_old script_new host_old host_new
  pub counts : (folder : Folder) (l : Layout) → host_old.files ≡ Some folder → ShapeOf (asked_by words) folder l
      → CountsFrom kinds folder status l script_old script_new host_old host_new
  pub damaged : (damage : Damage) → status ≡ Damaged damage → ReportsDamage damage script_old script_new host_old host_new
  pub undamaged : (folder : Folder) (l : Layout) (damage : Damage) → host_old.files ≡ Some folder → ShapeOf (asked_by words) folder l → status ≢ Damaged damage
  pub refused : (folder : Folder) → host_old.files ≡ Some folder → ¬ CanOpen folder → RefusesFolder folder status script_old script_new host_old host_new
  pub differs : (asked kept : Partitioner) → status ≡ PartitionerDiffers asked kept → ReportsDifference words asked kept script_old script_new host_old host_new
  pub compares : (folder : Folder) (asked kept : Partitioner) → host_old.files ≡ Some folder → asked_by words ≡ Some asked → KeepsPartitioner folder kept → asked ≢ kept
      → ComparesPartitioners status asked kept
  pub missing : (class : Class) → status ≡ AnalyzerMissing class → ReportsMissing kinds class script_old script_new host_old host_new
  pub lacks : (folder : Folder) (class : Class) → host_old.files ≡ Some folder → LacksClass kinds folder class → RefusesLack status script_old script_new host_old host_new
  -- completeness, on every host
  pub complete : IsCommandLine words → ¬ (Rose script_old.faults script_new.faults) → ¬ (Rose host_old.out_faults host_new.out_faults) → ¬ (Rose host_old.disk_faults host_new.disk_faults)
      → IfSome script_old.left (λ script. length script ≤ SCRIPT_MOST → RanThrough status)
