-- Which calls failed in a run, part by part.
use Rattle.std.proofs.Common.{◌≢◌, ◌≡◌, ◌⊎◌, ◌==◌, inl, inr, ℕ, Bool, true, false, if◌then◌else◌, refl, subst, ◌∙◌, arith, Ok, Err, Some}
use Rattle.sasi_host.specs.declared.damage.Damage.{Damage}
use Rattle.sasi_host.specs.declared.name.FileName.{FileName}
use Rattle.sasi_host.specs.Names.{Folder}
use Rattle.sasi_host.specs.View.{DiskCauses, FailedAtLast, FailsOnlyAsTold, OutCauses, Rose, SourceCauses, SourceView, View}
use Rattle.sasi_host.proofs.FailingLaws.{failed_behind, read_told_none, read_told_on, told_none, told_on}
use Rattle.sasi_folder.specs.Damages.{FolderShows}
use Rattle.sasi_recover.specs.Faults.{OpenCauses}
use Rattle.sasi_recover.specs.declared.fault.OpenFault.{OpenFault}
use Rattle.sasi_recover.specs.declared.fault.OpenFault.TheVariants as open_fault
use Rattle.sasi_tables.specs.Faults.{OnStepDamage, StepCauses}
use Rattle.sasi_tables.specs.declared.fault.StepFault.{StepFault}
use Rattle.sasi_tables.specs.declared.fault.StepFault.TheVariants as step_fault
use Rattle.sasi_store.specs.HeldDamage.{ShowsHeld}
use Rattle.sasi_run.specs.declared.session.Stop.{Stop}
use Rattle.sasi_run.specs.declared.session.Stop.TheVariants.{Disk, Memory, Output, Corrupt, Spent, Missing}
use Rattle.sasi_run.specs.declared.status.Status.{Status}
use Rattle.sasi_run.specs.declared.status.Status.TheVariants.{Done, Refused, ScriptFault, FolderFault, OutputFault, Damaged, AnalyzerMissing, NumbersSpent, PartitionerDiffers}
use Rattle.sasi_run.specs.Causes.{FailedCalls, ReportsNow}
use Rattle.sasi_run.specs.Headline.{status_of_count, status_of_fault, status_of_stop}
use Rattle.sasi_run.specs.Session.{NoneFailed, ShowsNow, StopFaults, stop_of}
use Rattle.sasi_run.specs.StatusCauses.{FailedWith, NothingFailed}

pub none_failed : (v : View) → NoneFailed v v
none_failed v = record { disk = refl; out = refl }

pub none_on : (a b c : View) → NoneFailed a b → NoneFailed b c → NoneFailed a c
none_on a b c first second = record { disk = second.disk ∙ first.disk; out = second.out ∙ first.out }

-- ---- parts of a run

-- a part behind one in which nothing failed
pub stops_behind : (stop : Stop) (a b c : View) → NoneFailed a b → StopFaults stop b c → StopFaults stop a c
stops_behind Memory a b c none stops = none_on a b c none stops
stops_behind Disk a b c none stops = record {
  disk = failed_behind a.disk_faults b.disk_faults c.disk_faults c.failed_last none.disk stops.disk;
  out = stops.out ∙ none.out;
}
stops_behind (Corrupt damage) a b c none stops = (none_on a b c none stops.0, stops.1)
stops_behind (Spent kind) a b c none stops = none_on a b c none stops
stops_behind (Missing class) a b c none stops = none_on a b c none stops
stops_behind Output a b c none stops = record {
  disk = stops.disk ∙ none.disk;
  out = failed_behind a.out_faults b.out_faults c.out_faults c.failed_last none.out stops.out;
}

-- whichever files are held
any_held : {held : FileName → Bool} {folder : Folder} {damage : Damage} → FolderShows folder damage ⊎ ShowsHeld held folder damage → FolderShows folder damage ⊎ ShowsHeld (λ name. true) folder damage
any_held (inl shown) = inl shown
any_held (inr shown) = inr (record {
  number = shown.number;
  sealed = shown.sealed;
  bytes = shown.bytes;
  there = shown.there;
  listing = shown.listing;
  manifest = shown.manifest;
  table = shown.table;
  listed = shown.listed;
  files = shown.files;
  present = λ name is. (refl, (shown.present name is).1);
  shows = shown.shows;
})

-- a statement that wasn't done
pub step_stops : {T : Type 0} (held : FileName → Bool) (f : StepFault) (a b : View) → StepCauses {T = T} a b (Err f)
    → ((folder : Folder) → b.files ≡ Some folder → OnStepDamage (λ damage. FolderShows folder damage ⊎ ShowsHeld held folder damage) f) → StopFaults (stop_of f) a b
step_stops held step_fault.Failed a b causes shows = record { disk = causes.failed refl; out = causes.out }
step_stops held step_fault.OutOfMemory a b causes shows = record { disk = causes.others (λ is. cc); out = causes.out }
step_stops held (step_fault.Damaged damage) a b causes shows = (record { disk = causes.others (λ is. cc); out = causes.out }, λ folder files. any_held (shows folder files))
step_stops held (step_fault.NumbersSpent kind) a b causes shows = record { disk = causes.others (λ is. cc); out = causes.out }
step_stops held (step_fault.AnalyzerMissing class) a b causes shows = record { disk = causes.others (λ is. cc); out = causes.out }

-- and one that was
pub step_went : {T : Type 0} (x : T) (a b : View) → StepCauses a b (Ok x) → NoneFailed a b
step_went x a b causes = record { disk = causes.ok; out = causes.out }

-- the reply behind it couldn't be emitted
pub output_stops : {T E : Type 0} (fault : E) (a b c : View) → NoneFailed a b → OutCauses {T = T} {E = E} b c (Err fault) → StopFaults Output a c
output_stops fault a b c none causes = stops_behind Output a b c none (record { disk = causes.disk; out = causes.failed })

-- and it was
pub output_went : {T E : Type 0} (x : T) (a b c : View) → NoneFailed a b → OutCauses {T = T} {E = E} b c (Ok x) → NoneFailed a c
output_went x a b c none causes = none_on a b c none (record { disk = causes.disk; out = causes.ok })

-- ---- a run in which no call failed

pub nothing_failed : (script : SourceView) (v : View) → NothingFailed script script v v
nothing_failed script v = record { reads = refl; none = none_failed v; script_told = read_told_none script; host_told = told_none v }

-- first the source and then the host
pub nothing_read : {T E : Type 0} (script later : SourceView) (a b : View) (count : T) → SourceCauses {T = T} {E = E} script later (Ok count)
    → NoneFailed a b → FailsOnlyAsTold a b → NothingFailed script later a b
nothing_read script later a b count read none told = record { reads = read.ok; none = none; script_told = read.told; host_told = told }

pub nothing_of_host : (script : SourceView) (a b : View) → NoneFailed a b → FailsOnlyAsTold a b → NothingFailed script script a b
nothing_of_host script a b none told = record { reads = refl; none = none; script_told = read_told_none script; host_told = told }

pub nothing_on : (script mid later : SourceView) (a b c : View) → NothingFailed script mid a b → NothingFailed mid later b c
    → NothingFailed script later a c
nothing_on script mid later a b c first second = record {
  reads = second.reads ∙ first.reads;
  none = none_on a b c first.none second.none;
  script_told = read_told_on script mid later first.script_told second.script_told;
  host_told = told_on a b c first.host_told second.host_told;
}

-- ---- the calls that failed

-- a run that nothing stopped
pub unfailed_calls : (status : Status) (script later : SourceView) (a b : View) → status ≢ ScriptFault → status ≢ FolderFault
    → status ≢ OutputFault → NothingFailed script later a b → FailedCalls status script later a b
unfailed_calls status script later a b not_script not_folder not_output nothing = record {
  script_fault = λ is. absurd (not_script is);
  folder_fault = λ is. absurd (not_folder is);
  output_fault = λ is. absurd (not_output is);
  no_script_fault = λ _. nothing.reads;
  no_folder_fault = λ _. nothing.none.disk;
  no_output_fault = λ _. nothing.none.out;
  script_told = nothing.script_told;
  host_told = nothing.host_told;
}

module _ (n : ℕ) (script later : SourceView) (a b : View) (nothing : NothingFailed script later a b) where
  by_count : (none : Bool) → FailedCalls (if none then Done else Refused n) script later a b
  by_count true = unfailed_calls Done script later a b (λ is. cc) (λ is. cc) (λ is. cc) nothing
  by_count false = unfailed_calls (Refused n) script later a b (λ is. cc) (λ is. cc) (λ is. cc) nothing

  pub counted_calls : FailedCalls (status_of_count n) script later a b
  counted_calls = by_count (n == 0)

-- behind a part in which no call failed
pub calls_behind : (status : Status) (script mid later : SourceView) (a b c : View) → NothingFailed script mid a b
    → FailedCalls status mid later b c → FailedCalls status script later a c
calls_behind status script mid later a b c nothing calls = record {
  script_fault = λ is. failed_behind script.faults mid.faults later.faults later.failed_last nothing.reads (calls.script_fault is);
  folder_fault = λ is. failed_behind a.disk_faults b.disk_faults c.disk_faults c.failed_last nothing.none.disk (calls.folder_fault is);
  output_fault = λ is. failed_behind a.out_faults b.out_faults c.out_faults c.failed_last nothing.none.out (calls.output_fault is);
  no_script_fault = λ no. calls.no_script_fault no ∙ nothing.reads;
  no_folder_fault = λ no. calls.no_folder_fault no ∙ nothing.none.disk;
  no_output_fault = λ no. calls.no_output_fault no ∙ nothing.none.out;
  script_told = read_told_on script mid later nothing.script_told calls.script_told;
  host_told = told_on a b c nothing.host_told calls.host_told;
}

-- a read that failed
pub script_calls : {T E : Type 0} (fault : E) (script later : SourceView) (a : View) → SourceCauses {T = T} {E = E} script later (Err fault)
    → FailedCalls ScriptFault script later a a
script_calls fault script later a read = record {
  script_fault = λ is. read.failed;
  folder_fault = λ is. cc;
  output_fault = λ is. cc;
  no_script_fault = λ no. absurd (no refl);
  no_folder_fault = λ _. refl;
  no_output_fault = λ _. refl;
  script_told = read.told;
  host_told = told_none a;
}

-- a run that the host, its folder, its numbers or memory stopped
pub stop_calls : (stop : Stop) (script : SourceView) (a b : View) → StopFaults stop a b → FailsOnlyAsTold a b
    → FailedCalls (status_of_stop stop) script script a b
stop_calls Memory script a b stops told = record {
  script_fault = λ is. cc;
  folder_fault = λ is. cc;
  output_fault = λ is. cc;
  no_script_fault = λ _. refl;
  no_folder_fault = λ _. stops.disk;
  no_output_fault = λ _. stops.out;
  script_told = read_told_none script;
  host_told = told;
}
stop_calls Disk script a b stops told = record {
  script_fault = λ is. cc;
  folder_fault = λ is. stops.disk;
  output_fault = λ is. cc;
  no_script_fault = λ _. refl;
  no_folder_fault = λ no. absurd (no refl);
  no_output_fault = λ _. stops.out;
  script_told = read_told_none script;
  host_told = told;
}
stop_calls (Corrupt damage) script a b stops told =
    unfailed_calls (Damaged damage) script script a b (λ is. cc) (λ is. cc) (λ is. cc) (nothing_of_host script a b stops.0 told)
stop_calls (Spent kind) script a b stops told =
    unfailed_calls (NumbersSpent kind) script script a b (λ is. cc) (λ is. cc) (λ is. cc) (nothing_of_host script a b stops told)
stop_calls (Missing class) script a b stops told =
    unfailed_calls (AnalyzerMissing class) script script a b (λ is. cc) (λ is. cc) (λ is. cc) (nothing_of_host script a b stops told)
stop_calls Output script a b stops told = record {
  script_fault = λ is. cc;
  folder_fault = λ is. cc;
  output_fault = λ is. stops.out;
  no_script_fault = λ _. refl;
  no_folder_fault = λ _. stops.disk;
  no_output_fault = λ no. absurd (no refl);
  script_told = read_told_none script;
  host_told = told;
}

-- a use of the store that couldn't be ended
pub unclosed_calls : {T E : Type 0} (fault : E) (script : SourceView) (a b : View) → DiskCauses {T = T} a b (Err fault) → FailsOnlyAsTold a b
    → FailedCalls FolderFault script script a b
unclosed_calls fault script a b causes told = stop_calls Disk script a b (record { disk = causes.failed; out = causes.out }) told

-- and one that was
pub closed_nothing : {T E : Type 0} (x : T) (script : SourceView) (a b : View) → DiskCauses {T = T} {E = E} a b (Ok x) → FailsOnlyAsTold a b → NothingFailed script script a b
closed_nothing x script a b causes told = nothing_of_host script a b (record { disk = causes.ok; out = causes.out }) told

pub ended_calls : (status : Status) (script : SourceView) (a b : View) → FailedWith status a b → FailsOnlyAsTold a b → FailedCalls status script script a b
ended_calls status script a b ended told = rw ended.gives (stop_calls ended.stop script a b ended.faults told)

-- a folder that wasn't opened
pub unopened_calls : {T : Type 0} (fault : OpenFault) (script : SourceView) (a b : View) → OpenCauses {T = T} a b (Err fault) → FailsOnlyAsTold a b
    → FailedCalls (status_of_fault fault) script script a b
unopened_calls open_fault.Failed script a b causes told = stop_calls Disk script a b (record { disk = causes.failed refl; out = causes.out }) told
unopened_calls open_fault.OutOfMemory script a b causes told = stop_calls Memory script a b (record { disk = causes.others (λ is. cc); out = causes.out }) told
unopened_calls (open_fault.Damaged damage) script a b causes told =
    unfailed_calls (Damaged damage) script script a b (λ is. cc) (λ is. cc) (λ is. cc)
    (nothing_of_host script a b (record { disk = causes.others (λ is. cc); out = causes.out }) told)
unopened_calls (open_fault.AnalyzerMissing class) script a b causes told =
    unfailed_calls (AnalyzerMissing class) script script a b (λ is. cc) (λ is. cc) (λ is. cc)
    (nothing_of_host script a b (record { disk = causes.others (λ is. cc); out = causes.out }) told)
unopened_calls (open_fault.PartitionerDiffers asked kept) script a b causes told =
    unfailed_calls (PartitionerDiffers asked kept) script script a b (λ is. cc) (λ is. cc) (λ is. cc)
    (nothing_of_host script a b (record { disk = causes.others (λ is. cc); out = causes.out }) told)

-- and one that was
pub opened_calls : {T : Type 0} (store : T) (script : SourceView) (a b : View) → OpenCauses a b (Ok store) → FailsOnlyAsTold a b
    → NothingFailed script script a b
opened_calls store script a b causes told = nothing_of_host script a b (record { disk = causes.ok; out = causes.out }) told

-- ---- what is damaged

pub damage_same : (x y : Damage) → Damaged x ≡ Damaged y → x ≡ y
damage_same x y is = cc

-- the folder that stopped the run shows the damage
pub stop_reports : (stop : Stop) (a b : View) → StopFaults stop a b → ReportsNow (status_of_stop stop) b
stop_reports Memory a b stops damage is = cc
stop_reports Disk a b stops damage is = cc
stop_reports Output a b stops damage is = cc
stop_reports (Spent kind) a b stops damage is = cc
stop_reports (Missing class) a b stops damage is = cc
stop_reports (Corrupt told) a b stops damage is = subst (λ (d : Damage). ShowsNow b d) (damage_same told damage is) stops.1

pub ended_reports : (status : Status) (a b : View) → FailedWith status a b → ReportsNow status b
ended_reports status a b ended = rw ended.gives (stop_reports ended.stop a b ended.faults)

pub count_reports : (n : ℕ) (b : View) → ReportsNow (status_of_count n) b
count_reports n b = by (n == 0)
  where
    by : (none : Bool) → ReportsNow (if none then Done else Refused n) b
    by true damage is = cc
    by false damage is = cc

-- where one call failed the count rose
pub rose : (before now : ℕ) (last : Bool) → FailedAtLast before now last → Rose before now
rose before now last failed = omega (arith, failed.once)
