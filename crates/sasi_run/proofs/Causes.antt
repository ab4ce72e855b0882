-- The causes of a run's status.
use Rattle.std.proofs.Common.{◌≡◌, ◌≢◌, List, ℕ, Some, refl, ap, subst, inl, inr, Err}
use Rattle.std.specs.FinMap.{get}
use Rattle.sasi_types.specs.declared.class.Class.{Class}
use Rattle.sasi_types.specs.declared.partitioner.Partitioner.{Partitioner}
use Rattle.sasi_host.specs.Names.{Folder}
use Rattle.sasi_host.specs.View.{SourceView, View}
use Rattle.sasi_host.proofs.ChangeLaws.{changes_as, stays}
use Rattle.sasi_host.specs.Disk.{Changes, Same}
use Rattle.sasi_host.specs.declared.damage.Damage.{Damage}
use Rattle.sasi_folder.specs.Damages.{FolderShows}
use Rattle.sasi_folder.specs.Opens.{CanOpen, KeepsPartitioner}
use Rattle.sasi_folder.specs.FolderContents.{IsSealed}
use Rattle.sasi_layout.specs.Layout.{Layout}
use Rattle.sasi_layout.specs.Shape.{ShapeOf}
use Rattle.sasi_store.specs.Worlds.{ServesWorld, new_world}
use Rattle.sasi_model.specs.Parsers.{grammar_parser}
use Rattle.sasi_model.specs.Sessions.{new_session}
use Rattle.sasi_model.specs.State.{State}
use Rattle.sasi_recover.specs.Faults.{OnDiffers, OnMissing, OnOpenDamage, TellsDifference, TellsMissing}
use Rattle.sasi_recover.specs.Promises.{LacksClass}
use Rattle.sasi_recover.specs.KeptListed.{KeepsListed}
use Rattle.sasi_recover.specs.NewFolder.{IsForeign}
use Rattle.sasi_recover.specs.declared.fault.OpenFault.{OpenFault}
use Rattle.sasi_recover.specs.declared.fault.OpenFault.TheVariants as open_fault
use Rattle.sasi_store.specs.declared.store.Store.{Store}
use Rattle.sasi_run.specs.Causes.{ComparesPartitioners, FailedCalls, IsOfStore, IsRefusal, LacksAtStart, TellsLack, ReportsAtStart, ReportsDifference, ReportsNow, RunCauses}
use Rattle.sasi_run.specs.CommandLine.{IsCommandLine, asked_by}
use Rattle.sasi_run.specs.Crashing.{IsOfState, RunsCrashSafe}
use Rattle.sasi_run.specs.Headline.{but_stored, status_of_fault}
use Rattle.sasi_run.specs.declared.status.Status.{Status}
use Rattle.sasi_run.specs.declared.status.Status.TheVariants.{Usage, AnalyzerMissing, Damaged, PartitionerDiffers}
use Rattle.sasi_run.proofs.Complete.{through}
use Rattle.sasi_run.proofs.CountedEmits.{counts_opened, counts_unopened, counts_unused}
use Rattle.sasi_run.proofs.FailedCalls.{damage_same, nothing_failed, rose, unfailed_calls}
use Rattle.sasi_run.proofs.RunParts.{unmoved}
use Rattle.sasi_run.proofs.WholeRun.{first_runs, no_tables, shape_order}

-- ---- the words name no script

keeps_all : (v : View) (folder : Folder) (number : ℕ) → Changes (KeepsListed folder number) v v
keeps_all v folder number = changes_as v v Same (KeepsListed folder number) (stays v) (λ x y same name listed. ap (λ (f : Folder). get f name) same)

pub causes_unused : (words : List (List ℕ)) (kinds : List Class) (script : SourceView) (a : View) → (IsCommandLine words → ⊥) → RunCauses words kinds Usage script script a a
causes_unused words kinds script a none = record {
  usage = (λ is. none, λ no. refl);
  calls = unfailed_calls Usage script script a a (λ is. cc) (λ is. cc) (λ is. cc) (nothing_failed script a);
  counts = λ folder l files shape. counts_unused folder l script a (shape_order (asked_by words) folder l shape);
  damaged = λ damage is. cc;
  undamaged = λ folder l damage files shape is. cc;
  refused = λ folder files no. record { refusal = tt; unread = refl; silent = refl; kept = λ number sealed. keeps_all a folder number; foreign = λ foreign. stays a };
  differs = λ asked kept is. cc;
  compares = λ folder asked kept files asks keeps other. tt;
  missing = λ class is. cc;
  lacks = λ folder class files lacks. record { tells = tt; unread = refl; silent = refl };
  complete = λ are x y z. absurd (none are);
}

-- ---- the folder wasn't opened

-- what an opening promises that failed
pub record OpenFailed (T : Type 0) (words : List (List ℕ)) (kinds : List Class) (fault : OpenFault) (script : SourceView) (a b : View) : Type 0 where
  pub silent : b.emitted ≡ a.emitted
  pub none_out : b.emits ≡ a.emits
  pub calls : FailedCalls (status_of_fault fault) script script a b
  pub shows : (folder : Folder) → a.files ≡ Some folder → OnOpenDamage (FolderShows folder) fault
  pub undamaged : (folder : Folder) (l : Layout) → a.files ≡ Some folder → ShapeOf (asked_by words) folder l → OnOpenDamage (λ _. ⊥) fault
  pub tells : (folder : Folder) (wanted kept : Partitioner) → a.files ≡ Some folder → asked_by words ≡ Some wanted → KeepsPartitioner folder kept → wanted ≢ kept
      → TellsDifference {T = T} wanted kept (Err fault)
  pub kept : (folder : Folder) (number : ℕ) → a.files ≡ Some folder → IsSealed folder number → Changes (KeepsListed folder number) a b
  pub foreign : (folder : Folder) → a.files ≡ Some folder → IsForeign folder → Changes Same a b
  pub untouched : OnDiffers (λ wanted kept. Changes Same a b) fault
  pub differs : (folder : Folder) → a.files ≡ Some folder
      → OnDiffers (λ wanted kept. (asked_by words ≡ Some wanted) × KeepsPartitioner folder kept × (wanted ≢ kept)) fault
  pub unopened : OnMissing (λ class. Changes Same a b) fault
  pub lacks : (folder : Folder) (class : Class) → a.files ≡ Some folder → LacksClass kinds folder class → TellsMissing {T = T} (Err fault)
  pub lacks_only : (folder : Folder) → a.files ≡ Some folder → OnMissing (LacksClass kinds folder) fault

module _ (T : Type 0) (words : List (List ℕ)) (kinds : List Class) (script : SourceView) (a b : View) (are : IsCommandLine words) where
  is_refusal : (fault : OpenFault) → IsRefusal (status_of_fault fault)
  is_refusal open_fault.Failed = tt
  is_refusal open_fault.OutOfMemory = tt
  is_refusal (open_fault.Damaged damage) = tt
  is_refusal (open_fault.AnalyzerMissing class) = tt
  is_refusal (open_fault.PartitionerDiffers asked kept) = tt

  not_usage : (fault : OpenFault) → status_of_fault fault ≢ Usage
  not_usage open_fault.Failed is = cc
  not_usage open_fault.OutOfMemory is = cc
  not_usage (open_fault.Damaged damage) is = cc
  not_usage (open_fault.AnalyzerMissing class) is = cc
  not_usage (open_fault.PartitionerDiffers asked kept) is = cc

  damaged : (fault : OpenFault) → OpenFailed T words kinds fault script a b → (damage : Damage) → status_of_fault fault ≡ Damaged damage
      → ReportsAtStart damage script script a b
  damaged open_fault.Failed failed damage is = cc
  damaged open_fault.OutOfMemory failed damage is = cc
  damaged (open_fault.Damaged told) failed damage is =
      subst (λ (d : Damage). ReportsAtStart d script script a b) (damage_same told damage is) (record { shows = failed.shows; unread = refl; silent = failed.silent })
  damaged (open_fault.AnalyzerMissing class) failed damage is = cc
  damaged (open_fault.PartitionerDiffers asked kept) failed damage is = cc

  undamaged : (fault : OpenFault) → OpenFailed T words kinds fault script a b → (folder : Folder) (l : Layout) (damage : Damage) → a.files ≡ Some folder
      → ShapeOf (asked_by words) folder l → status_of_fault fault ≢ Damaged damage
  undamaged open_fault.Failed failed folder l damage files shape is = cc
  undamaged open_fault.OutOfMemory failed folder l damage files shape is = cc
  undamaged (open_fault.Damaged told) failed folder l damage files shape is = failed.undamaged folder l files shape
  undamaged (open_fault.AnalyzerMissing class) failed folder l damage files shape is = cc
  undamaged (open_fault.PartitionerDiffers asked kept) failed folder l damage files shape is = cc

  asked_same : (x y z u : Partitioner) → PartitionerDiffers x y ≡ PartitionerDiffers z u → (x ≡ z) × (y ≡ u)
  asked_same x y z u is = (cc, cc)

  differs : (fault : OpenFault) → OpenFailed T words kinds fault script a b → (asked kept : Partitioner) → status_of_fault fault ≡ PartitionerDiffers asked kept
      → ReportsDifference words asked kept script script a b
  differs open_fault.Failed failed asked kept is = cc
  differs open_fault.OutOfMemory failed asked kept is = cc
  differs (open_fault.Damaged told) failed asked kept is = cc
  differs (open_fault.AnalyzerMissing class) failed asked kept is = cc
  differs (open_fault.PartitionerDiffers x y) failed asked kept is =
      let same = asked_same x y asked kept is in
      subst (λ (p : Partitioner). ReportsDifference words p kept script script a b) same.0
      (subst (λ (p : Partitioner). ReportsDifference words x p script script a b) same.1
      (record {
        shows = λ folder files. (let is = failed.differs folder files in record { asks = is.0; keeps = is.1; other = is.2 });
        unread = refl;
        silent = failed.silent;
        untouched = failed.untouched;
      }))

  compares : (fault : OpenFault) → OpenFailed T words kinds fault script a b → (folder : Folder) (asked kept : Partitioner) → a.files ≡ Some folder
      → asked_by words ≡ Some asked → KeepsPartitioner folder kept → asked ≢ kept → ComparesPartitioners (status_of_fault fault) asked kept
  compares open_fault.Failed failed folder asked kept files asks keeps other = tt
  compares open_fault.OutOfMemory failed folder asked kept files asks keeps other = tt
  compares (open_fault.Damaged told) failed folder asked kept files asks keeps other = failed.tells folder asked kept files asks keeps other
  compares (open_fault.AnalyzerMissing class) failed folder asked kept files asks keeps other = failed.tells folder asked kept files asks keeps other
  compares (open_fault.PartitionerDiffers x y) failed folder asked kept files asks keeps other = failed.tells folder asked kept files asks keeps other

  missing_same : (x y : Class) → AnalyzerMissing x ≡ AnalyzerMissing y → x ≡ y
  missing_same x y is = cc

  missing : (fault : OpenFault) → OpenFailed T words kinds fault script a b → (class : Class) → status_of_fault fault ≡ AnalyzerMissing class
      → LacksAtStart kinds class script script a b
  missing open_fault.Failed failed class is = cc
  missing open_fault.OutOfMemory failed class is = cc
  missing (open_fault.Damaged told) failed class is = cc
  missing (open_fault.PartitionerDiffers asked kept) failed class is = cc
  missing (open_fault.AnalyzerMissing told) failed class is =
      subst (λ (c : Class). LacksAtStart kinds c script script a b) (missing_same told class is)
      (record { shows = failed.lacks_only; unread = refl; silent = failed.silent; untouched = failed.unopened })

  tells_lack : (fault : OpenFault) → TellsMissing {T = T} (Err fault) → TellsLack (status_of_fault fault)
  tells_lack open_fault.Failed tells = tt
  tells_lack open_fault.OutOfMemory tells = tt
  tells_lack (open_fault.Damaged told) tells = tells
  tells_lack (open_fault.PartitionerDiffers asked kept) tells = tt
  tells_lack (open_fault.AnalyzerMissing class) tells = tt

  pub causes_unopened : (fault : OpenFault) → OpenFailed T words kinds fault script a b → RunCauses words kinds (status_of_fault fault) script script a b
  causes_unopened fault failed = record {
    usage = (λ is. absurd (not_usage fault is), λ no. absurd (no are));
    calls = failed.calls;
    counts = λ folder l files shape. counts_unopened folder fault l script a b (shape_order (asked_by words) folder l shape) (unmoved a b failed.silent) failed.none_out (failed.lacks_only folder files);
    damaged = λ damage is. inl (damaged fault failed damage is);
    undamaged = λ folder l damage files shape. undamaged fault failed folder l damage files shape;
    refused = λ folder files no. record {
      refusal = is_refusal fault;
      unread = refl;
      silent = failed.silent;
      kept = λ number sealed. failed.kept folder number files sealed;
      foreign = λ foreign. failed.foreign folder files foreign;
    };
    differs = λ asked kept is. differs fault failed asked kept is;
    compares = λ folder asked kept files asks keeps other. compares fault failed folder asked kept files asks keeps other;
    missing = λ class is. inl (missing fault failed class is);
    lacks = λ folder class files lacks. record { tells = tells_lack fault (failed.lacks folder class files lacks); unread = refl; silent = failed.silent };
    complete = λ words x y z. through grammar_parser (but_stored grammar_parser) (status_of_fault fault) no_tables script.left script.left a.emitted b.emitted
        (first_runs (but_stored grammar_parser) fault no_tables script.left a.emitted b.emitted refl (unmoved a b failed.silent)) (not_usage fault)
        (λ is. x (rose script.faults script.faults script.failed_last (failed.calls.script_fault is)))
        (λ is. y (rose a.out_faults b.out_faults b.failed_last (failed.calls.output_fault is)))
        (λ is. z (rose a.disk_faults b.disk_faults b.failed_last (failed.calls.folder_fault is)));
  }

-- ---- the script was run

-- what an opening promises that succeeded
pub record OpenDone (words : List (List ℕ)) (kinds : List Class) (store : Store) (a b : View) : Type 0 where
  pub state : (s : State) × IsOfState store new_session s
  pub silent : b.emitted ≡ a.emitted
  pub none_out : b.emits ≡ a.emits
  pub opens : (folder : Folder) → a.files ≡ Some folder → CanOpen folder
  pub serves : (folder : Folder) (l : Layout) → a.files ≡ Some folder → ShapeOf (asked_by words) folder l → ServesWorld b store (new_world l)
  pub agrees : (folder : Folder) (wanted kept : Partitioner) → a.files ≡ Some folder → asked_by words ≡ Some wanted → KeepsPartitioner folder kept → wanted ≢ kept → ⊥
  pub complete : (folder : Folder) (class : Class) → a.files ≡ Some folder → LacksClass kinds folder class → ⊥

of_store_used : (status : Status) → IsOfStore status → status ≢ Usage
of_store_used status of is = subst (λ (s : Status). IsOfStore s) is of

of_store_differs : (status : Status) (asked kept : Partitioner) → IsOfStore status → status ≢ PartitionerDiffers asked kept
of_store_differs status asked kept of is = subst (λ (s : Status). IsOfStore s) is of

pub causes_opened : {kinds : List Class} (words : List (List ℕ)) (status : Status) (script later : SourceView) (a b c : View) (store : Store) → IsCommandLine words
    → OpenDone words kinds store a b → RunsCrashSafe kinds status store script.left later.left b c → FailedCalls status script later a c → ReportsNow status c → IsOfStore status
    → RunCauses words kinds status script later a c
causes_opened words status script later a b c store are opened on calls reports of = record {
  usage = (λ is. absurd (of_store_used status of is), λ no. absurd (no are));
  calls = calls;
  counts = λ folder l files shape. counts_opened folder status l script later a b c (shape_order (asked_by words) folder l shape) opened.silent opened.none_out (on.from l (opened.serves folder l files shape));
  damaged = λ damage is. inr (reports damage is);
  undamaged = λ folder l damage files shape. (on.from l (opened.serves folder l files shape)).undamaged damage;
  refused = λ folder files no. absurd (no (opened.opens folder files));
  differs = λ asked kept is. absurd (of_store_differs status asked kept of is);
  compares = λ folder asked kept files asks keeps other. absurd (opened.agrees folder asked kept files asks keeps other);
  missing = λ class is. inr (on.lacks class is);
  lacks = λ folder class files lacks. absurd (opened.complete folder class files lacks);
  complete = λ words x y z. through grammar_parser (but_stored grammar_parser) status opened.state.0 script.left later.left b.emitted c.emitted (on.anywhere opened.state.0 opened.state.1) (of_store_used status of)
      (λ is. x (rose script.faults later.faults later.failed_last (calls.script_fault is)))
      (λ is. y (rose a.out_faults c.out_faults c.failed_last (calls.output_fault is)))
      (λ is. z (rose a.disk_faults c.disk_faults c.failed_last (calls.folder_fault is)));
}
