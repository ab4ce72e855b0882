-- The task at a position, as the calls of its last unit see it.
use Rattle.std.proofs.Common.{◌≡◌, ◌∙◌, ◌-◌, ◌≤◌, ℕ, zero, suc, List, [], ◌∷◌, length, map, slice_get, take, Result, Some, sym, ap, subst, arith}
use Rattle.std.proofs.lemmas.List.{length-map}
use Rattle.std.specs.List.{flat_map}
use Rattle.std.specs.Option.{option_map_or}
use Rattle.sasi_host.specs.View.{View}
use Rattle.sasi_host.specs.declared.name.FileName.{FileName}
use Rattle.sasi_compact.specs.Tasks.{IsReady}
use Rattle.sasi_manifest.specs.Edits.{files_of}
use Rattle.sasi_manifest.specs.ListedDefinition.{ListedDefinition}
use Rattle.sasi_manifest.specs.ListedFiles.{names_of}
use Rattle.sasi_manifest.specs.declared.files.ListedFile.{ListedFile}
use Rattle.sasi_manifest.specs.declared.files.PartNumber.{PartNumber}
use Rattle.sasi_tables.proofs.TablesInMemory.{all_at}
use Rattle.sasi_tables.specs.declared.parts.Parts.{Parts}
use Rattle.sasi_tasks.proofs.LastRecord.{CanEnd, task}
use Rattle.sasi_tasks.specs.MakesTaskMoves.{CanGoOn, MakesTaskMoves}
use Rattle.sasi_tasks.specs.Running.{DrawsParts, IsTaskReady, StopsParts, compaction_of}
use Rattle.sasi_tasks.specs.Tasks.{end_moves, without}
use Rattle.sasi_tasks.specs.declared.running.RunningTask.{RunningTask}
use Rattle.sasi_tables.specs.declared.fault.StepFault.{StepFault}
use Rattle.sasi_views.specs.Books.{Book}

pub same_task : (tasks : List RunningTask) (at : ℕ) (r s : RunningTask) → slice_get tasks at ≡ Some r → slice_get tasks at ≡ Some s → r ≡ s
same_task tasks at r s one two = by (sym one ∙ two)
  where
    by : Some r ≡ Some s → r ≡ s
    by same = cc

-- what is promised of one of two equal tasks is promised of the other
pub as_task : (views : Book) (a b : View) (old new : Parts) (was now : List RunningTask) (result : Result (Unit {0}) StepFault) (r s : RunningTask) → r ≡ s → MakesTaskMoves (λ l ks. end_moves r.table ks) (λ l ks. without r.table ks) views a b old new was now result
    → MakesTaskMoves (λ l ks. end_moves s.table ks) (λ l ks. without s.table ks) views a b old new was now result
as_task views a b old new was now result r s same makes = subst (λ (o : RunningTask). MakesTaskMoves (λ l ks. end_moves o.table ks) (λ l ks. without o.table ks) views a b old new was now result) same makes

module _ (a : View) (views : Book) (p : Parts) (tasks : List RunningTask) (at : ℕ) (r : RunningTask) (ready : CanGoOn a views p tasks) (there : slice_get tasks at ≡ Some r) where
  one : IsTaskReady a p r
  one = all_at (IsTaskReady a p) at tasks r ready.ready.each there

  -- as many files are listed as it has sources
  pub sources_within : length r.task.compaction.sources ≤ length (files_of p.manifest.listing.tables r.table)
  sources_within =
      let files : files_of p.manifest.listing.tables r.table ≡ one.row.files = ap (λ o. option_map_or (λ (t : ListedDefinition). t.files) o []) one.there in
      subst (λ (fs : List ListedFile). length r.task.compaction.sources ≤ length fs) (sym files)
      (omega (arith, ap (λ (ns : List ℕ). length ns) one.firsts, length-map (take (length r.task.compaction.sources) one.row.files) (λ (f : ListedFile). f.number), taken_few (length r.task.compaction.sources) one.row.files))
    where
      taken_few : (k : ℕ) (fs : List ListedFile) → length (take k fs) ≤ length fs
      taken_few zero fs = omega arith
      taken_few (suc k) [] = omega arith
      taken_few (suc k) (f ∷ fs) = omega (arith, taken_few k fs)

  -- what was drawn of the task that a call saw at its position
  pub can_end : (parts : List PartNumber) → IsReady r.task → (x : RunningTask) → slice_get tasks at ≡ Some x
      → ((row : ListedDefinition) → slice_get p.manifest.listing.tables (x.table - 1) ≡ Some row → DrawsParts p.numbers.part (compaction_of x) row.numbers parts) → CanEnd a views p tasks at r parts
  can_end parts passed x seen drawn = record {
    ready = ready;
    there = there;
    passed = passed;
    drawn = subst (λ (o : RunningTask). (row : ListedDefinition) → slice_get p.manifest.listing.tables (o.table - 1) ≡ Some row → DrawsParts p.numbers.part (compaction_of o) row.numbers parts) (same_task tasks at x r seen there) drawn;
  }

  pub stops_own : (f : StepFault) (x : RunningTask) → slice_get tasks at ≡ Some x → ((row : ListedDefinition) → slice_get p.manifest.listing.tables (x.table - 1) ≡ Some row → StopsParts p.numbers.part (compaction_of x) row.numbers f)
      → (row : ListedDefinition) → slice_get p.manifest.listing.tables (r.table - 1) ≡ Some row → StopsParts p.numbers.part (compaction_of r) row.numbers f
  stops_own f x seen stops = subst (λ (o : RunningTask). (row : ListedDefinition) → slice_get p.manifest.listing.tables (o.table - 1) ≡ Some row → StopsParts p.numbers.part (compaction_of o) row.numbers f) (same_task tasks at x r seen there) stops

  -- the names that were taken are those of its sources
  pub names_own : (parts : List PartNumber) (e : CanEnd a views p tasks at r parts) (x : RunningTask) → slice_get tasks at ≡ Some x → (names : List FileName)
      → names ≡ flat_map names_of (take (length x.task.compaction.sources) (files_of p.manifest.listing.tables x.table)) → names ≡ flat_map names_of (take (length r.task.compaction.sources) (task a views p tasks at r parts e).row.files)
  names_own parts e x seen names are =
      are ∙ ap (λ (o : RunningTask). flat_map names_of (take (length o.task.compaction.sources) (files_of p.manifest.listing.tables o.table))) (same_task tasks at x r seen there)
      ∙ ap (λ o. flat_map names_of (take (length r.task.compaction.sources) (option_map_or (λ (t : ListedDefinition). t.files) o []))) (task a views p tasks at r parts e).there
