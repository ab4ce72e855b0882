-- Damage of a source of a task is damage of the folder, also where the file of the task changed meanwhile.
use Rattle.std.proofs.Common.{◌≡◌, ◌∙◌, ◌<◌, ◌-◌, ◌||◌, ◌&&◌, Bool, true, false, nat_eq, is_some, ℕ, zero, suc, List, [], ◌∷◌, slice_get, slice_index_or, Option, None, Some, inr, refl, ap, arith}
use Rattle.std.proofs.lemmas.Bool.Decides.{nat_tests}
use Rattle.std.specs.FinMap.{get}
use Rattle.sasi_dataread.specs.Damages.{ShowsDataFile, inside, opened_by, outside}
use Rattle.sasi_folder.specs.Damages as folders
use Rattle.sasi_folder.specs.Damages.{FolderShows, broken_content, broken_ends, broken_file}
use Rattle.sasi_folder.specs.FolderContents.{IsSealed}
use Rattle.sasi_folder.proofs.FolderLaws.{kinds_apart}
use Rattle.sasi_host.specs.declared.damage.Damage.{Damage}
use Rattle.sasi_host.specs.declared.name.FileName.{FileName}
use Rattle.sasi_host.specs.Disk.{AnyChange, FileChange}
use Rattle.sasi_host.specs.Names.{Bytes, Folder, data_name, manifest_name, seal_name}
use Rattle.sasi_host.specs.View.{IsSound, View, contents_in}
use Rattle.sasi_compact.proofs.TaskLaws.{each_source}
use Rattle.sasi_compact.specs.Tasks.{sources_of}
use Rattle.sasi_layout.proofs.FileNameLaws.{other_kind}
use Rattle.sasi_layout.proofs.KeptLaws.{aside_kind, free_in, keeps_listed, keeps_seal, kept_in}
use Rattle.sasi_layout.proofs.Trails.{manifest_each}
use Rattle.sasi_layout.specs.Kept.{Kept, is_kept}
use Rattle.sasi_layout.specs.Serving.{kept_by}
use Rattle.sasi_manifest.specs.FileNames.{has_name}
use Rattle.sasi_manifest.specs.ListedFiles.{has_file, is_among}
use Rattle.sasi_manifest.specs.declared.files.ListedFile.{ListedFile}
use Rattle.sasi_manifest.specs.declared.listing.Listing.{Listing}
use Rattle.sasi_scan.specs.Parts.{ShowsListed}
use Rattle.sasi_tables.proofs.TablesInMemory.{there_inside}
use Rattle.sasi_tables.specs.TablesView.{memory_of}
use Rattle.sasi_tables.specs.declared.parts.Parts.{Parts}
use Rattle.sasi_tasks.proofs.StepFrames.{each_number, first_has, source_listed}
use Rattle.sasi_tasks.specs.MakesTaskMoves.{CanGoOn}
use Rattle.sasi_tasks.specs.Running.{IsTaskReady}
use Rattle.sasi_tasks.specs.declared.running.RunningTask.{RunningTask}
use Rattle.sasi_views.specs.Books.{Book}

index_there : {A : Type 0} (xs : List A) (k : ℕ) (x : A) → slice_get xs k ≡ Some x → slice_index_or xs k x ≡ x
index_there [] k x there = cc
index_there (y ∷ xs) zero x there = let same : y ≡ x = cc in same
index_there (y ∷ xs) (suc k) x there = index_there xs k x there

some_in : {A : Type 0} (o : Option A) → is_some o ≡ true → (x : A) × (o ≡ Some x)
some_in None some = cc
some_in (Some x) some = (x, refl)

none_in : {A : Type 0} (o : Option A) → is_some o ≡ false → o ≡ None
none_in None none = refl
none_in (Some x) none = cc

-- no seal with a higher number is kept
unkept_seal : (k : Kept) (other : ℕ) → k.manifest < other → is_kept k (seal_name other) ≡ false
unkept_seal k other above = by (nat_eq other k.manifest) (has_name k.listing.tables (seal_name other)) (grind (arith, nat_tests, above)) (other_kind (seal_name other) k.listing.tables (omega arith))
  where
    by : (a b : Bool) → a ≡ false → b ≡ false → ((((true && a) && true) && true) || b) ≡ false
    by true b apart unlisted = cc
    by false b apart unlisted = unlisted

module _ (v : View) (sound : IsSound v) (views : Book) (p : Parts) (tasks : List RunningTask) (ready : CanGoOn v views p tasks) (r : RunningTask) (own : IsTaskReady v p r) (x y : Folder) (now : v.files ≡ Some x)
    (step : FileChange (data_name r.task.compaction.number) AnyChange x y) where
  abbrev listing : Listing
  listing = p.manifest.listing

  sealed : IsSealed y p.manifest.number
  sealed = record {
    there = ap (λ (o : Option Bytes). is_some o) (step.others (seal_name p.manifest.number) (kinds_apart _ _ (omega arith))) ∙ kept_in ready.can.aside (kept_by (memory_of p)) x (seal_name p.manifest.number) (ready.can.exactly x now) (keeps_seal (kept_by (memory_of p)));
    highest = λ other above. step.others (seal_name other) (kinds_apart _ _ (omega arith)) ∙ none_in (get x (seal_name other))
        (free_in ready.can.aside (kept_by (memory_of p)) x (seal_name other) (ready.can.exactly x now) (aside_kind _ ready.can.aside (seal_name other) ready.can.aside_are (omega arith)) (unkept_seal (kept_by (memory_of p)) other above));
  }

  -- **The folder shows it.**
  pub source_shows : (damage : Damage) → ShowsListed v.files (sources_of r.task.compaction) r.task.compaction.types damage → FolderShows y damage
  source_shows damage shows =
      let n = shows.file.number in
      let taken : is_among r.task.compaction.sources n ≡ true = each_source (λ (f : ListedFile). is_among r.task.compaction.sources f.number ≡ true) (sources_of r.task.compaction)
      (each_number (λ (m : ℕ). is_among r.task.compaction.sources m ≡ true) r.task.compaction.sources (λ m is. is)) shows.file shows.listed in
      let holds : has_file own.row.files n ≡ true = first_has _ own.row.files n (ap (λ (ns : List ℕ). is_among ns n) own.firsts ∙ taken) in
      let is_listed : has_name listing.tables (data_name n) ≡ true = source_listed v p r own n taken in
      let bytes = some_in (get x (data_name n)) (kept_in ready.can.aside (kept_by (memory_of p)) x (data_name n) (ready.can.exactly x now) (keeps_listed (kept_by (memory_of p)) (data_name n) (omega arith) ∙ is_listed)) in
      let there : get y (data_name n) ≡ Some bytes.0 = step.others (data_name n) (λ same. own.unlisted (data_name n) is_listed (ap (λ (f : FileName). f.number) same)) ∙ bytes.1 in
      let stands = ready.can.stands (ap (λ (o : Option Folder). is_some o) now) in
      let manifest = manifest_each v p.manifest.number p.manifest.at listing stands in
      inr (record {
        number = p.manifest.number;
        sealed = sealed;
        shows = broken_file stands.at_end.bytes listing (step.others (manifest_name p.manifest.number) (kinds_apart _ _ (omega arith)) ∙ manifest.0 x (sound.reads x now)) manifest.1
            (by n bytes.0 is_listed there holds (shows.shown bytes.0 (ap (λ (o : Option Folder). contents_in o (data_name n)) now ∙ bytes.1)));
      })
    where
      by : (n : ℕ) (bytes : Bytes) → has_name listing.tables (data_name n) ≡ true → get y (data_name n) ≡ Some bytes → has_file own.row.files n ≡ true → ShowsDataFile r.task.compaction.types (data_name n) bytes damage → folders.ShowsListedFile y listing.tables damage
      by n bytes is_in there holds (outside shown) = broken_ends (data_name n) bytes is_in there shown
      by n bytes is_in there holds (inside numbers parts shown) = broken_content n bytes (opened_by (data_name n) r.task.compaction.types numbers) there (record {
        table = own.row;
        listed = (r.table - 1, there_inside listing.tables (r.table - 1) own.row own.there, index_there listing.tables (r.table - 1) own.row own.there);
        has = holds;
        named = refl;
        types = own.types_are;
        parts = parts;
      }) shown
