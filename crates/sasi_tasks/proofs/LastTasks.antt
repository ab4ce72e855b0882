-- The other tasks after the last unit of one: their files stay, so each goes on as before.
use Rattle.std.proofs.Common.{◌≡◌, ◌≢◌, ◌∙◌, ◌||◌, ◌&&◌, ◌+◌, ◌-◌, ℕ, zero, suc, Bool, true, false, cond, not, nat_eq, List, [], ◌∷◌, length, map, slice_get, take, Option, Some, refl, sym, ap, subst, arith}
use Rattle.std.proofs.lemmas.Bool.Decides.{nat_tests}
use Rattle.std.specs.FinMap as map_
use Rattle.std.specs.List.{AllByRecursion, find, flat_map, list_any, remove}
use Rattle.std.specs.Option.{option_map_or}
use Rattle.sasi_cells.specs.Maps.{merged}
use Rattle.sasi_host.proofs.ContentLaws.{contents_kept, told_before}
use Rattle.sasi_host.specs.Disk.{Changes, Within}
use Rattle.sasi_host.specs.Names.{data_name, manifest_name}
use Rattle.sasi_host.specs.View.{View, contents}
use Rattle.sasi_host.specs.declared.name.FileName.{FileName}
use Rattle.sasi_model.specs.Changes.{at_number}
use Rattle.sasi_folder.proofs.FolderLaws.{kinds_apart}
use Rattle.sasi_compact.proofs.TaskLaws.{still_compacting, still_goes_on}
use Rattle.sasi_compact.specs.Listing.{ChangesOutput, edits_of, output_file}
use Rattle.sasi_compact.specs.Tasks.{StaysForTask, files_numbered}
use Rattle.sasi_layout.proofs.FileNameLaws.{data_named, data_of_files, have_name}
use Rattle.sasi_layout.proofs.StillRunning.{numbered_other, still_running}
use Rattle.sasi_layout.specs.Compacting.{Compaction, chosen, compact_table}
use Rattle.sasi_layout.specs.Layout.{File, Layout, TableParts}
use Rattle.sasi_layout.specs.Moves.{Compact, after_compact}
use Rattle.sasi_manifest.specs.FileNames.{has_name}
use Rattle.sasi_manifest.specs.Format.{IsNext}
use Rattle.sasi_manifest.specs.ListedDefinition.{ListedDefinition}
use Rattle.sasi_manifest.specs.ListedFiles.{has_file, is_among, is_name_of, names_of}
use Rattle.sasi_manifest.specs.OpenManifest.{ManifestState}
use Rattle.sasi_manifest.specs.declared.files.ListedFile.{ListedFile}
use Rattle.sasi_manifest.specs.declared.files.PartNumber.{PartNumber}
use Rattle.sasi_manifest.specs.declared.listing.Listing.{Listing}
use Rattle.sasi_tables.proofs.TablesInMemory.{all_at}
use Rattle.sasi_tables.specs.declared.parts.Parts.{Parts}
use Rattle.sasi_tasks.proofs.LastFolder.{all_removed, next_is, next_names, not_mine, output_unlisted, unlisted_no_source}
use Rattle.sasi_tasks.proofs.LastRecord.{CanEnd, first_inside, row_rise, task}
use Rattle.sasi_tasks.proofs.TakenFiles.{emptied, file_among, others_without, own_number}
use Rattle.sasi_tasks.specs.Running.{AreApart, AreTasksOf, IsTaskOf, IsTaskReady, compaction_of}
use Rattle.sasi_tasks.specs.Tasks.{Task, is_of, running, without}
use Rattle.sasi_tasks.specs.Unheld.{is_counted, is_one_of}
use Rattle.sasi_tasks.specs.declared.running.RunningTask.{RunningTask}
use Rattle.sasi_views.specs.Books.{Book}

-- the parts afterwards: the manifest, and the last used number of a part
abbrev pub parts_after : Parts → ManifestState → ℕ → Parts
parts_after p m part = record p { manifest = m; numbers = record p.numbers { part = part } }

-- ---- lists

never : true ≡ false → ⊥
never e = cc

-- an item at another position stays
pub slice_other : {A : Type 0} (f : A → A) (n number at : ℕ) (xs : List A) → n + at ≢ number → slice_get (at_number n number f xs) at ≡ slice_get xs at
slice_other f n number at [] apart = refl
slice_other f n number zero (x ∷ xs) apart =
    let other : nat_eq n number ≡ false = grind (arith, nat_tests, apart) in
    ap (λ b. Some (cond b (f x) x)) other
slice_other f n number (suc at) (x ∷ xs) apart = slice_other f (suc n) number at xs (λ same. apart (omega (arith, same)))

any_there : {A : Type 0} (q : A → Bool) (xs : List A) (at : ℕ) (x : A) → slice_get xs at ≡ Some x → q x ≡ true → list_any q xs ≡ true
any_there q [] at x there is = cc
any_there q (y ∷ xs) zero x there is = (let one : y ≡ x = cc in ap (λ k. q k || list_any q xs) one ∙ ap (λ b. b || list_any q xs) is)
any_there q (y ∷ xs) (suc at) x there is = later (q y) (list_any q xs) (any_there q xs at x there is)
  where
    later : (a b : Bool) → b ≡ true → (a || b) ≡ true
    later true b is = refl
    later false b is = is

-- ---- tasks apart

-- another table, and another file
abbrev pub AreOther : RunningTask → RunningTask → Type 0
AreOther r o = (o.table ≡ r.table → ⊥) × (o.task.compaction.number ≡ r.task.compaction.number → ⊥)

pub others_apart : (rs : List RunningTask) (at : ℕ) (r : RunningTask) → AreApart rs → slice_get rs at ≡ Some r → AllByRecursion (AreOther r) (remove rs at)
others_apart [] at r apart there = cc
others_apart (x ∷ rs) zero r apart there = (let one : x ≡ r = cc in subst (λ (k : RunningTask). AllByRecursion (AreOther k) rs) one apart.0)
others_apart (x ∷ rs) (suc at) r apart there =
    let own = all_at (AreOther x) at rs r apart.0 there in
    ((λ same. own.0 (sym same), λ same. own.1 (sym same)), others_apart rs at r apart.1 there)

pub apart_after : (rs : List RunningTask) (at : ℕ) → AreApart rs → AreApart (remove rs at)
apart_after [] zero apart = tt
apart_after [] (suc at) apart = tt
apart_after (x ∷ rs) zero apart = apart.1
apart_after (x ∷ rs) (suc at) apart = (all_removed (AreOther x) rs at apart.0, apart_after rs at apart.1)

-- ---- tasks of a layout

same_table : (v : View) (l : Layout) (x : RunningTask) (k : Task) (table : ℕ) → IsTaskOf v l x k → is_of table k ≡ nat_eq x.table table
same_table v l x k table of = ap (λ (c : Compaction). nat_eq c.table table) of.is

other_table : (a b : ℕ) → (a ≡ b → ⊥) → nat_eq a b ≡ false
other_table a b apart = grind (arith, nat_tests, apart)

own_table : (a b : ℕ) → a ≡ b → nat_eq a b ≡ true
own_table a b same = grind (arith, nat_tests, same)

-- the task that runs in its table is its own
pub running_at : (v : View) (l : Layout) (rs : List RunningTask) (ks : List Task) (at : ℕ) (r : RunningTask) → AreApart rs → AreTasksOf v l rs ks → slice_get rs at ≡ Some r → (k : Task) × (running r.table ks ≡ Some k) × IsTaskOf v l r k
running_at v l [] ks at r apart are there = cc
running_at v l (x ∷ rs) [] at r apart are there = absurd are
running_at v l (x ∷ rs) (k ∷ ks) zero r apart are there =
    let one : x ≡ r = cc in
    let own : is_of r.table k ≡ true = same_table v l x k r.table are.0 ∙ own_table x.table r.table (ap (λ (o : RunningTask). o.table) one) in
    (k, ap (λ b. cond b (Some k) (find (is_of r.table) ks)) own, subst (λ (o : RunningTask). IsTaskOf v l o k) one are.0)
running_at v l (x ∷ rs) (k ∷ ks) (suc at) r apart are there =
    let rest = running_at v l rs ks at r apart.1 are.1 there in
    let own = all_at (AreOther x) at rs r apart.0 there in
    let other : is_of r.table k ≡ false = same_table v l x k r.table are.0 ∙ other_table x.table r.table (λ same. own.0 (sym same)) in
    (rest.0, ap (λ b. cond b (Some k) (find (is_of r.table) ks)) other ∙ rest.1, rest.2)

module _ (a d : View) (l next : Layout) (r : RunningTask) (Q : RunningTask → Type 0) (apart : (o : RunningTask) → Q o → o.table ≡ r.table → ⊥) (step : (o : RunningTask) (k : Task) → Q o → IsTaskOf a l o k → IsTaskOf d next o k) where
  kept : (o : RunningTask) (k : Task) → Q o → IsTaskOf a l o k → is_of r.table k ≡ false
  kept o k is of = same_table a l o k r.table of ∙ other_table o.table r.table (apart o is)

  all_kept : (rs : List RunningTask) (ks : List Task) → AllByRecursion Q rs → AreTasksOf a l rs ks → AreTasksOf d next rs (without r.table ks)
  all_kept [] [] all are = tt
  all_kept [] (k ∷ ks) all are = absurd are
  all_kept (o ∷ rs) [] all are = absurd are
  all_kept (o ∷ rs) (k ∷ ks) all are =
      subst (λ b. AreTasksOf d next (o ∷ rs) (cond (not b) (k ∷ without r.table ks) (without r.table ks))) (sym (kept o k all.0 are.0)) (step o k all.0 are.0, all_kept rs ks all.1 are.1)

  -- **The others are those of the layout afterwards.**
  pub tasks_after : (rs : List RunningTask) (ks : List Task) (at : ℕ) → slice_get rs at ≡ Some r → AllByRecursion Q (remove rs at) → AreTasksOf a l rs ks → AreTasksOf d next (remove rs at) (without r.table ks)
  tasks_after [] ks at there all are = cc
  tasks_after (x ∷ rs) [] at there all are = absurd are
  tasks_after (x ∷ rs) (k ∷ ks) zero there all are =
      let one : x ≡ r = cc in
      let own : is_of r.table k ≡ true = same_table a l x k r.table are.0 ∙ own_table x.table r.table (ap (λ (o : RunningTask). o.table) one) in
      subst (λ b. AreTasksOf d next rs (cond (not b) (k ∷ without r.table ks) (without r.table ks))) (sym own) (all_kept rs ks all are.1)
  tasks_after (x ∷ rs) (k ∷ ks) (suc at) there all are =
      subst (λ b. AreTasksOf d next (x ∷ remove rs at) (cond (not b) (k ∷ without r.table ks) (without r.table ks))) (sym (kept x k all.0 are.0)) (step x k all.0 are.0, tasks_after rs ks at there all.1 are.1)

-- ---- their files

module _ (a : View) (views : Book) (p : Parts) (tasks : List RunningTask) (at : ℕ) (r : RunningTask) (parts : List PartNumber) (e : CanEnd a views p tasks at r parts)
    (next : Listing) (listed : IsNext p.manifest.listing (edits_of p.manifest.listing r.table r.task.compaction parts) next)
    (b : View) (change : Changes (ChangesOutput p.manifest.number (output_file r.task.compaction parts)) a b) (d : View)
    (deleted : Changes (Within (is_one_of (is_counted views 0) (flat_map names_of (take (length r.task.compaction.sources) (task a views p tasks at r parts e).row.files)))) b d) where
  abbrev rows : List ListedDefinition
  rows = p.manifest.listing.tables

  abbrev sources : List ListedFile
  sources = take (length r.task.compaction.sources) (task a views p tasks at r parts e).row.files

  abbrev output : ListedFile
  output = output_file r.task.compaction parts

  abbrev Dropped : FileName → Bool
  Dropped = is_one_of (is_counted views 0) (flat_map names_of sources)

  -- a file that is neither one of the output nor of a source stays
  pub contents_stay : (name : FileName) → name ≢ manifest_name p.manifest.number → is_name_of output name ≡ false → have_name sources name ≡ false → contents d name ≡ contents a name
  contents_stay name apart other none =
      contents_kept b d (Within Dropped) name (λ x y s. s name (not_mine a views p tasks at r parts e name none)) deleted ∙ contents_kept a b (ChangesOutput p.manifest.number output) name (λ x y s. s name apart other) change

  module _ (o : RunningTask) (ready : IsTaskReady a p o) (other : AreOther r o) where
    other_row : slice_get (at_number 1 r.table emptied rows) (o.table - 1) ≡ Some ready.row
    other_row = slice_other emptied 1 r.table (o.table - 1) rows (λ same. other.0 (omega (arith, ready.some, same))) ∙ ready.there

    row_has : (n : ℕ) → is_among o.task.compaction.sources n ≡ true → has_file ready.row.files n ≡ true
    row_has n is = first_inside (length o.task.compaction.sources) ready.row.files n (file_among (take (length o.task.compaction.sources) ready.row.files) o.task.compaction.sources n ready.firsts ∙ is)

    source_kept : (n : ℕ) → is_among o.task.compaction.sources n ≡ true → contents d (data_name n) ≡ contents a (data_name n)
    source_kept n is = contents_stay (data_name n) (kinds_apart _ _ (omega arith)) no_output no_source
      where
        is_listed : has_name rows (data_name n) ≡ true
        is_listed = data_named n rows ∙ any_there (λ (t : ListedDefinition). has_file t.files n) rows (o.table - 1) ready.row ready.there (row_has n is)

        no_output : is_name_of output (data_name n) ≡ false
        no_output = by (is_name_of output (data_name n)) refl
          where
            by : (x : Bool) → is_name_of output (data_name n) ≡ x → is_name_of output (data_name n) ≡ false
            by false isnt = isnt
            by true own = absurd (never (sym is_listed ∙ output_unlisted a views p tasks at r parts e (data_name n) own))

        no_source : have_name sources (data_name n) ≡ false
        no_source = by (have_name sources (data_name n)) refl
          where
            by : (x : Bool) → have_name sources (data_name n) ≡ x → have_name sources (data_name n) ≡ false
            by false isnt = isnt
            by true own =
                let t = task a views p tasks at r parts e in
                let taken : is_among r.task.compaction.sources n ≡ true = sym (file_among sources r.task.compaction.sources n t.firsts) ∙ sym (data_of_files n sources) ∙ own in
                let none = others_without rows r.table t.some t.row t.there e.ready.can.consistent.apart 0 p.numbers.«data» (row_rise a views p tasks at r parts e) (compaction_of r) t.takes t.firsts n taken in
                absurd (never (sym (any_there (λ (t : ListedDefinition). has_file t.files n) (at_number 1 r.table emptied rows) (o.table - 1) ready.row other_row (row_has n is)) ∙ none))

    unlisted_own : (name : FileName) → name.number ≡ o.task.compaction.number → has_name rows name ≡ false
    unlisted_own name own = by (has_name rows name) refl
      where
        by : (x : Bool) → has_name rows name ≡ x → has_name rows name ≡ false
        by false isnt = isnt
        by true is = absurd (ready.unlisted name is own)

    not_output : (name : FileName) → name.number ≡ o.task.compaction.number → is_name_of output name ≡ false
    not_output name own = by (is_name_of output name) refl
      where
        by : (x : Bool) → is_name_of output name ≡ x → is_name_of output name ≡ false
        by false isnt = isnt
        by true is = absurd (other.1 (sym own ∙ own_number output name is))

    sources_each : (ns : List ℕ) → ((n : ℕ) → is_among ns n ≡ true → contents d (data_name n) ≡ contents a (data_name n)) → AllByRecursion (λ (f : ListedFile). contents d (data_name f.number) ≡ contents a (data_name f.number)) (files_numbered ns)
    sources_each [] each = tt
    sources_each (n ∷ ns) each = (each n (here n), sources_each ns (λ m is. each m (later (nat_eq m n) (is_among ns m) is)))
      where
        here : (n : ℕ) → (nat_eq n n || is_among ns n) ≡ true
        here n = (let same : nat_eq n n ≡ true = grind (arith, nat_tests) in ap (λ x. x || is_among ns n) same)

        later : (x y : Bool) → y ≡ true → (x || y) ≡ true
        later true y is = refl
        later false y is = is

    -- **Its sources and its output are as they were,**
    stays_for : StaysForTask o.task.compaction a d
    stays_for = record {
      told = λ told. told_before (ChangesOutput p.manifest.number output) a b change (told_before (Within Dropped) b d deleted told);
      sources = sources_each o.task.compaction.sources source_kept;
      output = (let name = data_name o.task.compaction.number in contents_stay name (kinds_apart _ _ (omega arith)) (not_output name refl) (unlisted_no_source a views p tasks at r parts e name (unlisted_own name refl)));
    }

    -- **so it is ready still,**
    pub ready_after : (m : ManifestState) (part : ℕ) → m.listing ≡ next → IsTaskReady d (parts_after p m part) o
    ready_after m part is_next =
        let now = next_is a views p tasks at r parts e next listed in
        record {
          can = still_goes_on a d o.task stays_for ready.can;
          some = ready.some;
          row = ready.row;
          there = ap (λ (l : Listing). slice_get l.tables (o.table - 1)) is_next ∙ ap (λ (ts : List ListedDefinition). slice_get ts (o.table - 1)) now.3 ∙ slice_other _ 1 r.table (o.table - 1) rows (λ same. other.0 (omega (arith, ready.some, same))) ∙ ready.there;
          types_are = ready.types_are;
          partitioner_is = ready.partitioner_is ∙ sym now.0 ∙ ap (λ (l : Listing). l.partitioner) (sym is_next);
          takes = ready.takes;
          firsts = ready.firsts;
          indexes_are = ready.indexes_are;
          used = ready.used;
          unlisted = λ name is own. gone name own (sym (ap (λ (l : Listing). has_name l.tables name) is_next) ∙ is);
        }
      where
        gone : (name : FileName) → name.number ≡ o.task.compaction.number → has_name next.tables name ≡ true → ⊥
        gone name own is = never (sym is ∙ next_names a views p tasks at r parts e next listed name ∙ (λ i. not_output name own i || (unlisted_own name own i && not (have_name sources name))))

    -- **and is the same task of the layout.**
    pub task_after : (l : Layout) (k : Task) → IsTaskOf a l o k → IsTaskOf d (after_compact (compaction_of r) l) o k
    task_after l k of =
        let apart : nat_eq k.compaction.table r.table ≡ false = ap (λ (c : Compaction). nat_eq c.table r.table) of.is ∙ other_table o.table r.table other.0 in
        record {
          is = of.is;
          runs = still_running k.compaction (Compact (compaction_of r)) l apart of.runs;
          passed = of.passed;
          left = of.left;
          compacting = still_compacting a d o.task stays_for of.passed of.left ready.can of.compacting;
          passed_is = of.passed_is;
          begun = of.begun;
          whole = of.whole ∙ ap (λ (t : Option TableParts). map_.entries (option_map_or (λ (t : TableParts). merged (map (λ (f : File). f.holds) (chosen k.compaction.sources t.files))) t map_.empty))
              (sym (numbered_other (compact_table l.used.part (compaction_of r)) 1 k.compaction.table r.table l.tables apart));
        }
