-- The last unit of a task makes the move that it is: where a call fails, and where all went well.
use Rattle.std.proofs.Common.{◌≡◌, ◌≢◌, ◌⊎◌, inl, inr, ⊎_elim, ◌∙◌, ◌||◌, ◌&&◌, ◌+◌, ◌-◌, ◌<◌, ◌≤◌, ◌^◌, ℕ, zero, suc, Bool, true, false, cond, not, nat_eq, nat_lt, if◌then◌else◌, List, [], ◌∷◌, length, slice_get, take, Option, None, Some, Ok, Err, refl, sym, ap, subst, arith}
use Rattle.std.proofs.lemmas.Bool.Decides.{nat_tests}
use Rattle.std.proofs.lemmas.List.Elements.{Contains-append_right}
use Rattle.std.specs.Prelude.{Contains, IsTrue}
use Rattle.std.specs.List.{AllByRecursion, flat_map, list_any, remove}
use Rattle.std.specs.Option.{option_map_or}
use Rattle.sasi_host.proofs.ChangeLaws.{changes_as, changes_on}
use Rattle.sasi_host.proofs.FailingLaws.{failed_behind}
use Rattle.sasi_host.specs.Disk.{Changes, Within}
use Rattle.sasi_host.specs.Names.{data_name, manifest_name, name_eq, rank}
use Rattle.sasi_host.specs.View.{DiskCauses, IsSound, IsThere, Reaches, View}
use Rattle.sasi_host.specs.declared.damage.Damage.{Damage}
use Rattle.sasi_host.specs.declared.name.FileName.{FileName}
use Rattle.sasi_datawrite.specs.Causes.{PushCauses}
use Rattle.sasi_datawrite.specs.declared.fault.PairFault.{PairFault}
use Rattle.sasi_datawrite.specs.declared.fault.PairFault.TheVariants as pair
use Rattle.sasi_folder.specs.Damages.{FolderShows}
use Rattle.sasi_merge.specs.Streams.{Entries}
use Rattle.sasi_compact.specs.Listing.{AreKept, ChangesOutput, ListsOutput, edits_of, output_file, since_of}
use Rattle.sasi_compact.specs.Tasks.{IsCompacting, content_of}
use Rattle.sasi_layout.proofs.FileNameLaws.{have_name}
use Rattle.sasi_layout.specs.Layout.{Layout}
use Rattle.sasi_layout.specs.Moves.{Compact}
use Rattle.sasi_layout.specs.Spent.{first_spent, is_too_long, part_draws, spent}
use Rattle.sasi_layout.specs.declared.number_kind.NumberKind.TheVariants as kinds
use Rattle.sasi_manifest.specs.Edits.{encoded, files_of}
use Rattle.sasi_manifest.specs.FileNames.{has_name}
use Rattle.sasi_manifest.specs.Format.{IsNext}
use Rattle.sasi_manifest.specs.ListedDefinition.{ListedDefinition}
use Rattle.sasi_manifest.specs.ListedFiles.{is_among, is_name_of, names_of}
use Rattle.sasi_manifest.specs.ListedFiles.{without as without_numbers}
use Rattle.sasi_manifest.specs.Listings.{at_number, replaced}
use Rattle.sasi_manifest.specs.OpenManifest.{ManifestState, ManifestStands}
use Rattle.sasi_manifest.specs.declared.edit.Edit.{Edit}
use Rattle.sasi_manifest.specs.declared.files.ListedFile.{ListedFile}
use Rattle.sasi_manifest.specs.declared.files.PartNumber.{PartNumber}
use Rattle.sasi_manifest.specs.declared.listing.Listing.{Listing}
use Rattle.sasi_tables.proofs.MoveCauses.{IsPlain, any_change, plain_present, plain_undamaged, plain_unspent}
use Rattle.sasi_tables.proofs.TablesInMemory.{all_at}
use Rattle.sasi_tables.specs.Faults.{OnStepDamage, StepCauses, fault_of_pair}
use Rattle.sasi_tables.specs.Held.{KnowsDef}
use Rattle.sasi_tables.specs.declared.fault.StepFault.{StepFault}
use Rattle.sasi_tables.specs.declared.fault.StepFault.TheVariants as fault
use Rattle.sasi_tables.specs.declared.parts.Parts.{Parts}
use Rattle.sasi_tasks.proofs.LastFolder.{all_removed, next_is, next_names}
use Rattle.sasi_tasks.proofs.LastRecord.{CanEnd, parts_are, row_rise, task}
use Rattle.sasi_tasks.proofs.LastServes.{edits_same, end_moments, end_serves, unit_moments}
use Rattle.sasi_tasks.proofs.LastSpent.{spent_last}
use Rattle.sasi_tasks.proofs.LastStore.{goes_on}
use Rattle.sasi_tasks.proofs.LastTasks.{parts_after, slice_other}
use Rattle.sasi_tasks.proofs.NothingDone.{nothing_spent}
use Rattle.sasi_tasks.proofs.TakenFiles.{all_taken, below_all, files_after, goes_or_stays, own_number}
use Rattle.sasi_tasks.specs.MakesTaskMoves.{KeepsHeld, MakesTaskMoves, ServesTasks}
use Rattle.sasi_tasks.specs.Running.{IsUnheld, IsUnlisted, KeepsPlaces, compaction_of, is_held}
use Rattle.sasi_tasks.specs.Tasks.{Task, end_moves, without}
use Rattle.sasi_tasks.specs.Unheld.{AreGone, is_counted, is_one_of}
use Rattle.sasi_tasks.specs.declared.running.RunningTask.{RunningTask}
use Rattle.sasi_views.specs.Books.{Book}

never : true ≡ false → ⊥
never e = cc

-- ---- causes

pair_plain : {T : Type 0} (a b : View) (f : PairFault) → PushCauses {T = T} (λ _. ⊥) a b (Err f) → IsPlain (fault_of_pair f)
pair_plain a b pair.Failed causes = tt
pair_plain a b pair.OutOfMemory causes = tt
pair_plain a b (pair.Damaged damage) causes = absurd (causes.undamaged damage refl)
pair_plain a b (pair.Missing class) causes = absurd (causes.missing class refl)

pair_causes : {T U : Type 0} (a b : View) (f : PairFault) → PushCauses {T = T} (λ _. ⊥) a b (Err f) → StepCauses {T = U} a b (Err (fault_of_pair f))
pair_causes a b pair.Failed causes = record { disk = causes.disk; out = causes.out; ok = tt; failed = λ _. causes.failed refl; others = λ other. absurd (other refl) }
pair_causes a b pair.OutOfMemory causes = record { disk = causes.disk; out = causes.out; ok = tt; failed = λ is. cc; others = λ _. causes.memory refl }
pair_causes a b (pair.Damaged damage) causes = absurd (causes.undamaged damage refl)
pair_causes a b (pair.Missing class) causes = absurd (causes.missing class refl)

plain_damage : (P : Damage → Type 0) (f : StepFault) → IsPlain f → OnStepDamage P f
plain_damage P fault.Failed plain = tt
plain_damage P fault.OutOfMemory plain = tt
plain_damage P (fault.Damaged damage) plain = absurd plain
plain_damage P (fault.NumbersSpent kind) plain = tt
plain_damage P (fault.AnalyzerMissing class) plain = tt

-- ---- where a row stands

slice_own : {A : Type 0} (f : A → A) (n at : ℕ) (xs : List A) (x : A) → slice_get xs at ≡ Some x → slice_get (at_number n (n + at) f xs) at ≡ Some (f x)
slice_own f n at [] x there = cc
slice_own f n zero (y ∷ xs) x there =
    let one : y ≡ x = cc in
    let own : nat_eq n (n + 0) ≡ true = grind (arith, nat_tests) in
    ap (λ b. Some (cond b (f y) y)) own ∙ ap (λ k. Some (f k)) one
slice_own f n (suc at) (y ∷ xs) x there =
    let same : n + suc at ≡ suc n + at = omega arith in
    ap (λ k. slice_get (at_number (suc n) k f xs) at) same ∙ slice_own f (suc n) at xs x there

module _ (a : View) (sound : IsSound a) (views : Book) (p : Parts) (tasks : List RunningTask) (at : ℕ) (r : RunningTask) (parts : List PartNumber) (e : CanEnd a views p tasks at r parts) where
  abbrev rows : List ListedDefinition
  rows = p.manifest.listing.tables

  abbrev output : ListedFile
  output = output_file r.task.compaction parts

  abbrev edits : List Edit
  edits = edits_of p.manifest.listing r.table r.task.compaction parts

  abbrev sources : List ListedFile
  sources = take (length r.task.compaction.sources) (task a views p tasks at r parts e).row.files

  abbrev Dropped : FileName → Bool
  Dropped = is_one_of (is_counted views 0) (flat_map names_of sources)

  too_long_is : (l : Layout) (ks : List Task) → ServesTasks a p tasks l ks → (b : Bool) → nat_lt (2 ^ 30) (length (encoded edits)) ≡ b → is_too_long l (Compact (compaction_of r)) ≡ b
  too_long_is l ks serves b is = ap (λ (es : List Edit). nat_lt (2 ^ 30) (length (encoded es))) (sym (edits_same a sound views p tasks at r parts e l ks serves)) ∙ is

  spent_by : (b : Bool) → nat_lt (2 ^ 30) (length (encoded edits)) ≡ b → (l : Layout) (ks : List Task) → ServesTasks a p tasks l ks → spent l (end_moves r.table ks) ≡ (if b then Some kinds.Record else None)
  spent_by b is l ks serves =
      let t = task a views p tasks at r parts e in
      let drawn = parts_are a views p tasks at r parts e in
      spent_last a views p tasks at r e.ready e.there l ks serves t.row t.there (ap (λ (ps : List PartNumber). first_spent (part_draws p.numbers.part ps) None) (sym drawn.are) ∙ drawn.unspent)
      ∙ ap (λ x. if x then Some kinds.Record else None) (too_long_is l ks serves b is)

  -- **Its record is too long.**
  pub record_stopped : 2 ^ 30 < length (encoded edits) → MakesTaskMoves (λ l ks. end_moves r.table ks) (λ l ks. without r.table ks) views a a p p tasks tasks (Err (fault.NumbersSpent kinds.Record))
  record_stopped long = nothing_spent (λ l ks. end_moves r.table ks) (λ l ks. without r.table ks) views a sound p tasks p tasks kinds.Record (spent_by true (grind (arith, nat_tests, long)))

  -- ---- files of views

  held_stays : (name : FileName) → is_held views name ≡ true → (name ≢ manifest_name p.manifest.number) × (is_name_of output name ≡ false) × (Dropped name ≡ false)
  held_stays name held = (apart, other (is_name_of output name) refl, not_dropped (is_counted views 0 name) refl)
    where
      apart : name ≢ manifest_name p.manifest.number
      apart same = (let high : 3 ≤ rank name.kind = e.ready.held_are.kind name held in omega (arith, high, ap (λ (n : FileName). rank n.kind) same))

      unheld : (name : FileName) → name.number ≡ r.task.compaction.number → is_held views name ≡ true → ⊥
      unheld = all_at (λ (o : RunningTask). IsUnheld views o.task.compaction.number) at tasks r e.ready.unheld e.there

      other : (b : Bool) → is_name_of output name ≡ b → is_name_of output name ≡ false
      other false isnt = isnt
      other true own = absurd (unheld name (own_number output name own) held)

      and_none : (b : Bool) → (b && false) ≡ false
      and_none true = refl
      and_none false = refl

      not_dropped : (b : Bool) → is_counted views 0 name ≡ b → Dropped name ≡ false
      not_dropped false none = ap (λ x. list_any (name_eq name) (flat_map names_of sources) && x) none ∙ and_none (list_any (name_eq name) (flat_map names_of sources))
      not_dropped true counted = absurd (never (sym held ∙ ap not counted))

  module _ (b : View) (change : Changes (ChangesOutput p.manifest.number output) a b) where
    held_listed : Changes (KeepsHeld views) a b
    held_listed = changes_as a b (ChangesOutput p.manifest.number output) (KeepsHeld views) change (λ x y s name held. (let stays = held_stays name held in s name stays.0 stays.1))

    held_deleted : (d : View) → Changes (Within Dropped) b d → Changes (KeepsHeld views) a d
    held_deleted d deleted = changes_on a b d (KeepsHeld views) (Within Dropped) (KeepsHeld views) held_listed deleted (λ x y s. s) (λ x y z s t name held. t name (held_stays name held).2 ∙ s name held)

    module _ (whole : (g : Listing) (passed : Entries) → IsNext p.manifest.listing edits g → ManifestStands a p.manifest.number p.manifest.at p.manifest.listing → IsCompacting a r.task passed []
        → Changes (ListsOutput p.manifest.number p.manifest.listing g r.task.compaction parts (content_of passed)) a b) where
      -- **A call fails, or memory runs out, before the output is listed or while it is.**
      pub list_stopped : {T : Type 0} (new : Parts) (now : List RunningTask) (f : PairFault) → PushCauses {T = T} (λ _. ⊥) a b (Err f) → MakesTaskMoves (λ l ks. end_moves r.table ks) (λ l ks. without r.table ks) views a b p new tasks now (Err (fault_of_pair f))
      list_stopped new now f causes =
          let plain = pair_plain a b f causes in
          record {
            any_moment = λ l ks serves. unit_moments a sound views p tasks at r parts e l ks serves b whole;
            serves = tt;
            ready = tt;
            knows = tt;
            maps = tt;
            numbers_stay = tt;
            listed_stay = tt;
            unspent = tt;
            spent_is = plain_unspent _ (fault_of_pair f) plain;
            damaged = λ folder told. plain_damage (FolderShows folder) (fault_of_pair f) plain;
            undamaged = λ l ks serves. plain_undamaged (fault_of_pair f) plain;
            present = plain_present _ (fault_of_pair f) plain;
            held = held_listed;
            changes = any_change (ChangesOutput p.manifest.number output) a b change;
            known = tt;
            causes = pair_causes a b f causes;
          }

      module _ (sound_b : IsSound b) (m : ManifestState) (listed : IsNext p.manifest.listing edits m.listing) (number : m.number ≡ p.manifest.number)
          (stands : ManifestStands a p.manifest.number p.manifest.at p.manifest.listing → ManifestStands b p.manifest.number m.at m.listing)
          (kept : (passed : Entries) → IsCompacting a r.task passed [] → AreKept b r.task.compaction parts (content_of passed)) (x : ListedFile) (made : PushCauses (λ _. ⊥) a b (Ok x))
          (d : View) (deleted : Changes (Within Dropped) b d) where
        -- **A deletion fails.**
        pub delete_stopped : {T E : Type 0} (new : Parts) (now : List RunningTask) (f : E) → DiskCauses {T = T} b d (Err f) → MakesTaskMoves (λ l ks. end_moves r.table ks) (λ l ks. without r.table ks) views a d p new tasks now (Err fault.Failed)
        delete_stopped new now f causes = record {
          any_moment = λ l ks serves. end_moments a sound views p tasks at r parts e l ks serves b whole sound_b m listed number change stands kept d deleted;
          serves = tt;
          ready = tt;
          knows = tt;
          maps = tt;
          numbers_stay = tt;
          listed_stay = tt;
          unspent = tt;
          spent_is = tt;
          damaged = λ folder told. tt;
          undamaged = λ l ks serves. tt;
          present = tt;
          held = held_deleted d deleted;
          changes = any_change (KeepsHeld views) a d (held_deleted d deleted);
          known = tt;
          causes = record { disk = omega (arith, made.ok, causes.disk); out = causes.out ∙ made.out; ok = tt; failed = λ _. failed_behind a.disk_faults b.disk_faults d.disk_faults d.failed_last made.ok causes.failed; others = λ other. absurd (other refl) };
        }

        -- ---- the listing

        next_tables : m.listing.tables ≡ at_number 1 r.table (replaced r.task.compaction.sources (output ∷ []) (since_of rows r.table)) rows
        next_tables = (next_is a views p tasks at r parts e m.listing listed).3

        abbrev change_row : ListedDefinition → ListedDefinition
        change_row = replaced r.task.compaction.sources (output ∷ []) (since_of rows r.table)

        -- no name of a source's number is listed then
        number_gone : (n : ℕ) → is_among r.task.compaction.sources n ≡ true → IsUnlisted n m.listing
        number_gone n of name is own = never (sym is ∙ next_names a views p tasks at r parts e m.listing listed name ∙ by (has_name rows name) refl)
          where
            among : is_among r.task.compaction.sources name.number ≡ true
            among = ap (is_among r.task.compaction.sources) own ∙ of

            not_output : (o : Bool) → is_name_of output name ≡ o → is_name_of output name ≡ false
            not_output false isnt = isnt
            not_output true named =
                let t = task a views p tasks at r parts e in
                absurd (omega (arith, below_all r.task.compaction.sources r.task.compaction.number name.number t.takes.below among, own_number output name named))

            and_none : (k : Bool) → (k && false) ≡ false
            and_none true = refl
            and_none false = refl

            by : (k : Bool) → has_name rows name ≡ k → (is_name_of output name || (has_name rows name && not (have_name sources name))) ≡ false
            by false none = (λ i. not_output (is_name_of output name) refl i || (none i && not (have_name sources name)))
            by true there =
                let t = task a views p tasks at r parts e in
                let goes = all_taken rows r.table t.some t.row t.there e.ready.can.consistent.apart 0 p.numbers.«data» (row_rise a views p tasks at r parts e) (compaction_of r) t.takes t.firsts name among there in
                (λ i. not_output (is_name_of output name) refl i || (has_name rows name && not (goes i))) ∙ and_none (has_name rows name)

        still_unlisted : (n : ℕ) → n ≢ r.task.compaction.number → IsUnlisted n p.manifest.listing → IsUnlisted n m.listing
        still_unlisted n apart none name is own = by (is_name_of output name) refl (sym (next_names a views p tasks at r parts e m.listing listed name) ∙ is)
          where
            first_of : (x y : Bool) → (x && y) ≡ true → x ≡ true
            first_of true y both = refl
            first_of false y both = both

            by : (o : Bool) → is_name_of output name ≡ o → (o || (has_name rows name && not (have_name sources name))) ≡ true → ⊥
            by true named there = apart (sym own ∙ own_number output name named)
            by false other there = none name (first_of (has_name rows name) (not (have_name sources name)) there) own

        places : KeepsPlaces views p.manifest.listing m.listing
        places table f held (inr none) = inr (still_unlisted f.number (λ same. unheld (data_name f.number) same held) none)
          where
            unheld : (name : FileName) → name.number ≡ r.task.compaction.number → is_held views name ≡ true → ⊥
            unheld = all_at (λ (o : RunningTask). IsUnheld views o.task.compaction.number) at tasks r e.ready.unheld e.there
        places table f held (inl has) = by (nat_eq (table - 1) (r.table - 1)) refl
          where
            files_then : slice_get m.listing.tables (r.table - 1) ≡ Some (change_row (task a views p tasks at r parts e).row)
            files_then =
                let number_is : 1 + (r.table - 1) ≡ r.table = omega (arith, (task a views p tasks at r parts e).some) in
                ap (λ (ts : List ListedDefinition). slice_get ts (r.table - 1)) next_tables ∙ ap (λ k. slice_get (at_number 1 k change_row rows) (r.table - 1)) (sym number_is)
                ∙ slice_own change_row 1 (r.table - 1) rows (task a views p tasks at r parts e).row (task a views p tasks at r parts e).there

            own : table - 1 ≡ r.table - 1 → (Contains (files_of m.listing.tables table) f) ⊎ IsUnlisted f.number m.listing
            own same =
                let t = task a views p tasks at r parts e in
                let was : files_of rows table ≡ t.row.files = ap (λ k. option_map_or (λ (u : ListedDefinition). u.files) (slice_get rows k) []) same ∙ ap (λ (o : Option ListedDefinition). option_map_or (λ (u : ListedDefinition). u.files) o []) t.there in
                let is : files_of m.listing.tables table ≡ output ∷ without_numbers r.task.compaction.sources t.row.files =
                ap (λ k. option_map_or (λ (u : ListedDefinition). u.files) (slice_get m.listing.tables k) []) same ∙ ap (λ (o : Option ListedDefinition). option_map_or (λ (u : ListedDefinition). u.files) o []) files_then
                ∙ files_after p.numbers.«data» (compaction_of r) t.row.files t.takes output refl in
                ⊎_elim (λ goes. inr (number_gone f.number goes))
                (λ stays. inl (subst (λ (fs : List ListedFile). Contains fs f) (sym is) (Contains-append_right (output ∷ []) (without_numbers r.task.compaction.sources t.row.files) f stays)))
                (goes_or_stays rows r.table t.some t.row t.there e.ready.can.consistent.apart 0 p.numbers.«data» (row_rise a views p tasks at r parts e) (compaction_of r) t.takes t.firsts f (subst (λ (fs : List ListedFile). Contains fs f) was has))

            by : (k : Bool) → nat_eq (table - 1) (r.table - 1) ≡ k → (Contains (files_of m.listing.tables table) f) ⊎ IsUnlisted f.number m.listing
            by true same = own (grind (arith, nat_tests, same))
            by false other =
                let apart : 1 + (table - 1) ≢ r.table = λ same. (let equal : nat_eq (table - 1) (r.table - 1) ≡ true = grind (arith, nat_tests, same) in never (sym equal ∙ other)) in
                inl (subst (λ (fs : List ListedFile). Contains fs f)
                (sym (ap (λ (ts : List ListedDefinition). files_of ts table) next_tables ∙ ap (λ (o : Option ListedDefinition). option_map_or (λ (u : ListedDefinition). u.files) o []) (slice_other change_row 1 r.table (table - 1) rows apart))) has)

        -- **The last unit is done.**
        pub unit_done : {T E : Type 0} (y : T) → r.table < 2 ^ 32 → length (encoded edits) ≤ 2 ^ 30 → Reaches b (manifest_name m.number) (m.at + 1) → IsTrue m.usable → AllByRecursion (IsThere b) (names_of output)
            → AreGone (is_counted views 0) d (flat_map names_of sources) → DiskCauses {T = T} {E = E} b d (Ok y)
            → MakesTaskMoves (λ l ks. end_moves r.table ks) (λ l ks. without r.table ks) views a d p (parts_after p m (p.numbers.part + length parts)) tasks (remove tasks at) (Ok tt)
        unit_done y small short room usable there gone causes = record {
          any_moment = λ l ks serves. end_moments a sound views p tasks at r parts e l ks serves b whole sound_b m listed number change stands kept d deleted;
          serves = λ l ks serves. end_serves a sound views p tasks at r parts e l ks serves b whole sound_b m listed number change stands kept d deleted;
          ready = goes_on a views p tasks at r parts e m listed number b change room usable stands there d deleted gone (p.numbers.part + length parts) small;
          knows = record { definitions_are = refl; timestamp_is = refl };
          maps = record { maps_are = refl; tables_are = refl; last_is = refl; schema_is = refl };
          numbers_stay = omega arith;
          listed_stay = places;
          unspent = spent_by false (grind (arith, nat_tests, short));
          spent_is = tt;
          damaged = λ folder told. tt;
          undamaged = λ l ks serves. tt;
          present = tt;
          held = held_deleted d deleted;
          changes = any_change (KeepsHeld views) a d (held_deleted d deleted);
          known = λ known_kinds tables known. all_removed (λ (o : RunningTask). AllByRecursion (KnowsDef known_kinds) o.task.compaction.indexes) tasks at known;
          causes = record { disk = omega (arith, made.ok, causes.disk); out = causes.out ∙ made.out; ok = causes.ok ∙ made.ok; failed = tt; others = tt };
        }
