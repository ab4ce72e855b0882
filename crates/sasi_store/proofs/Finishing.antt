-- The end of the use of a store: its tasks are given up, and its cursors closed one after the other.
use Rattle.std.proofs.Common.{◌≡◌, ◌<◌, ◌≤◌, ◌-◌, ◌++◌, ◌&&◌, ◌||◌, ℕ, Bool, true, false, not, nat_eq, is_some, List, [], ◌∷◌, map, slice_get, Option, None, Some, refl, sym, ap, ap₂, subst, ◌∙◌, arith, nat_lt, IfSome}
use Rattle.std.proofs.lemmas.Bool.Decides.{nat_tests}
use Rattle.std.specs.FinMap.{get}
use Rattle.std.specs.List.{AllByRecursion}
use Rattle.std.specs.Map.{values_of}
use Rattle.sasi_host.proofs.ChangeLaws.{changes_as, changes_on}
use Rattle.sasi_host.proofs.ContentLaws.{told_before, told_files}
use Rattle.sasi_host.specs.declared.name.FileName.{FileName}
use Rattle.sasi_host.specs.Disk.{Changes, Within}
use Rattle.sasi_host.specs.Names.{Bytes, Folder, data_name, name_eq, rank}
use Rattle.sasi_host.specs.View.{IsAbsent, IsSound, IsThere, View, contents_in}
use Rattle.sasi_compact.specs.Tasks.{CanGiveUp, CanGoOnTo, HasOutput}
use Rattle.sasi_compact.specs.declared.output.Output.{Output}
use Rattle.sasi_compact.specs.declared.task.CompactTask.{CompactTask}
use Rattle.sasi_manifest.specs.Edits.{files_of}
use Rattle.sasi_manifest.specs.FileNames.{has_name}
use Rattle.sasi_manifest.specs.ListedDefinition.{ListedDefinition}
use Rattle.sasi_manifest.specs.declared.listing.Listing.{Listing}
use Rattle.sasi_layout.proofs.FileNameLaws.{name_same}
use Rattle.sasi_layout.proofs.KeptLaws.{keeps_listed}
use Rattle.sasi_layout.proofs.Trails.{moves_on}
use Rattle.sasi_layout.specs.Between.{Between}
use Rattle.sasi_layout.specs.Kept.{HasKept, Kept, is_kept}
use Rattle.sasi_layout.specs.Layout.{Layout, listing_of}
use Rattle.sasi_layout.specs.Serving.{Ended, HasExactlyBeside, Serves, closed, kept_by}
use Rattle.sasi_recover.specs.OpenedFolder.{AnyFolderChange}
use Rattle.sasi_fetch.specs.Cursors.{view_of}
use Rattle.sasi_tables.specs.TablesView.{memory_of}
use Rattle.sasi_tables.specs.declared.parts.Parts.{Parts}
use Rattle.sasi_tasks.specs.MakesTaskMoves.{CanGoOn}
use Rattle.sasi_tasks.specs.Running.{CanGiveUpAll, IsGone, IsTaskReady, IsUnheld, is_aside, is_begun, is_held}
use Rattle.sasi_tasks.specs.Unheld.{AreGone, AreOnce, AreThere, is_left, is_one_of}
use Rattle.sasi_tasks.specs.declared.running.RunningTask.{RunningTask}
use Rattle.sasi_views.proofs.BookLaws.{give_counted, kept_out, kept_view}
use Rattle.sasi_views.specs.Books.{Book}
use Rattle.sasi_views.specs.Changes.{AreCounted, Given}
use Rattle.sasi_views.specs.Kept.{IsCounted}
use Rattle.sasi_views.specs.Parts.{ListsOnce, components_of}
use Rattle.sasi_views.specs.declared.component.Component.TheVariants as component
use Rattle.sasi_views.specs.declared.part.Part.{Part}
use Rattle.sasi_store.specs.Cursors.{AreCursors, IsKept, IsKeptPart, Opened, view_names, views_out}
use Rattle.sasi_store.specs.declared.session_state.OpenCursor.{OpenCursor}
use Rattle.sasi_store.specs.declared.session_state.SessionState.{SessionState}
use Rattle.sasi_store.proofs.ClosedFiles.{all_named, names_once}
use Rattle.sasi_store.proofs.DeletedFiles.{can_deleted, nothing_moved, serves_deleted}
use Rattle.sasi_store.proofs.GivenBack.{given_moment, goes_on_given, serves_given}
use Rattle.sasi_store.proofs.HeldDamage.{held_there}
use Rattle.sasi_store.proofs.HeldFiles.{file_lists, held_some}
use Rattle.sasi_store.proofs.OpenedCursors.{names_any}

never : true ≡ false → ⊥
never e = cc

-- ---- tasks that are given up

-- each can be given up
output_there : (v : View) (task : CompactTask) (output : Option Output) → task.output ≡ output → CanGoOnTo v task.compaction output → CanGiveUp v task
output_there v task None none can = subst (λ (o : Option Output). IfSome o (HasOutput v task.compaction.number)) (sym none) tt
output_there v task (Some o) some can =
    subst (λ (o : Option Output). IfSome o (HasOutput v task.compaction.number)) (sym some) (record { file = can.file; there = λ told. ap (λ (b : Option Bytes). is_some b) (can.room told).1 })

pub can_give_up : (v : View) (p : Parts) (rs : List RunningTask) → AllByRecursion (IsTaskReady v p) rs → CanGiveUpAll v rs
can_give_up v p [] all = tt
can_give_up v p (r ∷ rs) all = (output_there v r.task r.task.output refl all.0.can.files, can_give_up v p rs all.1)

-- where none has begun a file, no file is one of theirs
module _ (a b : View) (p : Parts) (views : Book) (tasks : List RunningTask) (on : CanGoOn a views p tasks) (change : Changes (Within (is_begun tasks)) a b) where
  begun_low : (rs : List RunningTask) (n : FileName) → rank n.kind < 3 → is_begun rs n ≡ false
  begun_low [] n low = refl
  begun_low (r ∷ rs) n low = by (name_eq n (data_name r.task.compaction.number)) refl (begun_low rs n low)
    where
      by : (x : Bool) → name_eq n (data_name r.task.compaction.number) ≡ x → is_begun rs n ≡ false → ((x && is_some r.task.output) || is_begun rs n) ≡ false
      by false other rest = rest
      by true own rest = (let same : n ≡ data_name r.task.compaction.number = name_same n (data_name r.task.compaction.number) own in absurd (omega (arith, low, ap (λ (m : FileName). rank m.kind) same)))

  begun_unlisted : (rs : List RunningTask) → AllByRecursion (IsTaskReady a p) rs → (n : FileName) → has_name p.manifest.listing.tables n ≡ true → is_begun rs n ≡ false
  begun_unlisted [] all n has = refl
  begun_unlisted (r ∷ rs) all n has = by (name_eq n (data_name r.task.compaction.number)) refl (begun_unlisted rs all.1 n has)
    where
      by : (x : Bool) → name_eq n (data_name r.task.compaction.number) ≡ x → is_begun rs n ≡ false → ((x && is_some r.task.output) || is_begun rs n) ≡ false
      by false other rest = rest
      by true own rest = absurd (all.0.unlisted n has (ap (λ (m : FileName). m.number) (name_same n (data_name r.task.compaction.number) own)))

  begun_unheld : (rs : List RunningTask) → AllByRecursion (λ (r : RunningTask). IsUnheld views r.task.compaction.number) rs → (n : FileName) → is_begun rs n ≡ true → is_held views n ≡ false
  begun_unheld rs all n is = by (is_held views n) refl
    where
      none : (rs : List RunningTask) → AllByRecursion (λ (r : RunningTask). IsUnheld views r.task.compaction.number) rs → is_held views n ≡ true → is_begun rs n ≡ false
      none [] all held = refl
      none (r ∷ rs) all held = each (name_eq n (data_name r.task.compaction.number)) refl (none rs all.1 held)
        where
          each : (x : Bool) → name_eq n (data_name r.task.compaction.number) ≡ x → is_begun rs n ≡ false → ((x && is_some r.task.output) || is_begun rs n) ≡ false
          each false other rest = rest
          each true own rest = absurd (all.0 n (ap (λ (m : FileName). m.number) (name_same n (data_name r.task.compaction.number) own)) held)

      by : (h : Bool) → is_held views n ≡ h → h ≡ false
      by false none_held = refl
      by true held = absurd (never (sym is ∙ none rs all held))

  begun_gone : (rs : List RunningTask) → AllByRecursion (IsGone b) rs → (n : FileName) → is_begun rs n ≡ true → IsAbsent b n
  begun_gone [] gone n is = cc
  begun_gone (r ∷ rs) gone n is = by (name_eq n (data_name r.task.compaction.number)) (is_some r.task.output) refl refl is (begun_gone rs gone.1 n)
    where
      by : (x y : Bool) → name_eq n (data_name r.task.compaction.number) ≡ x → is_some r.task.output ≡ y → ((x && y) || is_begun rs n) ≡ true → (is_begun rs n ≡ true → IsAbsent b n) → IsAbsent b n
      by true true own some any rest = subst (IsAbsent b) (sym (name_same n (data_name r.task.compaction.number) own)) (gone.0 some)
      by true false own some any rest = rest any
      by false y own some any rest = rest any

  low : (n : FileName) → rank n.kind < 3 → is_begun tasks n ≡ false
  low n is = begun_low tasks n is

  unlisted : (n : FileName) → has_name p.manifest.listing.tables n ≡ true → is_begun tasks n ≡ false
  unlisted n has = begun_unlisted tasks on.ready.each n has

  abbrev aside : FileName → Bool
  aside = is_aside views [] p.manifest.listing

  -- what stands aside then is held
  aside_held : (n : FileName) → aside n ≡ true → is_held views n ≡ true
  aside_held n = by (has_name p.manifest.listing.tables n) (is_held views n)
    where
      by : (h x : Bool) → (not h && (x || false)) ≡ true → x ≡ true
      by true x is = cc
      by false true is = refl
      by false false is = is

  exactly_left : AllByRecursion (IsGone b) tasks → HasExactlyBeside b aside (memory_of p)
  exactly_left gone folder files n = by (is_begun tasks n) refl
    where
      by : (m : Bool) → is_begun tasks n ≡ m → is_some (get folder n) ≡ (aside n || is_kept (kept_by (memory_of p)) n)
      by false other =
          let first = told_files a (told_before (Within (is_begun tasks)) a b change (ap (λ (o : Option Folder). is_some o) files)) in
          let seen = change.seen first.0 first.1 in
          let same : seen.0 ≡ folder = (let both : Some seen.0 ≡ Some folder = sym seen.1 ∙ files in cc) in
          ap (λ (f : Folder). is_some (get f n)) (sym same) ∙ ap (λ (o : Option Bytes). is_some o) (seen.2 n other) ∙ on.exactly first.0 first.1 n
          ∙ ap (λ s. (not (has_name p.manifest.listing.tables n) && (is_held views n || s)) || is_kept (kept_by (memory_of p)) n) other
      by true own =
          let held = begun_unheld tasks on.unheld n own in
          let none : get folder n ≡ None = sym (ap (λ (o : Option Folder). contents_in o n) files) ∙ begun_gone tasks gone n own in
          ap (λ (o : Option Bytes). is_some o) none ∙ sym (kept_none held)
        where
          has_none : has_name p.manifest.listing.tables n ≡ false
          has_none = at (has_name p.manifest.listing.tables n) refl
            where
              at : (h : Bool) → has_name p.manifest.listing.tables n ≡ h → h ≡ false
              at false none = refl
              at true has = absurd (never (sym own ∙ unlisted n has))

          kind : 3 ≤ rank n.kind
          kind = at (nat_lt (rank n.kind) 3) refl
            where
              at : (x : Bool) → nat_lt (rank n.kind) 3 ≡ x → 3 ≤ rank n.kind
              at false above = grind (arith, nat_tests, above)
              at true below = absurd (never (sym own ∙ low n (grind (arith, nat_tests, below))))

          kept_none : is_held views n ≡ false → (aside n || is_kept (kept_by (memory_of p)) n) ≡ false
          kept_none held =
              ap₂ (λ x k. (not (has_name p.manifest.listing.tables n) && (x || false)) || k) held (keeps_listed (kept_by (memory_of p)) n kind ∙ has_none) ∙ ap (λ h. (not h && (false || false)) || false) has_none

  -- **The store can go on without them,**
  pub goes_on_left : AllByRecursion (IsGone b) tasks → CanGoOn b views p []
  goes_on_left gone = record {
    can = can_deleted a b (is_begun tasks) change low (memory_of p) on.can aside (record { kind = λ n is. on.held_are.kind n (aside_held n is); number = λ n is. on.held_are.number n (aside_held n is) }) (exactly_left gone);
    parts = on.parts;
    ready = record { each = tt; apart = tt };
    held_are = on.held_are;
    unheld = tt;
    exactly = exactly_left gone;
  }

  unlisted_in : (l : Layout) → Serves a (memory_of p) l → (n : FileName) → has_name (listing_of l).tables n ≡ true → is_begun tasks n ≡ false
  unlisted_in l serves n has = unlisted n (ap (λ (k : Listing). has_name k.tables n) serves.listing ∙ has)

  -- **serves what it did,**
  pub serves_left : (l : Layout) → Serves a (memory_of p) l → Serves b (memory_of p) l
  serves_left l serves = serves_deleted a b (is_begun tasks) change low l (unlisted_in l serves) (memory_of p) serves

  -- **and no move was made.**
  pub left_moment : IsSound a → (l : Layout) → Serves a (memory_of p) l → Changes (λ x y. Between l [] y) a b
  left_moment sound l serves = nothing_moved a b (is_begun tasks) change low l (unlisted_in l serves) (memory_of p) sound serves

-- ---- cursors that are closed

-- the view of a cursor lists files that its table has or had, none of them twice
pub record IsHolding (p : Parts) (c : OpenCursor) : Type 0 where
  pub row : ListedDefinition
  pub there : slice_get p.manifest.listing.tables (c.table - 1) ≡ Some row
  pub parts : AllByRecursion (IsKeptPart p c.table) (view_of c.rows)
  pub once : ListsOnce (view_of c.rows)

all_holding : (files : Option Folder) (p : Parts) (es : Opened) → AllByRecursion (λ (e : List ℕ × OpenCursor). IsKept files p e.1) es → AllByRecursion (IsHolding p) (values_of es)
all_holding files p [] all = tt
all_holding files p (e ∷ es) all = (record { row = all.0.row; there = all.0.there; parts = all.0.parts; once = all.0.once }, all_holding files p es all.1)

values_out : (es : Opened) → map (λ (c : OpenCursor). view_of c.rows) (values_of es) ≡ views_out es
values_out [] = refl
values_out (e ∷ es) = ap (λ (l : List (List Part)). view_of e.1.rows ∷ l) (values_out es)

-- What was done so far left the store without tasks, with the views of these cursors out, and made no move.
pub record IsFinishing (a v : View) (p : Parts) (views : Book) (rest : List OpenCursor) : Type 0 where
  pub on : CanGoOn v views p []
  pub counted : IsCounted views (map (λ (c : OpenCursor). view_of c.rows) rest)
  pub holding : AllByRecursion (IsHolding p) rest
  pub changes : Changes AnyFolderChange a v
  pub moment : (l : Layout) → Serves a (memory_of p) l → Changes (λ x y. Between l [] y) a v
  pub serves : (l : Layout) → Serves a (memory_of p) l → Serves v (memory_of p) l
  pub disk : v.disk_faults ≡ a.disk_faults
  pub out : v.out_faults ≡ a.out_faults
  pub reads : v.reads ≡ a.reads

-- **So it is once the tasks are given up,**
pub finishing_first : (a b : View) (p : Parts) (session : SessionState) → IsSound a → CanGoOn a session.views p session.tasks.items → AreCursors a.files p session → Changes (Within (is_begun session.tasks.items)) a b → AllByRecursion (IsGone b) session.tasks.items
    → b.disk_faults ≡ a.disk_faults → b.out_faults ≡ a.out_faults → b.reads ≡ a.reads → IsFinishing a b p session.views (values_of session.cursors)
finishing_first a b p session sound on are change gone disk out reads = record {
  on = goes_on_left a b p session.views session.tasks.items on change gone;
  counted = subst (IsCounted session.views) (sym (values_out session.cursors)) are.counted;
  holding = all_holding a.files p session.cursors are.kept;
  changes = changes_as a b (Within (is_begun session.tasks.items)) AnyFolderChange change (λ x y step. tt);
  moment = left_moment a b p session.views session.tasks.items on change sound;
  serves = serves_left a b p session.views session.tasks.items on change;
  disk = disk;
  out = out;
  reads = reads;
}

module _ (a v w : View) (p : Parts) (views now : Book) (c : OpenCursor) (rest : List OpenCursor) (is : IsFinishing a v p views (c ∷ rest)) where
  abbrev ps : List Part
  ps = view_of c.rows

  abbrev others : List (List Part)
  others = map (λ (d : OpenCursor). view_of d.rows) rest

  -- the view can be given back,
  pub finish_counted : AreCounted views (components_of ps)
  finish_counted = kept_view views [] others ps is.counted

  pub finish_out : 1 ≤ views.out
  finish_out = kept_out views [] others ps is.counted

  pub finish_once : AreOnce (view_names ps)
  finish_once = names_once ps is.holding.0.once

  -- its files are there,
  pub finish_there : AreThere (is_left views (files_of p.manifest.listing.tables c.table)) v (view_names ps)
  finish_there =
      all_named (λ (n : FileName). is_left views (files_of p.manifest.listing.tables c.table) n ≡ true → IsThere v n) (view_names ps)
      (λ n own chosen told.
      let held = held_some views n (omega (arith, file_lists n ps (names_any n ps ∙ own), finish_counted (component.File n))) in
      let files = told_files v told in
      subst (λ (o : Option Folder). is_some (contents_in o n) ≡ true) (sym files.1) (held_there v views p [] is.on n held files.0 files.1))

  module _ (given : Given views now (components_of ps)) (change : Changes (Within (is_one_of (is_left views (files_of p.manifest.listing.tables c.table)) (view_names ps))) v w) where
    pub finish_changes : Changes AnyFolderChange a w
    finish_changes = changes_on a v w AnyFolderChange (Within (is_one_of (is_left views (files_of p.manifest.listing.tables c.table)) (view_names ps))) AnyFolderChange is.changes change (λ x y s. tt) (λ x y z s t. tt)

    -- **and no move is made,**
    pub finish_moment : IsSound v → (l : Layout) → Serves a (memory_of p) l → Changes (λ x y. Between l [] y) a w
    finish_moment sound l serves =
        moves_on l a v w [] [] (is.moment l serves) (given_moment v w p [] views now c.table is.holding.0.row is.holding.0.there ps is.on given is.holding.0.once is.holding.0.parts change sound l (is.serves l serves))

    -- **so the others are left.**
    pub finishing_on : IsSound v → AreGone (is_left views (files_of p.manifest.listing.tables c.table)) w (view_names ps) → w.disk_faults ≡ v.disk_faults → w.out_faults ≡ v.out_faults → w.reads ≡ v.reads → IsFinishing a w p now rest
    finishing_on sound gone disk out reads = record {
      on = goes_on_given v w p [] views now c.table is.holding.0.row is.holding.0.there ps is.on given is.holding.0.once is.holding.0.parts change gone p refl refl refl is.on.parts;
      counted = give_counted views now [] others ps given is.counted;
      holding = is.holding.1;
      changes = finish_changes;
      moment = finish_moment sound;
      serves = λ l serves. serves_given v w p [] views now c.table is.holding.0.row is.holding.0.there ps is.on given is.holding.0.once is.holding.0.parts change l (is.serves l serves);
      disk = disk ∙ is.disk;
      out = out ∙ is.out;
      reads = reads ∙ is.reads;
    }

-- **At the end the folder has the files of the layout alone.**
pub finished : (a v : View) (p : Parts) (views : Book) → IsFinishing a v p views [] → (l : Layout) → Serves a (memory_of p) l → Ended v (closed l)
finished a v p views is l first =
    let serves = is.serves l first in
    record {
      exactly = λ folder files. subst (λ (k : Kept). HasKept k folder) (λ i. record { manifest = serves.manifest i; listing = serves.listing i })
          (λ n. is.on.exactly folder files n ∙ ap (λ x. x || is_kept (kept_by (memory_of p)) n) (none (has_name p.manifest.listing.tables n) n));
      shape = λ x now. (serves.older ++ serves.current ∷ [], serves.shape x now);
    }
  where
    none : (h : Bool) (n : FileName) → (not h && (is_held views n || false)) ≡ false
    none true n = refl
    none false n = ap (λ (k : ℕ). not (nat_eq k 0) || false) (is.counted.counts (component.File n))
