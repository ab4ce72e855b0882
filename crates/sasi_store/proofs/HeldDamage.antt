-- The files that an open cursor holds are there, and what a reader shows in them a step may report.
use Rattle.std.proofs.Common.{◌≡◌, ◌-◌, ◌&&◌, ◌||◌, Bool, true, false, not, IsSome, ℕ, List, slice_get, Option, Some, inr, refl, sym, ap, subst, ◌∙◌, arith}
use Rattle.std.specs.FinMap.{get}
use Rattle.sasi_host.proofs.ContentLaws.{told_files}
use Rattle.sasi_host.specs.declared.damage.Damage.{Damage}
use Rattle.sasi_host.specs.declared.name.FileName.{FileName}
use Rattle.sasi_host.specs.Names.{Folder}
use Rattle.sasi_host.specs.View.{IsSound, IsThere, View, contents_in}
use Rattle.sasi_layout.specs.Kept.{is_kept}
use Rattle.sasi_layout.specs.Serving.{kept_by}
use Rattle.sasi_manifest.specs.FileNames.{has_name}
use Rattle.sasi_manifest.specs.ListedDefinition.{ListedDefinition}
use Rattle.sasi_model.specs.Abbreviations.{types_of}
use Rattle.sasi_cursors.specs.Cursors.{cursor_of}
use Rattle.sasi_engine.specs.Plans.{is_file_of}
use Rattle.sasi_fetch.specs.Cursors.{view_of}
use Rattle.sasi_plan.specs.Reading.{PendingShows}
use Rattle.sasi_tables.specs.TablesView.{memory_of}
use Rattle.sasi_tables.specs.declared.parts.Parts.{Parts}
use Rattle.sasi_tasks.specs.MakesTaskMoves.{CanGoOn}
use Rattle.sasi_tasks.specs.Running.{is_aside, is_begun, is_held}
use Rattle.sasi_tasks.specs.declared.running.RunningTask.{RunningTask}
use Rattle.sasi_views.specs.Books.{Book}
use Rattle.sasi_views.specs.declared.component.Component.TheVariants as component
use Rattle.sasi_store.specs.Cursors.{AreCursors}
use Rattle.sasi_store.specs.HeldDamage.{StepShows}
use Rattle.sasi_store.specs.declared.session_state.OpenCursor.{OpenCursor}
use Rattle.sasi_store.specs.declared.session_state.SessionState.{SessionState}
use Rattle.sasi_store.proofs.ClosedCursors.{found_counted}
use Rattle.sasi_store.proofs.HeldFiles.{file_lists, held_some}
use Rattle.sasi_store.proofs.ViewDamage.{held_show}
use Rattle.sasi_store.proofs.ViewFiles.{listed_kept}

-- a file that a view lists which is out stands in the folder
held_kept : (views : Book) (p : Parts) (tasks : List RunningTask) (name : FileName) → is_held views name ≡ true → (is_aside views tasks p.manifest.listing name || is_kept (kept_by (memory_of p)) name) ≡ true
held_kept views p tasks name held = by (has_name p.manifest.listing.tables name) refl
  where
    either : (x y : Bool) → y ≡ true → (x || y) ≡ true
    either true y is = refl
    either false y is = is

    by : (h : Bool) → has_name p.manifest.listing.tables name ≡ h → ((not h && (is_held views name || is_begun tasks name)) || is_kept (kept_by (memory_of p)) name) ≡ true
    by true has = listed_kept (kept_by (memory_of p)) name has
    by false none = ap (λ x. (x || is_begun tasks name) || is_kept (kept_by (memory_of p)) name) held

pub held_there : (v : View) (views : Book) (p : Parts) (tasks : List RunningTask) → CanGoOn v views p tasks → (name : FileName) → is_held views name ≡ true → (folder : Folder) → v.files ≡ Some folder → IsSome (get folder name)
held_there v views p tasks on name held folder files = on.exactly folder files name ∙ held_kept views p tasks name held

module _ (v : View) (p : Parts) (session : SessionState) (on : CanGoOn v session.views p session.tasks.items) (are : AreCursors v.files p session) (name : List ℕ) (c : OpenCursor) (is : Some c ≡ cursor_of name session.cursors) where
  -- its files are held,
  pub cursor_held : (file : FileName) → is_file_of (view_of c.rows) file ≡ true → is_held session.views file ≡ true
  cursor_held file own = held_some session.views file (omega (arith, file_lists file (view_of c.rows) own, found_counted name v.files p session are c is (component.File file)))

  -- **and are there.**
  pub cursor_there : (file : FileName) → is_file_of (view_of c.rows) file ≡ true → IsThere v file
  cursor_there file own told =
      let now = told_files v told in
      subst (λ (o : Option Folder). IsSome (contents_in o file)) (sym now.1) (held_there v session.views p session.tasks.items on file (cursor_held file own) now.0 now.1)

-- **What a reader shows in them is damage of a held file.**
pub cursor_shows : (v : View) → IsSound v → (p : Parts) (session : SessionState) → CanGoOn v session.views p session.tasks.items → AreCursors v.files p session → (name : List ℕ) (c : OpenCursor) → Some c ≡ cursor_of name session.cursors → (folder : Folder) → v.files ≡ Some folder
    → (row : ListedDefinition) → slice_get p.manifest.listing.tables (c.table - 1) ≡ Some row → (damage : Damage) → PendingShows (types_of row.definition) (view_of c.rows) v.files damage → StepShows session.views folder damage
cursor_shows v sound p session on are name c is folder files row there damage shown =
    inr (held_show v sound p on.can folder files (is_held session.views) (c.table - 1) row there (types_of row.definition) refl (view_of c.rows)
    (λ file own. let held = cursor_held v p session on are name c is file own in (held, held_there v session.views p session.tasks.items on file held folder files)) damage shown)
