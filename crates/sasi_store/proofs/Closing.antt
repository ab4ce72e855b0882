-- What closing a cursor asks of the store, and what it leaves where it stops early.
use Rattle.std.proofs.Common.{◌≡◌, ◌-◌, ℕ, List, [], Some, ◌∙◌, ◌∷◌, true, subst, sym, arith}
use Rattle.std.specs.List.{AllByRecursion}
use Rattle.sasi_host.proofs.ChangeLaws.{changes_as}
use Rattle.sasi_host.specs.Disk.{Changes, Within}
use Rattle.sasi_host.specs.View.{IsSound, IsThere, View}
use Rattle.sasi_host.specs.declared.name.FileName.{FileName}
use Rattle.sasi_layout.proofs.Trails.{moves_none}
use Rattle.sasi_layout.specs.Between.{Between}
use Rattle.sasi_layout.specs.NumbersInOrder.{HasFilesInOrder, Rising}
use Rattle.sasi_layout.specs.Serving.{CanChange}
use Rattle.sasi_manifest.specs.Edits.{files_of}
use Rattle.sasi_manifest.specs.ListedDefinition.{ListedDefinition}
use Rattle.sasi_manifest.specs.declared.files.ListedFile.{ListedFile}
use Rattle.sasi_cursors.specs.Cursors.{cursor_of}
use Rattle.sasi_fetch.specs.Cursors.{view_of}
use Rattle.sasi_tables.specs.TablesView.{memory_of}
use Rattle.sasi_tables.specs.declared.parts.Parts.{Parts}
use Rattle.sasi_tasks.specs.MakesTaskMoves.{CanGoOn, KeepsHeld}
use Rattle.sasi_tasks.specs.Unheld.{AreOnce, AreThere, AreUnchosen, is_left, is_one_of}
use Rattle.sasi_views.specs.Books.{Book}
use Rattle.sasi_recover.specs.OpenedFolder.{AnyFolderChange}
use Rattle.sasi_views.specs.Changes.{AreCounted, Given}
use Rattle.sasi_views.specs.Parts.{components_of}
use Rattle.sasi_views.specs.declared.part.Part.{Part}
use Rattle.sasi_store.specs.CursorCalls.{HasAllListed}
use Rattle.sasi_store.specs.Cursors.{AreCursors, IsKept, view_names}
use Rattle.sasi_store.specs.Worlds.{PartsServe, World}
use Rattle.sasi_store.specs.declared.session_state.OpenCursor.{OpenCursor}
use Rattle.sasi_store.specs.declared.session_state.SessionState.{SessionState}
use Rattle.sasi_store.proofs.ClosedCursors.{found_counted}
use Rattle.sasi_store.proofs.ClosedFiles.{all_named, names_once, none_left}
use Rattle.sasi_store.proofs.FetchedCursors.{found_all}
use Rattle.sasi_store.proofs.GivenBack.{given_moment, held_change}
use Rattle.sasi_store.proofs.HeldDamage.{cursor_there}
use Rattle.sasi_store.proofs.OpenedCursors.{names_any}
use Rattle.sasi_store.proofs.ViewFiles.{files_have}

-- the numbers of a table's files rise
rising_each : (used last : ℕ) (ts : List ListedDefinition) → AllByRecursion (HasFilesInOrder used last) ts → AllByRecursion (λ (t : ListedDefinition). (high : ℕ) × Rising 0 high t.files) ts
rising_each used last [] all = tt
rising_each used last (t ∷ ts) all = ((used, all.0.rise), rising_each used last ts all.1)

pub files_rising : (v : View) (p : Parts) → CanChange v (memory_of p) → (table : ℕ) → (high : ℕ) × Rising 0 high (files_of p.manifest.listing.tables table)
files_rising v p can table =
    files_have (λ (fs : List ListedFile). (high : ℕ) × Rising 0 high fs) (0, omega arith) p.manifest.listing.tables (table - 1)
    (rising_each p.numbers.«data» p.manifest.listing.last p.manifest.listing.tables can.numbered.files)

module _ (a : View) (old : Parts) (was : SessionState) (on : CanGoOn a was.views old was.tasks.items) (are : AreCursors a.files old was) (name : List ℕ) (c : OpenCursor) (is : Some c ≡ cursor_of name was.cursors) (view : List Part) (view_is : view ≡ view_of c.rows) where
  found : IsKept a.files old c
  found = found_all name c (IsKept a.files old) was.cursors are.kept is

  abbrev files : List ListedFile
  files = files_of old.manifest.listing.tables c.table

  -- its files are there, each once,
  pub close_there : AreThere (is_left was.views files) a (view_names view)
  close_there =
      subst (λ (ps : List Part). AreThere (is_left was.views files) a (view_names ps)) (sym view_is)
      (all_named (λ (n : FileName). is_left was.views files n ≡ true → IsThere a n) (view_names (view_of c.rows)) (λ n own chosen. cursor_there a old was on are name c is n (names_any n (view_of c.rows) ∙ own)))

  pub close_once : AreOnce (view_names view)
  close_once = subst (λ (ps : List Part). AreOnce (view_names ps)) (sym view_is) (names_once (view_of c.rows) found.once)

  -- and are counted
  pub close_counted : AreCounted was.views (components_of view)
  close_counted = subst (λ (ps : List Part). AreCounted was.views (components_of ps)) (sym view_is) (found_counted name a.files old was are c is)

  module _ (b : View) (views : Book) (given : Given was.views views (components_of view)) where
    given_own : Given was.views views (components_of (view_of c.rows))
    given_own = subst (λ (ps : List Part). Given was.views views (components_of ps)) view_is given

    -- where a table has all of them, none is deleted
    pub close_idle : HasAllListed old c → AreUnchosen (is_left was.views files) (view_names view)
    close_idle all = subst (λ (ps : List Part). AreUnchosen (is_left was.views files) (view_names ps)) (sym view_is) (none_left old c.table found.row found.there was.views views (view_of c.rows) given_own found.once found.parts all)

    module _ (change : Changes (Within (is_one_of (is_left was.views files) (view_names view))) a b) where
      change_own : Changes (Within (is_one_of (is_left was.views files) (view_names (view_of c.rows)))) a b
      change_own = subst (λ (ps : List Part). Changes (Within (is_one_of (is_left was.views files) (view_names ps))) a b) view_is change

      -- **What the others hold stays,**
      pub close_held : Changes (KeepsHeld views) a b
      close_held = held_change a b old was.tasks.items was.views views c.table found.row found.there (view_of c.rows) on given_own found.once found.parts change_own

      pub close_changes : Changes AnyFolderChange a b
      close_changes = changes_as a b (Within (is_one_of (is_left was.views files) (view_names view))) AnyFolderChange change (λ x y step. tt)

      -- **and no move is made.**
      pub close_moment : IsSound a → (w : World) → PartsServe a old was w → Changes (λ x y. Between w.layout [] y) a b
      close_moment sound w serves = given_moment a b old was.tasks.items was.views views c.table found.row found.there (view_of c.rows) on given_own found.once found.parts change_own sound w.layout serves.serves

-- nothing is done
pub none_closed : (v : View) → IsSound v → (old : Parts) (was : SessionState) (w : World) → PartsServe v old was w → Changes (λ x y. Between w.layout [] y) v v
none_closed v sound old was w serves = moves_none w.layout v [] sound (λ x now. (_, serves.serves.shape x now))
