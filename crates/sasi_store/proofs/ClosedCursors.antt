-- A cursor that is closed: its view is given back, the files are deleted that nothing else needs, and the others stay.
use Rattle.std.proofs.Common.{◌≡◌, ◌≤◌, ◌<◌, ◌++◌, ◌||◌, ℕ, Bool, true, false, cond, not, filter, length, List, [], ◌∷◌, map, slice_get, Option, Some, refl, sym, ap, subst, ◌∙◌, arith}
use Rattle.std.specs.Prelude.{Contains, ⊤}
use Rattle.std.specs.Global.{Vec}
use Rattle.std.specs.FinMap.{get}
use Rattle.std.specs.List.{AllByRecursion, IsDistinct}
use Rattle.std.specs.Cmp.Lexicographic.{bytes_decides}
use Rattle.std.specs.Map.{keys_of}
use Rattle.sasi_host.specs.declared.name.FileName.{FileName}
use Rattle.sasi_host.specs.Disk.{Changes, Within}
use Rattle.sasi_host.specs.Names.{Folder}
use Rattle.sasi_host.specs.View.{View}
use Rattle.sasi_layout.specs.Serving.{Serves, StoreInMemory}
use Rattle.sasi_layout.specs.Classes.{KnowsClasses}
use Rattle.sasi_manifest.specs.Edits.{files_of}
use Rattle.sasi_memindex.specs.Book.{Book as MapBook}
use Rattle.sasi_model.specs.Sessions as model
use Rattle.sasi_machine.proofs.CursorTurns.{closed_agrees}
use Rattle.sasi_memindex.proofs.GrowthLaws.{grown_not}
use Rattle.sasi_memindex.specs.Growth.{IsGrown}
use Rattle.sasi_recheck.specs.Rows.{KnowsWhere}
use Rattle.sasi_types.specs.Key.{key_eq}
use Rattle.sasi_cursors.proofs.Agreement.{agree_names}
use Rattle.sasi_cursors.specs.Agreement.{Agrees}
use Rattle.sasi_cursors.specs.Cursors.{cursor_of, is_open, without, IsOnce}
use Rattle.sasi_views.proofs.BookLaws.{give_counted, kept_out, kept_view}
use Rattle.sasi_views.specs.Books.{count_of}
use Rattle.sasi_views.specs.Changes.{AreCounted, Given}
use Rattle.sasi_views.specs.Kept.{IsCounted, listed_by}
use Rattle.sasi_views.specs.Parts.{components_of}
use Rattle.sasi_views.specs.declared.component.Component.{Component}
use Rattle.sasi_views.specs.declared.component.Component.TheVariants as component
use Rattle.sasi_views.specs.declared.part.Part.{Part}
use Rattle.sasi_engine.specs.Plans.{map_numbers}
use Rattle.sasi_fetch.specs.Cursors.{view_of}
use Rattle.sasi_tables.proofs.HeldMaps.{held_stay}
use Rattle.sasi_tables.specs.Held.{AreForgottenBut, HasIndexes, HeldTable, in_memory, numbers_of}
use Rattle.sasi_tables.specs.TablesView.{AreTables, IsOfParts, held_in, memory_of}
use Rattle.sasi_tables.specs.declared.parts.Parts.{Parts}
use Rattle.sasi_tables.specs.declared.table_maps.TableMaps.{TableMaps}
use Rattle.sasi_tasks.specs.MakesTaskMoves.{CanGoOn}
use Rattle.sasi_tasks.specs.Running.{AreTasksOf, KnowsTasks}
use Rattle.sasi_tasks.specs.Unheld.{AreGone, is_left, is_one_of}
use Rattle.sasi_tasks.specs.declared.running.RunningTask.{RunningTask}
use Rattle.sasi_store.specs.CursorCalls.{IsClosed}
use Rattle.sasi_store.specs.Cursors.{AreCursors, GivesRows, HasNamesOf, IsKept, Opened, view_names, views_out, views_told}
use Rattle.sasi_store.specs.declared.session_state.OpenCursor.{OpenCursor}
use Rattle.sasi_store.specs.declared.session_state.SessionState.{SessionState}
use Rattle.sasi_store.proofs.FetchedCursors.{found_all, one_found}
use Rattle.sasi_store.proofs.GivenBack.{goes_on_given, held_change, serves_given, tasks_given}
use Rattle.sasi_store.proofs.KeptCursors.{KeepsViews, all_kept, all_still, keeps_changed}

module _ (name : List ℕ) where
  -- ---- lists

  -- where none has the name, none is left out
  pub without_none : (es : Opened) → is_open name es ≡ false → without name es ≡ es
  without_none [] free = refl
  without_none (e ∷ es) free = by (key_eq name e.0) free (without_none es)
    where
      by : (b : Bool) → (b || is_open name es) ≡ false → (is_open name es ≡ false → without name es ≡ es) → cond b es (e ∷ without name es) ≡ e ∷ es
      by true free rest = cc
      by false free rest = ap (λ (l : Opened). e ∷ l) (rest free)

  -- what holds of all holds of those that are left
  pub all_without : (P : List ℕ × OpenCursor → Type 0) (es : Opened) → AllByRecursion P es → AllByRecursion P (without name es)
  all_without P [] all = tt
  all_without P (e ∷ es) all = by (key_eq name e.0) (all_without P es all.1)
    where
      by : (b : Bool) → AllByRecursion P (without name es) → AllByRecursion P (cond b es (e ∷ without name es))
      by true rest = all.1
      by false rest = (all.0, rest)

  without_fewer : (es : Opened) → length (without name es) ≤ length es
  without_fewer [] = omega arith
  without_fewer (e ∷ es) = by (key_eq name e.0) (without_fewer es)
    where
      by : (b : Bool) → length (without name es) ≤ length es → length (cond b es (e ∷ without name es)) ≤ length (e ∷ es)
      by true rest = omega arith
      by false rest = omega (arith, rest)

  -- the views around that of the cursor
  record IsBetween (view : List Part) (all rest : List (List Part)) : Type 0 where
    pub before : List (List Part)
    pub after : List (List Part)
    pub all_are : all ≡ before ++ view ∷ after
    pub rest_are : rest ≡ before ++ after

  between : (c : OpenCursor) (es : Opened) → Some c ≡ cursor_of name es → IsBetween (view_of c.rows) (views_out es) (views_out (without name es))
  between c [] is = cc
  between c (e ∷ es) is = by (key_eq name e.0) is (between c es)
    where
      by : (b : Bool) → Some c ≡ cond b (Some e.1) (cursor_of name es) → (Some c ≡ cursor_of name es → IsBetween (view_of c.rows) (views_out es) (views_out (without name es)))
          → IsBetween (view_of c.rows) (views_out (e ∷ es)) (views_out (cond b es (e ∷ without name es)))
      by true is rest = (let own : e.1 ≡ c = cc in record { before = []; after = views_out es; all_are = ap (λ (d : OpenCursor). view_of d.rows ∷ views_out es) own; rest_are = refl })
      by false is rest =
          (let more = rest is in
          record {
            before = view_of e.1.rows ∷ more.before;
            after = more.after;
            all_are = ap (λ (l : List (List Part)). view_of e.1.rows ∷ l) more.all_are;
            rest_are = ap (λ (l : List (List Part)). view_of e.1.rows ∷ l) more.rest_are;
          })

  abbrev others_told : List (List ℕ × List FileName) → List (List ℕ × List FileName)
  others_told views = filter (λ (view : List ℕ × List FileName). not (key_eq name view.0)) views

  told_none : (es : Opened) → AllByRecursion (λ (n : List ℕ). key_eq name n ≡ false) (keys_of es) → others_told (views_told es) ≡ views_told es
  told_none [] none = refl
  told_none (e ∷ es) none =
      ap (λ b. cond (not b) ((e.0, view_names (view_of e.1.rows)) ∷ others_told (views_told es)) (others_told (views_told es))) none.0
      ∙ ap (λ (l : List (List ℕ × List FileName)). (e.0, view_names (view_of e.1.rows)) ∷ l) (told_none es none.1)

  told_without : (es : Opened) → IsOnce es → others_told (views_told es) ≡ views_told (without name es)
  unfolding IsDistinct
  told_without [] once = refl
  told_without (e ∷ es) once = by (key_eq name e.0) refl (told_without es once.1)
    where
      by : (b : Bool) → key_eq name e.0 ≡ b → others_told (views_told es) ≡ views_told (without name es)
          → cond (not b) ((e.0, view_names (view_of e.1.rows)) ∷ others_told (views_told es)) (others_told (views_told es)) ≡ views_told (cond b es (e ∷ without name es))
      by true is rest = told_none es (subst (λ (x : List ℕ). AllByRecursion (λ (n : List ℕ). key_eq x n ≡ false) (keys_of es)) (sym ((bytes_decides name e.0).0 is)) once.0)
      by false is rest = ap (λ (l : List (List ℕ × List FileName)). (e.0, view_names (view_of e.1.rows)) ∷ l) rest

  -- ---- names

  -- the cursors are one by one those of the session, whatever else is said of them
  by_names : (es : Opened) (xs : List model.Cursor) → map (λ (e : List ℕ × OpenCursor). e.0) es ≡ map (λ (x : model.Cursor). x.name) xs → Agrees (λ (x : model.Cursor). x.name) (λ c x. ⊤) es xs
  by_names [] [] named = tt
  by_names [] (x ∷ xs) named = cc
  by_names (e ∷ es) [] named = cc
  by_names (e ∷ es) (x ∷ xs) named =
      let first : e.0 ≡ x.name = cc in
      let rest : map (λ (e : List ℕ × OpenCursor). e.0) es ≡ map (λ (x : model.Cursor). x.name) xs = cc in
      ((first, tt), by_names es xs rest)

  names_without : (es : Opened) (x : model.SessionState) → IsOnce es → HasNamesOf es x → HasNamesOf (without name es) (record x { cursors = model.without_cursor name x.cursors })
  names_without es x once named =
      agree_names (λ (y : model.Cursor). y.name) (λ c y. ⊤) (without name es) (model.without_cursor name x.cursors) (closed_agrees (λ c y. ⊤) es x (by_names es x.cursors named) name once)

  -- ---- the view of a cursor that is found

  module _ (files : Option Folder) (p : Parts) (was : SessionState) (are : AreCursors files p was) (c : OpenCursor) (is : Some c ≡ cursor_of name was.cursors) where
    -- **It can be given back.**
    pub found_counted : AreCounted was.views (components_of (view_of c.rows))
    found_counted = (let split = between c was.cursors is in kept_view was.views split.before split.after (view_of c.rows) (subst (IsCounted was.views) split.all_are are.counted))

    pub found_out : 1 ≤ was.views.out
    found_out = (let split = between c was.cursors is in kept_out was.views split.before split.after (view_of c.rows) (subst (IsCounted was.views) split.all_are are.counted))

-- ---- what is left

module _ (a b : View) (name : List ℕ) (old : Parts) (book : MapBook) (numbers : List ℕ) (was now : SessionState) (c : OpenCursor) (on : CanGoOn a was.views old was.tasks.items) (are : AreCursors a.files old was) (once : IsOnce was.cursors)
    (is : Some c ≡ cursor_of name was.cursors) (given : Given was.views now.views (components_of (view_of c.rows))) (cursors_are : now.cursors ≡ without name was.cursors) (trace_is : now.trace ≡ was.trace) (tasks_is : now.tasks ≡ was.tasks)
    (forgot : AreForgottenBut old.tables.items now.views numbers old.maps book) (numbers_are : numbers ≡ map_numbers (view_of c.rows))
    (change : Changes (Within (is_one_of (is_left was.views (files_of old.manifest.listing.tables c.table)) (view_names (view_of c.rows)))) a b)
    (gone : AreGone (is_left was.views (files_of old.manifest.listing.tables c.table)) b (view_names (view_of c.rows))) where
  abbrev new : Parts
  new = record old { maps = book }

  abbrev tasks : List RunningTask
  tasks = was.tasks.items

  found : IsKept a.files old c
  found = found_all name c (IsKept a.files old) was.cursors are.kept is

  -- ---- the maps

  -- the maps of tables stay
  own : (i : ℕ) (x : TableMaps) (n : ℕ) → slice_get old.tables.items i ≡ Some x → Contains (numbers_of x) n → get book n ≡ get old.maps n
  own i x n there has = forgot.own n (i, x, there, has)

  held_are : held_in new ≡ held_in old
  held_are = held_stay old.maps book old.tables.items own

  memory_is : memory_of new ≡ memory_of old
  memory_is = ap (λ (ts : List HeldTable). record (memory_of old) { tables = map in_memory ts }) held_are

  parts_are : IsOfParts new
  parts_are = record {
    tables = subst (AreTables old.manifest.listing.partitioner) (sym held_are) on.parts.tables;
    mapped = record {
      counted = on.parts.mapped.counted;
      apart = on.parts.mapped.apart;
      rising = on.parts.mapped.rising;
      used = on.parts.mapped.used;
      indexed = λ i x subjects n there wanted has. subst (HasIndexes subjects) (sym (own i x n there has)) (on.parts.mapped.indexed i x subjects n there wanted has);
    };
    regular = on.parts.regular;
  }

  goes_on : CanGoOn b now.views new tasks
  goes_on = goes_on_given a b old tasks was.views now.views c.table found.row found.there (view_of c.rows) on given found.once found.parts change gone new refl refl memory_is parts_are

  -- ---- the cursors

  keeps : KeepsViews a.files b.files now.views old new
  keeps = keeps_changed a b now.views old new (held_change a b old tasks was.views now.views c.table found.row found.there (view_of c.rows) on given found.once found.parts change) (λ table f held place. place) (omega arith) (λ at t there. (t, there, refl)) (record {
    stay = λ n aside some. subst (IsGrown (get old.maps n)) (sym (forgot.listed n some)) (grown_not (get old.maps n));
    aside = λ n is. record { numbered = is.numbered; apart = is.apart };
  })

  abbrev others : Opened
  others = without name was.cursors

  counted : IsCounted now.views (views_out others)
  counted =
      let split = between name c was.cursors is in
      subst (IsCounted now.views) (sym split.rest_are) (give_counted was.views now.views split.before split.after (view_of c.rows) given (subst (IsCounted was.views) split.all_are are.counted))

  out : (k : Component) → 0 < listed_by k (views_out others) → 0 < count_of now.views k
  out k some = omega (arith, some, counted.counts k)

  others_kept : AllByRecursion (λ (e : List ℕ × OpenCursor). IsKept a.files old e.1) others
  others_kept = all_without name (λ (e : List ℕ × OpenCursor). IsKept a.files old e.1) was.cursors are.kept

  kept : AreCursors b.files new now
  kept = record {
    counted = subst (λ (es : Opened). IsCounted now.views (views_out es)) (sym cursors_are) counted;
    kept = subst (AllByRecursion (λ (e : List ℕ × OpenCursor). IsKept b.files new e.1)) (sym cursors_are) (all_kept a.files b.files now.views old new keeps others out others_kept);
    few = omega (arith, ap (λ (es : Opened). length es) cursors_are, without_fewer name was.cursors, are.few);
  }

  -- **The others are the session's, without the one of the name.**
  pub closed : IsClosed a b name old new was now
  closed = record {
    serves = λ w serves. record {
      serves = subst (λ (m : StoreInMemory). Serves b m w.layout) (sym memory_is) (serves_given a b old tasks was.views now.views c.table found.row found.there (view_of c.rows) on given found.once found.parts change w.layout serves.serves);
      trace_is = trace_is ∙ serves.trace_is;
      cursors_are = subst (λ (es : Opened). Agrees (λ (x : model.Cursor). x.name) (GivesRows b.files book) es (model.without_cursor name w.session.cursors)) (sym cursors_are)
          (all_still a.files b.files now.views old new keeps others (model.without_cursor name w.session.cursors) out others_kept
          (closed_agrees (GivesRows a.files old.maps) was.cursors w.session serves.cursors_are name once));
      views_are = ap (others_told name) serves.views_are ∙ told_without name was.cursors once ∙ ap views_told (sym cursors_are);
      tasks_are = subst (λ (ts : Vec RunningTask). AreTasksOf b w.layout ts.items w.tasks) (sym tasks_is) (tasks_given a b old tasks was.views now.views c.table found.row found.there (view_of c.rows) on given found.once found.parts change w.layout w.tasks serves.tasks_are);
    };
    memory = memory_is;
    ready = subst (λ (ts : Vec RunningTask). CanGoOn b now.views new ts.items) (sym tasks_is) goes_on;
    cursors = kept;
    classes = λ kinds knows. record {
      tables = subst (KnowsClasses kinds) (sym memory_is) knows.tables;
      cursors = subst (AllByRecursion (λ (e : List ℕ × OpenCursor). KnowsWhere kinds e.1.rows.reader.rows.filter)) (sym cursors_are)
          (all_without name (λ (e : List ℕ × OpenCursor). KnowsWhere kinds e.1.rows.reader.rows.filter) was.cursors knows.cursors);
      tasks = subst (λ (ts : Vec RunningTask). KnowsTasks kinds ts.items) (sym tasks_is) knows.tasks;
    };
    names = λ x named. subst (λ (es : Opened). HasNamesOf es (record x { cursors = model.without_cursor name x.cursors })) (sym cursors_are) (names_without name was.cursors x once named);
    forgotten = λ d found.
        let own = subst (λ (ns : List ℕ). AreForgottenBut old.tables.items now.views ns old.maps book) numbers_are forgot in
        subst (λ (x : OpenCursor). AreForgottenBut old.tables.items now.views (map_numbers (view_of x.rows)) old.maps book) (one_found c d (cursor_of name was.cursors) is found) own;
  }
