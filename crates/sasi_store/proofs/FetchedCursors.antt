-- A cursor that gives its next rows: the others stay, and so does its view.
use Rattle.std.proofs.Common.{◌≡◌, ◌++◌, ℕ, Bool, true, false, true≢false, cond, length, List, [], ◌∷◌, map, take, drop, Option, None, Some, is_some, refl, sym, ap, subst, ◌∙◌, arith}
use Rattle.std.proofs.lemmas.List.{drop-map, take-map}
use Rattle.std.proofs.lemmas.Map.Made.{is_some-lookup}
use Rattle.std.specs.List.{AllByRecursion}
use Rattle.std.specs.Option.{option_map_or}
use Rattle.sasi_types.specs.Key.{key_eq}
use Rattle.sasi_types.specs.declared.class.Class.{Class}
use Rattle.sasi_types.specs.declared.column.ColumnType.{ColumnType}
use Rattle.sasi_host.specs.Disk.{Changes, Same}
use Rattle.sasi_host.specs.Names.{Folder}
use Rattle.sasi_host.specs.View.{View}
use Rattle.sasi_machine.proofs.CursorTurns.{fetched_agrees}
use Rattle.sasi_machine.specs.declared.prepared.FetchAsked.{FetchAsked}
use Rattle.sasi_model.specs.Lines.{rows_lines}
use Rattle.sasi_model.specs.Sessions as model
use Rattle.sasi_recheck.specs.Rows.{KnowsWhere}
use Rattle.sasi_cells.specs.declared.picked.Picked.{Picked}
use Rattle.sasi_cursors.proofs.Agreement.{agree_some}
use Rattle.sasi_cursors.specs.Agreement.{Agrees}
use Rattle.sasi_cursors.specs.Cursors.{cursor_of, is_open, with_cursor, IsOnce}
use Rattle.sasi_views.specs.Kept.{IsCounted}
use Rattle.sasi_views.specs.Parts.{ListsOnce}
use Rattle.sasi_views.specs.declared.part.Part.{Part}
use Rattle.sasi_plan.specs.Answers.{RowsLeft}
use Rattle.sasi_plan.specs.contracts.plan_candidates.PlanCandidatesCandidates.TheImpl as source
use Rattle.sasi_fetch.specs.Cursors.{IsReadable, view_of}
use Rattle.sasi_fetch.specs.Printing.{PrintsAtMost, PrintsFirst, row_picked}
use Rattle.sasi_fetch.specs.declared.cursor.Cursor.{Cursor}
use Rattle.sasi_tables.specs.TablesView.{memory_of}
use Rattle.sasi_tables.specs.declared.parts.Parts.{Parts}
use Rattle.sasi_tasks.specs.MakesTaskMoves.{CanGoOn}
use Rattle.sasi_store.specs.CursorCalls.{IsFetched}
use Rattle.sasi_store.specs.Cursors.{AreCursors, GivesRows, IsKept, IsKeptPart, Opened, view_names}
use Rattle.sasi_store.specs.declared.session_state.OpenCursor.{OpenCursor}
use Rattle.sasi_store.specs.declared.session_state.SessionState.{SessionState}
use Rattle.sasi_store.proofs.SameFiles.{files_same, serves_same, goes_on_same, tasks_same}

-- a name under which a cursor was looked for is open where one was found
found_open : (name : List ℕ) (es : Opened) (found : Option OpenCursor) → found ≡ cursor_of name es → is_open name es ≡ is_some found
found_open name es found is = sym (is_some-lookup (key_eq name) es) ∙ ap is_some (sym is)

-- so it isn't where none was found, and is where one was
pub not_open : {P : Type 0} (name : List ℕ) (es : Opened) (c : OpenCursor) → Some c ≡ cursor_of name es → is_open name es ≡ false → P
not_open name es c is free = absurd (true≢false (sym (found_open name es (Some c) is) ∙ free))

pub not_free : {P : Type 0} (name : List ℕ) (es : Opened) → None ≡ cursor_of name es → is_open name es ≡ true → P
not_free name es is there = absurd (true≢false (sym there ∙ found_open name es None is))

-- one cursor
pub one_found : (c d : OpenCursor) (found : Option OpenCursor) → Some c ≡ found → Some d ≡ found → c ≡ d
one_found c d None is other = cc
one_found c d (Some x) is other = cc

module _ (name : List ℕ) (c : OpenCursor) where
  -- what holds of all holds of the one that is found
  pub found_all : (P : OpenCursor → Type 0) (es : Opened) → AllByRecursion (λ (e : List ℕ × OpenCursor). P e.1) es → Some c ≡ cursor_of name es → P c
  found_all P [] all is = cc
  found_all P (e ∷ es) all is = by (key_eq name e.0) is (found_all P es all.1)
    where
      by : (b : Bool) → Some c ≡ cond b (Some e.1) (cursor_of name es) → (Some c ≡ cursor_of name es → P c) → P c
      by true is rest = (let own : e.1 ≡ c = cc in subst P own all.0)
      by false is rest = rest is

  module _ (new : OpenCursor) where
    -- what is told of each stays, where it is the same of the new one
    map_with : {T : Type 0} (f : List ℕ × OpenCursor → T) → ((n : List ℕ) → f (n, new) ≡ f (n, c)) → (es : Opened) → Some c ≡ cursor_of name es → map f (with_cursor name es new) ≡ map f es
    map_with f same [] is = refl
    map_with f same (e ∷ es) is = by (key_eq name e.0) is (map_with f same es)
      where
        by : (b : Bool) → Some c ≡ cond b (Some e.1) (cursor_of name es) → (Some c ≡ cursor_of name es → map f (with_cursor name es new) ≡ map f es)
            → map f (cond b ((e.0, new) ∷ es) (e ∷ with_cursor name es new)) ≡ map f (e ∷ es)
        by true is rest = (let own : e.1 ≡ c = cc in ap (λ t. t ∷ map f es) (same e.0 ∙ ap (λ (d : OpenCursor). f (e.0, d)) (sym own)))
        by false is rest = ap (λ l. f e ∷ l) (rest is)

    all_with : (P : List ℕ × OpenCursor → Type 0) → ((n : List ℕ) → P (n, new)) → (es : Opened) → AllByRecursion P es → AllByRecursion P (with_cursor name es new)
    all_with P own [] all = tt
    all_with P own (e ∷ es) all = by (key_eq name e.0) (all_with P own es all.1)
      where
        by : (b : Bool) → AllByRecursion P (with_cursor name es new) → AllByRecursion P (cond b ((e.0, new) ∷ es) (e ∷ with_cursor name es new))
        by true rest = (own e.0, all.1)
        by false rest = (all.0, rest)

    length_with : (es : Opened) → length (with_cursor name es new) ≡ length es
    length_with [] = refl
    length_with (e ∷ es) = by (key_eq name e.0) (length_with es)
      where
        by : (b : Bool) → length (with_cursor name es new) ≡ length es → length (cond b ((e.0, new) ∷ es) (e ∷ with_cursor name es new)) ≡ length (e ∷ es)
        by true rest = refl
        by false rest = omega (arith, rest)

module _ (kinds : List Class) (a b : View) (change : Changes Same a b) (asked : FetchAsked) (p : Parts) (was : SessionState) (c : OpenCursor) (rows : Cursor) (on : CanGoOn a was.views p was.tasks.items) (are : AreCursors a.files p was) (once : IsOnce was.cursors)
    (is : Some c ≡ cursor_of asked.cursor was.cursors) (view_is : view_of rows ≡ view_of c.rows) (filter_is : rows.reader.rows.filter ≡ c.rows.reader.rows.filter) (picked_is : rows.reader.picked ≡ c.rows.reader.picked)
    (readable : (types : List ColumnType) → IsReadable types a.files p.maps c.rows → IsReadable types b.files p.maps rows) (reply_old reply_new : List ℕ)
    (prints : PrintsFirst c.rows.reader.picked asked.count (RowsLeft source.leaves-value.it c.rows.reader.rows a.files p.maps) (RowsLeft source.leaves-value.it rows.reader.rows b.files p.maps) reply_old reply_new)
    (at_most : PrintsAtMost c.rows.reader.picked asked.count reply_old reply_new) where
  abbrev new : OpenCursor
  new = record c { rows = rows }

  abbrev now : SessionState
  now = record was { cursors = with_cursor asked.cursor was.cursors new }

  files_are : b.files ≡ a.files
  files_are = files_same a b change

  kept_new : IsKept b.files p new
  kept_new =
      let own = found_all asked.cursor c (IsKept a.files p) was.cursors are.kept is in
      record {
        some = own.some;
        row = own.row;
        there = own.there;
        readable = readable _ own.readable;
        parts = subst (AllByRecursion (IsKeptPart p c.table)) (sym view_is) own.parts;
        once = subst ListsOnce (sym view_is) own.once;
      }

  kept : AreCursors b.files p now
  kept = record {
    counted = subst (IsCounted was.views) (sym (map_with asked.cursor c new (λ (e : List ℕ × OpenCursor). view_of e.1.rows) (λ n. view_is) was.cursors is)) are.counted;
    kept = all_with asked.cursor c new (λ (e : List ℕ × OpenCursor). IsKept b.files p e.1) (λ n. kept_new) was.cursors
        (subst (λ (o : Option Folder). AllByRecursion (λ (e : List ℕ × OpenCursor). IsKept o p e.1) was.cursors) (sym files_are) are.kept);
    few = omega (arith, length_with asked.cursor c new was.cursors, are.few);
  }

  -- it has the others of its rows left
  moved : (d : model.Cursor) → GivesRows a.files p.maps c d → GivesRows a.files p.maps new (record d { rows = drop asked.count d.rows })
  moved d gives = (
    drop asked.count gives.0,
    subst (λ (o : Option Folder). RowsLeft source.leaves-value.it rows.reader.rows o p.maps (drop asked.count gives.0)) files_are (prints gives.0 gives.1).1,
    ap (drop asked.count) gives.2 ∙ drop-map (row_picked c.rows.reader.picked) asked.count gives.0 ∙ ap (λ (k : Picked). map (row_picked k) (drop asked.count gives.0)) (sym picked_is),
  )

  -- **The cursor is that of the session which has given its first rows.**
  pub fetched : IsFetched kinds a b asked p was now reply_old reply_new
  fetched = record {
    serves = λ w serves. record {
      serves = serves_same a b change (memory_of p) w.layout serves.serves;
      trace_is = serves.trace_is;
      cursors_are = subst (λ (o : Option Folder). Agrees (λ (x : model.Cursor). x.name) (GivesRows o p.maps) now.cursors (model.rows_given asked.cursor asked.count w.session.cursors)) (sym files_are)
          (fetched_agrees (GivesRows a.files p.maps) was.cursors w.session serves.cursors_are asked.cursor asked.count c new once is moved);
      tasks_are = tasks_same a b change p w.layout was.tasks.items w.tasks on.ready.each serves.tasks_are;
      views_are = serves.views_are ∙ sym (map_with asked.cursor c new (λ (e : List ℕ × OpenCursor). (e.0, view_names (view_of e.1.rows))) (λ n. ap (λ (ps : List Part). (n, view_names ps)) view_is) was.cursors is);
    };
    reply_is = λ w serves.
        let d = agree_some (λ (x : model.Cursor). x.name) (GivesRows a.files p.maps) asked.cursor was.cursors w.session.cursors c is serves.cursors_are in
        (prints d.2.0 d.2.1).0
        ∙ ap (λ (rs : model.Rows). reply_old ++ rows_lines rs)
        (sym (ap (λ (found : Option model.Cursor). take asked.count (option_map_or (λ (x : model.Cursor). x.rows) found [])) d.1 ∙ ap (take asked.count) d.2.2 ∙ take-map (row_picked c.rows.reader.picked) asked.count d.2.0));
    ready = goes_on_same a b change p was.views was.tasks.items on;
    cursors = kept;
    classes = λ knows. record {
      tables = knows.tables;
      tasks = knows.tasks;
      cursors = all_with asked.cursor c new (λ (e : List ℕ × OpenCursor). KnowsWhere kinds e.1.rows.reader.rows.filter)
          (λ n. subst (KnowsWhere kinds) (sym filter_is) (found_all asked.cursor c (λ (d : OpenCursor). KnowsWhere kinds d.rows.reader.rows.filter) was.cursors knows.cursors is)) was.cursors knows.cursors;
    };
    names = map_with asked.cursor c new (λ (e : List ℕ × OpenCursor). e.0) (λ n. refl) was.cursors is;
    few = λ d found. subst (λ (x : OpenCursor). PrintsAtMost x.rows.reader.picked asked.count reply_old reply_new) (one_found c d (cursor_of asked.cursor was.cursors) is found) at_most;
  }
