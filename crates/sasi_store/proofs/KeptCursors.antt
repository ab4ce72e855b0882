-- A step that leaves the files and the maps that views list, and the types of columns, leaves the open cursors: each can be read on, and has the same rows left.
use Rattle.std.proofs.Common.{◌≡◌, ◌<◌, ◌≤◌, ◌-◌, ◌||◌, ℕ, Bool, true, false, if◌then◌else◌, List, [], ◌∷◌, length, map, slice_get, Option, Some, IsSome, inl, inr, refl, sym, ap, subst, arith}
use Rattle.std.proofs.lemmas.List.{length-map}
use Rattle.std.specs.List.{AllByRecursion, list_any}
use Rattle.std.specs.Cmp.{eq_by_cmp_equiv}
use Rattle.sasi_host.proofs.ContentLaws.{contents_kept, told_before}
use Rattle.sasi_host.specs.declared.name.FileName.{FileName}
use Rattle.sasi_host.specs.Disk.{Changes, Same}
use Rattle.sasi_host.specs.Names.{Folder, data_name, name_eq}
use Rattle.sasi_host.specs.View.{View, contents_in}
use Rattle.sasi_manifest.specs.ListedFiles.{index_name}
use Rattle.sasi_manifest.specs.ListedDefinition.{ListedDefinition}
use Rattle.sasi_manifest.specs.declared.listing.Listing.{Listing}
use Rattle.sasi_model.specs.Abbreviations.{types_of}
use Rattle.sasi_model.specs.Sessions as model
use Rattle.sasi_memindex.proofs.GrowthLaws.{grown_not}
use Rattle.sasi_sources.specs.Maps.{IsOneOf}
use Rattle.std.specs.FinMap as map_
use Rattle.std.specs.FinMap.{get}
use Rattle.sasi_types.specs.declared.column.ColumnType.{ColumnType}
use Rattle.sasi_views.proofs.BookLaws.{new_counted}
use Rattle.sasi_views.specs.Books.{Book, count_of}
use Rattle.sasi_views.specs.ComponentLaws.{components_total}
use Rattle.sasi_views.specs.Components.{lists, same}
use Rattle.sasi_views.specs.Kept.{IsCounted, listed_by}
use Rattle.sasi_views.specs.Parts.{components_of, part_components}
use Rattle.sasi_views.specs.declared.component.Component.{Component}
use Rattle.sasi_views.specs.declared.component.Component.TheVariants as component
use Rattle.sasi_views.specs.declared.part.Part.{Part}
use Rattle.sasi_views.specs.declared.part.Part.TheVariants.{File, Map}
use Rattle.sasi_cursors.specs.Agreement.{Agrees}
use Rattle.sasi_engine.specs.Plans.{map_numbers}
use Rattle.sasi_fetch.proofs.CursorLaws.{StaysInView, still_left, still_readable}
use Rattle.sasi_fetch.specs.Cursors.{IsReadable, view_of}
use Rattle.sasi_tables.specs.Pinned.{IsAside, KeepsPinned}
use Rattle.sasi_tables.specs.declared.parts.Parts.{Parts}
use Rattle.sasi_store.specs.Cursors.{AreCursors, AreCursorsOf, GivesRows, HasFewOut, IsKept, IsKeptPart, Opened, views_out}
use Rattle.sasi_store.specs.declared.session_state.OpenCursor.{OpenCursor}
use Rattle.sasi_store.specs.declared.session_state.SessionState.{SessionState}
use Rattle.sasi_store.proofs.HeldFiles.{file_lists, held_some}
use Rattle.sasi_store.proofs.SameFiles.{same_held}
use Rattle.sasi_store.proofs.ViewFiles.{lists_both}
use Rattle.sasi_tasks.specs.MakesTaskMoves.{KeepsHeld}
use Rattle.sasi_tasks.specs.Running.{KeepsPlaces, is_held}
use Rattle.sasi_layout.proofs.FileNameLaws.{name_itself}

-- ---- the parts of a cursor's view

-- its maps were frozen
parts_aside : (p : Parts) (table n : ℕ) (parts : List Part) → AllByRecursion (IsKeptPart p table) parts → IsOneOf (map_numbers parts) n → IsAside p n
parts_aside p table n [] all has = absurd has
parts_aside p table n (File number indexes ∷ parts) all has = parts_aside p table n parts all.1 has
parts_aside p table n (Map m ∷ parts) all (inl is) = subst (IsAside p) (sym is) all.0
parts_aside p table n (Map m ∷ parts) all (inr later) = parts_aside p table n parts all.1 later

abbrev one_if : Bool → ℕ
one_if b = if b then 1 else 0

-- each of its maps is listed
parts_list : (n : ℕ) (parts : List Part) → IsOneOf (map_numbers parts) n → 0 < lists (component.Map n) (components_of parts)
parts_list n [] has = absurd has
parts_list n (File number indexes ∷ parts) has = omega (arith, lists_both (component.Map n) (part_components (File number indexes)) (components_of parts), parts_list n parts has)
parts_list n (Map m ∷ parts) (inl is) =
    let own : same (component.Map m) (component.Map n) ≡ true = subst (λ (k : ℕ). same (component.Map m) (component.Map k) ≡ true) (sym is) ((eq_by_cmp_equiv components_total).refl (component.Map m)) in
    omega (arith, ap one_if own)
parts_list n (Map m ∷ parts) (inr later) = omega (arith, parts_list n parts later)

-- ---- before the first step

-- **No cursor is open, and no view is out.**
pub new_cursors : (files : Option Folder) (p : Parts) (session : SessionState) → session.cursors ≡ [] → session.views ≡ record { known = map_.empty; out = 0 } → AreCursors files p session
new_cursors files p session none fresh = record {
  counted = subst (λ (es : Opened). IsCounted session.views (views_out es)) (sym none) (new_counted session.views fresh);
  kept = subst (AllByRecursion (λ (e : List ℕ × OpenCursor). IsKept files p e.1)) (sym none) tt;
  few = subst (λ (es : Opened). length es ≤ 64) (sym none) (omega arith);
}

-- ---- before a SELECT

-- so few views are out that one more can be counted
pub few_out : (files : Option Folder) (p : Parts) (session : SessionState) → AreCursors files p session → HasFewOut session.views
few_out files p session are = (views_out session.cursors, are.counted, omega (arith, are.few, length-map session.cursors (λ (e : List ℕ × OpenCursor). view_of e.1.rows)))

-- ---- what a step leaves

-- each table has columns of the types that it had
abbrev pub KeepsTypes : Listing → Listing → Type 0
KeepsTypes old new = (at : ℕ) (t : ListedDefinition) → slice_get old.tables at ≡ Some t → (u : ListedDefinition) × (slice_get new.tables at ≡ Some u) × (types_of u.definition ≡ types_of t.definition)

-- The files that views list which are out read as before, and each is listed still or listed no more; the maps that views list stay, but for indexes that are added, and so
-- do the types of columns.
pub record KeepsViews (was now : Option Folder) (views : Book) (old new : Parts) : Type 0 where
  pub told : IsSome now → IsSome was
  pub files : (name : FileName) → is_held views name ≡ true → contents_in now name ≡ contents_in was name
  pub places : KeepsPlaces views old.manifest.listing new.manifest.listing
  pub numbers : old.numbers.«data» ≤ new.numbers.«data»
  pub types : KeepsTypes old.manifest.listing new.manifest.listing
  pub maps : KeepsPinned views old new

-- **So it is after changes that leave the files that views list,**
pub keeps_changed : (a b : View) (views : Book) (old new : Parts) → Changes (KeepsHeld views) a b → KeepsPlaces views old.manifest.listing new.manifest.listing → old.numbers.«data» ≤ new.numbers.«data» → KeepsTypes old.manifest.listing new.manifest.listing → KeepsPinned views old new
    → KeepsViews a.files b.files views old new
keeps_changed a b views old new changes places numbers types maps = record {
  told = told_before (KeepsHeld views) a b changes;
  files = λ name held. contents_kept a b (KeepsHeld views) name (λ x y kept. kept name held) changes;
  places = places;
  numbers = numbers;
  types = types;
  maps = maps;
}

-- **and where tables and files stay.**
pub keeps_same : (a b : View) (views : Book) (p : Parts) → Changes Same a b → KeepsViews a.files b.files views p p
keeps_same a b views p changes =
    keeps_changed a b views p p (same_held a b changes views) (λ table f held place. place) (omega arith) (λ at t there. (t, there, refl)) (record { stay = λ n aside some. grown_not (get p.maps n); aside = λ n is. is })

-- each component of these is counted
abbrev pub AreCounted : Book → List Part → Type 0
AreCounted views parts = (c : Component) → 0 < lists c (components_of parts) → 0 < count_of views c

module _ (was now : Option Folder) (views : Book) (old new : Parts) (keeps : KeepsViews was now views old new) where
  -- a part of a view is kept whose data file is held
  part_kept : (table : ℕ) (part : Part) → AreCounted views (part ∷ []) → IsKeptPart old table part → IsKeptPart new table part
  part_kept table (File number indexes) out kept =
      let once : 0 < lists (component.File (data_name number)) (components_of (File number indexes ∷ [])) = file_lists (data_name number) (File number indexes ∷ []) (data_own number (list_any (name_eq (data_name number)) (map (index_name number) indexes))) in
      (omega (arith, kept.0, keeps.numbers), keeps.places table (record { number = number; parts = indexes }) (held_some views (data_name number) (out (component.File (data_name number)) once)) kept.1)
    where
      data_own : (n : ℕ) (more : Bool) → ((name_eq (data_name n) (data_name n) || more) || false) ≡ true
      data_own n more = ap (λ (b : Bool). (b || more) || false) (name_itself (data_name n))
  part_kept table (Map n) out kept = keeps.maps.aside n kept

  first_counted : (part : Part) (parts : List Part) → AreCounted views (part ∷ parts) → AreCounted views (part ∷ [])
  first_counted part parts out c some = out c (omega (arith, some, lists_both c (part_components part) (components_of parts), lists_both c (part_components part) []))

  others_counted : (part : Part) (parts : List Part) → AreCounted views (part ∷ parts) → AreCounted views parts
  others_counted part parts out c some = out c (omega (arith, some, lists_both c (part_components part) (components_of parts)))

  parts_kept : (table : ℕ) (parts : List Part) → AreCounted views parts → AllByRecursion (IsKeptPart old table) parts → AllByRecursion (IsKeptPart new table) parts
  parts_kept table [] out all = tt
  parts_kept table (part ∷ parts) out all = (part_kept table part (first_counted part parts out) all.0, parts_kept table parts (others_counted part parts out) all.1)

  module _ (c : OpenCursor) (is : IsKept was old c) (out : AreCounted views (view_of c.rows)) where
    stays : StaysInView c.rows was now old.maps new.maps
    stays = record {
      told = keeps.told;
      files = λ name is_file. keeps.files name (held_some views name (out (component.File name) (file_lists name (view_of c.rows) is_file)));
      maps = λ n has. keeps.maps.stay n (parts_aside old c.table n (view_of c.rows) is.parts has) (out (component.Map n) (parts_list n (view_of c.rows) has));
    }

    -- the cursor can be read on
    cursor_kept : IsKept now new c
    cursor_kept =
        let u = keeps.types (c.table - 1) is.row is.there in
        record {
          some = is.some;
          row = u.0;
          there = u.1;
          readable = subst (λ (types : List ColumnType). IsReadable types now new.maps c.rows) (sym u.2) (still_readable (types_of is.row.definition) was now old.maps new.maps c.rows is.readable stays);
          parts = parts_kept c.table (view_of c.rows) out is.parts;
          once = is.once;
        }

    -- and has the same rows left
    cursor_still : (x : model.Cursor) → GivesRows was old.maps c x → GivesRows now new.maps c x
    cursor_still x gives = (gives.0, still_left (types_of is.row.definition) was now old.maps new.maps c.rows is.readable stays gives.0 gives.1, gives.2)

  -- what these cursors list is counted
  abbrev pub AreOut : Opened → Type 0
  AreOut cursors = (c : Component) → 0 < listed_by c (views_out cursors) → 0 < count_of views c

  first_out : (e : List ℕ × OpenCursor) (es : Opened) → AreOut (e ∷ es) → AreCounted views (view_of e.1.rows)
  first_out e es out c some = out c (omega (arith, some))

  others_out : (e : List ℕ × OpenCursor) (es : Opened) → AreOut (e ∷ es) → AreOut es
  others_out e es out c some = out c (omega (arith, some))

  -- each of these cursors can be read on
  pub all_kept : (es : Opened) → AreOut es → AllByRecursion (λ (e : List ℕ × OpenCursor). IsKept was old e.1) es → AllByRecursion (λ (e : List ℕ × OpenCursor). IsKept now new e.1) es
  all_kept [] out all = tt
  all_kept (e ∷ es) out all = (cursor_kept e.1 all.0 (first_out e es out), all_kept es (others_out e es out) all.1)

  -- and is that of a session that it was
  pub all_still : (es : Opened) (xs : List model.Cursor) → AreOut es → AllByRecursion (λ (e : List ℕ × OpenCursor). IsKept was old e.1) es → Agrees (λ (x : model.Cursor). x.name) (GivesRows was old.maps) es xs
      → Agrees (λ (x : model.Cursor). x.name) (GivesRows now new.maps) es xs
  all_still [] [] out all agrees = tt
  all_still [] (x ∷ xs) out all agrees = absurd agrees
  all_still (e ∷ es) [] out all agrees = absurd agrees
  all_still (e ∷ es) (x ∷ xs) out all agrees = ((agrees.0.0, cursor_still e.1 all.0 (first_out e es out) x agrees.0.1), all_still es xs (others_out e es out) all.1 agrees.1)

module _ (was now : Option Folder) (old new : Parts) (session : SessionState) (are : AreCursors was old session) (keeps : KeepsViews was now session.views old new) where
  each_out : AreOut was now session.views old new keeps session.cursors
  each_out c some = omega (arith, some, are.counted.counts c)

  -- **The open cursors can be read on,**
  pub cursors_kept : AreCursors now new session
  cursors_kept = record { counted = are.counted; kept = all_kept was now session.views old new keeps session.cursors each_out are.kept; few = are.few }

  -- **and are those of the same session.**
  pub cursors_still : (x : model.SessionState) → AreCursorsOf was old.maps session.cursors x → AreCursorsOf now new.maps session.cursors x
  cursors_still x agrees = all_still was now session.views old new keeps session.cursors x.cursors each_out are.kept agrees
