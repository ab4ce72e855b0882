-- The files of a view that is given back: which of them are deleted, and which views and tables have the others.
use Rattle.std.proofs.Common.{◌≡◌, ◌⊎◌, ◌<◌, ◌≤◌, ◌+◌, ◌-◌, ◌&&◌, ◌||◌, ◌++◌, ℕ, Bool, true, false, not, if◌then◌else◌, nat_eq, List, [], ◌∷◌, map, slice_get, Option, Some, inl, inr, refl, sym, ap, ap₂, subst, ◌∙◌, arith, nat_lt}
use Rattle.std.proofs.lemmas.Bool.Decides.{nat_tests}
use Rattle.std.specs.Prelude.{Contains}
use Rattle.std.specs.List.{AllByRecursion, list_any}
use Rattle.std.specs.Option.{option_map_or}
use Rattle.sasi_host.specs.declared.name.FileName.{FileName}
use Rattle.sasi_host.specs.Names.{data_name, name_eq, rank}
use Rattle.sasi_manifest.specs.Edits.{files_of}
use Rattle.sasi_manifest.specs.FileNames.{has_name}
use Rattle.sasi_manifest.specs.ListedDefinition.{ListedDefinition}
use Rattle.sasi_manifest.specs.ListedFiles.{has_file, index_name, is_name_of}
use Rattle.sasi_manifest.specs.declared.files.ListedFile.{ListedFile}
use Rattle.sasi_manifest.specs.declared.files.PartNumber.{PartNumber}
use Rattle.sasi_layout.proofs.FileNameLaws.{data_named, kind_unnamed, name_itself, number_unnamed}
use Rattle.sasi_engine.specs.Plans.{is_file_of, names_of}
use Rattle.sasi_tables.specs.declared.parts.Parts.{Parts}
use Rattle.sasi_tasks.specs.Running.{IsUnlisted, is_held}
use Rattle.sasi_tasks.specs.Unheld.{AreOnce, AreUnchosen, is_counted, is_left, is_one_of}
use Rattle.sasi_views.specs.Books.{Book, count_of}
use Rattle.sasi_views.specs.Changes.{Given}
use Rattle.sasi_views.specs.Components.{lists}
use Rattle.sasi_views.specs.Parts.{ListsOnce, components_of, part_components}
use Rattle.sasi_views.specs.declared.component.Component.TheVariants as component
use Rattle.sasi_views.specs.declared.part.Part.{Part}
use Rattle.sasi_views.specs.declared.part.Part.TheVariants.{File, Map}
use Rattle.sasi_store.specs.Cursors.{IsKeptPart, view_names}
use Rattle.sasi_store.proofs.CountedFiles.{same_file, view_lists}
use Rattle.sasi_store.proofs.HeldFiles.{file_lists}
use Rattle.sasi_store.proofs.OpenedCursors.{names_any}
use Rattle.sasi_store.proofs.ViewDamage.{all_within, has_each, listed_any}
use Rattle.sasi_store.proofs.ViewFiles.{lists_both, table_names}

abbrev one_if : Bool → ℕ
one_if b = if b then 1 else 0

never : true ≡ false → ⊥
never e = cc

-- ---- names of a list

-- what holds of each name that is among them
pub all_named : (P : FileName → Type 0) (names : List FileName) → ((name : FileName) → list_any (name_eq name) names ≡ true → P name) → AllByRecursion P names
all_named P [] each = tt
all_named P (n ∷ ns) each = (
  each n (ap (λ b. b || list_any (name_eq n) ns) (name_itself n)),
  all_named P ns (λ name is. each name (later (name_eq name n) (list_any (name_eq name) ns) is)),
)
  where
    later : (a b : Bool) → b ≡ true → (a || b) ≡ true
    later true b is = refl
    later false b is = is

-- how often a name stands among them
counted : FileName → List FileName → ℕ
counted name [] = 0
counted name (n ∷ ns) = one_if (name_eq name n) + counted name ns

none_counted : (name : FileName) (ns : List FileName) → counted name ns ≡ 0 → list_any (name_eq name) ns ≡ false
unfolding counted
none_counted name [] none = refl
none_counted name (n ∷ ns) none = by (name_eq name n) none (none_counted name ns)
  where
    by : (b : Bool) → one_if b + counted name ns ≡ 0 → (counted name ns ≡ 0 → list_any (name_eq name) ns ≡ false) → (b || list_any (name_eq name) ns) ≡ false
    by true none rest = absurd (omega (arith, none))
    by false none rest = rest (omega (arith, none))

once_counted : (ns : List FileName) → ((name : FileName) → counted name ns ≤ 1) → AreOnce ns
unfolding counted
once_counted [] few = tt
once_counted (n ∷ ns) few = (
  none_counted n ns (omega (arith, few n, ap one_if (name_itself n))),
  once_counted ns (λ name. omega (arith, few name)),
)

counted_both : (name : FileName) (xs ys : List FileName) → counted name (xs ++ ys) ≡ counted name xs + counted name ys
unfolding counted
counted_both name [] ys = omega arith
counted_both name (x ∷ xs) ys = omega (arith, counted_both name xs ys)

indexes_counted : (name : FileName) (number : ℕ) (ps : List PartNumber) → lists (component.File name) (map (λ (p : PartNumber). component.File (index_name number p)) ps) ≡ counted name (map (index_name number) ps)
unfolding counted
indexes_counted name number [] = refl
indexes_counted name number (p ∷ ps) = omega (arith, ap one_if (same_file name (index_name number p)), indexes_counted name number ps)

part_counted : (name : FileName) (part : Part) → lists (component.File name) (part_components part) ≡ counted name (names_of part)
unfolding counted
part_counted name (Map n) = refl
part_counted name (File number indexes) = omega (arith, ap one_if (same_file name (data_name number)), indexes_counted name number indexes)

view_counted : (name : FileName) (ps : List Part) → lists (component.File name) (components_of ps) ≡ counted name (view_names ps)
unfolding counted
view_counted name [] = refl
view_counted name (part ∷ ps) =
    omega (
      arith,
      lists_both (component.File name) (part_components part) (components_of ps),
      counted_both name (names_of part) (view_names ps),
      part_counted name part,
      view_counted name ps,
    )

-- **No name of a view stands twice that lists each component once.**
pub names_once : (ps : List Part) → ListsOnce ps → AreOnce (view_names ps)
names_once ps once = once_counted (view_names ps) (λ name. omega (arith, once (component.File name), view_counted name ps))

-- ---- where a name of a view stands

named_number : (f : ListedFile) (name : FileName) → is_name_of f name ≡ true → name.number ≡ f.number
named_number f name is = by (nat_eq name.number f.number) refl
  where
    by : (b : Bool) → nat_eq name.number f.number ≡ b → name.number ≡ f.number
    by true own = grind (arith, nat_tests, own)
    by false apart = absurd (never (sym is ∙ number_unnamed name f (grind (arith, nat_tests, apart))))

named_kind : (f : ListedFile) (name : FileName) → is_name_of f name ≡ true → 3 ≤ rank name.kind
named_kind f name is = by (nat_lt (rank name.kind) 3) refl
  where
    by : (b : Bool) → nat_lt (rank name.kind) 3 ≡ b → 3 ≤ rank name.kind
    by false above = grind (arith, nat_tests, above)
    by true low = absurd (never (sym is ∙ kind_unnamed name f (grind (arith, nat_tests, low))))

module _ (p : Parts) (table : ℕ) (row : ListedDefinition) (there : slice_get p.manifest.listing.tables (table - 1) ≡ Some row) where
  abbrev tables : List ListedDefinition
  tables = p.manifest.listing.tables

  abbrev files : List ListedFile
  files = files_of tables table

  -- its table has it and its number, or no table does
  abbrev pub IsPlaced : FileName → Type 0
  IsPlaced name = ((has_name tables name ≡ true) × (has_file files name.number ≡ true)) ⊎ ((has_name tables name ≡ false) × (has_file files name.number ≡ false))

  files_are : files ≡ row.files
  files_are = ap (λ (o : Option ListedDefinition). option_map_or (λ (x : ListedDefinition). x.files) o []) there

  number_listed : (n : ℕ) → has_file files n ≡ true → has_name tables (data_name n) ≡ true
  number_listed n has = data_named n tables ∙ listed_any tables (table - 1) row there n (ap (λ (fs : List ListedFile). has_file fs n) (sym files_are) ∙ has)

  file_placed : (f : ListedFile) → Contains files f ⊎ IsUnlisted f.number p.manifest.listing → (name : FileName) → is_name_of f name ≡ true → IsPlaced name
  file_placed f (inl has) name is = inl (
    table_names tables (table - 1) row there f (subst (λ (fs : List ListedFile). Contains fs f) files_are has) name is,
    ap (has_file files) (named_number f name is) ∙ all_within (λ (g : ListedFile). has_file files g.number ≡ true) files f has.0 has.1 has.2 (has_each files),
  )
  file_placed f (inr gone) name is = inr (by (has_name tables name) refl, at (has_file files name.number) refl)
    where
      by : (b : Bool) → has_name tables name ≡ b → b ≡ false
      by false none = refl
      by true has = absurd (gone name has (named_number f name is))

      at : (b : Bool) → has_file files name.number ≡ b → b ≡ false
      at false none = refl
      at true has = absurd (gone (data_name name.number) (number_listed name.number has) (named_number f name is))

  -- **Each name of a view that is kept is placed, of a used number.**
  pub names_placed : (ps : List Part) → AllByRecursion (IsKeptPart p table) ps → (name : FileName) → is_file_of ps name ≡ true → IsPlaced name × (3 ≤ rank name.kind) × (name.number ≤ p.numbers.«data»)
  names_placed [] all name is = cc
  names_placed (Map n ∷ ps) all name is = names_placed ps all.1 name is
  names_placed (File number indexes ∷ ps) all name is = by (list_any (name_eq name) (names_of (File number indexes))) refl is (names_placed ps all.1 name)
    where
      by : (b : Bool) → list_any (name_eq name) (names_of (File number indexes)) ≡ b → (b || is_file_of ps name) ≡ true → (is_file_of ps name ≡ true → IsPlaced name × (3 ≤ rank name.kind) × (name.number ≤ p.numbers.«data»))
          → IsPlaced name × (3 ≤ rank name.kind) × (name.number ≤ p.numbers.«data»)
      by true own later rest =
          let f : ListedFile = record { number = number; parts = indexes } in
          (file_placed f all.0.1 name own, named_kind f name own, omega (arith, named_number f name own, all.0.0))
      by false other later rest = rest later

  -- ---- the files that are deleted

  module _ (was views : Book) (ps : List Part) (given : Given was views (components_of ps)) (once : ListsOnce ps) (kept : AllByRecursion (IsKeptPart p table) ps) where
    abbrev pub deletes : FileName → Bool
    deletes = is_one_of (is_left was files) (view_names ps)

    abbrev among : FileName → Bool
    among name = list_any (name_eq name) (view_names ps)

    placed : (name : FileName) → among name ≡ true → IsPlaced name × (3 ≤ rank name.kind) × (name.number ≤ p.numbers.«data»)
    placed name is = names_placed ps kept name (names_any name ps ∙ is)

    -- it lists each of its names once
    own_listed : (name : FileName) → among name ≡ true → lists (component.File name) (components_of ps) ≡ 1
    own_listed name is = omega (arith, once (component.File name), file_lists name ps (names_any name ps ∙ is))

    -- none of a table
    pub deletes_unlisted : (name : FileName) → has_name tables name ≡ true → deletes name ≡ false
    deletes_unlisted name is = by (among name) (has_file files name.number) refl refl
      where
        other : IsPlaced name → has_file files name.number ≡ true
        other (inl has) = has.1
        other (inr none) = absurd (never (sym is ∙ none.0))

        by : (a h : Bool) → among name ≡ a → has_file files name.number ≡ h → (a && (not h && is_counted was 1 name)) ≡ false
        by false h among_is has_is = refl
        by true true among_is has_is = refl
        by true false among_is has_is = absurd (never (sym (other (placed name among_is).0) ∙ has_is))

    -- and no other kind of file
    pub deletes_low : (name : FileName) → rank name.kind < 3 → deletes name ≡ false
    deletes_low name low = by (among name) refl
      where
        by : (a : Bool) → among name ≡ a → (a && is_left was files name) ≡ false
        by false is = refl
        by true is = absurd (omega (arith, (placed name is).1, low))

    -- What is deleted is a name of the view, which no table has; the view alone counted it.
    pub record IsDeleted (name : FileName) : Type 0 where
      pub own : among name ≡ true
      pub unlisted : has_name tables name ≡ false
      pub was_one : count_of was (component.File name) ≡ 1
      pub now_none : count_of views (component.File name) ≡ 0

    pub deleted : (name : FileName) → deletes name ≡ true → IsDeleted name
    deleted name is = by (among name) (has_file files name.number) (is_counted was 1 name) refl refl refl is
      where
        other : IsPlaced name → has_file files name.number ≡ false → has_name tables name ≡ false
        other (inl has) none = absurd (never (sym has.1 ∙ none))
        other (inr none) is = none.0

        by : (a h k : Bool) → among name ≡ a → has_file files name.number ≡ h → is_counted was 1 name ≡ k → (a && (not h && k)) ≡ true → IsDeleted name
        by false h k among_is has_is counted_is all = cc
        by true true k among_is has_is counted_is all = cc
        by true false false among_is has_is counted_is all = cc
        by true false true among_is has_is counted_is all =
            let one : count_of was (component.File name) ≡ 1 = grind (arith, nat_tests, counted_is) in
            record {
              own = among_is;
              unlisted = other (placed name among_is).0 has_is;
              was_one = one;
              now_none = omega (arith, one, own_listed name among_is, given.counts (component.File name));
            }

    -- what is held was held,
    pub held_before : (name : FileName) → is_held views name ≡ true → is_held was name ≡ true
    held_before name is = by (nat_eq (count_of was (component.File name)) 0) refl
      where
        by : (b : Bool) → nat_eq (count_of was (component.File name)) 0 ≡ b → not b ≡ true
        by false some = refl
        by true none =
            let before : count_of was (component.File name) ≡ 0 = grind (arith, nat_tests, none) in
            let now : count_of views (component.File name) ≡ 0 = omega (arith, before, given.counts (component.File name)) in
            let zero : nat_eq (count_of views (component.File name)) 0 ≡ true = grind (arith, nat_tests, now) in
            absurd (never (sym is ∙ ap not zero))

    -- and isn't deleted;
    pub held_stays : (name : FileName) → is_held views name ≡ true → deletes name ≡ false
    held_stays name is = by (deletes name) refl
      where
        by : (b : Bool) → deletes name ≡ b → b ≡ false
        by false other = refl
        by true gone =
            let now = (deleted name gone).now_none in
            let zero : nat_eq (count_of views (component.File name)) 0 ≡ true = grind (arith, nat_tests, now) in
            absurd (never (sym is ∙ ap not zero))

    -- what was held and isn't deleted is held, or a table has it.
    pub held_same : (name : FileName) → deletes name ≡ false → has_name tables name ≡ false → is_held views name ≡ is_held was name
    held_same name other unlisted = by (among name) refl
      where
        hidden : IsPlaced name → has_file files name.number ≡ false
        hidden (inl has) = absurd (never (sym has.0 ∙ unlisted))
        hidden (inr none) = none.1

        by : (a : Bool) → among name ≡ a → is_held views name ≡ is_held was name
        by false is = ap (λ (n : ℕ). not (nat_eq n 0)) (let none : lists (component.File name) (components_of ps) ≡ 0 = view_lists name ps is in omega (arith, none, given.counts (component.File name)))
        by true is =
            let none = hidden (placed name is).0 in
            let more : is_counted was 1 name ≡ false = ap₂ (λ a h. a && (not h && is_counted was 1 name)) (sym is) (sym none) ∙ other in
            let one = own_listed name is in
            let counts = given.counts (component.File name) in
            let some : nat_eq (count_of views (component.File name)) 0 ≡ false = grind (arith, nat_tests, more, one, counts) in
            let before : nat_eq (count_of was (component.File name)) 0 ≡ false = grind (arith, nat_tests, one, counts) in
            ap not some ∙ sym (ap not before)

    -- Where a table has all of them, none is deleted.
    pub none_left : AllByRecursion (λ (file : FileName). has_name tables file ≡ true) (view_names ps) → AreUnchosen (is_left was files) (view_names ps)
    none_left all = each (view_names ps) (λ name is. is) all
      where
        other : (name : FileName) → has_name tables name ≡ true → IsPlaced name → has_file files name.number ≡ true
        other name is (inl has) = has.1
        other name is (inr none) = absurd (never (sym is ∙ none.0))

        later : (a b : Bool) → b ≡ true → (a || b) ≡ true
        later true b is = refl
        later false b is = is

        each : (ns : List FileName) → ((name : FileName) → list_any (name_eq name) ns ≡ true → among name ≡ true) → AllByRecursion (λ (file : FileName). has_name tables file ≡ true) ns → AreUnchosen (is_left was files) ns
        each [] within all = tt
        each (n ∷ ns) within all = (
          ap (λ h. not h && is_counted was 1 n) (other n all.0 (placed n (within n (ap (λ b. b || list_any (name_eq n) ns) (name_itself n)))).0),
          each ns (λ name is. within name (later (name_eq name n) (list_any (name_eq name) ns) is)) all.1,
        )
