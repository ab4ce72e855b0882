-- How many views list a file is how many cursors hold it.
use Rattle.std.proofs.Common.{◌≡◌, ◌≤◌, ◌+◌, ◌||◌, ℕ, Bool, true, false, cond, if◌then◌else◌, true≢false, filter, length, List, [], ◌∷◌, map, Option, refl, sym, ap, ap₂, ◌∙◌, arith}
use Rattle.std.proofs.lemmas.List.Folds.{list_any-append}
use Rattle.std.specs.List.{AllByRecursion, list_any}
use Rattle.sasi_host.specs.declared.name.FileName.{FileName}
use Rattle.sasi_host.specs.NameLaws.{same_name, test_here}
use Rattle.sasi_host.specs.Names.{Folder, data_name, name_eq}
use Rattle.sasi_layout.proofs.FileNameLaws.{name_itself, name_same}
use Rattle.sasi_manifest.specs.ListedFiles.{index_name}
use Rattle.sasi_manifest.specs.declared.files.PartNumber.{PartNumber}
use Rattle.sasi_print.specs.Files.{file_text}
use Rattle.sasi_views.specs.Books.{count_of}
use Rattle.sasi_views.specs.Components.{among, lists, same}
use Rattle.sasi_views.specs.Kept.{listed_by}
use Rattle.sasi_views.specs.Parts.{ListsOnce, components_of, part_components}
use Rattle.sasi_views.specs.declared.component.Component.{Component}
use Rattle.sasi_views.specs.declared.component.Component.TheVariants as component
use Rattle.sasi_views.specs.declared.part.Part.{Part}
use Rattle.sasi_views.specs.declared.part.Part.TheVariants.{File, Map}
use Rattle.sasi_engine.specs.Plans.{names_of}
use Rattle.sasi_fetch.specs.Cursors.{view_of}
use Rattle.sasi_tables.specs.declared.parts.Parts.{Parts}
use Rattle.sasi_store.specs.Cursors.{AreCursors, IsKept, Opened, view_names, views_out, views_told}
use Rattle.sasi_store.specs.ToldFiles.{counted_texts}
use Rattle.sasi_store.specs.Worlds.{pinned}
use Rattle.sasi_store.specs.declared.show_files.ToldFile.{ToldFile}
use Rattle.sasi_store.specs.declared.session_state.OpenCursor.{OpenCursor}
use Rattle.sasi_store.specs.declared.session_state.SessionState.{SessionState}

abbrev one_if : Bool → ℕ
one_if b = if b then 1 else 0

-- what is listed once at most is listed once where it is among them
listed_once : (c : Component) (xs : List Component) → lists c xs ≤ 1 → lists c xs ≡ one_if (among c xs)
listed_once c [] few = refl
listed_once c (x ∷ xs) few = by (same x c) few (listed_once c xs)
  where
    by : (b : Bool) → one_if b + lists c xs ≤ 1 → (lists c xs ≤ 1 → lists c xs ≡ one_if (among c xs)) → one_if b + lists c xs ≡ one_if (b || among c xs)
    by true few rest = omega (arith, few)
    by false few rest = omega (arith, rest (omega (arith, few)))

module _ (name : FileName) where
  abbrev file : Component
  file = component.File name

  pub same_file : (a : FileName) → same (component.File a) file ≡ name_eq name a
  same_file a = by (same (component.File a) file) (name_eq name a) refl refl
    where
      by : (x y : Bool) → same (component.File a) file ≡ x → name_eq name a ≡ y → x ≡ y
      by true true is own = refl
      by false false is own = refl
      by true false is own = (let here : a ≡ name = same_name a name is in absurd (true≢false (sym (name_itself name) ∙ ap (name_eq name) (sym here) ∙ own)))
      by false true is own =
          (let here : name ≡ a = name_same name a own in
          absurd (true≢false (sym (test_here name) ∙ ap (λ (n : FileName). same (component.File n) file) here ∙ is)))

  indexes_among : (number : ℕ) (ps : List PartNumber) → among file (map (λ (p : PartNumber). component.File (index_name number p)) ps) ≡ list_any (name_eq name) (map (index_name number) ps)
  indexes_among number [] = refl
  indexes_among number (p ∷ ps) = ap₂ (λ (a b : Bool). a || b) (same_file (index_name number p)) (indexes_among number ps)

  part_among : (part : Part) → among file (part_components part) ≡ list_any (name_eq name) (names_of part)
  part_among (File number indexes) = ap₂ (λ (a b : Bool). a || b) (same_file (data_name number)) (indexes_among number indexes)
  part_among (Map number) = refl

  view_among : (parts : List Part) → among file (components_of parts) ≡ list_any (name_eq name) (view_names parts)
  view_among [] = refl
  view_among (part ∷ parts) =
      list_any-append (λ (x : Component). same x file) (part_components part) (components_of parts)
      ∙ ap₂ (λ (a b : Bool). a || b) (part_among part) (view_among parts) ∙ sym (list_any-append (name_eq name) (names_of part) (view_names parts))

  -- what isn't among them isn't listed,
  not_listed : (xs : List Component) → among file xs ≡ false → lists file xs ≡ 0
  not_listed [] none = refl
  not_listed (x ∷ xs) none = by (same x file) none (not_listed xs)
    where
      by : (b : Bool) → (b || among file xs) ≡ false → (among file xs ≡ false → lists file xs ≡ 0) → one_if b + lists file xs ≡ 0
      by true none rest = cc
      by false none rest = omega (arith, rest none)

  -- so a view lists only its own files,
  pub view_lists : (parts : List Part) → list_any (name_eq name) (view_names parts) ≡ false → lists file (components_of parts) ≡ 0
  view_lists parts none = not_listed (components_of parts) (view_among parts ∙ none)

  -- those of the cursors that hold it
  abbrev held : Opened → List (List ℕ × List FileName)
  held es = filter (λ (view : List ℕ × List FileName). list_any (name_eq name) view.1) (views_told es)

  cursors_pinned : (es : Opened) → AllByRecursion (λ (e : List ℕ × OpenCursor). ListsOnce (view_of e.1.rows)) es → listed_by file (views_out es) ≡ pinned name (views_told es)
  cursors_pinned [] once = refl
  cursors_pinned (e ∷ es) once =
      by (list_any (name_eq name) (view_names (view_of e.1.rows)))
      (listed_once file (components_of (view_of e.1.rows)) (once.0 file) ∙ ap one_if (view_among (view_of e.1.rows))) (cursors_pinned es once.1)
    where
      by : (b : Bool) → lists file (components_of (view_of e.1.rows)) ≡ one_if b → listed_by file (views_out es) ≡ length (held es)
          → lists file (components_of (view_of e.1.rows)) + listed_by file (views_out es) ≡ length (cond b ((e.0, view_names (view_of e.1.rows)) ∷ held es) (held es))
      by true is rest = omega (arith, is, rest)
      by false is rest = omega (arith, is, rest)

all_once : (files : Option Folder) (p : Parts) (es : Opened) → AllByRecursion (λ (e : List ℕ × OpenCursor). IsKept files p e.1) es → AllByRecursion (λ (e : List ℕ × OpenCursor). ListsOnce (view_of e.1.rows)) es
all_once files p [] all = tt
all_once files p (e ∷ es) all = (all.0.once, all_once files p es all.1)

module _ (files : Option Folder) (p : Parts) (session : SessionState) (are : AreCursors files p session) where
  -- **The count of a file is the number of cursors that hold it.**
  file_pinned : (name : FileName) → count_of session.views (component.File name) ≡ pinned name (views_told session.cursors)
  file_pinned name = are.counted.counts (component.File name) ∙ cursors_pinned name session.cursors (all_once files p session.cursors are.kept)

  -- **So is what SHOW FILES tells of it.**
  pub texts_pinned : (files : List ToldFile) → counted_texts session.views files ≡ map (λ (f : ToldFile). file_text f.name f.state (pinned f.name (views_told session.cursors))) files
  texts_pinned [] = refl
  texts_pinned (f ∷ fs) = ap₂ (λ (n : ℕ) (texts : List (List ℕ)). file_text f.name f.state n ∷ texts) (file_pinned f.name) (texts_pinned fs)
