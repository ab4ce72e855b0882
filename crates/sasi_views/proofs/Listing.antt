-- The obsolete files among entries that rise.
use Rattle.std.proofs.Common.{◌≡◌, ℕ, Bool, true, false, cond, ◌||◌, List, [], ◌∷◌, ◌++◌, append_assoc, Some, refl, sym, ap, ◌∙◌}
use Rattle.std.specs.List.{AllByRecursion, list_any}
use Rattle.std.specs.List.Sorted.{IsStrictlySortedBy}
use Rattle.std.specs.Map.{keys_of}
use Rattle.std.specs.Ordering.{eq_by_cmp, is_eq}
use Rattle.std.specs.declared.cmp.Ordering.TheVariants.{Less}
use Rattle.std.proofs.lemmas.Map.Keys.{sorted_head, sorted_tail}
use Rattle.sasi_host.specs.declared.name.FileName.{FileName}
use Rattle.sasi_host.specs.Names.{name_cmp}
use Rattle.sasi_views.specs.declared.component.Component.{Component}
use Rattle.sasi_views.specs.declared.component.Component.TheVariants.{File, Map}
use Rattle.sasi_views.specs.declared.counted.Counted.{Counted}
use Rattle.sasi_views.specs.Books.{obsolete_in}
use Rattle.sasi_views.specs.Changes.{AreObsolete}
use Rattle.sasi_views.specs.Components.{component_cmp}
use Rattle.sasi_views.specs.inside.Listed.{is_obsolete, listed_as, obsolete_files}
use Rattle.sasi_views.proofs.BookChanges.{Entries, at_entry, book, get-known}
use Rattle.sasi_views.proofs.DeadLaws.{AreRising, none_later}

front : (c : Component) (o : Bool) (rest : List FileName) → listed_as c o rest ≡ listed_as c o [] ++ rest
front (File name) true rest = refl
front (File name) false rest = refl
front (Map number) o rest = refl

-- a turn of a loop over the entries: s is left of them before it, and t behind it
pub listed_next : (e : Component × Counted) (s t whole : Entries) (files more : List FileName) → s ≡ e ∷ t → more ≡ files ++ listed_as e.0 (is_obsolete e.1) []
    → obsolete_files whole ≡ files ++ obsolete_files s → obsolete_files whole ≡ more ++ obsolete_files t
listed_next e s t whole files more is added before =
    before ∙ ap (λ (es : Entries). files ++ obsolete_files es) is ∙ ap (λ (l : List FileName). files ++ l) (front e.0 (is_obsolete e.1) (obsolete_files t))
    ∙ sym (append_assoc files (listed_as e.0 (is_obsolete e.1) []) (obsolete_files t)) ∙ ap (λ (l : List FileName). l ++ obsolete_files t) (sym added)

abbrev has : FileName → List FileName → Bool
has name files = list_any (eq_by_cmp name_cmp name) files

-- a file in front of others, among which the name is looked for
file_are : (file : FileName) (s : Counted) (es : Entries) (name : FileName) → AreRising ((File file, s) ∷ es) → has name (obsolete_files es) ≡ obsolete_in (at_entry es (File name))
    → (b : Bool) → is_eq (name_cmp name file) ≡ b → (o : Bool) → is_obsolete s ≡ o → has name (cond o (file ∷ obsolete_files es) (obsolete_files es)) ≡ obsolete_in (cond b (Some s) (at_entry es (File name)))
file_are file s es name rise before true is true obsolete = ap (λ (x : Bool). x || has name (obsolete_files es)) is ∙ sym obsolete
file_are file s es name rise before true is false obsolete = before ∙ ap obsolete_in (none_later (File file, s) es (File name) rise is) ∙ sym obsolete
file_are file s es name rise before false is true obsolete = ap (λ (x : Bool). x || has name (obsolete_files es)) is ∙ before
file_are file s es name rise before false is false obsolete = before

listed_are : (es : Entries) (name : FileName) → AreRising es → has name (obsolete_files es) ≡ obsolete_in (at_entry es (File name))
listed_are [] name rise = refl
listed_are ((Map number, s) ∷ es) name rise = listed_are es name (sorted_tail component_cmp (Map number) (keys_of es) rise)
listed_are ((File file, s) ∷ es) name rise =
    file_are file s es name rise (listed_are es name (sorted_tail component_cmp (File file) (keys_of es) rise)) (is_eq (name_cmp name file)) refl (is_obsolete s) refl

-- a file in front of others, or not
above_more : (file name : FileName) (files : List FileName) → name_cmp file name ≡ Less → AllByRecursion (λ n. name_cmp file n ≡ Less) files
    → (o : Bool) → AllByRecursion (λ n. name_cmp file n ≡ Less) (cond o (name ∷ files) files)
above_more file name files first rest true = (first, rest)
above_more file name files first rest false = rest

-- what is below all keys is below the files among them
files_above : (file : FileName) (es : Entries) → AllByRecursion (λ k. component_cmp (File file) k ≡ Less) (keys_of es) → AllByRecursion (λ n. name_cmp file n ≡ Less) (obsolete_files es)
files_above file [] below = tt
files_above file ((Map number, s) ∷ es) below = files_above file es below.1
files_above file ((File name, s) ∷ es) below = above_more file name (obsolete_files es) below.0 (files_above file es below.1) (is_obsolete s)

none_rise : IsStrictlySortedBy name_cmp []
unfolding IsStrictlySortedBy
none_rise = tt

more_rise : (file : FileName) (files : List FileName) → AllByRecursion (λ name. name_cmp file name ≡ Less) files → IsStrictlySortedBy name_cmp files → IsStrictlySortedBy name_cmp (file ∷ files)
unfolding IsStrictlySortedBy
more_rise file files above rise = (above, rise)

rise_more : (file : FileName) (files : List FileName) → AllByRecursion (λ n. name_cmp file n ≡ Less) files → IsStrictlySortedBy name_cmp files
    → (o : Bool) → IsStrictlySortedBy name_cmp (cond o (file ∷ files) files)
rise_more file files above rise true = more_rise file files above rise
rise_more file files above rise false = rise

listed_rise : (es : Entries) → AreRising es → IsStrictlySortedBy name_cmp (obsolete_files es)
listed_rise [] rise = none_rise
listed_rise ((Map number, s) ∷ es) rise = listed_rise es (sorted_tail component_cmp (Map number) (keys_of es) rise)
listed_rise ((File file, s) ∷ es) rise =
    rise_more file (obsolete_files es) (files_above file es (sorted_head component_cmp (File file) (keys_of es) rise))
    (listed_rise es (sorted_tail component_cmp (File file) (keys_of es) rise)) (is_obsolete s)

pub obsolete_is : (entries : Entries) (n : ℕ) → AreRising entries → AreObsolete (book entries n) (obsolete_files entries)
obsolete_is entries n rise = record {
  are = λ name. listed_are entries name rise ∙ ap obsolete_in (sym (get-known entries (File name)));
  rise = listed_rise entries rise;
}
