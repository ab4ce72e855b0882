-- Files that are deleted by how many views list them.
use Rattle.std.specs.Prelude.{◌≡◌, ◌&&◌, ℕ, Bool, true, false, not, nat_eq, List, [], ◌∷◌, ⊤}
use Rattle.std.specs.List.{AllByRecursion, list_any}
use Rattle.sasi_host.specs.declared.name.FileName.{FileName}
use Rattle.sasi_host.specs.Names.{name_eq}
use Rattle.sasi_host.specs.View.{IsAbsent, IsThere, View}
use Rattle.sasi_manifest.specs.declared.files.ListedFile.{ListedFile}
use Rattle.sasi_manifest.specs.ListedFiles.{has_file}
use Rattle.sasi_views.specs.Books.{Book, count_of}
use Rattle.sasi_views.specs.declared.component.Component.TheVariants as component

-- so many of the views that are out list it
abbrev pub is_counted : Book → ℕ → FileName → Bool
is_counted views count name = nat_eq (count_of views (component.File name)) count

-- one of them lists it, and no other; the table, which has these files, has no more of its number
abbrev pub is_left : Book → List ListedFile → FileName → Bool
is_left views files name = not (has_file files name.number) && is_counted views 1 name

-- ---- the chosen ones of some names

-- each of them that is chosen is there
abbrev pub AreThere : (FileName → Bool) → View → List FileName → Type 0
AreThere chosen v names = AllByRecursion (λ (name : FileName). chosen name ≡ true → IsThere v name) names

-- or not
abbrev pub AreGone : (FileName → Bool) → View → List FileName → Type 0
AreGone chosen v names = AllByRecursion (λ (name : FileName). chosen name ≡ true → IsAbsent v name) names

-- none of them is chosen
abbrev pub AreUnchosen : (FileName → Bool) → List FileName → Type 0
AreUnchosen chosen names = AllByRecursion (λ (name : FileName). chosen name ≡ false) names

-- it is one of them, and chosen
abbrev pub is_one_of : (FileName → Bool) → List FileName → FileName → Bool
is_one_of chosen names name = list_any (name_eq name) names && chosen name

-- no name stands twice among them
abbrev pub AreOnce : List FileName → Type 0
AreOnce [] = ⊤
AreOnce (name ∷ names) = (list_any (name_eq name) names ≡ false) × AreOnce names
