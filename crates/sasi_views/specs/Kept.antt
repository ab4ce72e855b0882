-- What a holder of a book and of views keeps of them.
use Rattle.std.specs.Prelude.{◌≡◌, ℕ, ◌+◌, List, [], ◌∷◌, length}
use Rattle.sasi_views.specs.declared.component.Component.{Component}
use Rattle.sasi_views.specs.declared.part.Part.{Part}
use Rattle.sasi_views.specs.Components.{lists}
use Rattle.sasi_views.specs.Parts.{components_of}
use Rattle.sasi_views.specs.Books.{Book, count_of}

-- how many of these views list the component
abbrev pub listed_by : Component → List (List Part) → ℕ
listed_by c [] = 0
listed_by c (view ∷ views) = lists c (components_of view) + listed_by c views

-- **Each count is the number of views kept that list the component**, and these are the views that are out.
pub record IsCounted (book : Book) (views : List (List Part)) : Type 0 where
  pub counts : (c : Component) → count_of book c ≡ listed_by c views
  pub out : book.out ≡ length views
