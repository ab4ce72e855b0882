-- The book of counted views: what it knows of each component.
use Rattle.std.specs.Prelude.{ℕ, ◌==◌, Bool, false, not, ◌&&◌, Option, None, Some, is_some, refl}
use Rattle.std.specs.Coded.{Coded, code_by, coded×, coded_ℕ, coded_bool}
use Rattle.std.specs.FinMap as map_
use Rattle.sasi_views.specs.declared.component.Component.{Component}
use Rattle.sasi_views.specs.declared.counted.Counted.{Counted}
use Rattle.sasi_views.specs.Components.{component_cmp}
use Rattle.sasi_views.specs.ComponentLaws.{coded_component}

-- the components that the book knows, each with its count and whether it is current
abbrev pub Known : Type 0
Known = map_.FinMap component_cmp Counted

-- these, and how many views are out
pub record Book : Type 0 where
  pub known : Known
  pub out : ℕ

-- ---- what the book knows of a component; None is one that it doesn't know

abbrev pub count_in : Option Counted → ℕ
count_in None = 0
count_in (Some counted) = counted.count

abbrev pub current_in : Option Counted → Bool
current_in None = false
current_in (Some counted) = counted.current

-- known, not current, and no view out lists it
abbrev pub dead_in : Option Counted → Bool
dead_in None = false
dead_in (Some counted) = not counted.current && (counted.count == 0)

-- not current, but a view that is out lists it
abbrev pub obsolete_in : Option Counted → Bool
obsolete_in None = false
obsolete_in (Some counted) = not counted.current && not (counted.count == 0)

-- ---- the same of a component in a book

abbrev pub is_known : Book → Component → Bool
is_known book c = is_some (map_.get book.known c)

-- how many views that are out list it
abbrev pub count_of : Book → Component → ℕ
count_of book c = count_in (map_.get book.known c)

abbrev pub is_current : Book → Component → Bool
is_current book c = current_in (map_.get book.known c)

abbrev pub is_dead : Book → Component → Bool
is_dead book c = dead_in (map_.get book.known c)

abbrev pub is_obsolete : Book → Component → Bool
is_obsolete book c = obsolete_in (map_.get book.known c)

-- ---- codes, by which proofs tell books apart

abbrev pub coded_counted : Coded Counted
coded_counted = code_by (ℕ × Bool) (coded× coded_ℕ coded_bool) (λ s. (s.count, s.current)) (λ c. record { count = c.0; current = c.1 }) (λ _. refl)

abbrev pub coded_known : Coded Known
coded_known = map_.code coded_component coded_counted

abbrev pub coded_book : Coded Book
coded_book = code_by (Known × ℕ) (coded× coded_known coded_ℕ) (λ b. (b.known, b.out)) (λ c. record { known = c.0; out = c.1 }) (λ _. refl)
