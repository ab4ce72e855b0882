-- What the calls of a book change.
use Rattle.std.specs.Prelude.{◌≡◌, ◌+◌, ◌≤◌, suc, true, false, not, ◌&&◌, ◌||◌, List}
use Rattle.std.specs.List.{list_any}
use Rattle.std.specs.List.Sorted.{IsStrictlySortedBy}
use Rattle.std.specs.Ordering.{eq_by_cmp, is_lt}
use Rattle.sasi_host.specs.declared.name.FileName.{FileName}
use Rattle.sasi_host.specs.Names.{name_cmp}
use Rattle.sasi_views.specs.declared.component.Component.{Component}
use Rattle.sasi_views.specs.declared.component.Component.TheVariants.{File}
use Rattle.sasi_views.specs.Components.{among, component_cmp, lists, same}
use Rattle.sasi_views.specs.Books.{Book, count_of, is_current, is_dead, is_known, is_obsolete}

-- a view that lists these components is taken
pub record Taken (old new : Book) (components : List Component) : Type 0 where
  pub counts : (c : Component) → count_of new c ≡ count_of old c + lists c components
  pub current : (c : Component) → is_current new c ≡ is_current old c
  pub known : (c : Component) → is_known new c ≡ (is_known old c || among c components)
  pub out : new.out ≡ suc old.out

-- the views that are out list the components at least as often
abbrev pub AreCounted : Book → List Component → Type 0
AreCounted book components = (c : Component) → lists c components ≤ count_of book c

-- a view that lists these components is given back
pub record Given (old new : Book) (components : List Component) : Type 0 where
  pub counts : (c : Component) → count_of old c ≡ count_of new c + lists c components
  pub current : (c : Component) → is_current new c ≡ is_current old c
  pub known : (c : Component) → is_known new c ≡ is_known old c
  pub out : old.out ≡ suc new.out

-- the added components are current, and the removed ones that aren't among them are so no longer
pub record Replaced (old new : Book) (removed added : List Component) : Type 0 where
  pub counts : (c : Component) → count_of new c ≡ count_of old c
  pub current : (c : Component) → is_current new c ≡ (among c added || (is_current old c && not (among c removed)))
  pub known : (c : Component) → is_known new c ≡ (is_known old c || among c added)
  pub out : new.out ≡ old.out

-- the least dead component is forgotten
pub record Forgot (old new : Book) (gone : Component) : Type 0 where
  pub dead : is_dead old gone ≡ true
  pub least : (c : Component) → is_dead old c ≡ true → is_lt (component_cmp c gone) ≡ false
  pub known : (c : Component) → is_known new c ≡ (is_known old c && not (same gone c))
  pub counts : (c : Component) → count_of new c ≡ count_of old c
  pub current : (c : Component) → is_current new c ≡ is_current old c
  pub out : new.out ≡ old.out

-- no component is dead
abbrev pub HasNoneDead : Book → Type 0
HasNoneDead book = (c : Component) → is_dead book c ≡ false

-- the files that are no longer current but listed by a view that is out, sorted
pub record AreObsolete (book : Book) (files : List FileName) : Type 0 where
  pub are : (name : FileName) → list_any (eq_by_cmp name_cmp name) files ≡ is_obsolete book (File name)
  pub rise : IsStrictlySortedBy name_cmp files
