-- Where the dead components begin.
use Rattle.std.specs.Prelude.{◌≡◌, true, false}
use Rattle.std.specs.BTreeMap.{BTreeMap, get}
use Rattle.std.specs.Ordering.{is_lt}
use Rattle.sasi_views.specs.declared.component.Component.{Component}
use Rattle.sasi_views.specs.declared.counted.Counted.{Counted}
use Rattle.sasi_views.specs.Books.{dead_in}
use Rattle.sasi_views.specs.Components.{component_cmp}

-- no component below this one is dead
abbrev pub AreDeadFrom : Component → BTreeMap Component Counted → Type 0
AreDeadFrom from known = (c : Component) → dead_in (get component_cmp known c) ≡ true → is_lt (component_cmp c from) ≡ false
