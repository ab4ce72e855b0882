-- Components, in their order.
use Rattle.std.specs.Prelude.{ℕ, ◌+◌, Bool, List, [], ◌∷◌, if◌then◌else◌}
use Rattle.std.specs.declared.cmp.Ordering.{Ordering}
use Rattle.std.specs.declared.cmp.Ordering.TheVariants.{Less, Greater}
use Rattle.std.specs.List.{list_any}
use Rattle.std.specs.Ordering.{eq_by_cmp, nat_cmp}
use Rattle.sasi_host.specs.Names.{name_cmp}
use Rattle.sasi_views.specs.declared.component.Component.{Component}
use Rattle.sasi_views.specs.declared.component.Component.TheVariants.{File, Map}

-- files first, by their names, and then maps, by their numbers
abbrev pub component_cmp : Component → Component → Ordering
component_cmp (File a) (File b) = name_cmp a b
component_cmp (File a) (Map n) = Less
component_cmp (Map m) (File b) = Greater
component_cmp (Map m) (Map n) = nat_cmp m n

-- they are one
abbrev pub same : Component → Component → Bool
same = eq_by_cmp component_cmp

-- it is one of these
abbrev pub among : Component → List Component → Bool
among c components = list_any (λ x. same x c) components

-- how often it is one of these
abbrev pub lists : Component → List Component → ℕ
lists c [] = 0
lists c (x ∷ xs) = (if same x c then 1 else 0) + lists c xs
