-- Any two components are in order, and those that compare alike are one.
use Rattle.std.specs.Prelude.{◌≡◌, ℕ, zero, suc, refl}
use Rattle.std.proofs.Common.{ap}
use Rattle.std.specs.Coded.{Coded, code_by, coded×, coded_ℕ}
use Rattle.std.specs.declared.cmp.Ordering.TheVariants.{Less, Equal}
use Rattle.std.specs.Ordering.{ordering_reverse}
use Rattle.std.specs.Cmp.{IsTotalOrder, nat_cmp_total}
use Rattle.std.specs.FinMap.{IsAntisymmetric, nat_cmp-IsAntisymmetric}
use Rattle.sasi_host.specs.NameLaws.{name_numbers, named, named_back, names_exact, names_total}
use Rattle.sasi_views.specs.declared.component.Component.{Component}
use Rattle.sasi_views.specs.declared.component.Component.TheVariants.{File, Map}
use Rattle.sasi_views.specs.Components.{component_cmp}

reversed : (x y : Component) → component_cmp x y ≡ ordering_reverse (component_cmp y x)
reversed (File a) (File b) = names_total.antisymm a b
reversed (File a) (Map n) = refl
reversed (Map m) (File b) = refl
reversed (Map m) (Map n) = nat_cmp_total.antisymm m n

chained : (x y z : Component) → component_cmp x y ≡ Less → component_cmp y z ≡ Less → component_cmp x z ≡ Less
chained (File a) (File b) (File d) p q = names_total.trans a b d p q
chained (File a) (File b) (Map n) p q = refl
chained (File a) (Map n) (File b) p q = cc
chained (File a) (Map m) (Map n) p q = refl
chained (Map m) (File a) z p q = cc
chained (Map m) (Map n) (File b) p q = cc
chained (Map m) (Map n) (Map k) p q = nat_cmp_total.trans m n k p q

alike : (x y z : Component) → component_cmp x y ≡ Equal → component_cmp x z ≡ component_cmp y z
alike (File a) (File b) (File d) p = names_total.congr a b d p
alike (File a) (File b) (Map n) p = refl
alike (File a) (Map n) z p = cc
alike (Map m) (File b) z p = cc
alike (Map m) (Map n) (File d) p = refl
alike (Map m) (Map n) (Map k) p = nat_cmp_total.congr m n k p

pub components_total : IsTotalOrder component_cmp
components_total = record { antisymm = reversed; trans = chained; congr = alike }

pub components_exact : IsAntisymmetric component_cmp
components_exact (File a) (File b) e = ap File (names_exact a b e)
components_exact (File a) (Map n) e = cc
components_exact (Map m) (File b) e = cc
components_exact (Map m) (Map n) e = ap Map (nat_cmp-IsAntisymmetric m n e)

-- ---- a code, by which proofs tell components apart

abbrev Numbers : Type 0
Numbers = ℕ × (ℕ × (ℕ × ℕ))

abbrev numbers : Component → ℕ × Numbers
numbers (File name) = (0, name_numbers name)
numbers (Map number) = (1, (number, (0, (0, 0))))

abbrev numbered : ℕ × Numbers → Component
numbered p = kind p.0 p.1
  where
    kind : ℕ → Numbers → Component
    kind zero ns = File (named ns)
    kind (suc n) ns = Map ns.0

pub numbered_back : (c : Component) → numbered (numbers c) ≡ c
numbered_back (File name) = ap File (named_back name)
numbered_back (Map number) = refl

abbrev pub coded_component : Coded Component
coded_component = code_by (ℕ × Numbers) (coded× coded_ℕ (coded× coded_ℕ (coded× coded_ℕ (coded× coded_ℕ coded_ℕ)))) numbers numbered numbered_back
