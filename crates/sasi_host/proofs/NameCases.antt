-- Two names are one or two, and no names are sorted.
use Rattle.std.proofs.Common.{◌⊎◌, inl, inr}
use Rattle.std.specs.List.Sorted.{IsStrictlySortedBy}
use Rattle.std.specs.Prelude.{◌≡◌, ◌≢◌, List, [], Bool, true, false, refl}
use Rattle.std.proofs.Common.{sym, ◌∙◌, ap, subst}
use Rattle.std.specs.Ordering.{eq_by_cmp}
use Rattle.sasi_host.specs.declared.name.FileName.{FileName}
use Rattle.sasi_host.specs.Names.{name_cmp}
use Rattle.sasi_host.specs.NameLaws.{same_name, test_here}

true_not_false : true ≡ false → ⊥
true_not_false e = cc

-- two names are one or two
pub name_cases : (a b : FileName) → (a ≡ b) ⊎ (a ≢ b)
name_cases a b = from (eq_by_cmp name_cmp a b) refl
  where
    from : (t : Bool) → eq_by_cmp name_cmp a b ≡ t → (a ≡ b) ⊎ (a ≢ b)
    from true e = inl (same_name a b e)
    from false e = inr (λ same. true_not_false (sym (ap (λ (x : FileName). eq_by_cmp name_cmp a x) (sym same) ∙ test_here a) ∙ e))

-- a list of no names is sorted: what a host answers that keeps no files
pub sorted_none : (names : List FileName) → names ≡ [] → IsStrictlySortedBy name_cmp names
sorted_none names none = subst (λ (l : List FileName). IsStrictlySortedBy name_cmp l) (sym none) nothing
  where
    nothing : IsStrictlySortedBy name_cmp []
    nothing = unfold IsStrictlySortedBy in tt
